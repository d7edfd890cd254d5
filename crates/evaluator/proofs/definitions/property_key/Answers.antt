use Rattle.es_model.specs.Changes.{Interning, changed}
use Rattle.es_model.specs.World.{World}
use Rattle.std.proofs.Common.{◌∷◌, drop}
use Rattle.es_tree.specs.declared.primaries.Key.TheVariants.{Fixed}
use Rattle.evaluator.specs.Contexts.{context}
use Rattle.evaluator.specs.Literals.{properties_at, property_key}
use Rattle.evaluator.specs.Plans.{property_keyed}
use Rattle.evaluator.proofs.Defining.{computed_plan, key_stage, plans_same}
use Rattle.evaluator.proofs.Belonging.{named_key}
use Rattle.evaluator.proofs.definitions.property_key.Goals as goal

pub returns-in_ok-text-in-Fixed-clause-plans : goal.returns-in_ok-text-in-Fixed-clause-plans
returns-in_ok-text-in-Fixed-clause-plans g c = λ w h.
    let here = context c.args.script.now c.args.body c.args.cells.now in
    let o = c.args.place.object in
    let next = property_keyed here o (c.args.property.now ∷ drop c.args.place.next (properties_at here c.args.place.node)) in
    let u : World = changed (Interning c.in-Fixed.units) w in
    let one = c.in_ok-text-in-Fixed.ensures.ok w h in
    rw c.in-Fixed.is
    (plans_same here c.args.heap.now c.intern.new.heap c.property_keyed.new.heap w u (property_key here (Fixed c.in-Fixed.units) next) (next c.key_of-key.result) c.property_keyed.result one
    (key_stage c.in-Fixed.units next w c.in_ok-text-in-Fixed.text c.key_of-key.result c.intern.ensures.short (c.in_ok-text-in-Fixed.ensures.number w h) (c.key_of-key.ensures u one.stands))
    (c.property_keyed.ensures.plans u one.stands))

pub returns-in-Computed-clause-plans : goal.returns-in-Computed-clause-plans
returns-in-Computed-clause-plans g c = λ w h.
    let here = context c.args.script.now c.args.body c.args.cells.now in
    rw c.in-Computed.is
    (computed_plan here c.args.heap.now w c.args.place.node c.args.place.object c.args.property.now c.args.place.at c.args.place.next c.in-Computed.key h c.requires)

pub returns-in_ok-text-in-Fixed-clause-named : goal.returns-in_ok-text-in-Fixed-clause-named
returns-in_ok-text-in-Fixed-clause-named g c = λ w v hw hv object.
    let key = named_key c.in-Fixed.units c.args.heap.now c.intern.new.heap c.property_keyed.new.heap w v c.in_ok-text-in-Fixed.text c.key_of-key.result (c.in_ok-text-in-Fixed.ensures.number w hw) (c.in_ok-text-in-Fixed.ensures.ok w hw)
    (λ u hu. c.key_of-key.ensures u hu) c.property_keyed.ensures.retains hv in
    c.property_keyed.ensures.named v.lists object key
