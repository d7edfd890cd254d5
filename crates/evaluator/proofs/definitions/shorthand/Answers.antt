use Rattle.std.proofs.Common.{refl}
use Rattle.es_model.specs.Changes.{Interning, changed}
use Rattle.es_model.specs.World.{World}
use Rattle.object_heap.specs.Stands.{goes_then}
use Rattle.es_tree.specs.declared.primaries.Property.TheVariants.{Shorthand}
use Rattle.evaluator.specs.Contexts.{context}
use Rattle.evaluator.specs.Literals.{plain, property_then, property_valued}
use Rattle.evaluator.specs.Plans.{definitions_from}
use Rattle.evaluator.specs.References.{get_value, resolve_bound}
use Rattle.evaluator.proofs.Defining.{defines_same, shorthand_stage}
use Rattle.object_heap.proofs.Retaining.{retains_then}
use Rattle.evaluator.proofs.Belonging.{named_key, text_there}
use Rattle.evaluator.proofs.definitions.shorthand.Goals as goal

pub returns-clause-defines : goal.returns-clause-defines
returns-clause-defines g c = λ w h.
    let here = context c.args.script.now c.args.body c.args.cells.now in
    let named = c.args.named.now in
    let o = c.args.place.object in
    let rest = definitions_from here c.args.place.node c.args.place.next o in
    let u : World = changed (Interning named.name) w in
    let one = c.in_ok-text.ensures.ok w h in
    let two = c.in_ok-name.ensures.ok u one.stands in
    defines_same here c.args.heap.now c.intern-2.new.heap c.name_bound.new.heap w (changed (Interning named.name) u) (property_then here o (Shorthand named) rest)
    (resolve_bound here c.in_ok-name.name named.binding (λ r. get_value here r (property_valued o c.key_of-key.result plain rest))) rest c.name_bound.result
    (goes_then c.args.heap.now c.intern.new.heap c.intern-2.new.heap w u (changed (Interning named.name) u) one two)
    (shorthand_stage here o named rest w u c.in_ok-text.text c.in_ok-name.name c.key_of-key.result c.intern.ensures.short (c.in_ok-text.ensures.number w h) refl (c.key_of-key.ensures u one.stands) (c.in_ok-name.ensures.number u one.stands))
    (c.name_bound.ensures.defines (changed (Interning named.name) u) two.stands)

pub returns-clause-named : goal.returns-clause-named
returns-clause-named g c = λ w v hw hv object.
    let named = c.args.named.now in
    let a = c.args.heap.now in
    let b = c.intern.new.heap in
    let m = c.intern-2.new.heap in
    let d = c.name_bound.new.heap in
    let u : World = changed (Interning named.name) w in
    let one = c.in_ok-text.ensures.ok w hw in
    let two = c.in_ok-name.ensures.ok u one.stands in
    let key = named_key named.name a b d w v c.in_ok-text.text c.key_of-key.result (c.in_ok-text.ensures.number w hw) one (λ x hx. c.key_of-key.ensures x hx) (retains_then b m d c.intern-2.ensures.retains c.name_bound.ensures.retains) hv in
    let name = text_there named.name b m d u v c.in_ok-name.name (c.in_ok-name.ensures.number u one.stands) two c.name_bound.ensures.retains hv in
    c.name_bound.ensures.named (changed (Interning named.name) u) v two.stands hv object key name
