use Rattle.std.proofs.Common.{◌∷◌, drop}
use Rattle.evaluator.specs.Contexts.{context}
use Rattle.evaluator.specs.Literals.{properties_at, property_key}
use Rattle.evaluator.specs.Plans.{definitions_from, property_keyed}
use Rattle.evaluator.proofs.PlansNamed.{defines_plan, keeps_wait}
use Rattle.evaluator.proofs.definitions.property_then.Goals as goal

pub returns-in-Value-clause-defines : goal.returns-in-Value-clause-defines
returns-in-Value-clause-defines g c = λ w h.
    let here = context c.args.script.now c.args.body c.args.cells.now in
    let o = c.args.place.object in
    let rest = definitions_from here c.args.place.node c.args.place.next o in
    let p = property_key here c.in-Value.key (property_keyed here o (c.args.property.now ∷ drop c.args.place.next (properties_at here c.args.place.node))) in
    rw c.in-Value.is (rw c.in-Value.is at (c.not_done.ensures.defines here c.args.heap.now c.property_key.new.heap w p rest (c.property_key.ensures.plans w h)))

pub returns-in-Method-clause-defines : goal.returns-in-Method-clause-defines
returns-in-Method-clause-defines g c = λ w h.
    let here = context c.args.script.now c.args.body c.args.cells.now in
    let o = c.args.place.object in
    let rest = definitions_from here c.args.place.node c.args.place.next o in
    let p = property_key here c.in-Method.key (property_keyed here o (c.args.property.now ∷ drop c.args.place.next (properties_at here c.args.place.node))) in
    rw c.in-Method.is (rw c.in-Method.is at (c.not_done-in-Method.ensures.defines here c.args.heap.now c.property_key-in-Method.new.heap w p rest (c.property_key-in-Method.ensures.plans w h)))

pub returns-in-Getter-clause-defines : goal.returns-in-Getter-clause-defines
returns-in-Getter-clause-defines g c = λ w h.
    let here = context c.args.script.now c.args.body c.args.cells.now in
    let o = c.args.place.object in
    let rest = definitions_from here c.args.place.node c.args.place.next o in
    let p = property_key here c.in-Getter.key (property_keyed here o (c.args.property.now ∷ drop c.args.place.next (properties_at here c.args.place.node))) in
    rw c.in-Getter.is (rw c.in-Getter.is at (c.not_done-in-Getter.ensures.defines here c.args.heap.now c.property_key-in-Getter.new.heap w p rest (c.property_key-in-Getter.ensures.plans w h)))

pub returns-in-Setter-clause-defines : goal.returns-in-Setter-clause-defines
returns-in-Setter-clause-defines g c = λ w h.
    let here = context c.args.script.now c.args.body c.args.cells.now in
    let o = c.args.place.object in
    let rest = definitions_from here c.args.place.node c.args.place.next o in
    let p = property_key here c.in-Setter.key (property_keyed here o (c.args.property.now ∷ drop c.args.place.next (properties_at here c.args.place.node))) in
    rw c.in-Setter.is (rw c.in-Setter.is at (c.not_done-in-Setter.ensures.defines here c.args.heap.now c.property_key-in-Setter.new.heap w p rest (c.property_key-in-Setter.ensures.plans w h)))

pub returns-in-Value-clause-named : goal.returns-in-Value-clause-named
returns-in-Value-clause-named g c = λ w v hw hv object. c.not_done.ensures.named c.args.script.now v.lists (c.property_key.ensures.named w v hw hv object)

pub returns-in-Method-clause-named : goal.returns-in-Method-clause-named
returns-in-Method-clause-named g c = λ w v hw hv object. c.not_done-in-Method.ensures.named c.args.script.now v.lists (c.property_key-in-Method.ensures.named w v hw hv object)

pub returns-in-Getter-clause-named : goal.returns-in-Getter-clause-named
returns-in-Getter-clause-named g c = λ w v hw hv object. c.not_done-in-Getter.ensures.named c.args.script.now v.lists (c.property_key-in-Getter.ensures.named w v hw hv object)

pub returns-in-Setter-clause-named : goal.returns-in-Setter-clause-named
returns-in-Setter-clause-named g c = λ w v hw hv object. c.not_done-in-Setter.ensures.named c.args.script.now v.lists (c.property_key-in-Setter.ensures.named w v hw hv object)

pub returns-in-Prototype-clause-named : goal.returns-in-Prototype-clause-named
returns-in-Prototype-clause-named g c = λ w v hw hv object. rw c.prototype.ensures (defines_plan c.args.script.now v.lists _ (keeps_wait c.args.script.now v.lists _ _ (object, tt)))
