use Rattle.std.proofs.Common.{◌≡◌, ◌≤◌, [], Ok, drop, length, arith, refl, sym, subst}
use Rattle.std.proofs.lemmas.Bool.Decides.{nat_tests}
use Rattle.std.proofs.lemmas.List.{drop_all}
use Rattle.es_model.specs.Stages.{stage_of}
use Rattle.object_heap.specs.Stands.{goes_none}
use Rattle.evaluator.specs.Contexts.{context}
use Rattle.evaluator.specs.Literals.{properties_at}
use Rattle.evaluator.specs.Plans.{Plans, property_keyed}
use Rattle.evaluator.proofs.definitions.definition_keyed.Goals as goal

pub returns-then-at-property_count-clause-plans : goal.returns-then-at-property_count-clause-plans
returns-then-at-property_count-clause-plans g c = λ w h.
    let here = context c.args.script.now c.args.body c.args.cells.now in
    let a = c.args.heap.now in
    let past : length (properties_at here c.args.node) ≤ c.args.at = grind (arith, nat_tests, c.property_count.ensures, c.if-at-property_count.true) in
    let none : drop c.args.at (properties_at here c.args.node) ≡ [] = drop_all c.args.at (properties_at here c.args.node) past in
    subst (λ l. Plans here here a a w (stage_of (property_keyed here c.args.object l c.args.key) w) (Ok c.whole.result)) (sym none) (rw c.whole.ensures (refl, goes_none a w h))
