use Rattle.std.proofs.Common.{◌≡◌, ◌≤◌, length, arith, sym, subst}
use Rattle.std.proofs.lemmas.Bool.Decides.{nat_tests}
use Rattle.std.proofs.lemmas.Option.{slice_get_past}
use Rattle.evaluator.specs.Lists.{Finds}
use Rattle.evaluator.specs.Statements.{items_of}
use Rattle.evaluator.proofs.tree.body_at.Goals as goal

pub returns-else-f-functions : goal.returns-else-f-functions
returns-else-f-functions c =
    let bodies : length c.args.script.now.bodies ≡ length c.args.script.now.functions = c.script-code.ensures.tree.counted.bodies in
    let past : length c.args.script.now.bodies ≤ c.args.f.0 = grind (arith, nat_tests, c.functions.ensures, c.if-f-functions.false, bodies) in
    subst (λ o. Finds (items_of o) c.args.i c.none_at.result) (sym (slice_get_past c.args.script.now.bodies c.args.f.0 past)) c.none_at.ensures
