use Rattle.std.proofs.Common.{◌≡◌, ◌≤◌, ◌+◌, ◌∷◌, ◌∙◌, suc, length, drop, ap, arith}
use Rattle.std.proofs.lemmas.Bool.Decides.{nat_tests}
use Rattle.std.proofs.lemmas.List.{drop_all}
use Rattle.object_heap.proofs.StartLists.{dropped-one}
use Rattle.evaluator.proofs.elements.item_at.Goals as goal

pub returns-then-i-len : goal.returns-then-i-len
returns-then-i-len c =
    let one : suc c.args.i ≡ c.args.i + 1 = omega arith in
    dropped-one c.args.elements.now c.args.i c.at.result.now c.at.ensures ∙ ap (λ j. c.at.result.now ∷ drop j c.args.elements.now) one

pub returns-else-i-len : goal.returns-else-i-len
returns-else-i-len c =
    let past : length c.args.elements.now ≤ c.args.i = grind (arith, nat_tests, c.len.ensures, c.if-i-len.false) in drop_all c.args.i c.args.elements.now past
