use Rattle.std.proofs.Common.{◌≡◌, ◌≤◌, ◌+◌, ◌∷◌, ◌∙◌, suc, length, drop, ap, arith}
use Rattle.std.proofs.lemmas.Bool.Decides.{nat_tests}
use Rattle.std.proofs.lemmas.List.{drop_all}
use Rattle.std.proofs.lemmas.Option.{slice_get_past}
use Rattle.object_heap.proofs.StartLists.{dropped-one}
use Rattle.evaluator.proofs.tree.item_at.Goals as goal

pub returns-then-i-len : goal.returns-then-i-len
returns-then-i-len c =
    let one : suc c.args.i ≡ c.args.i + 1 = omega arith in record {
      item = c.at.ensures;
      rest = dropped-one c.args.items.now c.args.i c.at.result.now c.at.ensures ∙ ap (λ j. c.at.result.now ∷ drop j c.args.items.now) one;
      next = (let same : c.args.i + 1 ≡ suc c.args.i = omega arith in same);
    }

pub returns-else-i-len : goal.returns-else-i-len
returns-else-i-len c =
    let past : length c.args.items.now ≤ c.args.i = grind (arith, nat_tests, c.len.ensures, c.if-i-len.false) in
    record { item = slice_get_past c.args.items.now c.args.i past; rest = drop_all c.args.i c.args.items.now past }
