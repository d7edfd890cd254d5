use Rattle.std.proofs.Common.{length, ap, ◌∙◌, arith}
use Rattle.std.proofs.lemmas.List.{get_or_read}
use Rattle.std.proofs.lemmas.Bool.Decides.{nat_tests}
use Rattle.dictionary_mode.specs.Counts.{IsTree, Numbered}
use Rattle.dictionary_mode.proofs.Trees.{root-is, pow_positive}
use Rattle.dictionary_mode.proofs.numbers.Numbers.len.Goals as goal

pub returns-clause-len : goal.returns-clause-len
returns-clause-len c =
    let xs = c.self.inside.counts.items in
    let tree : IsTree xs = c.self.invariant (grind (arith, nat_tests, c.is_empty.ensures, c.if-is_empty.false)) in
    let one = pow_positive tree.height in
    get_or_read xs 1 c.index.result.now (omega (arith, tree.size)) c.index.ensures 0 ∙ root-is xs tree ∙ ap (λ (n : Numbered). length n.list) c.self.view_is
