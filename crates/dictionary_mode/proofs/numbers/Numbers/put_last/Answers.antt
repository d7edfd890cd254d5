use Rattle.std.proofs.Common.{◌≡◌, ◌<◌, ◌+◌, ◌/◌, ◌^◌, ◌++◌, ◌∷◌, [], ℕ, List, length, get_or, set, length-set, ap, ◌∙◌, arith}
use Rattle.dictionary_mode.specs.Counts.{IsTree, Numbered, marked_from, numbers_in}
use Rattle.dictionary_mode.proofs.Trees.{room-is, written_back, numbers-written, leaves, numbers-pushed}
use Rattle.dictionary_mode.proofs.numbers.Numbers.put_last.Goals as goal

pub returns-clause-list : goal.returns-clause-list
returns-clause-list c =
    let xs : List ℕ = c.self.inside.counts.items in
    let v = ap (λ (n : Numbered). n.room) c.self.view_is in
    let tree : IsTree xs = c.self.invariant (omega (arith, c.requires.inside)) in
    let m = c.mend.ensures in
    let r = room-is xs tree in
    let leaf : c.len.result / 2 + c.args.number ≡ 2 ^ tree.height + c.args.number = omega arith in
    let lent : c.as_mut_slice.result.now ≡ set xs (2 ^ tree.height + c.args.number) 1 = c.as_mut_slice.ensures.value ∙ ap (λ k. set xs k 1) leaf in
    let size : length c.as_mut_slice.result.now ≡ length xs = ap length lent ∙ length-set xs (2 ^ tree.height + c.args.number) 1 in
    let kept_size : length c.mend.new.counts ≡ length c.as_mut_slice.result.now = c.mend.auto.counts in
    let same : length c.mend.new.counts ≡ length xs = kept_size ∙ size in
    let inside : c.args.number < 2 ^ tree.height = omega (arith, c.requires.inside) in
    let back = written_back c.mend.new.counts (set xs (c.len.result / 2 + c.args.number) 1) c.self.inside.counts.len (omega arith) in
    let new : numbers_in c.mend.new.counts ≡ marked_from 0 (set (leaves xs tree) c.args.number 1) =
    numbers-written xs tree c.mend.new.counts c.args.number 1 inside (omega arith) same
    (λ i one lt. m.sums i one (omega (arith, tree.size)))
    (λ i. let le = m.small i in omega (arith, tree.size))
    (λ i le. m.leaves i (omega (arith, tree.size)) ∙ ap (λ ys. get_or ys i 0) lent) in
    ap numbers_in back ∙ new
    ∙ numbers-pushed xs tree c.args.number inside
    (λ i lt. let w = ap (λ (n : Numbered). get_or n.list i 0) c.self.view_is in let n = ap (λ (n : Numbered). length n.list) c.self.view_is in omega (arith, c.requires.above i (omega arith)))
    ∙ ap (λ (n : Numbered). n.list ++ c.args.number ∷ []) c.self.view_is
