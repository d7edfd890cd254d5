use Rattle.std.proofs.Common.{◌≡◌, ◌<◌, ◌+◌, ◌/◌, ◌^◌, ℕ, List, length, get_or, set, length-set, sym, subst, ap, ◌∙◌, arith}
use Rattle.dictionary_mode.specs.Counts.{HasPlace, IsTree, Numbered, TakesOut, marked_from, numbers_in}
use Rattle.dictionary_mode.proofs.Trees.{room-is, written_back, numbers-written, leaves, numbers-taken}
use Rattle.dictionary_mode.proofs.numbers.Numbers.take_out.Goals as goal

pub returns-clause-list : goal.returns-clause-list
returns-clause-list c =
    let xs : List ℕ = c.self.inside.counts.items in
    let v = ap (λ (n : Numbered). n.room) c.self.view_is in
    let tree : IsTree xs = c.self.invariant (omega (arith, c.requires.inside)) in
    let m = c.mend.ensures in
    let r = room-is xs tree in
    let leaf : c.len.result / 2 + c.args.number ≡ 2 ^ tree.height + c.args.number = omega arith in
    let lent : c.as_mut_slice.result.now ≡ set xs (2 ^ tree.height + c.args.number) 0 = c.as_mut_slice.ensures.value ∙ ap (λ k. set xs k 0) leaf in
    let size : length c.as_mut_slice.result.now ≡ length xs = ap length lent ∙ length-set xs (2 ^ tree.height + c.args.number) 0 in
    let kept_size : length c.mend.new.counts ≡ length c.as_mut_slice.result.now = c.mend.auto.counts in
    let same : length c.mend.new.counts ≡ length xs = kept_size ∙ size in
    let inside : c.args.number < 2 ^ tree.height = omega (arith, c.requires.inside) in
    let back = written_back c.mend.new.counts (set xs (c.len.result / 2 + c.args.number) 0) c.self.inside.counts.len (omega arith) in
    let new : numbers_in c.mend.new.counts ≡ marked_from 0 (set (leaves xs tree) c.args.number 0) =
    numbers-written xs tree c.mend.new.counts c.args.number 0 inside (omega arith) same
    (λ i one lt. m.sums i one (omega (arith, tree.size)))
    (λ i. let le = m.small i in omega (arith, tree.size))
    (λ i le. m.leaves i (omega (arith, tree.size)) ∙ ap (λ ys. get_or ys i 0) lent) in
    let has : HasPlace (numbers_in xs) c.args.number = subst (λ (n : Numbered). HasPlace n.list c.args.number) (sym c.self.view_is) c.requires.contained in
    let taken : TakesOut (numbers_in xs) (numbers_in c.mend.new.counts) c.args.number = numbers-taken xs tree c.mend.new.counts c.args.number has new in
    subst (λ ys. TakesOut c.args.self.now.list ys c.args.number) (sym (ap numbers_in back))
    (subst (λ (n : Numbered). TakesOut n.list (numbers_in c.mend.new.counts) c.args.number) c.self.view_is taken)
