use Rattle.std.proofs.Common.{◌≡◌, ◌+◌, ◌/◌, ◌^◌, MatchBool, nat_eq, get_or, ap, subst, sym, ◌∙◌, arith}
use Rattle.std.proofs.lemmas.List.{get_or_read}
use Rattle.dictionary_mode.specs.Counts.{HasPlace, IsTree, Lacks, Numbered}
use Rattle.dictionary_mode.proofs.Trees.{room-is, match_mark, marked-place, unmarked-lacks}
use Rattle.dictionary_mode.proofs.numbers.Numbers.contains.Goals as goal

pub returns : goal.returns
returns c =
    let v = ap (λ (n : Numbered). n.room) c.self.view_is in
    let xs = c.self.inside.counts.items in
    let tree : IsTree xs = c.self.invariant (omega (arith, c.requires)) in
    let r = room-is xs tree in
    let leaf : c.len.result / 2 + c.args.number ≡ 2 ^ tree.height + c.args.number = omega arith in
    let is : c.index.result.now ≡ get_or xs (c.len.result / 2 + c.args.number) 0 = get_or_read xs (c.len.result / 2 + c.args.number) c.index.result.now (omega (arith, c.requires, tree.size)) c.index.ensures 0 in
    let at : c.index.result.now ≡ get_or xs (2 ^ tree.height + c.args.number) 0 = is ∙ ap (λ k. get_or xs k 0) leaf in
    subst (λ (n : Numbered). MatchBool (nat_eq c.index.result.now 1) (HasPlace n.list c.args.number) (Lacks n.list c.args.number)) c.self.view_is
    (match_mark c.index.result.now (omega (arith, tree.marks (2 ^ tree.height + c.args.number) (omega arith)))
    (λ one. marked-place xs tree c.args.number (sym at ∙ one)) (λ none. unmarked-lacks xs tree c.args.number (sym at ∙ none)))
