use Rattle.std.proofs.Common.{◌≡◌, ◌<◌, ◌≤◌, ◌+◌, ◌-◌, ◌*◌, ◌/◌, ◌^◌, length, get_or, sym, ap, subst, ◌∙◌, arith}
use Rattle.std.proofs.lemmas.List.{get_or_read}
use Rattle.dictionary_mode.specs.Counts.{IsTree, Numbered, numbers_in}
use Rattle.dictionary_mode.proofs.Trees.{Descends, room-is, nonempty, descend-start, descend-left, descend-right, descend-end}
use Rattle.dictionary_mode.proofs.numbers.Numbers.at.Goals as goal

pub loop-node-init : goal.loop-node-init
loop-node-init c = λ tree. descend-start c.self.inside.counts.items tree c.args.place (let v = ap (λ (n : Numbered). length n.list) c.self.view_is in omega (arith, c.requires))

pub loop-node-preserved-then-rest-count : goal.loop-node-preserved-then-rest-count
loop-node-preserved-then-rest-count c = λ tree.
    let xs = c.self.inside.counts.items in
    let r = room-is xs tree in
    let node = c.loop-node.node in
    let inner : node < 2 ^ tree.height = omega arith in
    let is : c.index.result.now ≡ get_or xs (node * 2) 0 = get_or_read xs (node * 2) c.index.result.now (omega (arith, tree.size)) c.index.ensures 0 in
    let twice : node * 2 ≡ 2 * node = omega arith in
    let at : get_or xs (node * 2) 0 ≡ get_or xs (2 * node) 0 = ap (λ k. get_or xs k 0) twice in
    let le : get_or xs (2 * node) 0 ≤ c.loop-node.rest = omega arith in
    let right : Descends xs tree c.args.place (2 * node + 1) (c.loop-node.rest - get_or xs (2 * node) 0) = descend-right xs tree c.args.place node c.loop-node.rest inner (c.loop-node.invariant tree) le in
    let there : Descends xs tree c.args.place (2 * node + 1) (c.loop-node.rest - c.index.result.now) =
    subst (λ x. Descends xs tree c.args.place (2 * node + 1) (c.loop-node.rest - x)) (sym (is ∙ at)) right in
    subst (λ k. Descends xs tree c.args.place (k + 1) (c.loop-node.rest - c.index.result.now)) (sym twice) there

pub loop-node-smaller : goal.loop-node-smaller
loop-node-smaller c =
    let xs = c.self.inside.counts.items in
    let placed : c.args.place < length (numbers_in xs) = (let v = ap (λ (n : Numbered). length n.list) c.self.view_is in omega (arith, c.requires)) in
    let tree : IsTree xs = c.self.invariant (nonempty xs c.args.place placed) in
    let first : 1 ≤ c.loop-node.node = (c.loop-node.invariant tree).first in
    omega arith

pub loop-node-preserved : goal.loop-node-preserved
loop-node-preserved c = λ tree.
    let xs = c.self.inside.counts.items in
    let r = room-is xs tree in
    let node = c.loop-node.node in
    let inner : node < 2 ^ tree.height = omega arith in
    let is : c.index.result.now ≡ get_or xs (node * 2) 0 = get_or_read xs (node * 2) c.index.result.now (omega (arith, tree.size)) c.index.ensures 0 in
    let twice : node * 2 ≡ 2 * node = omega arith in
    let at : get_or xs (node * 2) 0 ≡ get_or xs (2 * node) 0 = ap (λ k. get_or xs k 0) twice in
    let lt : c.loop-node.rest < get_or xs (2 * node) 0 = omega arith in
    subst (λ k. Descends xs tree c.args.place k c.loop-node.rest) (sym twice) (descend-left xs tree c.args.place node c.loop-node.rest inner (c.loop-node.invariant tree) lt)

pub returns : goal.returns
returns c =
    let xs = c.self.inside.counts.items in
    let placed : c.args.place < length (numbers_in xs) = (let v = ap (λ (n : Numbered). length n.list) c.self.view_is in omega (arith, c.requires)) in
    let tree : IsTree xs = c.self.invariant (nonempty xs c.args.place placed) in
    let r = room-is xs tree in
    let room : c.len-room.result / 2 ≡ 2 ^ tree.height = omega arith in
    ap (λ k. c.loop-node.node - k) room
    ∙ sym (descend-end xs tree c.args.place c.loop-node.node c.loop-node.rest (omega arith) (c.loop-node.invariant tree))
    ∙ ap (λ (n : Numbered). get_or n.list c.args.place 0) c.self.view_is
