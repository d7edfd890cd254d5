use Rattle.std.proofs.Common.{◌≡◌, ◌+◌, ◌-◌, ◌*◌, ◌/◌, length, get_or, sym, ap, subst, ◌∙◌, arith}
use Rattle.std.proofs.lemmas.List.{get_or_read}
use Rattle.dictionary_mode.specs.Counts.{HasPlace, IsTree, Numbered, numbers_in}
use Rattle.dictionary_mode.proofs.Trees.{Climbs, room-is, climb-start, climb-inside, climb-odd, climb-even, climb-small, climb-end, has-mark, place-is}
use Rattle.dictionary_mode.proofs.numbers.Numbers.place.Goals as goal
use Rattle.dictionary_mode.proofs.numbers.Numbers.place.Goals.{then-node-eq1, else-node-eq1}

pub loop-node-init : goal.loop-node-init
loop-node-init c = λ tree.
    let r = room-is c.self.inside.counts.items tree in
    let v = ap (λ (n : Numbered). n.room) c.self.view_is in
    climb-start c.self.inside.counts.items tree c.args.number (c.len.result / 2 + c.args.number) (omega (arith, c.requires.inside)) (omega arith)

pub index-requires : goal.index-requires
index-requires c =
    let v = ap (λ (n : Numbered). n.room) c.self.view_is in
    let tree : IsTree c.self.inside.counts.items = c.self.invariant (omega (arith, c.requires.inside)) in
    omega (arith, climb-inside c.self.inside.counts.items tree c.args.number c.loop-node.node c.loop-node.before (c.loop-node.invariant tree))

pub overflow_add-before : goal.overflow_add-before
overflow_add-before c =
    let v = ap (λ (n : Numbered). n.room) c.self.view_is in
    let xs = c.self.inside.counts.items in
    let tree : IsTree xs = c.self.invariant (omega (arith, c.requires.inside)) in
    let inv = c.loop-node.invariant tree in
    let inside = climb-inside xs tree c.args.number c.loop-node.node c.loop-node.before inv in
    let odd : c.loop-node.node ≡ 2 * (c.loop-node.node / 2) + 1 = omega arith in
    let is : c.index.result.now ≡ get_or xs (c.loop-node.node - 1) 0 = get_or_read xs (c.loop-node.node - 1) c.index.result.now (omega arith) c.index.ensures 0 in
    let most = climb-small xs tree c.args.number (c.loop-node.node / 2) (c.loop-node.before + get_or xs (c.loop-node.node - 1) 0) (climb-odd xs tree c.args.number c.loop-node.node c.loop-node.before (c.loop-node.node / 2) odd c.loop-node-test.true inv) in
    omega arith

pub loop-node-preserved : goal.loop-node-preserved
loop-node-preserved c = λ tree.
    let xs = c.self.inside.counts.items in
    let inv = c.loop-node.invariant tree in
    let inside = climb-inside xs tree c.args.number c.loop-node.node c.loop-node.before inv in
    elim c.if-node-eq1.branch [
      | then-node-eq1 w ↦
          let odd : c.loop-node.node ≡ 2 * (c.loop-node.node / 2) + 1 = omega arith in
          let is : w.index.result.now ≡ get_or xs (c.loop-node.node - 1) 0 = get_or_read xs (c.loop-node.node - 1) w.index.result.now (omega arith) w.index.ensures 0 in
          subst (λ n. Climbs xs tree c.args.number (c.loop-node.node / 2) n) (sym (w.before-is ∙ ap (λ x. c.loop-node.before + x) is))
          (climb-odd xs tree c.args.number c.loop-node.node c.loop-node.before (c.loop-node.node / 2) odd c.loop-node-test.true inv)
      | else-node-eq1 w ↦
          let even : c.loop-node.node ≡ 2 * (c.loop-node.node / 2) = omega arith in
          subst (λ n. Climbs xs tree c.args.number (c.loop-node.node / 2) n) (sym w.before-is)
          (climb-even xs tree c.args.number c.loop-node.node c.loop-node.before (c.loop-node.node / 2) even c.loop-node-test.true inv)
    ]

pub returns-clause-within : goal.returns-clause-within
returns-clause-within c =
    let v = ap (λ (n : Numbered). n.room) c.self.view_is in
    let xs = c.self.inside.counts.items in
    let tree : IsTree xs = c.self.invariant (omega (arith, c.requires.inside)) in
    let e = climb-end xs tree c.args.number c.loop-node.node c.loop-node.before c.loop-node-test.false (c.loop-node.invariant tree) in
    let has : HasPlace (numbers_in xs) c.args.number = subst (λ (n : Numbered). HasPlace n.list c.args.number) (sym c.self.view_is) c.requires.contained in
    let p = place-is xs tree c.args.number (has-mark xs tree c.args.number has) in
    let same = ap (λ (n : Numbered). length n.list) c.self.view_is in
    omega (arith, p.0)

pub returns-clause-place : goal.returns-clause-place
returns-clause-place c =
    let v = ap (λ (n : Numbered). n.room) c.self.view_is in
    let xs = c.self.inside.counts.items in
    let tree : IsTree xs = c.self.invariant (omega (arith, c.requires.inside)) in
    let e = climb-end xs tree c.args.number c.loop-node.node c.loop-node.before c.loop-node-test.false (c.loop-node.invariant tree) in
    let has : HasPlace (numbers_in xs) c.args.number = subst (λ (n : Numbered). HasPlace n.list c.args.number) (sym c.self.view_is) c.requires.contained in
    let p = place-is xs tree c.args.number (has-mark xs tree c.args.number has) in
    ap (λ (n : Numbered). get_or n.list c.loop-node.before 0) (sym c.self.view_is) ∙ ap (λ k. get_or (numbers_in xs) k 0) e ∙ p.1

pub returns-clause-small : goal.returns-clause-small
returns-clause-small c =
    let v = ap (λ (n : Numbered). n.room) c.self.view_is in
    let tree : IsTree c.self.inside.counts.items = c.self.invariant (omega (arith, c.requires.inside)) in
    climb-small c.self.inside.counts.items tree c.args.number c.loop-node.node c.loop-node.before (c.loop-node.invariant tree)
