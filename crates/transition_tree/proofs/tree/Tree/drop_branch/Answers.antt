use Rattle.std.proofs.Common.{◌+◌, sym, subst, ◌∙◌, arith}
use Rattle.std.proofs.lemmas.Bool.{not-false, not-true}
use Rattle.map_store.specs.declared.MapId.{MapId}
use Rattle.map_store.specs.Views.{IsKnown, MapsView}
use Rattle.transition_tree.proofs.Dropping.{IsDroppedTo, above-known, dropped-alive, dropped-all, dropped-dead, dropped-first, dropped-root, dropped-together}
use Rattle.transition_tree.proofs.tree.Tree.drop_branch.Goals as goal
use Rattle.transition_tree.proofs.tree.Tree.drop_branch.Goals.{in-Some+then-is_dead, in-Some+else-is_dead, in_default}

pub loop-number-init : goal.loop-number-init
loop-number-init c =
    subst (λ (ms : MapsView). IsDroppedTo c.args.self.now c.args.maps.now ms c.args.map (c.args.map.0 + 1)) (sym c.mark_dead.ensures.dead)
    (dropped-first c.args.self.now c.args.maps.now c.args.map c.requires.together c.requires.known)

pub is_dead-requires : goal.is_dead-requires
is_dead-requires c =
    let k : MapId = record { 0 = c.loop-number.number } in
    let there : IsKnown c.args.maps.now k = omega arith in
    let above = above-known c.args.self.now c.args.maps.now c.args.map c.requires.together c.requires.known c.loop-number.maps k c.loop-number.invariant (omega arith) there c.in-Some.parent (sym c.in-Some.ensures.value) in
    let earlier = above.earlier in
    omega (arith, c.loop-number.invariant.count)

pub loop-number-preserved : goal.loop-number-preserved
loop-number-preserved c =
    let k : MapId = record { 0 = c.loop-number.number } in
    let there : IsKnown c.args.maps.now k = omega arith in
    elim c.match-parent.branch [
      | in-Some+then-is_dead w ↦
          subst (λ (ms : MapsView). IsDroppedTo c.args.self.now c.args.maps.now ms c.args.map (c.loop-number.number + 1)) (sym (w.maps-is ∙ w.mark_dead-then-is_dead.ensures.dead))
          (dropped-dead c.args.self.now c.args.maps.now c.args.map c.requires.together c.requires.known c.loop-number.maps k c.loop-number.invariant (omega arith) there
          w.in-Some.parent (sym w.in-Some.ensures.value) (not-true _ (sym w.is_dead.ensures ∙ w.if-is_dead.true)))
      | in-Some+else-is_dead w ↦
          subst (λ (ms : MapsView). IsDroppedTo c.args.self.now c.args.maps.now ms c.args.map (c.loop-number.number + 1)) (sym w.maps-is)
          (dropped-alive c.args.self.now c.args.maps.now c.args.map c.requires.together c.requires.known c.loop-number.maps k c.loop-number.invariant (omega arith) there
          w.in-Some.parent (sym w.in-Some.ensures.value) (not-false _ (sym w.is_dead.ensures ∙ w.if-is_dead.false)))
      | in_default w ↦
          subst (λ (ms : MapsView). IsDroppedTo c.args.self.now c.args.maps.now ms c.args.map (c.loop-number.number + 1)) (sym w.maps-is)
          (dropped-root c.args.self.now c.args.maps.now c.args.map c.requires.together c.requires.known c.loop-number.maps k c.loop-number.invariant (omega arith) there
          (sym w.in_default.ensures.value))
    ]

pub returns-clause-together : goal.returns-clause-together
returns-clause-together c =
    dropped-together c.args.self.now c.args.maps.now c.loop-number.maps c.args.map c.requires.together
    (dropped-all c.args.self.now c.args.maps.now c.args.map c.requires.together c.requires.known c.loop-number.maps c.loop-number.number c.loop-number.invariant (omega arith))
