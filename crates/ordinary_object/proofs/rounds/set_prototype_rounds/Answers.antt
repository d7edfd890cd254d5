use Rattle.std.proofs.Common.{◌≡◌, suc, ◌-◌, Ok, ap, ◌∙◌, arith}
use Rattle.std.proofs.lemmas.Bool.Decides.{nat_tests}
use Rattle.object_heap.proofs.Retaining.{retains_then}
use Rattle.ordinary_object.proofs.Walks.{falls, over, on, ends, one_less}
use Rattle.ordinary_object.proofs.rounds.set_prototype_rounds.Goals as goal

pub returns-in-Err-clause-stops : goal.returns-in-Err-clause-stops
returns-in-Err-clause-stops g c = λ w h.
    let (v, go, e) = c.loop-stop.invariant.0 w h in
    falls _ _ _ w v c.loop-stop.left _ _ _ _ _ _ go e c.in-Err.is (c.set_prototype_round.ensures.round c.loop-stop.left v go.stands)

pub returns-in-Ok-Over-clause-stops : goal.returns-in-Ok-Over-clause-stops
returns-in-Ok-Over-clause-stops g c = λ w h.
    let (v, go, e) = c.loop-stop.invariant.0 w h in
    over _ _ _ w v c.loop-stop.left _ _ _ _ _ _ go e (c.in-Ok-Over.is ∙ ap (λ x. Ok x) c.in-Ok-Over.field-0-is) (c.set_prototype_round.ensures.round c.loop-stop.left v go.stands)

pub returns-then-left-eq0-clause-stops : goal.returns-then-left-eq0-clause-stops
returns-then-left-eq0-clause-stops g c = λ w h.
    let (v, go, e) = c.loop-stop.invariant.0 w h in
    let zero_left : c.loop-stop.left ≡ 0 = grind (arith, nat_tests, c.if-left-eq0.true) in
    ends _ _ w _ c.loop-stop.left _ _ _ zero_left
    (on _ _ _ w v c.loop-stop.left _ _ _ _ _ _ go e (c.in-Ok-On.is ∙ ap (λ x. Ok x) c.in-Ok-On.field-0-is) (c.set_prototype_round.ensures.round c.loop-stop.left v go.stands))

pub loop-stop-preserved : goal.loop-stop-preserved
loop-stop-preserved g c = (
  λ w h.
      let (v, go, e) = c.loop-stop.invariant.0 w h in
      let more : c.loop-stop.left ≡ suc (c.loop-stop.left - 1) = grind (arith, nat_tests, c.if-left-eq0.false) in
      one_less _ _ w _ c.loop-stop.left _ _ _ more
      (on _ _ _ w v c.loop-stop.left _ _ _ _ _ _ go e (c.in-Ok-On.is ∙ ap (λ x. Ok x) c.in-Ok-On.field-0-is) (c.set_prototype_round.ensures.round c.loop-stop.left v go.stands)),
  retains_then _ _ _ c.loop-stop.invariant.1 c.set_prototype_round.ensures.retains,
)
