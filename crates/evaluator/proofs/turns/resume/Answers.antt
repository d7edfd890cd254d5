use Rattle.std.proofs.Common.{◌∙◌, ap, subst, sym}
use Rattle.object_heap.specs.Turns.{IsTurnOf}
use Rattle.es_model.specs.Belongs.{Belongs}
use Rattle.es_model.specs.Completions.{answered}
use Rattle.evaluator.specs.declared.frames.EvalFrame.TheVariants as frame
use Rattle.evaluator.specs.Machine.{eval_rest}
use Rattle.evaluator.specs.Names.{names_of}
use Rattle.evaluator.specs.Soundness.{KeepsRest}
use Rattle.evaluator.proofs.Belonging.{resume_named, turn_named}
use Rattle.evaluator.proofs.turns.resume.Goals as goal

pub returns-in-Body-clause-turn : goal.returns-in-Body-clause-turn
returns-in-Body-clause-turn g c = λ S n w is same h.
    subst (λ f. IsTurnOf (eval_rest c.args.script.now) c.args.heap.now c.take_answer.new.heap w S n (eval_rest c.args.script.now f S n (answered c.args.answer) w) c.take_answer.result) (ap frame.Body c.waiting.view_is ∙ sym c.in-Body.is)
    (c.take_answer.ensures.turn S n w is same h)

pub returns-in-Body-clause-belongs : goal.returns-in-Body-clause-belongs
returns-in-Body-clause-belongs g c = λ w v same h sound keeps names known hv last.
    let rest = subst (λ f. KeepsRest c.args.script.now w f (answered c.args.answer)) (c.in-Body.is ∙ sym (ap frame.Body c.waiting.view_is)) keeps in
    let there = resume_named c.args.script.now w _ c.in-Body.waiting c.waiting.view_is same (subst (λ f. Belongs names_of w f) c.in-Body.is names) in
    turn_named c.args.script.now v c.take_answer.result last (c.take_answer.ensures.belongs w v same h sound rest.0 rest.1 there.0 there.1 known hv)

pub returns-in-Constructing-clause-turn : goal.returns-in-Constructing-clause-turn
returns-in-Constructing-clause-turn g c = λ S n w is same h.
    subst (λ f. IsTurnOf (eval_rest c.args.script.now) c.args.heap.now c.construct_with.new.heap w S n (eval_rest c.args.script.now f S n (answered c.args.answer) w) c.construct_with.result) (sym c.in-Constructing.is)
    (c.construct_with.ensures.turn S n w is same h)

pub returns-in-Constructing-clause-belongs : goal.returns-in-Constructing-clause-belongs
returns-in-Constructing-clause-belongs g c = λ w v same h sound keeps names known hv last.
    let kept = subst (λ f. KeepsRest c.args.script.now w f (answered c.args.answer)) c.in-Constructing.is keeps in
    turn_named c.args.script.now v c.construct_with.result last (c.construct_with.ensures.belongs w v same h kept hv)
