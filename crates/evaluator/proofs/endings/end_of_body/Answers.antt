use Rattle.evaluator.proofs.Ended.{construction_ends}
use Rattle.evaluator.proofs.endings.end_of_body.Goals as goal

pub returns-in_ok-note_by-in-Some-clause-answers : goal.returns-in_ok-note_by-in-Some-clause-answers
returns-in_ok-note_by-in-Some-clause-answers c = λ cells w same h.
    construction_ends c.args.script.now c.args.body c.in-Some.object c.args.end c.end_of_construction.result cells c.args.heap.now c.note_by.new.heap w c.in-Some.is c.end_of_construction.ensures (c.in_ok-note_by-in-Some.ensures.passes w same h)
