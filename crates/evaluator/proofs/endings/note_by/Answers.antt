use Rattle.evaluator.proofs.Ended.{notes_none, notes_some}
use Rattle.evaluator.proofs.endings.note_by.Goals as goal

pub returns-in-None-clause-passes : goal.returns-in-None-clause-passes
returns-in-None-clause-passes c = λ w same h. notes_none c.args.script.now c.args.function c.args.heap.now w h c.in-None.ensures

pub returns-in-Some-clause-passes : goal.returns-in-Some-clause-passes
returns-in-Some-clause-passes c = notes_some c.args.script.now c.args.function c.in-Some.facts c.args.heap.now c.note_construction.new.heap c.note_construction.result c.in-Some.ensures c.note_construction.ensures.goes
