use Rattle.es_model.specs.Completions.{answered}
use Rattle.es_model.specs.Program.{run}
use Rattle.core_builtins.specs.Rests as core
use Rattle.evaluator.specs.Machine.{eval_rest}
use Rattle.object_heap.proofs.Turns.{stops_turn_of}
use Rattle.ordinary_object.specs.Rests as ordinary
use Rattle.plain_builtins.specs.Rests as plain
use Rattle.dispatcher.proofs.Jobs.{runs_jobs}
use Rattle.dispatcher.proofs.frames.resume.Goals as goal

pub returns-in-Ordinary : goal.returns-in-Ordinary
returns-in-Ordinary g c = λ S n w is same h.
    rw c.in-Ordinary.is
    (c.of_ordinary.ensures c.args.script.now c.args.heap.now c.resume.new.heap w S n (run S (ordinary.program_after c.in-Ordinary.frame (answered c.args.answer)) n w)
    (stops_turn_of ordinary.program_after (ordinary.program_after c.in-Ordinary.frame (answered c.args.answer)) c.args.heap.now c.resume.new.heap w c.resume.result (c.resume.ensures.stops w h) S n))

pub returns-in-Plain : goal.returns-in-Plain
returns-in-Plain g c = λ S n w is same h.
    rw c.in-Plain.is
    (c.of_plain.ensures c.args.script.now c.args.heap.now c.resume-in-Plain.new.heap w S n (run S (plain.program_after c.in-Plain.frame (answered c.args.answer)) n w)
    (stops_turn_of plain.program_after (plain.program_after c.in-Plain.frame (answered c.args.answer)) c.args.heap.now c.resume-in-Plain.new.heap w c.resume-in-Plain.result (c.resume-in-Plain.ensures.stops w h) S n))

pub returns-in-Core : goal.returns-in-Core
returns-in-Core g c = λ S n w is same h.
    rw c.in-Core.is
    (c.of_core.ensures c.args.script.now c.args.heap.now c.resume-in-Core.new.heap w S n (run S (core.program_after c.in-Core.frame (answered c.args.answer)) n w)
    (stops_turn_of core.program_after (core.program_after c.in-Core.frame (answered c.args.answer)) c.args.heap.now c.resume-in-Core.new.heap w c.resume-in-Core.result (c.resume-in-Core.ensures.stops w h) S n))

pub returns-in-Running : goal.returns-in-Running
returns-in-Running g c = λ S n w is same h.
    rw c.in-Running.is
    (c.of_running.ensures c.args.script.now c.args.heap.now c.resume-in-Running.new.heap w S n (eval_rest c.args.script.now c.in-Running.frame S n (answered c.args.answer) w)
    (c.resume-in-Running.ensures.turn S n w (runs_jobs S is) same h))
