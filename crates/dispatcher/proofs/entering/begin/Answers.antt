use Rattle.es_model.specs.Program.{run}
use Rattle.es_model.proofs.Unwound.{stays_none, reaches_none}
use Rattle.object_heap.specs.Stands.{goes_none}
use Rattle.object_heap.proofs.Turns.{stops_turn_of}
use Rattle.core_builtins.specs.Core.{core_program}
use Rattle.core_builtins.specs.Rests as core
use Rattle.ordinary_object.specs.Ordinary.{ordinary_program}
use Rattle.ordinary_object.specs.Rests as ordinary
use Rattle.plain_builtins.specs.Plain.{plain_program}
use Rattle.plain_builtins.specs.Rests as plain
use Rattle.dispatcher.specs.Table.{body_program}
use Rattle.dispatcher.proofs.entering.begin.Goals as goal

pub returns-in-Ordinary : goal.returns-in-Ordinary
returns-in-Ordinary g c = λ S n w is same h.
    rw c.in-Ordinary.is
    (c.of_ordinary.ensures c.args.script.now c.args.heap.now c.start.new.heap w S n (run S (ordinary_program c.args.request) n w)
    (stops_turn_of ordinary.program_after (ordinary_program c.args.request) c.args.heap.now c.start.new.heap w c.start.result (c.start.ensures.stops w h) S n))

pub returns-in-Plain : goal.returns-in-Plain
returns-in-Plain g c = λ S n w is same h.
    rw c.in-Plain.is
    (c.of_plain.ensures c.args.script.now c.args.heap.now c.start-in-Plain.new.heap w S n (run S (plain_program c.args.request) n w)
    (stops_turn_of plain.program_after (plain_program c.args.request) c.args.heap.now c.start-in-Plain.new.heap w c.start-in-Plain.result (c.start-in-Plain.ensures.stops w h) S n))

pub returns-in-Core : goal.returns-in-Core
returns-in-Core g c = λ S n w is same h.
    rw c.in-Core.is
    (c.of_core.ensures c.args.script.now c.args.heap.now c.start-in-Core.new.heap w S n (run S (core_program c.args.request) n w)
    (stops_turn_of core.program_after (core_program c.args.request) c.args.heap.now c.start-in-Core.new.heap w c.start-in-Core.result (c.start-in-Core.ensures.stops w h) S n))

pub returns-in-Running : goal.returns-in-Running
returns-in-Running g c = λ S n w is same h.
    rw c.in-Running.is
    (c.of_running.ensures c.args.script.now c.args.heap.now c.begin_body.new.heap w S n (run S (body_program c.args.script.now c.in-Running.function c.args.request) n w)
    (c.begin_body.ensures S n w is same h))
