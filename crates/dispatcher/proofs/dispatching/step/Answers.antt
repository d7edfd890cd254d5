use Rattle.es_model.specs.Program.{run}
use Rattle.evaluator.specs.Functions.{script_program}
use Rattle.dispatcher.proofs.Jobs.{runs_jobs}
use Rattle.dispatcher.proofs.dispatching.step.Goals as goal

pub returns-in-Starting : goal.returns-in-Starting
returns-in-Starting g c = λ S w is same h.
    let o = run S (script_program c.args.script.now) 0 w in
    rw c.in-Starting.is
    (c.take.ensures c.args.script.now S o c.args.heap.now c.start_script.new.heap w
    (c.of_running-turn.ensures c.args.script.now c.args.heap.now c.start_script.new.heap w S 0 o
    (c.start_script.ensures.turn S 0 w (runs_jobs S is) same h)))
