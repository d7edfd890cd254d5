use Rattle.std.proofs.Common.{refl}
use Rattle.es_model.specs.StartWorld.{start_world}
use Rattle.script_host.proofs.Settled.{front_of_none}
use Rattle.script_host.specs.Running.{printed_by}
use Rattle.script_host.proofs.running.run.Goals as goal

pub returns-in-Ok : goal.returns-in-Ok
returns-in-Ok g c =
    let w = start_world c.args.script.now c.args.budget in
    let stands = c.in-Ok.ensures c.args.script.now in
    c.print_lines.ensures c.args.budget (record { stands = stands; left = c.of_script-dispatcher.ensures.left w; steps = c.of_script-dispatcher.ensures.steps w refl stands })

pub returns-in-Err : goal.returns-in-Err
returns-in-Err g c = (refl, front_of_none (g.O.Sink.held c.args.out.now) (printed_by c.args.script.now c.args.budget))
