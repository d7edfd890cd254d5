use Rattle.es_model.specs.StartWorld.{start_world}
use Rattle.es_model.proofs.Runs.{run-never_raises}
use Rattle.evaluator.specs.Functions.{script_program}
use Rattle.es_serve.specs.Serve.{model}
use Rattle.es_serve.proofs.Models.{never-raises}
use Rattle.script_host.proofs.laws.runs_keep_to_their_budget.Goals as goal

pub returns : goal.returns
returns c = λ script turns. run-never_raises model never-raises (script_program script) 0 (start_world script turns)
