-- The facts of the model, from those of its programs.
use Rattle.std.proofs.Common.{refl, arith}
use Rattle.es_tree.specs.Tree.{Tree}
use Rattle.es_model.specs.Belongs.{KeepsNames}
use Rattle.es_model.specs.Grows.{KeepsLists, KeepsScript, KeepsPrinted}
use Rattle.es_model.specs.Fits.{IsKnownCompletion}
use Rattle.es_model.specs.Kept.{KeepsSound}
use Rattle.es_model.specs.Outcomes.{NeverRaises}
use Rattle.es_model.specs.Servers.{IsServerBy, IsDepthFreeBy, IsThrifty}
use Rattle.es_model.specs.StartWorld.{start_world}
use Rattle.es_model.specs.Weights.{renewed}
use Rattle.es_model.proofs.Belonging as belonging
use Rattle.es_model.proofs.Carried as carried
use Rattle.es_model.proofs.Counts as counts
use Rattle.es_model.proofs.Keeping as keeping
use Rattle.es_model.proofs.Runs as runs
use Rattle.es_model.proofs.StartSound.{start-sound}
use Rattle.es_model.proofs.Within.{renewed-enough}
use Rattle.evaluator.specs.Functions.{script_program}
use Rattle.evaluator.proofs.FunctionsKept.{script-kept}
use Rattle.evaluator.proofs.FunctionsWithin.{script-within}
use Rattle.evaluator.proofs.WordsWithin.{within-whole}
use Rattle.es_serve.specs.Run.{RunsArePaid, RunsStaySound}
use Rattle.es_serve.specs.Serve.{program_of, model}
use Rattle.es_serve.proofs.KeptAll.{each-kept}
use Rattle.es_serve.proofs.Within.{programs-within, programs-charge_first}

pub depth-free : IsDepthFreeBy program_of
depth-free = runs.depth_free program_of programs-within programs-charge_first

pub serves : IsServerBy program_of model
unfolding model
serves = runs.model-serves program_of programs-within programs-charge_first

pub thrifty : IsThrifty model
unfolding model
thrifty = counts.model-thrifty program_of programs-within programs-charge_first

pub never-raises : NeverRaises model
unfolding model
never-raises = runs.model-never_raises program_of

pub keeps-lists : KeepsLists model
unfolding model
keeps-lists = carried.model-grows program_of

pub keeps-script : KeepsScript model
unfolding model
keeps-script = carried.model-script program_of

pub keeps-printed : KeepsPrinted model
unfolding model
keeps-printed = carried.model-prints program_of

pub keeps-sound : KeepsSound model
unfolding model
keeps-sound = keeping.model-kept program_of each-kept

pub keeps-names : KeepsNames model
unfolding model
keeps-names = belonging.model-keeps_names program_of

-- ---- runs

model-counts : (script : Tree) → counts.Counts script model
unfolding model
model-counts = counts.model-counts program_of programs-within programs-charge_first

pub runs-paid : RunsArePaid
runs-paid w =
    let enough = renewed-enough w.script in
    let within = within-whole (renewed w.script) 2 (script_program w.script) (script-within (renewed w.script) 2 w.script (omega arith) (omega arith)) in
    let all = counts.run-counts w.script model keeps-script (model-counts w.script) (script_program w.script) 2 0 w refl within in omega arith

pub runs-sound : RunsStaySound
runs-sound script budget =
    keeping.run-kept IsKnownCompletion model keeps-sound (script_program script) 0 (start_world script budget) (script-kept (start_world script budget) (start-sound script budget))
