-- Bodies that run, over plain variables.
use Rattle.std.proofs.Common.{ℕ, Ok}
use Rattle.property_keys.specs.declared.values.Value.TheVariants as value
use Rattle.es_tree.specs.Tree.{Tree}
use Rattle.es_model.specs.declared.answers.Completion.TheVariants as answer
use Rattle.es_model.specs.declared.answers.Turn.TheVariants.{Done}
use Rattle.es_model.specs.Program.{Evaluating, Round, Server, Statements, run}
use Rattle.es_model.specs.Servers.{IsServerBy}
use Rattle.es_model.specs.World.{World}
use Rattle.es_model.specs.programs.Errors.{unwritten}
use Rattle.es_model.proofs.Unwound.{reaches_none, stays_none}
use Rattle.object_heap.specs.Stands.{HeapView, StandsFor, goes_none}
use Rattle.object_heap.specs.Turns.{IsTurnOf}
use Rattle.evaluator.specs.Machine.{IsServer, eval_rest}
use Rattle.evaluator.proofs.Served.{serves_jobs}
use Rattle.es_serve.specs.Serve.{program_of}

-- who does for each task what its program says does so for each job of a body
pub runs_jobs : (S : Server) → IsServerBy program_of S → IsServer S
runs_jobs S is = serves_jobs S (record {
  nodes = λ r cells name x n w. is.serves n (Evaluating r cells name x) w;
  rounds = λ r cells x n w. is.serves n (Round r cells x) w;
  statements = λ r cells list i n w. is.serves n (Statements r cells list i) w;
})

-- what is not written yet
pub unwritten_turn : (script : Tree) (S : Server) (n : ℕ) (heap : HeapView) (w : World) → StandsFor heap w →
    IsTurnOf (eval_rest script) heap heap w S n (run S unwritten n w) (Ok (Done (answer.Throw value.Undefined)))
unwritten_turn script S n heap w h = (w, goes_none heap w h, stays_none w, reaches_none _)
