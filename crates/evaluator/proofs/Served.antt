-- A server that does for each task of a body what the task's program says does so for each job.
use Rattle.std.proofs.Common.{◌≡◌, ℕ, List, Option}
use Rattle.es_tree.specs.declared.numbers.NodeId.{NodeId}
use Rattle.es_model.specs.declared.running.FunctionName.{FunctionName}
use Rattle.es_model.specs.declared.kinds.CellNo.{CellNo}
use Rattle.es_model.specs.declared.running.Part.{Part}
use Rattle.es_model.specs.declared.running.Running.{Running}
use Rattle.es_model.specs.Program.{Evaluating, Round, Server, Statements, run}
use Rattle.es_model.specs.World.{World}
use Rattle.evaluator.specs.declared.items.Job.{Job}
use Rattle.evaluator.specs.declared.items.Job.TheVariants as job
use Rattle.evaluator.specs.Contexts.{context}
use Rattle.evaluator.specs.Machine.{IsServer}
use Rattle.evaluator.specs.Plans.{job_program, task_of}
use Rattle.evaluator.specs.Tasks.{node_program, round_program, statements_program}

pub record ServesTasks (S : Server) : Type 0 where
  pub nodes : (r : Running) (cells : List CellNo) (name : Option FunctionName) (x : NodeId) (n : ℕ) (w : World) → S n (Evaluating r cells name x) w ≡ run S (node_program w.script r cells name x) n w
  pub rounds : (r : Running) (cells : List CellNo) (x : NodeId) (n : ℕ) (w : World) → S n (Round r cells x) w ≡ run S (round_program w.script r cells x) n w
  pub statements : (r : Running) (cells : List CellNo) (list : Part) (i n : ℕ) (w : World) → S n (Statements r cells list i) w ≡ run S (statements_program w.script r cells list i) n w

job-served : (S : Server) → ServesTasks S → (r : Running) (cells : List CellNo) (j : Job) (n : ℕ) (w : World) →
    S n (task_of (context w.script r cells) j) w ≡ run S (job_program (context w.script r cells) j) n w
job-served S is r cells (job.Node name x) n w = is.nodes r cells name x n w
job-served S is r cells (job.Round x) n w = is.rounds r cells x n w
job-served S is r cells (job.Statements list i) n w = is.statements r cells list i n w

pub serves_jobs : (S : Server) → ServesTasks S → IsServer S
serves_jobs S is = record { serves = job-served S is }
