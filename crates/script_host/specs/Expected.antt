-- Expected output: what a run puts on the output and on the error output, and the status that it ends with.
use Rattle.std.specs.Prelude.{◌++◌, ℕ, List, [], length, codes}
use Rattle.std.specs.Fmt.{decimal}
use Rattle.command_words.specs.Orders.{Order, Source, OfFile, Generated}
use Rattle.es_tree.specs.Tree.{Tree}
use Rattle.es_model.specs.World.{Lists}
use Rattle.es_serve.specs.Run.{Ending, Finished, Thrown, Halted, Run, run_of}
use Rattle.script_host.specs.declared.status.Status.{Status}
use Rattle.script_host.specs.declared.status.Status.TheVariants as status
use Rattle.script_host.specs.Uncaught.{uncaught_note}

pub record Expected : Type 0 where
  pub output : List ℕ
  pub note : List ℕ
  pub status : Status

abbrev pub budget_note : List ℕ
budget_note = codes "hcjs: budget ended\n"

-- by the lists of the last world
abbrev pub ending_note : Lists → Ending → List ℕ
ending_note l Finished = []
ending_note l (Thrown v) = uncaught_note l v
ending_note l Halted = budget_note

abbrev pub ending_status : Ending → Status
ending_status Finished = status.Finished
ending_status (Thrown v) = status.Thrown
ending_status Halted = status.BudgetEnded

abbrev pub length_line : ℕ → List ℕ
length_line bytes = codes "generated " ++ decimal bytes ++ codes " bytes\n"

-- behind the run of a generated script a line with the script's length
abbrev pub summary_of : Source → List ℕ → List ℕ
summary_of (OfFile name) bytes = []
summary_of (Generated n) bytes = length_line (length bytes)

abbrev pub expected_of : Run → List ℕ → Expected
expected_of run summary = record {
  output = run.world.printed ++ summary;
  note = ending_note run.world.lists run.ending;
  status = ending_status run.ending;
}

-- of a script with these bytes, with the turns that are ordered
abbrev pub expected : Order → List ℕ → Tree → Expected
expected order bytes script = expected_of (run_of script order.budget) (summary_of order.source bytes)
