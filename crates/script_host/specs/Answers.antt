-- What the words' order and the file ask for: an answer, with its bytes for the output and its note.
use Rattle.std.specs.Prelude.{◌≡◌, ◌++◌, [], ℕ, List, Option, Some, None, codes}
use Rattle.std.specs.Fmt.{decimal}
use Rattle.hc_outside.specs.Causes.{Rises}
use Rattle.command_words.specs.Orders.{Order, Source, OfFile, Generated}
use Rattle.es_source.specs.declared.faults.FaultCode.{FaultCode}
use Rattle.es_source.specs.declared.faults.FaultCode.TheVariants as code
use Rattle.es_source.specs.declared.faults.SourceFault.{SourceFault}
use Rattle.es_source.specs.declared.place.Place.{Place}
use Rattle.es_tree.specs.Tree.{Tree}
use Rattle.script_generator.specs.Generated.{generated_script}
use Rattle.script_checker.specs.Contract.{IsTreeOf}
use Rattle.script_rules.specs.FirstFault.{HasFirstFault}
use Rattle.es_source.specs.Codes.{code_number, fault_name}
use Rattle.es_source.specs.Reading.{most_bytes}
use Rattle.script_host.specs.FileBytes.{IsReadOf}
use Rattle.script_host.specs.Expected.{Expected, expected}
use Rattle.script_host.specs.Unbuilt.{unbuilt}

-- the name of the file that is ordered
abbrev pub file_at : Source → Option (List ℕ)
file_at (OfFile name) = Some name
file_at (Generated n) = None

abbrev pub file_of : Option Order → Option (List ℕ)
file_of None = None
file_of (Some order) = file_at order.source

pub data Answer : Type 0 where
  -- the script runs, and is expected to put this out
  Runs : Expected → Answer
  -- the words are no order
  Misuses : Answer
  -- the script has this first fault
  Faults : SourceFault → Answer
  -- the script has no fault, and what does not run yet stands here first
  Unbuilt : Place → Answer
  -- the file of this name cannot be read
  CannotRead : List ℕ → Answer

-- what it puts on the output
abbrev pub output_of : Answer → List ℕ
output_of (Runs e) = e.output
output_of Misuses = []
output_of (Faults fault) = []
output_of (Unbuilt place) = []
output_of (CannotRead name) = []

-- a line and a column
abbrev pub place_text : Place → List ℕ
place_text place = decimal place.line ++ codes ":" ++ decimal place.column

-- what it puts on the error output
abbrev pub note_of : Answer → List ℕ
note_of (Runs e) = e.note
note_of Misuses = codes "hcjs: usage: hcjs [--budget N] [--generate N] [FILE]\n"
note_of (Faults fault) =
    codes "hcjs: " ++ place_text fault.place ++ codes ": fault " ++ decimal (code_number fault.code) ++ codes " " ++ fault_name fault.code
    ++ codes "\n"
note_of (Unbuilt place) = codes "hcjs: " ++ place_text place ++ codes ": not built\n"
note_of (CannotRead name) = codes "hcjs: cannot read " ++ name ++ codes "\n"

-- what the files tell, and their count of faults before and after a call
pub record FilesChange : Type 0 where
  pub held : Option (List (List ℕ × List ℕ))
  pub before : ℕ
  pub after : ℕ

abbrev pub files_change : Option (List (List ℕ × List ℕ)) → ℕ → ℕ → FilesChange
files_change held before after = record { held = held; before = before; after = after }

-- the bytes of the script that is ordered: those that were read of the file, or those of the generated script
abbrev pub IsScriptOf : Source → FilesChange → List ℕ → Type 0
IsScriptOf (OfFile name) files bytes = IsReadOf files.held name most_bytes bytes
IsScriptOf (Generated n) files bytes = bytes ≡ generated_script n

-- the answer to the bytes of a script: its first fault; or, of its tree, the least place of what does not run yet, or its expected output
abbrev pub IsAnswer : Order → List ℕ → Answer → Type 0
IsAnswer order bytes (Faults fault) = HasFirstFault bytes (Some fault)
IsAnswer order bytes (Unbuilt place) = (tree : Tree) × IsTreeOf bytes tree × (unbuilt tree ≡ Some place)
IsAnswer order bytes (Runs e) = (tree : Tree) × IsTreeOf bytes tree × (unbuilt tree ≡ None) × (e ≡ expected order bytes tree)
IsAnswer order bytes Misuses = ⊥
IsAnswer order bytes (CannotRead name) = ⊥

-- there is an order, its script was had without a fault of the files, and this is the answer to the script's bytes
abbrev pub IsAskedOfScript : Option Order → FilesChange → Answer → Type 0
IsAskedOfScript ordered files answer =
    (order : Order) × (bytes : List ℕ) × (ordered ≡ Some order) × (files.after ≡ files.before) × IsScriptOf order.source files bytes
    × IsAnswer order bytes answer

-- when an answer is asked for: the words first, then a fault of the files, then the script
abbrev pub IsAsked : Option Order → FilesChange → Answer → Type 0
IsAsked ordered files Misuses = (ordered ≡ None) × (files.after ≡ files.before)
IsAsked ordered files (CannotRead name) = (file_of ordered ≡ Some name) × Rises files.before files.after
IsAsked ordered files (Faults fault) = IsAskedOfScript ordered files (Faults fault)
IsAsked ordered files (Unbuilt place) = IsAskedOfScript ordered files (Unbuilt place)
IsAsked ordered files (Runs e) = IsAskedOfScript ordered files (Runs e)
