-- Programs that keep worlds sound: at each question and at their end the world is sound, and what they ask and answer names what is there. At a halt
-- the world is intact.
use Rattle.std.specs.Prelude.{◌≡◌, ◌<◌, ◌≤◌, ℕ, List, length}
use Rattle.std.specs.List.{AllByRecursion}
use Rattle.es_tree.specs.declared.numbers.FunctionNo.{FunctionNo}
use Rattle.es_tree.specs.Tree.{Tree, top_names}
use Rattle.es_model.specs.declared.kinds.CellNo.{CellNo}
use Rattle.es_model.specs.declared.running.FunctionName.{FunctionName}
use Rattle.es_model.specs.declared.running.FunctionName.TheVariants.{Text, Key}
use Rattle.es_model.specs.declared.running.Running.{Running}
use Rattle.es_model.specs.Completions.{Completion}
use Rattle.es_model.specs.World.{Lists, World}
use Rattle.es_model.specs.Changes.{changed, charged, printed_more}
use Rattle.es_model.specs.Program.{Program, done, look, change, charge, ask, part, nest, print, Task}
use Rattle.es_model.specs.Program.{Of, Evaluating, Statements, Round, Outcome, Ended, Halt, Server}
use Rattle.es_model.specs.Servers.{Programs}
use Rattle.es_model.specs.Grows.{Grows}
use Rattle.es_model.specs.Fits.{Fits, IsKnownCompletion, IsKnownRequest}
use Rattle.es_model.specs.Known.{IsObject, IsText, IsCell, IfThere, IsKnown, IsKnownKey}
use Rattle.es_model.specs.Sound.{IsIntact, IsSound}

-- a later world of the same run
pub record IsLater (w v : World) : Type 0 where
  pub lists : Grows w.lists v.lists
  pub script : v.script ≡ w.script

-- what a running body names is there, and so are the cells of the script's top scope, which the functions that it makes see
pub record IsKnownRunning (script : Tree) (l : Lists) (body : Running) : Type 0 where
  pub function : IfThere (λ (f : FunctionNo). f.0 < length script.functions) body.function
  pub callee : IfThere (IsObject l) body.callee
  pub arguments : IfThere (IsObject l) body.arguments
  pub this : IsKnown l body.this
  pub constructs : IfThere (IsObject l) body.constructs
  pub top : top_names script ≤ length l.cells

abbrev pub AreCells : Lists → List CellNo → Type 0
AreCells l cells = AllByRecursion (IsCell l) cells

-- the text is there, or the key
abbrev pub IsKnownName : Lists → FunctionName → Type 0
IsKnownName l (Text t) = IsText l t
IsKnownName l (Key prefix k) = IsKnownKey l k

-- A node need not be there: what an absent one comes to is defined too.
abbrev pub IsKnownTask : Tree → Lists → Task → Type 0
IsKnownTask script l (Of q) = IsKnownRequest l q
IsKnownTask script l (Evaluating body cells name n) = IsKnownRunning script l body × AreCells l cells × IfThere (IsKnownName l) name
IsKnownTask script l (Statements body cells list i) = IsKnownRunning script l body × AreCells l cells
IsKnownTask script l (Round body cells n) = IsKnownRunning script l body × AreCells l cells

abbrev pub FitsTask : Task → Lists → Completion → Type 0
FitsTask (Of q) l c = Fits l q c
FitsTask (Evaluating body cells name n) l c = IsKnownCompletion l c
FitsTask (Statements body cells list i) l c = IsKnownCompletion l c
FitsTask (Round body cells n) l c = IsKnownCompletion l c

-- From this world on the program keeps worlds sound, and its end is as P says. At each charge it may halt.
abbrev pub IsKept : (Lists → Completion → Type 0) → Program → World → Type 0
IsKept P (done c) w = IsSound w × P w.lists c
IsKept P (look f) w = IsKept P (f w.lists) w
IsKept P (change op p) w = IsKept P p (changed op w)
IsKept P (charge t p) w = IsIntact w.lists × IsKept P p (charged w t)
IsKept P (ask q k) w =
    IsSound w × IsKnownRequest w.lists q
    × ((c : Completion) (v : World) → IsSound v → IsLater w v → Fits v.lists q c → IsKept P (k c) v)
IsKept P (part t k) w =
    IsSound w × IsKnownTask w.script w.lists t
    × ((c : Completion) (v : World) → IsSound v → IsLater w v → FitsTask t v.lists c → IsKept P (k c) v)
IsKept P (nest p q) w = IsKept P p w × IsKept P q w
IsKept P (print bytes p) w = IsKept P p (printed_more w bytes)

-- An outcome from world w. A halt may stand between two changes that belong together, and leaves the world intact.
abbrev pub IsKeptOutcome : (Lists → Completion → Type 0) → World → Outcome → Type 0
IsKeptOutcome P w (Ended c v n) = IsSound v × IsLater w v × P v.lists c
IsKeptOutcome P w (Halt v n) = IsIntact v.lists × IsLater w v

-- every known task from a sound world ends in a sound world with an answer that fits, or halts in one that is intact
abbrev pub KeepsSound : Server → Type 0
KeepsSound S = (n : ℕ) (t : Task) (w : World) → IsSound w → IsKnownTask w.script w.lists t → IsKeptOutcome (FitsTask t) w (S n t w)

-- The program of every known task keeps worlds sound: at each question the world is sound and the question known, and so at the end; at each charge
-- it is intact.
abbrev pub KeepsEachBy : Programs → Type 0
KeepsEachBy programs = (t : Task) (w : World) → IsSound w → IsKnownTask w.script w.lists t → IsKept (FitsTask t) (programs w.script t) w
