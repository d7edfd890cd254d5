-- What stands around the parts of a part, over a table of scopes that only grows.
use Rattle.std.specs.Prelude.{◌≡◌, List, ◌++◌, Result, Ok, Err}
use Rattle.script_rules.specs.declared.scope.Scope.{Scope}
use Rattle.script_checker.specs.declared.tasks.Setting.{Setting}
use Rattle.script_checker.specs.Made.{Around}
use Rattle.script_checker.specs.Machine.{around_of}
use Rattle.script_checker.specs.Spots.{IsKnown}

-- the table has the scopes that it had, and maybe more
abbrev pub Grows : List (List Scope) → List (List Scope) → Type 0
Grows old new = (more : List (List Scope)) × (new ≡ old ++ more)

pub record Opened (old new : List (List Scope)) (wanted : Around) (s : Setting) : Type 0 where
  pub grown : Grows old new
  pub known : IsKnown new s
  pub around : around_of new s ≡ wanted

-- the setting is that one; want of memory is free
abbrev pub Opens : {E : Type 0} → List (List Scope) → List (List Scope) → Around → Result Setting E → Type 0
Opens old new wanted (Ok s) = Opened old new wanted s
Opens old new wanted (Err e) = Unit {0}
