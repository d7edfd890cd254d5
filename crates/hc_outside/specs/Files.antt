-- What the files hold, and which were begun.
use Rattle.std.specs.Prelude.{◌≡◌, ◌++◌, ◌∷◌, [], ℕ, zero, suc, List, Option, Some, None, Result, Ok, Err, ⊤, if◌then◌else◌}
use Rattle.std.specs.Str.{bytes_eq}
use Rattle.hc_outside.specs.declared.Fault.{Fault}
use Rattle.hc_outside.specs.declared.Fault.TheVariants.{Failed, NoMemory}
use Rattle.hc_outside.specs.declared.FileId.{FileId}

-- the bytes under a name: those of its first place
abbrev pub bytes_named : List (List ℕ × List ℕ) → List ℕ → Option (List ℕ)
bytes_named [] name = None
bytes_named (file ∷ files) name = if bytes_eq file.0 name then Some file.1 else bytes_named files name

-- the ids given, after a `begin`
abbrev pub ids_after : List ℕ → Result FileId Fault → List ℕ
ids_after ids (Ok id) = ids ++ id.0 ∷ []
ids_after ids (Err fault) = ids

-- the names asked for, after a `begin`
abbrev pub names_after : List (List ℕ) → List ℕ → Result FileId Fault → List (List ℕ)
names_after names name (Ok id) = names ++ name ∷ []
names_after names name (Err Failed) = names ++ name ∷ []
names_after names name (Err NoMemory) = names

-- where the files are told, a begun one is there and its whole bytes are left
abbrev pub Begins : Option (List (List ℕ × List ℕ)) → List ℕ → Option (List ℕ) → Type 0
Begins None name left = ⊤
Begins (Some files) name None = ⊥
Begins (Some files) name (Some bytes) = bytes_named files name ≡ Some bytes

-- the numbers below n
abbrev pub numbers_below : ℕ → List ℕ
numbers_below zero = []
numbers_below (suc n) = numbers_below n ++ n ∷ []
