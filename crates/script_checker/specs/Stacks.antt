-- What the top of a stack is, of which the list has the top first.
use Rattle.std.specs.Prelude.{◌≡◌, List, [], ◌∷◌, Option, Some, None}

-- the top was taken, where there was one
abbrev pub Pops : {T : Type 0} → List T → List T → Option T → Type 0
Pops old new (Some x) = old ≡ x ∷ new
Pops old new None = (old ≡ []) × (new ≡ [])
