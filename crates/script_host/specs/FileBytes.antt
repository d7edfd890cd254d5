-- The reading of a whole file.
use Rattle.std.specs.Prelude.{◌≡◌, ◌⊎◌, ◌++◌, ◌∷◌, ◌<◌, [], ℕ, List, length, Option, Some, None, ⊤}
use Rattle.hc_outside.specs.Files.{bytes_named}

-- where the files are told, the bytes are those under the name, or a front of them that is longer than `most`
abbrev pub IsReadOf : Option (List (List ℕ × List ℕ)) → List ℕ → ℕ → List ℕ → Type 0
IsReadOf None name most bytes = ⊤
IsReadOf (Some files) name most bytes =
    (rest : List ℕ) × (bytes_named files name ≡ Some (bytes ++ rest)) × ((rest ≡ []) ⊎ (most < length bytes))

-- the names that were asked for grew by this one, or not
abbrev pub AsksOnce : List (List ℕ) → List ℕ → List (List ℕ) → Type 0
AsksOnce old name new = (new ≡ old ++ name ∷ []) ⊎ (new ≡ old)
