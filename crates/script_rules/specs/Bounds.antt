-- The names of a scope.
use Rattle.std.specs.Prelude.{ℕ, suc, Bool, List, [], ◌∷◌, ◌++◌, bytes_eq, Option, Some, None, if◌then◌else◌}
use Rattle.std.specs.List.{list_any}

-- A name of a scope, and whether it is constant.
pub record Bound : Type 0 where
  pub units : List ℕ
  pub constant : Bool

abbrev pub bound : List ℕ → Bool → Bound
bound name is_constant = record { units = name; constant = is_constant }

abbrev pub has_name : List ℕ → Bound → Bool
has_name units b = bytes_eq units b.units

-- A binding is made where the scope has no binding of that name yet (9.1.1.1).
abbrev pub with_name : List Bound → Bound → List Bound
with_name names b = if list_any (has_name b.units) names then names else names ++ b ∷ []

abbrev pub with_names : List Bound → List Bound → List Bound
with_names names [] = names
with_names names (b ∷ bs) = with_names (with_name names b) bs

-- the place of a name among others, from a first place on
abbrev pub place_from : ℕ → List Bound → List ℕ → Option (ℕ × Bool)
place_from place [] units = None
place_from place (b ∷ bs) units = if has_name units b then Some (place, b.constant) else place_from (suc place) bs units

-- the names of a table of names, in its order
abbrev pub bounds_of : List (List ℕ × Bool) → List Bound
bounds_of [] = []
bounds_of (e ∷ es) = bound e.0 e.1 ∷ bounds_of es
