-- The own keys of an object in their order (OrdinaryOwnPropertyKeys, ECMA-262, 10.1.11.1; of String objects 10.4.3.3).
use Rattle.std.specs.Prelude.{ℕ, zero, suc, ◌==◌, Bool, true, false, if◌then◌else◌, List, [], ◌∷◌, ◌++◌, length, map, filter, nat_lt}
use Rattle.property_keys.specs.declared.identifiers.ObjectId.{ObjectId}
use Rattle.property_keys.specs.declared.keys.PropKey.{PropKey}
use Rattle.property_keys.specs.declared.keys.PropKey.TheVariants.{Index, Name, Sym}
use Rattle.es_model.specs.declared.owned.OwnProperty.{OwnProperty}
use Rattle.es_model.specs.declared.kinds.ObjectKind.{ObjectKind}
use Rattle.es_model.specs.declared.kinds.ObjectKind.TheVariants as kind_of
use Rattle.es_model.specs.Objects.{Object, object_at}
use Rattle.es_model.specs.World.{Lists, units_of}

-- an index in its place among ascending ones, each once
abbrev pub put_index : ℕ → List ℕ → List ℕ
put_index i [] = i ∷ []
put_index i (j ∷ js) = if nat_lt i j then i ∷ j ∷ js else (if i == j then j ∷ js else j ∷ put_index i js)

abbrev pub put_key : PropKey → List ℕ → List ℕ
put_key (Index i) is = put_index i is
put_key (Name t) is = is
put_key (Sym s) is = is

-- the indices of a list of properties, ascending
abbrev pub indices_in : List OwnProperty → List ℕ
indices_in [] = []
indices_in (p ∷ ps) = put_key p.key (indices_in ps)

-- with the indices below a number
abbrev pub with_indices_below : ℕ → List ℕ → List ℕ
with_indices_below zero is = is
with_indices_below (suc n) is = with_indices_below n (put_index n is)

-- how many code units are own properties beside the list: those of a String object
abbrev pub code_units : Lists → ObjectKind → ℕ
code_units l (kind_of.Text t) = length (units_of l t)
code_units l other = 0

abbrev pub is_name : PropKey → Bool
is_name (Index i) = false
is_name (Name t) = true
is_name (Sym s) = false

abbrev pub is_symbol : PropKey → Bool
is_symbol (Index i) = false
is_symbol (Name t) = false
is_symbol (Sym s) = true

abbrev pub keys_in : List OwnProperty → List PropKey
keys_in ps = map (λ (p : OwnProperty). p.key) ps

-- the array indices ascending, then the other texts and then the Symbols, each in the order of their creation
abbrev pub keys_of : Lists → Object → List PropKey
keys_of l object =
    map Index (with_indices_below (code_units l object.kind) (indices_in object.properties))
    ++ filter is_name (keys_in object.properties)
    ++ filter is_symbol (keys_in object.properties)

unfoldable pub own_keys : Lists → ObjectId → List PropKey
own_keys l o = keys_of l (object_at l.objects o)
