-- The own keys of what is seen of an object, and the parts of them (ECMA-262, 10.1.11.1, 10.4.3.3).
use Rattle.std.specs.Prelude.{ℕ, List, ◌++◌, length, map, filter}
use Rattle.std.specs.FinMap as map_of
use Rattle.property_keys.specs.declared.keys.PropKey.{PropKey}
use Rattle.property_keys.specs.declared.keys.PropKey.TheVariants.{Index}
use Rattle.property_keys.specs.Texts.{text_at}
use Rattle.es_model.specs.declared.kinds.ObjectKind.{ObjectKind}
use Rattle.es_model.specs.declared.kinds.ObjectKind.TheVariants as kind_of
use Rattle.es_model.specs.declared.owned.OwnProperty.{OwnProperty}
use Rattle.es_model.specs.OwnKeys.{with_indices_below, indices_in, is_name, is_symbol, keys_in}
use Rattle.object_heap.specs.Seen.{Seen}

-- how many code units are own properties beside the list
abbrev pub units_in : List (List ℕ) → ObjectKind → ℕ
units_in texts (kind_of.Text t) = length (text_at texts t.0)
units_in texts other = 0

-- the own keys of a list of properties, where so many code units come before
abbrev pub listed_keys : ℕ → List OwnProperty → List PropKey
listed_keys count ps = map Index (with_indices_below count (indices_in ps)) ++ filter is_name (keys_in ps) ++ filter is_symbol (keys_in ps)

-- the own keys of what is seen
abbrev pub seen_keys : ℕ → Seen → List PropKey
seen_keys count s =
    map Index (with_indices_below count (map_of.keys s.indexed)) ++ filter is_name (keys_in s.named) ++ filter is_symbol (keys_in s.named)
