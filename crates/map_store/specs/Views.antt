-- Maps as callers see them: each with its list of entries, and of each array how many entries it has.
use Rattle.std.specs.Prelude.{◌≡◌, ℕ, ◌<◌, ◌≤◌, ◌+◌, Bool, true, false, Option, None, List, [], ◌∷◌, ◌++◌, length, nat_le, slice_index_or, slice_set}
use Rattle.property_keys.specs.declared.identifiers.ObjectId.{ObjectId}
use Rattle.property_keys.specs.declared.keys.PropKey.TheVariants.{Index}
use Rattle.map_store.specs.declared.MapId.{MapId}
use Rattle.map_store.specs.declared.OriginId.{OriginId}
use Rattle.map_store.specs.declared.entries.Entry.{Entry}
use Rattle.map_store.specs.declared.entries.Kind.TheVariants.{Stored}
use Rattle.map_store.specs.declared.entries.Representation.TheVariants as representation

pub record MapView : Type 0 where
  pub array : ℕ
  pub origin : OriginId
  pub proto : Option ObjectId
  pub live : Bool
  pub extensible : Bool
  pub entries : List Entry

pub record MapsView : Type 0 where
  pub maps : List MapView
  -- of each array, how many entries it has
  pub lengths : List ℕ

abbrev pub no_maps : MapsView
no_maps = record { maps = []; lengths = [] }

abbrev pub no_map : MapView
no_map = record { array = 0; origin = record { 0 = 0 }; proto = None; live = false; extensible = false; entries = [] }

abbrev pub no_entry : Entry
no_entry = record {
  key = Index 0;
  kind = Stored;
  attributes = record { writable = false; enumerable = false; configurable = false };
  representation = representation.None;
  place = 0;
}

abbrev pub map_at : MapsView → MapId → MapView
map_at ms map = slice_index_or ms.maps map.0 no_map

abbrev pub entry_at : List Entry → ℕ → Entry
entry_at es i = slice_index_or es i no_entry

abbrev pub IsKnown : MapsView → MapId → Type 0
IsKnown ms map = map.0 < length ms.maps

abbrev pub HasEntry : MapsView → MapId → ℕ → Type 0
HasEntry ms map i = i < length (map_at ms map).entries

-- a map owns its end where its array has no more entries than it
abbrev pub owns_end : MapsView → MapView → Bool
owns_end ms m = nat_le (slice_index_or ms.lengths m.array 0) (length m.entries)

-- ---- what the calls make of the maps

abbrev pub root_map : ℕ → OriginId → Option ObjectId → MapView
root_map array origin proto = record { array = array; origin = origin; proto = proto; live = true; extensible = true; entries = [] }

abbrev pub rooted : MapsView → OriginId → Option ObjectId → MapsView
rooted ms origin proto = record { maps = ms.maps ++ root_map (length ms.lengths) origin proto ∷ []; lengths = ms.lengths ++ 0 ∷ [] }

abbrev pub longer : MapView → Entry → ℕ → MapView
longer m e array = record m { array = array; live = true; entries = m.entries ++ e ∷ [] }

-- with an entry more: on the same array, which grows, or on a new one
abbrev pub extended_at : MapsView → MapView → Entry → Bool → MapsView
extended_at ms m e true = record { maps = ms.maps ++ longer m e m.array ∷ []; lengths = slice_set ms.lengths m.array (length m.entries + 1) }
extended_at ms m e false = record { maps = ms.maps ++ longer m e (length ms.lengths) ∷ []; lengths = ms.lengths ++ (length m.entries + 1) ∷ [] }

abbrev pub extended : MapsView → MapId → Entry → MapsView
extended ms map e = extended_at ms (map_at ms map) e (owns_end ms (map_at ms map))

abbrev pub with_entry : MapView → ℕ → Entry → ℕ → MapView
with_entry m i e array = record m { array = array; live = true; entries = slice_set m.entries i e }

abbrev pub replaced : MapsView → MapId → ℕ → Entry → MapsView
replaced ms map i e =
    let m = map_at ms map in record { maps = ms.maps ++ with_entry m i e (length ms.lengths) ∷ []; lengths = ms.lengths ++ length m.entries ∷ [] }

abbrev pub closed_map : MapView → MapView
closed_map m = record m { live = true; extensible = false }

abbrev pub closed_off : MapsView → MapId → MapsView
closed_off ms map = record ms { maps = ms.maps ++ closed_map (map_at ms map) ∷ [] }

abbrev pub dead_map : MapView → MapView
dead_map m = record m { live = false }

abbrev pub marked_dead : MapsView → MapId → MapsView
marked_dead ms map = record ms { maps = slice_set ms.maps map.0 (dead_map (map_at ms map)) }

-- ---- what no call changes

-- the maps that were there have the entries that they had
pub record KeepsEntries (before after : MapsView) : Type 0 where
  pub more : length before.maps ≤ length after.maps
  pub same : (map : MapId) → IsKnown before map → (map_at after map).entries ≡ (map_at before map).entries
