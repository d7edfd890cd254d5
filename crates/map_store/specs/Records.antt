-- Maps as they are kept: each is the beginning of an array.
use Rattle.std.specs.Prelude.{ℕ, ◌<◌, ◌≤◌, ◌++◌, ◌∷◌, List, [], length, map, nat_le, if◌then◌else◌, take, slice_index_or, slice_set, None, false}
use Rattle.std.specs.Global.{Vec}
use Rattle.map_store.specs.declared.entries.Entry.{Entry}
use Rattle.map_store.specs.declared.maps.MapRecord.{MapRecord}
use Rattle.map_store.specs.Views.{MapView, MapsView}

abbrev pub lists : List (Vec Entry) → List (List Entry)
lists vs = map (λ (v : Vec Entry). v.items) vs

abbrev pub array_at : List (List Entry) → ℕ → List Entry
array_at ess array = slice_index_or ess array []

abbrev pub with_array : List (List Entry) → ℕ → List Entry → List (List Entry)
with_array ess array es = slice_set ess array es

-- the array that goes on after the first count entries of an array: that array where it has no more, else a new one
abbrev pub next_array : List (List Entry) → ℕ → ℕ → ℕ
next_array ess array count = if nat_le (length (array_at ess array)) count then array else length ess

abbrev pub gone_on : List (List Entry) → ℕ → ℕ → Entry → List (List Entry)
gone_on ess array count e =
    if nat_le (length (array_at ess array)) count then with_array ess array (array_at ess array ++ e ∷ [])
    else ess ++ (take count (array_at ess array) ++ e ∷ []) ∷ []

abbrev pub record_view : List (List Entry) → MapRecord → MapView
record_view ess r = record {
  array = r.array;
  origin = r.origin;
  proto = r.proto;
  live = r.live;
  extensible = r.extensible;
  entries = take r.count (array_at ess r.array);
}

abbrev pub maps_view : List (List Entry) → List MapRecord → MapsView
maps_view ess rows = record { maps = map (record_view ess) rows; lengths = map (λ (es : List Entry). length es) ess }

-- a record names an array that is long enough
abbrev pub IsSoundRecord : List (List Entry) → MapRecord → Type 0
IsSoundRecord ess r = (r.array < length ess) × (r.count ≤ length (array_at ess r.array))

abbrev pub no_record : MapRecord
no_record = record { array = 0; count = 0; origin = record { 0 = 0 }; proto = None; live = false; extensible = false }

pub record AreSound (ess : List (List Entry)) (rows : List MapRecord) : Type 0 where
  pub each : (i : ℕ) → i < length rows → IsSoundRecord ess (slice_index_or rows i no_record)
