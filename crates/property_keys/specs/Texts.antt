-- The table of texts: a list in which a text's place is its number.
use Rattle.std.specs.Prelude.{◌≡◌, ◌≢◌, ◌<◌, ◌≤◌, ◌++◌, ◌∷◌, [], ℕ, List, Ok, Err, Result, length, slice_index_or, if◌then◌else◌}
use Rattle.std.specs.List.{list_any}
use Rattle.std.specs.Str.{bytes_eq}
use Rattle.property_keys.specs.declared.identifiers.TextId.{TextId}

-- the text of a number; the numbers below the table's length are the known ones
abbrev pub text_at : List (List ℕ) → ℕ → List ℕ
text_at table id = slice_index_or table id []

-- the table once a text has a number: it stays where the text is known, and else the text goes last
abbrev pub interned : List (List ℕ) → List ℕ → List (List ℕ)
interned table text = if list_any (bytes_eq text) table then table else table ++ text ∷ []

-- the text has this number in the new table, in which every number of the old one is known still
pub record HasNumber (old new : List (List ℕ)) (text : List ℕ) (id : ℕ) : Type 0 where
  pub table : new ≡ interned old text
  pub names : text_at new id ≡ text
  pub known : id < length new
  pub kept : length old ≤ length new

-- a call gave the number of the text, new or known; after an error the table is as before
abbrev pub Interns : {E : Type 0} → List (List ℕ) → List (List ℕ) → List ℕ → Result TextId E → Type 0
Interns old new text (Ok id) = HasNumber old new text id.0
Interns old new text (Err fault) = new ≡ old

-- a number of the table has the text
pub record IsNumberOf (table : List (List ℕ)) (text : List ℕ) (id : ℕ) : Type 0 where
  pub known : id < length table
  pub names : text_at table id ≡ text

-- no number has the text
abbrev pub IsUnknown : List (List ℕ) → List ℕ → Type 0
IsUnknown table text = (id : ℕ) → id < length table → text_at table id ≢ text

-- equal texts have one number
abbrev pub HasOneEach : List (List ℕ) → Type 0
HasOneEach table = (i j : ℕ) → i < length table → j < length table → text_at table i ≡ text_at table j → i ≡ j
