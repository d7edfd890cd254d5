-- Keys are equal exactly where their texts are, and a table that grows keeps them.
use Rattle.std.proofs.Common.{◌≡◌, ◌∙◌, ◌<◌, ◌≤◌, ℕ, List, Option, Some, None, length, refl, sym, ap, arith}
use Rattle.std.proofs.lemmas.Fmt.{decimal_injective}
use Rattle.std.proofs.lemmas.Option.{none-some}
use Rattle.std.specs.Fmt.{decimal}
use Rattle.std.specs.Option.{option_map_or}
use Rattle.property_keys.proofs.ArrayIndices.{array_index_of-Some, array_index_of-decimal}
use Rattle.property_keys.proofs.Tables.{length-interned-ge, text_at-interned}
use Rattle.property_keys.specs.declared.identifiers.TextId.{TextId}
use Rattle.property_keys.specs.declared.keys.PropKey.{PropKey}
use Rattle.property_keys.specs.declared.keys.PropKey.TheVariants.{Index, Name, Sym}
use Rattle.property_keys.specs.Keys.{IsGoodKey, IsTextKey, array_index_of, key_of, most_index, text_of_key}
use Rattle.property_keys.specs.Texts.{HasOneEach, interned, text_at}

-- an index and a name never stand for one text
apart : (table : List (List ℕ)) (index : ℕ) (id : TextId) → index ≤ most_index → array_index_of (text_at table id.0) ≡ None
    → decimal index ≡ text_at table id.0 → ⊥
apart table index id small none e = none-some index (sym none ∙ ap array_index_of (sym e) ∙ array_index_of-decimal index small)

-- good keys with one text are one key
pub same_key : (table : List (List ℕ)) → HasOneEach table → (j k : PropKey) → IsTextKey table j → IsTextKey table k
    → IsGoodKey table j → IsGoodKey table k → text_of_key table j ≡ text_of_key table k → j ≡ k
same_key table one (Index i) (Index j) a b good_a good_b e = ap (λ n. Index n) (decimal_injective i j (omega (arith, a)) (omega (arith, b)) e)
same_key table one (Index i) (Name id) a b good_a good_b e = absurd (apart table i id good_a good_b.1 e)
same_key table one (Name id) (Index j) a b good_a good_b e = absurd (apart table j id good_b good_a.1 (sym e))
same_key table one (Name i) (Name j) a b good_a good_b e = ap (λ (n : ℕ). Name (record { 0 = n })) (one i.0 j.0 a b e)
same_key table one (Sym s) k a b good_a good_b e = absurd a
same_key table one (Index i) (Sym s) a b good_a good_b e = absurd b
same_key table one (Name i) (Sym s) a b good_a good_b e = absurd b

good_of : (table : List (List ℕ)) (id : TextId) → id.0 < length table → (index : Option ℕ) → array_index_of (text_at table id.0) ≡ index
    → IsGoodKey table (option_map_or Index index (Name id))
good_of table id known None e = (known, e)
good_of table id known (Some n) e = (array_index_of-Some (text_at table id.0) n e).0

-- the key of a known text is good
pub IsGoodKey-key_of : (table : List (List ℕ)) (id : TextId) → id.0 < length table → IsGoodKey table (key_of (text_at table id.0) id)
IsGoodKey-key_of table id known = good_of table id known (array_index_of (text_at table id.0)) refl

-- a table that grows keeps good keys and their texts
pub IsGoodKey-interned : (table : List (List ℕ)) (text : List ℕ) (key : PropKey) → IsGoodKey table key → IsGoodKey (interned table text) key
IsGoodKey-interned table text (Index index) good = good
IsGoodKey-interned table text (Name id) good =
    (omega (arith, good.0, length-interned-ge table text), ap array_index_of (text_at-interned table text id.0 good.0) ∙ good.1)
IsGoodKey-interned table text (Sym symbol) good = tt

pub IsTextKey-interned : (table : List (List ℕ)) (text : List ℕ) (key : PropKey) → IsTextKey table key → IsTextKey (interned table text) key
IsTextKey-interned table text (Index index) known = known
IsTextKey-interned table text (Name id) known = omega (arith, known, length-interned-ge table text)
IsTextKey-interned table text (Sym symbol) known = known

pub text_of_key-interned : (table : List (List ℕ)) (text : List ℕ) (key : PropKey) → IsTextKey table key
    → text_of_key (interned table text) key ≡ text_of_key table key
text_of_key-interned table text (Index index) known = refl
text_of_key-interned table text (Name id) known = text_at-interned table text id.0 known
text_of_key-interned table text (Sym symbol) known = refl
