-- Indices that are put in their places ascend.
use Rattle.std.proofs.Common.{◌≡◌, ℕ, zero, suc, true, List, [], ◌∷◌, refl, arith}
use Rattle.std.proofs.lemmas.Bool.Decides.{nat_tests}
use Rattle.property_keys.specs.declared.keys.PropKey.{PropKey}
use Rattle.property_keys.specs.declared.keys.PropKey.TheVariants.{Index, Name, Sym}
use Rattle.es_model.specs.declared.owned.OwnProperty.{OwnProperty}
use Rattle.es_model.specs.OwnKeys.{put_index, put_key, indices_in, with_indices_below}
use Rattle.object_heap.specs.Laws.{is_ascending}

put-ascends : (i : ℕ) (is : List ℕ) → is_ascending is ≡ true → is_ascending (put_index i is) ≡ true
put-ascends i [] h = refl
put-ascends i (j ∷ []) h = grind (arith, nat_tests)
put-ascends i (j ∷ k ∷ is) h = grind (arith, nat_tests, put-ascends i (k ∷ is))

key-ascends : (k : PropKey) (is : List ℕ) → is_ascending is ≡ true → is_ascending (put_key k is) ≡ true
key-ascends (Index i) is h = put-ascends i is h
key-ascends (Name t) is h = h
key-ascends (Sym s) is h = h

pub indices-ascend : (ps : List OwnProperty) → is_ascending (indices_in ps) ≡ true
indices-ascend [] = refl
indices-ascend (p ∷ ps) = key-ascends p.key (indices_in ps) (indices-ascend ps)

pub below-ascends : (count : ℕ) (is : List ℕ) → is_ascending is ≡ true → is_ascending (with_indices_below count is) ≡ true
below-ascends zero is h = h
below-ascends (suc n) is h = below-ascends n (put_index n is) (put-ascends n is h)
