-- SameValue is equality.
use Rattle.std.proofs.Common.{◌≡◌, ℕ, true, refl, ap}
use Rattle.std.specs.Bool.{Decides}
use Rattle.std.specs.Cmp.{booleans_Decides, unsigned_Decides}
use Rattle.std.proofs.lemmas.Bool.Decides.{Decides-int_eq}
use Rattle.property_keys.specs.declared.values.Value.{Value}
use Rattle.property_keys.specs.declared.values.Value.TheVariants as value
use Rattle.property_keys.specs.Values.{same_value}

pub equal_from_same : (a b : Value) → same_value a b ≡ true → a ≡ b
equal_from_same value.Undefined value.Undefined e = refl
equal_from_same value.Null value.Null e = refl
equal_from_same (value.Bool a) (value.Bool b) e = ap value.Bool ((booleans_Decides a b).0 e)
equal_from_same (value.Whole a) (value.Whole b) e = ap value.Whole ((Decides-int_eq a b).0 e)
equal_from_same (value.Text a) (value.Text b) e =
    ap (λ (n : ℕ). value.Text (record { 0 = n })) ((unsigned_Decides a.0 b.0).0 e)
equal_from_same (value.Symbol a) (value.Symbol b) e =
    ap (λ (n : ℕ). value.Symbol (record { 0 = n })) ((unsigned_Decides a.0 b.0).0 e)
equal_from_same (value.Object a) (value.Object b) e =
    ap (λ (n : ℕ). value.Object (record { 0 = n })) ((unsigned_Decides a.0 b.0).0 e)
equal_from_same a b e = cc

pub same_itself : (a : Value) → same_value a a ≡ true
same_itself value.Undefined = refl
same_itself value.Null = refl
same_itself (value.Bool a) = (booleans_Decides a a).1 refl
same_itself (value.Whole a) = (Decides-int_eq a a).1 refl
same_itself (value.Text a) = (unsigned_Decides a.0 a.0).1 refl
same_itself (value.Symbol a) = (unsigned_Decides a.0 a.0).1 refl
same_itself (value.Object a) = (unsigned_Decides a.0 a.0).1 refl

pub Decides-same_value : (a b : Value) → Decides (same_value a b) (a ≡ b)
Decides-same_value a b = (equal_from_same a b, λ e. rw (← e) (same_itself a))
