-- A new prototype from which no link leads back to its object leaves no chain that comes back.
use Rattle.std.proofs.Common.{◌≡◌, ◌≢◌, ℕ, zero, suc, ◌+◌, ◌-◌, ◌<◌, Bool, true, false, Option, Some, None, refl, sym, ap, ◌∙◌, arith, nat_eq, is_some, option_and_then, true≢false, ◌⊎◌, inl, inr}
use Rattle.std.proofs.lemmas.Bool.{eqb-true, eqb-false}
use Rattle.property_keys.specs.declared.identifiers.ObjectId.{ObjectId}
use Rattle.es_model.specs.World.{Lists}
use Rattle.es_model.specs.Known.{IsObject}
use Rattle.es_model.specs.Sound.{link, up, NeverReturns}

abbrev place_of : Option ObjectId → ℕ
place_of None = 0
place_of (Some o) = o.0

pub none-some : (o : ObjectId) → None ≢ Some o
none-some o e = true≢false (sym (ap is_some e))

pub some-place : (a b : ObjectId) → Some a ≡ Some b → a.0 ≡ b.0
some-place a b e = ap place_of e

pub some-same : (a b : ObjectId) → a.0 ≡ b.0 → Some a ≡ Some b
some-same a b e = let f : ℕ → Option ObjectId = λ n. Some (record { 0 = n }) in ap f e

-- so many links up, from an object or from null
abbrev pub up_from : Lists → ℕ → Option ObjectId → Option ObjectId
up_from l n p = option_and_then (up l n) p

-- no link leads from here to the object
abbrev pub IsFree : Lists → ObjectId → Option ObjectId → Type 0
IsFree l o p = (n : ℕ) → up_from l n p ≢ Some o

pub free-none : (l : Lists) (o : ObjectId) → IsFree l o None
free-none l o n = none-some o

pub free-step : (l : Lists) (o a : ObjectId) → a.0 ≢ o.0 → IsFree l o (link l a) → IsFree l o (Some a)
free-step l o a other h zero e = other (some-place a o e)
free-step l o a other h (suc n) e = h n e

free-other : (l : Lists) (o a : ObjectId) → IsFree l o (Some a) → a.0 ≢ o.0
free-other l o a h e = h 0 (some-same a o e)

-- the link of one object is another
pub record IsRelinked (l m : Lists) (o : ObjectId) (v : Option ObjectId) : Type 0 where
  pub there : (a : ObjectId) → IsObject m a → IsObject l a
  pub here : (a : ObjectId) → a.0 ≡ o.0 → link m a ≡ v
  pub others : (a : ObjectId) → a.0 ≢ o.0 → link m a ≡ link l a

-- where the object is not met, the links are the old ones
free-up : (l m : Lists) (o : ObjectId) (v p : Option ObjectId) → IsRelinked l m o v → (n : ℕ) → IsFree l o p → up_from m n p ≡ up_from l n p
free-up l m o v None r n h = refl
free-up l m o v (Some a) r zero h = refl
free-up l m o v (Some a) r (suc n) h =
    ap (up_from m n) (r.others a (free-other l o a h)) ∙ free-up l m o v (link l a) r n (λ k. h (suc k))

up-add : (l : Lists) (j k : ℕ) (p : Option ObjectId) → up_from l k (up_from l j p) ≡ up_from l (j + k) p
up-add l j k None = refl
up-add l zero k (Some a) = let e : k ≡ 0 + k = omega arith in ap (λ n. up l n a) e
up-add l (suc j) k (Some a) = let e : suc (j + k) ≡ suc j + k = omega arith in up-add l j k (link l a) ∙ ap (λ n. up l n a) e

-- so many links up are old ones, or come to the object
abbrev Meets : Lists → ObjectId → ℕ → Option ObjectId → Type 0
Meets m o n p = (j : ℕ) × (j < n) × (up_from m j p ≡ Some o)

meet-on : (l m : Lists) (o a : ObjectId) (n : ℕ) (p : Option ObjectId) → link m a ≡ p → link l a ≡ p → (up_from m n p ≡ up_from l n p) ⊎ Meets m o n p → (up m (suc n) a ≡ up l (suc n) a) ⊎ Meets m o (suc n) (Some a)
meet-on l m o a n p e f (inl same) = inl (ap (up_from m n) e ∙ same ∙ sym (ap (up_from l n) f))
meet-on l m o a n p e f (inr (j, less, met)) = inr (suc j, omega arith, ap (up_from m j) e ∙ met)

meet-step : (l m : Lists) (o : ObjectId) (v : Option ObjectId) (a : ObjectId) → IsRelinked l m o v → (n : ℕ) (b : Bool) → nat_eq a.0 o.0 ≡ b → (up_from m n (link l a) ≡ up_from l n (link l a)) ⊎ Meets m o n (link l a) →
    (up m (suc n) a ≡ up l (suc n) a) ⊎ Meets m o (suc n) (Some a)
meet-step l m o v a r n true e h = inr (0, omega arith, some-same a o (eqb-true a.0 o.0 e))
meet-step l m o v a r n false e h = meet-on l m o a n (link l a) (r.others a (eqb-false a.0 o.0 e)) refl h

old-or_met : (l m : Lists) (o : ObjectId) (v p : Option ObjectId) → IsRelinked l m o v → (n : ℕ) → (up_from m n p ≡ up_from l n p) ⊎ Meets m o n p
old-or_met l m o v None r n = inl refl
old-or_met l m o v (Some a) r zero = inl refl
old-or_met l m o v (Some a) r (suc n) = meet-step l m o v a r n (nat_eq a.0 o.0) refl (old-or_met l m o v (link l a) r n)

-- a chain that comes back and meets the object comes back from the new prototype, from which the object is not met
never-met : (l m : Lists) (o : ObjectId) (v : Option ObjectId) → IsRelinked l m o v → IsFree l o v → (a : ObjectId) (n : ℕ) → up m (suc n) a ≡ Some a → Meets m o (suc n) (Some a) → ⊥
never-met l m o v r free a n back (j, less, met) = free-a j (sym (free-up l m o v (Some a) r j free-a) ∙ met)
  where
    rest : ℕ
    rest = n - j

    whole : j + suc rest ≡ suc n
    whole = omega arith

    from_o : up m (suc rest) o ≡ Some a
    from_o = sym (ap (up_from m (suc rest)) met) ∙ up-add m j (suc rest) (Some a) ∙ ap (λ k. up m k a) whole ∙ back

    from_v : up_from m rest v ≡ Some a
    from_v = sym (ap (up_from m rest) (r.here o refl)) ∙ from_o

    old_v : up_from l rest v ≡ Some a
    old_v = sym (free-up l m o v v r rest free) ∙ from_v

    free-a : IsFree l o (Some a)
    free-a k e = free (rest + k) (sym (up-add l rest k v) ∙ ap (up_from l k) old_v ∙ e)

pub never_returns-relinked : (l m : Lists) (o : ObjectId) (v : Option ObjectId) → IsRelinked l m o v → IsFree l o v → NeverReturns l → NeverReturns m
never_returns-relinked l m o v r free never a n there back = go (old-or_met l m o v (Some a) r (suc n))
  where
    go : (up m (suc n) a ≡ up l (suc n) a) ⊎ Meets m o (suc n) (Some a) → ⊥
    go (inl same) = never a n (r.there a there) (sym same ∙ back)
    go (inr met) = never-met l m o v r free a n back met
