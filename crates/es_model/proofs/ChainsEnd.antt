-- In a sound world a chain of prototypes is no longer than there are objects.
use Rattle.std.proofs.Common.{◌≡◌, ◌≢◌, ℕ, zero, suc, ◌<◌, ◌||◌, Bool, true, false, cond, Option, Some, None, List, [], ◌∷◌, length, refl, sym, ap, arith, eqb, true≢false}
use Rattle.std.specs.List.{AllByRecursion, IsDistinct, list_any}
use Rattle.std.proofs.lemmas.Bool.{eqb-true, ne_eqb}
use Rattle.std.proofs.lemmas.Map.Steps.{length-le_from_distinct_below}
use Rattle.property_keys.specs.declared.identifiers.ObjectId.{ObjectId}
use Rattle.es_model.specs.Objects.{is_proxy}
use Rattle.es_model.specs.World.{Lists, World, proto, kind}
use Rattle.es_model.specs.Known.{IsObject, IfThere}
use Rattle.es_model.specs.Sound.{link, NeverReturns, IsSound}
use Rattle.es_model.proofs.Cycles.{none-some, some-same, up_from, IsFree}
use Rattle.es_model.proofs.SoundReads.{proto-known}

-- the places of so many objects of a chain
abbrev chain : Lists → ℕ → Option ObjectId → List ℕ
chain l zero p = []
chain l (suc n) None = []
chain l (suc n) (Some a) = a.0 ∷ chain l n (link l a)

AreLinked : Lists → Type 0
AreLinked l = (a : ObjectId) → IsObject l a → IfThere (IsObject l) (link l a)

chain-long : (l : Lists) (n : ℕ) (p : Option ObjectId) (b : ObjectId) → up_from l n p ≡ Some b → length (chain l (suc n) p) ≡ suc n
chain-long l n None b e = absurd (none-some b e)
chain-long l zero (Some a) b e = refl
chain-long l (suc n) (Some a) b e = ap suc (chain-long l n (link l a) b e)

chain-apart : (l : Lists) (o : ObjectId) (n : ℕ) (p : Option ObjectId) → IsFree l o p → AllByRecursion (λ (y : ℕ). eqb o.0 y ≡ false) (chain l n p)
chain-apart l o zero p free = tt
chain-apart l o (suc n) None free = tt
chain-apart l o (suc n) (Some a) free = (ne_eqb o.0 a.0 (λ e. free 0 (some-same a o (sym e))), chain-apart l o n (link l a) (λ k. free (suc k)))

chain-distinct : (l : Lists) → NeverReturns l → AreLinked l → (n : ℕ) (p : Option ObjectId) → IfThere (IsObject l) p → IsDistinct eqb (chain l n p)
unfolding IsDistinct AreLinked
chain-distinct l never linked zero p there = tt
chain-distinct l never linked (suc n) None there = tt
chain-distinct l never linked (suc n) (Some a) there = (chain-apart l a n (link l a) (λ k. never a k there), chain-distinct l never linked n (link l a) (linked a there))

chain-below : (l : Lists) → AreLinked l → (n : ℕ) (p : Option ObjectId) → IfThere (IsObject l) p → AllByRecursion (λ (y : ℕ). y < length l.objects) (chain l n p)
unfolding AreLinked
chain-below l linked zero p there = tt
chain-below l linked (suc n) None there = tt
chain-below l linked (suc n) (Some a) there = (there, chain-below l linked n (link l a) (linked a there))

any-below : (n q : ℕ) (xs : List ℕ) → AllByRecursion (λ (y : ℕ). y < n) xs → list_any (eqb q) xs ≡ true → q < n
any-below n q [] h e = absurd (true≢false (sym e))
any-below n q (x ∷ xs) h e = any-test n q x (list_any (eqb q) xs) h.0 (any-below n q xs h.1) (eqb q x) refl e
  where
    any-test : (n q x : ℕ) (rest : Bool) → x < n → (rest ≡ true → q < n) → (b : Bool) → eqb q x ≡ b → (b || rest) ≡ true → q < n
    any-test n q x rest below later true same e = let s = eqb-true q x same in omega arith
    any-test n q x rest below later false same e = later e

too-long : (l : Lists) → NeverReturns l → AreLinked l → (p : Option ObjectId) → IfThere (IsObject l) p → (b : ObjectId) → up_from l (length l.objects) p ≡ Some b → ⊥
too-long l never linked p there b e =
    let many = chain-long l (length l.objects) p b e in
    let few = length-le_from_distinct_below (chain l (suc (length l.objects)) p) (length l.objects) (chain-distinct l never linked (suc (length l.objects)) p there) (λ q. any-below (length l.objects) q (chain l (suc (length l.objects)) p) (chain-below l linked (suc (length l.objects)) p there)) in
    omega arith

is-none : (p : Option ObjectId) → ((b : ObjectId) → p ≢ Some b) → p ≡ None
is-none None h = refl
is-none (Some b) h = absurd (h b refl)

linked-cond : (l : Lists) (b : Bool) (p : Option ObjectId) → IfThere (IsObject l) p → IfThere (IsObject l) (cond b None p)
linked-cond l true p h = tt
linked-cond l false p h = h

sound-linked : (w : World) → IsSound w → AreLinked w.lists
unfolding AreLinked
sound-linked w s a there = linked-cond w.lists (is_proxy (kind w.lists a)) (proto w.lists a) (proto-known w a s there)

-- as many links up as there are objects, from an object or from null: there is nothing more
pub chains-end : (w : World) (p : Option ObjectId) → IsSound w → IfThere (IsObject w.lists) p → up_from w.lists (length w.lists.objects) p ≡ None
chains-end w p s there = is-none (up_from w.lists (length w.lists.objects) p) (too-long w.lists s.intact.chains (sound-linked w s) p there)
