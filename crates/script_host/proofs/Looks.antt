-- Lemmas on plain looks.
use Rattle.std.proofs.Common.{◌≡◌, ◌+◌, ◌∙◌, ℕ, true, false, cond, Option, Some, None, suc, length, refl, sym, ap, arith}
use Rattle.property_keys.specs.declared.identifiers.ObjectId.{ObjectId}
use Rattle.property_keys.specs.declared.keys.PropKey.{PropKey}
use Rattle.property_keys.specs.declared.values.Value.{Value}
use Rattle.descriptors.specs.declared.property.Complete.{Complete}
use Rattle.es_model.specs.Events.{Walk, AtNull, AtProperty, AtProxy}
use Rattle.es_model.specs.Objects.{is_proxy}
use Rattle.es_model.specs.World.{Lists, kind, own, proto, walk_at, walk_on, walk_within}
use Rattle.script_host.specs.Uncaught.{found_text, look_at, text_stored}

-- what is found by a walk of so many links at most
abbrev pub looked : ℕ → Lists → PropKey → ObjectId → Option Value
looked n l key o = found_text (walk_within n l key o).ending

-- at an object that is no Proxy
at-object : (n : ℕ) (l : Lists) (key : PropKey) (o : ObjectId) → is_proxy (kind l o) ≡ false → looked (suc n) l key o ≡ found_text (walk_at (own l o key) (proto l o) (walk_within n l key)).ending
at-object n l key o plain = rw plain refl

pub at_proxy : (n m : ℕ) (l : Lists) (key : PropKey) (o : ObjectId) → n ≡ m + 1 → is_proxy (kind l o) ≡ true → looked n l key o ≡ None
at_proxy n m l key o one proxy = ap (λ k. looked k l key o) (one ∙ (let next : m + 1 ≡ suc m = omega arith in next)) ∙ (rw proxy refl)

pub at_property : (n m : ℕ) (l : Lists) (key : PropKey) (o : ObjectId) (c : Complete) → n ≡ m + 1 → is_proxy (kind l o) ≡ false → own l o key ≡ Some c → looked n l key o ≡ text_stored c
at_property n m l key o c one plain is =
    ap (λ k. looked k l key o) (one ∙ (let next : m + 1 ≡ suc m = omega arith in next)) ∙ at-object m l key o plain
    ∙ ap (λ x. found_text (walk_at x (proto l o) (walk_within m l key)).ending) is

pub at_null : (n m : ℕ) (l : Lists) (key : PropKey) (o : ObjectId) → n ≡ m + 1 → is_proxy (kind l o) ≡ false → own l o key ≡ None → proto l o ≡ None → looked n l key o ≡ None
at_null n m l key o one plain absent none =
    ap (λ k. looked k l key o) (one ∙ (let next : m + 1 ≡ suc m = omega arith in next)) ∙ at-object m l key o plain
    ∙ ap (λ x. found_text (walk_at x (proto l o) (walk_within m l key)).ending) absent ∙ ap (λ x. found_text (walk_on x (walk_within m l key)).ending) none

pub at_link : (n m : ℕ) (l : Lists) (key : PropKey) (o up : ObjectId) → n ≡ m + 1 → is_proxy (kind l o) ≡ false → own l o key ≡ None → proto l o ≡ Some up → looked n l key o ≡ looked m l key up
at_link n m l key o up one plain absent there =
    ap (λ k. looked k l key o) (one ∙ (let next : m + 1 ≡ suc m = omega arith in next)) ∙ at-object m l key o plain
    ∙ ap (λ x. found_text (walk_at x (proto l o) (walk_within m l key)).ending) absent ∙ ap (λ x. found_text (walk_on x (walk_within m l key)).ending) there

-- a walk may have one link more than there are objects
pub look_starts : (left count : ℕ) (l : Lists) (key : PropKey) (o : ObjectId) → left ≡ count + 1 → count ≡ length l.objects → looked left l key o ≡ look_at l o key
look_starts left count l key o one all = ap (λ n. looked n l key o) (one ∙ (let next : count + 1 ≡ suc (length l.objects) = omega arith in next))

pub at_end : (left : ℕ) (l : Lists) (key : PropKey) (o : ObjectId) → left ≡ 0 → looked left l key o ≡ None
at_end left l key o none = ap (λ n. looked n l key o) none
