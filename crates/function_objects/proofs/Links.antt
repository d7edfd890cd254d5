-- The links from Proxies to their targets.
use Rattle.std.proofs.Common.{◌≡◌, ◌<◌, ◌≤◌, ℕ, zero, suc, Option, Some, None, length, refl, ap, ◌∙◌, arith}
use Rattle.std.specs.Prelude.{Bool}
use Rattle.property_keys.specs.declared.identifiers.ObjectId.{ObjectId}
use Rattle.es_tree.specs.Tree.{Tree}
use Rattle.es_model.specs.declared.kinds.ObjectKind.{ObjectKind}
use Rattle.es_model.specs.declared.kinds.ObjectKind.TheVariants as kind_of
use Rattle.es_model.specs.Known.{IsObject}
use Rattle.es_model.specs.Sound.{IsRightKind, IsSound}
use Rattle.es_model.specs.World.{Lists, World, kind}
use Rattle.function_objects.specs.Constructing.{has_realm, has_realm_within, proxy_target, realm_behind}

-- one link further
pub realm_at : (l : Lists) (left less : ℕ) (o : ObjectId) (t : Option (Option ObjectId)) → left ≡ suc less → proxy_target (kind l o) ≡ t → has_realm_within left l o ≡ realm_behind t (has_realm_within less l)
realm_at l left less o t e is = ap (λ n. has_realm_within n l o) e ∙ ap (λ x. realm_behind x (has_realm_within less l)) is

-- a target is older than its Proxy
behind-same : (script : Tree) (l : Lists) (o : ObjectId) (k : ObjectKind) (f g : ObjectId → Bool) → IsRightKind script l o k → ((p : ObjectId) → p.0 < o.0 → f p ≡ g p) →
    realm_behind (proxy_target k) f ≡ realm_behind (proxy_target k) g
behind-same script l o kind_of.Ordinary f g right h = refl
behind-same script l o (kind_of.Function function constructor strict) f g right h = refl
behind-same script l o (kind_of.Builtin row constructor proxy) f g right h = refl
behind-same script l o kind_of.Array f g right h = refl
behind-same script l o (kind_of.Text t) f g right h = refl
behind-same script l o (kind_of.Wrapper v) f g right h = refl
behind-same script l o (kind_of.Arguments cells) f g right h = refl
behind-same script l o kind_of.Error f g right h = refl
behind-same script l o (kind_of.Proxy None handler callable constructor) f g right h = refl
behind-same script l o (kind_of.Proxy (Some p) handler callable constructor) f g right h = h p right

links-same : (w : World) → IsSound w → (j k : ℕ) (o : ObjectId) → IsObject w.lists o → o.0 < j → o.0 < k → has_realm_within j w.lists o ≡ has_realm_within k w.lists o
links-same w s zero k o there a b = absurd (omega arith)
links-same w s (suc j) zero o there a b = absurd (omega arith)
links-same w s (suc j) (suc k) o there a b =
    behind-same w.script w.lists o (kind w.lists o) (has_realm_within j w.lists) (has_realm_within k w.lists) (s.kinds o there)
    (λ p older. links-same w s j k p (omega arith) (omega arith) (omega arith))

pub links-suffice : (w : World) (o : ObjectId) (more : ℕ) → IsSound w → IsObject w.lists o → length w.lists.objects ≤ more → has_realm_within more w.lists o ≡ has_realm w.lists o
links-suffice w o more s there enough = links-same w s more (length w.lists.objects) o there (omega arith) there
