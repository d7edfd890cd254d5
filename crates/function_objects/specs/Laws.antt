-- The links of GetFunctionRealm (ECMA-262, 7.3.25) are enough in a sound world: with more of them it gives the same.
use Rattle.std.specs.Prelude.{◌≡◌, ◌≤◌, ℕ, length}
use Rattle.property_keys.specs.declared.identifiers.ObjectId.{ObjectId}
use Rattle.es_model.specs.Known.{IsObject}
use Rattle.es_model.specs.Sound.{IsSound}
use Rattle.es_model.specs.World.{World}
use Rattle.function_objects.specs.Constructing.{has_realm, has_realm_within}

abbrev pub LinksSuffice : Type 0
LinksSuffice =
    (w : World) (o : ObjectId) (more : ℕ) → IsSound w → IsObject w.lists o → length w.lists.objects ≤ more →
    has_realm_within more w.lists o ≡ has_realm w.lists o
