-- Whose requests go to the ordinary methods.
use Rattle.std.specs.Prelude.{◌≡◌, ◌&&◌, not, Bool, true, false}
use Rattle.property_keys.specs.declared.identifiers.ObjectId.{ObjectId}
use Rattle.es_model.specs.declared.kinds.ObjectKind.{ObjectKind}
use Rattle.es_model.specs.declared.kinds.ObjectKind.TheVariants as kind_of
use Rattle.es_model.specs.declared.requests.Request.{Request}
use Rattle.es_model.specs.declared.requests.Request.TheVariants.{Define}
use Rattle.es_model.specs.Fits.{object_in}
use Rattle.es_model.specs.Known.{IfThere}
use Rattle.es_model.specs.Objects.{is_array}
use Rattle.es_model.specs.World.{Lists, kind}

-- Objects of these kinds have the ordinary methods, String objects until there is a crate of their own.
abbrev pub is_ordinary : ObjectKind → Bool
is_ordinary (kind_of.Arguments cells) = false
is_ordinary (kind_of.Proxy target handler callable constructor) = false
is_ordinary other = true

-- an Array object has a [[DefineOwnProperty]] of its own (10.4.2.1), and the other methods are the ordinary ones
abbrev pub has_ordinary_method : ObjectKind → Request → Bool
has_ordinary_method k (Define o key wanted) = is_ordinary k && not (is_array k)
has_ordinary_method k other = is_ordinary k

-- a request whose object, if it has one, has the ordinary method
abbrev pub IsForOrdinary : Lists → Request → Type 0
IsForOrdinary l q = IfThere (λ (o : ObjectId). has_ordinary_method (kind l o) q ≡ true) (object_in q)
