-- Whose requests go to the methods of arguments objects.
use Rattle.std.specs.Prelude.{◌≡◌, Bool, true, false}
use Rattle.property_keys.specs.declared.identifiers.ObjectId.{ObjectId}
use Rattle.es_model.specs.declared.kinds.ObjectKind.{ObjectKind}
use Rattle.es_model.specs.declared.kinds.ObjectKind.TheVariants as kind_of
use Rattle.es_model.specs.declared.requests.Request.{Request}
use Rattle.es_model.specs.Fits.{object_in}
use Rattle.es_model.specs.Known.{IfThere}
use Rattle.es_model.specs.World.{Lists, kind}

-- an arguments object, mapped or unmapped
abbrev pub is_arguments : ObjectKind → Bool
is_arguments (kind_of.Arguments cells) = true
is_arguments other = false

-- a request whose object, if it has one, is an arguments object
abbrev pub IsForArguments : Lists → Request → Type 0
IsForArguments l q = IfThere (λ (o : ObjectId). is_arguments (kind l o) ≡ true) (object_in q)
