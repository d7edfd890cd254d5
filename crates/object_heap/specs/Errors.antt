-- What it is to make an error object: the changes of `make_error` of the model, in their order.
use Rattle.std.specs.Prelude.{codes}
use Rattle.property_keys.specs.declared.identifiers.ObjectId.{ObjectId}
use Rattle.property_keys.specs.declared.identifiers.TextId.{TextId}
use Rattle.property_keys.specs.declared.keys.PropKey.TheVariants.{Name}
use Rattle.property_keys.specs.declared.values.Value.TheVariants as value
use Rattle.es_model.specs.declared.kinds.ErrorKind.{ErrorKind}
use Rattle.es_model.specs.declared.kinds.ObjectKind.TheVariants as kind_of
use Rattle.es_model.specs.Events.{OfError}
use Rattle.es_model.specs.World.{World, new_object, number_of}
use Rattle.es_model.specs.Changes.{Defining, Interning, Making, changed}
use Rattle.es_model.specs.programs.Errors.{error_proto, hidden}

-- the name of the message has a number
abbrev pub name_known : World → World
name_known w = changed (Interning (codes "message")) w

-- the number of the new object
abbrev pub error_number : World → ObjectId
error_number w = new_object (name_known w).lists

abbrev pub error_put : World → ErrorKind → World
error_put w kind = changed (Making kind_of.Error OfError (error_proto kind)) (name_known w)

abbrev pub error_made : World → ErrorKind → TextId → World
error_made w kind text =
    changed (Defining (error_number w) (Name (number_of w.lists (codes "message"))) (hidden (value.Text text))) (error_put w kind)
