-- The receiver of a call (ECMA-262, 10.2.1.2), with the world after it is bound. ToObject (7.1.18) of what is neither undefined nor null throws nothing.
use Rattle.std.specs.Prelude.{Bool, true, false, pos, codes, length}
use Rattle.property_keys.specs.declared.identifiers.ObjectId.{ObjectId}
use Rattle.property_keys.specs.declared.identifiers.TextId.{TextId}
use Rattle.property_keys.specs.declared.keys.PropKey.TheVariants.{Name}
use Rattle.property_keys.specs.declared.values.Value.{Value}
use Rattle.property_keys.specs.declared.values.Value.TheVariants as value
use Rattle.es_model.specs.declared.intrinsics.Class.{Class}
use Rattle.es_model.specs.declared.intrinsics.Class.TheVariants as class
use Rattle.es_model.specs.declared.intrinsics.Intrinsic.TheVariants as intrinsic
use Rattle.es_model.specs.declared.kinds.ObjectKind.{ObjectKind}
use Rattle.es_model.specs.declared.kinds.ObjectKind.TheVariants as kind_of
use Rattle.es_model.specs.StartObjects.{object_of}
use Rattle.es_model.specs.Events.{OfWrapper}
use Rattle.es_model.specs.World.{World, new_object, number_of, units_of}
use Rattle.es_model.specs.Changes.{Defining, Interning, Making, changed}
use Rattle.es_model.specs.Program.{Program}
use Rattle.es_model.specs.programs.Converting.{fixed, proto_of_class, to_object}

abbrev pub global : ObjectId
global = object_of intrinsic.Global

-- OrdinaryCallBindThis: in code that is not strict the global object for undefined and null, and else the Object of the value
abbrev pub bind_this : (strict : Bool) → Value → (Value → Program) → Program
bind_this true this next = next this
bind_this false value.Undefined next = next (value.Object global)
bind_this false value.Null next = next (value.Object global)
bind_this false this next = to_object this (λ o. next (value.Object o))

-- ---- the world after a receiver is bound, and what is bound

-- a new Boolean, Number, String or Symbol object
abbrev pub wrapper_world : Class → ObjectKind → World → World
wrapper_world c kind w = changed (Making kind OfWrapper (proto_of_class c)) w

-- a new String object, with its `length` (10.4.3.4)
abbrev pub text_object_world : TextId → World → World
text_object_world t w =
    let a : World = wrapper_world class.String (kind_of.Text t) w in
    changed (Defining (new_object w.lists) (Name (number_of a.lists (codes "length"))) (fixed (value.Whole (pos (length (units_of w.lists t))))))
    (changed (Interning (codes "length")) a)

abbrev pub this_world : Value → World → World
this_world value.Undefined w = w
this_world value.Null w = w
this_world (value.Bool b) w = wrapper_world class.Boolean (kind_of.Wrapper (value.Bool b)) w
this_world (value.Whole n) w = wrapper_world class.Number (kind_of.Wrapper (value.Whole n)) w
this_world (value.Text t) w = text_object_world t w
this_world (value.Symbol s) w = wrapper_world class.Symbol (kind_of.Wrapper (value.Symbol s)) w
this_world (value.Object o) w = w

abbrev pub this_object : Value → World → ObjectId
this_object value.Undefined w = global
this_object value.Null w = global
this_object (value.Bool b) w = new_object w.lists
this_object (value.Whole n) w = new_object w.lists
this_object (value.Text t) w = new_object w.lists
this_object (value.Symbol s) w = new_object w.lists
this_object (value.Object o) w = o

unfoldable pub bound_world : (strict : Bool) → Value → World → World
bound_world true this w = w
bound_world false this w = this_world this w

unfoldable pub bound_value : (strict : Bool) → Value → World → Value
bound_value true this w = this
bound_value false this w = value.Object (this_object this w)
