-- Tests of values (ECMA-262, 7.1.2, 7.2.3, 7.2.4).
use Rattle.std.specs.Prelude.{Bool, true, false, not, Option, Some, None, length, nat_lt, pos}
use Rattle.std.specs.Ordering.{int_eq}
use Rattle.property_keys.specs.declared.identifiers.ObjectId.{ObjectId}
use Rattle.property_keys.specs.declared.values.Value.{Value}
use Rattle.property_keys.specs.declared.values.Value.TheVariants as value
use Rattle.es_model.specs.declared.kinds.ObjectKind.{ObjectKind}
use Rattle.es_model.specs.declared.kinds.ObjectKind.TheVariants as kind_of
use Rattle.es_model.specs.World.{Lists, kind, units_of}

-- the object that a value is, if it is one
abbrev pub as_object : Value → Option ObjectId
as_object (value.Object o) = Some o
as_object other = None

-- it has [[Call]]
abbrev pub is_callable_kind : ObjectKind → Bool
is_callable_kind (kind_of.Function function constructor strict) = true
is_callable_kind (kind_of.Builtin row constructor proxy) = true
is_callable_kind (kind_of.Proxy target handler callable constructor) = callable
is_callable_kind other = false

-- it has [[Construct]]
abbrev pub is_constructor_kind : ObjectKind → Bool
is_constructor_kind (kind_of.Function function constructor strict) = constructor
is_constructor_kind (kind_of.Builtin row constructor proxy) = constructor
is_constructor_kind (kind_of.Proxy target handler callable constructor) = constructor
is_constructor_kind other = false

-- IsCallable (7.2.3)
abbrev pub is_callable : Lists → Value → Bool
is_callable l (value.Object o) = is_callable_kind (kind l o)
is_callable l other = false

-- IsConstructor (7.2.4)
abbrev pub is_constructor : Lists → Value → Bool
is_constructor l (value.Object o) = is_constructor_kind (kind l o)
is_constructor l other = false

-- ToBoolean (7.1.2)
abbrev pub is_truth : Lists → Value → Bool
is_truth l value.Undefined = false
is_truth l value.Null = false
is_truth l (value.Bool b) = b
is_truth l (value.Whole n) = not (int_eq n (pos 0))
is_truth l (value.Text t) = nat_lt 0 (length (units_of l t))
is_truth l (value.Symbol s) = true
is_truth l (value.Object o) = true
