-- When two values are the same.
use Rattle.std.specs.Prelude.{Bool, true, false, nat_eq}
use Rattle.std.specs.Bool.{beq}
use Rattle.std.specs.Ordering.{int_eq}
use Rattle.property_keys.specs.declared.values.Value.{Value}
use Rattle.property_keys.specs.declared.values.Value.TheVariants as value

-- SameValue (ECMA-262, 7.2.10); since there is no NaN and no -0, it is SameValueZero (7.2.11) and IsStrictlyEqual (7.2.15) too.
-- Texts, Symbols and objects are compared by their numbers, of which equal ones have one
abbrev pub same_value : Value → Value → Bool
same_value value.Undefined value.Undefined = true
same_value value.Null value.Null = true
same_value (value.Bool a) (value.Bool b) = beq a b
same_value (value.Whole a) (value.Whole b) = int_eq a b
same_value (value.Text a) (value.Text b) = nat_eq a.0 b.0
same_value (value.Symbol a) (value.Symbol b) = nat_eq a.0 b.0
same_value (value.Object a) (value.Object b) = nat_eq a.0 b.0
same_value a b = false
