-- Classes of values, and the order of representations: None is below all, Smi below Whole, Whole and Ref below Tagged.
use Rattle.std.specs.Prelude.{◌≡◌, ℤ, pos, negsuc, Bool, true, false, nat_lt, if◌then◌else◌}
use Rattle.property_keys.specs.declared.values.Value.{Value}
use Rattle.property_keys.specs.declared.values.Value.TheVariants as value
use Rattle.map_store.specs.declared.entries.Representation.{Representation}
use Rattle.map_store.specs.declared.entries.Representation.TheVariants as representation
use Rattle.map_deprecation.specs.declared.classes.Class.{Class}
use Rattle.map_deprecation.specs.declared.classes.Class.TheVariants as class

-- from -2 ^ 31 to 2 ^ 31 - 1
abbrev pub is_small : ℤ → Bool
is_small (pos n) = nat_lt n 2147483648
is_small (negsuc n) = nat_lt n 2147483648

abbrev pub value_class : Value → Class
value_class (value.Whole n) = if is_small n then class.Smi else class.Whole
value_class (value.Object id) = class.Ref
value_class other = class.Tagged

-- the representation that a class needs
abbrev pub of_class : Class → Representation
of_class class.Smi = representation.Smi
of_class class.Whole = representation.Whole
of_class class.Ref = representation.Ref
of_class class.Tagged = representation.Tagged

abbrev pub is_at_or_above : Representation → Representation → Bool
is_at_or_above r representation.None = true
is_at_or_above representation.Smi representation.Smi = true
is_at_or_above representation.Whole representation.Smi = true
is_at_or_above representation.Whole representation.Whole = true
is_at_or_above representation.Ref representation.Ref = true
is_at_or_above representation.Pair representation.Pair = true
is_at_or_above representation.Tagged representation.Pair = false
is_at_or_above representation.Tagged r = true
is_at_or_above s r = false

-- the least that is at or above two representations
pub record IsLeastAbove (a b least : Representation) : Type 0 where
  pub first : is_at_or_above least a ≡ true
  pub second : is_at_or_above least b ≡ true
  pub below : (r : Representation) → is_at_or_above r a ≡ true → is_at_or_above r b ≡ true → is_at_or_above r least ≡ true
