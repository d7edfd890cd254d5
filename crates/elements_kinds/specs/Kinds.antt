-- The kinds of elements, and the classes of values that they take.
use Rattle.std.specs.Prelude.{◌&&◌, ℤ, pos, neg_ℤ, Bool, true, false, int_le, if◌then◌else◌}
use Rattle.property_keys.specs.declared.values.Value.{Value}
use Rattle.property_keys.specs.declared.values.Value.TheVariants as value
use Rattle.elements_kinds.specs.declared.kinds.ElementsKind.{ElementsKind}
use Rattle.elements_kinds.specs.declared.kinds.ElementsKind.TheVariants as kind
use Rattle.elements_kinds.specs.declared.kinds.Class.{Class}
use Rattle.elements_kinds.specs.declared.kinds.Class.TheVariants as class

-- from -2 ^ 31 to 2 ^ 31 - 1
abbrev pub is_smi : ℤ → Bool
is_smi n = int_le (neg_ℤ (pos 2147483648)) n && int_le n (pos 2147483647)

-- the class of a value: an object counts as Tagged
abbrev pub class_of : Value → Class
class_of (value.Whole n) = if is_smi n then class.Smi else class.Whole
class_of other = class.Tagged

-- the least class above both: Smi is below Whole, and both are below Tagged
abbrev pub join : Class → Class → Class
join class.Smi b = b
join class.Whole class.Smi = class.Whole
join class.Whole b = b
join class.Tagged b = class.Tagged

-- the kind of a store of this class: it is holey once an index was absent below a present one
abbrev pub kind_of : Class → Bool → ElementsKind
kind_of class.Smi holey = if holey then kind.HoleySmi else kind.PackedSmi
kind_of class.Whole holey = if holey then kind.HoleyWhole else kind.PackedWhole
kind_of class.Tagged holey = if holey then kind.HoleyTagged else kind.PackedTagged

abbrev pub is_dictionary : ElementsKind → Bool
is_dictionary kind.Dictionary = true
is_dictionary other = false

abbrev pub is_holey : ElementsKind → Bool
is_holey kind.HoleySmi = true
is_holey kind.HoleyWhole = true
is_holey kind.HoleyTagged = true
is_holey other = false

-- which values a store of this kind takes
abbrev pub class_in : ElementsKind → Class
class_in kind.PackedSmi = class.Smi
class_in kind.HoleySmi = class.Smi
class_in kind.PackedWhole = class.Whole
class_in kind.HoleyWhole = class.Whole
class_in other = class.Tagged

-- the kind once an index is absent below a present one
abbrev pub holey_from : ElementsKind → ElementsKind
holey_from kind.PackedSmi = kind.HoleySmi
holey_from kind.PackedWhole = kind.HoleyWhole
holey_from kind.PackedTagged = kind.HoleyTagged
holey_from other = other
