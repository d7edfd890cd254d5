-- The words of a store of elements.
use Rattle.std.specs.Prelude.{◌/◌, ◌%◌, ◌==◌, ℕ, ℤ, pos, ◌-ℤ◌, Bool, true, false, Option, Some, None, ⊤, if◌then◌else◌, nat_lt}
use Rattle.property_keys.specs.declared.values.Value.{Value}
use Rattle.property_keys.specs.declared.values.Value.TheVariants as value
use Rattle.property_keys.specs.Wholes.{IsWhole}
use Rattle.elements_kinds.specs.declared.kinds.Class.{Class}
use Rattle.elements_kinds.specs.declared.kinds.Class.TheVariants as class
use Rattle.elements_kinds.specs.Kinds.{is_smi}

-- the word of an index that is absent
abbrev pub hole_of : Class → ℕ
hole_of class.Smi = 4294967296
hole_of class.Whole = 9223372036854775808
hole_of class.Tagged = 7

-- the number whose 32 bits these are
abbrev pub smi_of : ℕ → ℤ
smi_of word = if nat_lt word 2147483648 then pos word else pos word -ℤ pos 4294967296

abbrev pub whole_of : ℕ → ℤ
whole_of word = pos word -ℤ pos 9007199254740991

-- the low three bits of a word tell the kind of the value, the others the rest of it. There are 2 ^ 54 - 1 whole numbers
abbrev pub tagged_of : ℕ → ℕ → Value
tagged_of kind rest =
    if kind == 0 then value.Undefined else if kind == 1 then value.Null else if kind == 2 then value.Bool (rest == 1)
    else if kind == 3 then value.Whole (whole_of (rest % 18014398509481983)) else if kind == 4 then value.Text (record { 0 = rest % 4294967296 })
    else if kind == 5 then value.Symbol (record { 0 = rest % 4294967296 }) else value.Object (record { 0 = rest % 4294967296 })

-- what a word stands for: None is a hole
abbrev pub decoded : Class → ℕ → Option Value
decoded class.Smi word = if word == 4294967296 then None else Some (value.Whole (smi_of (word % 4294967296)))
decoded class.Whole word = if word == 9223372036854775808 then None else Some (value.Whole (whole_of (word % 18014398509481983)))
decoded class.Tagged word = if word == 7 then None else Some (tagged_of (word % 8) (word / 8))

-- a store of this class can hold the value
abbrev pub takes : Class → Value → Bool
takes class.Tagged v = true
takes class.Whole (value.Whole n) = true
takes class.Whole v = false
takes class.Smi (value.Whole n) = is_smi n
takes class.Smi v = false

-- a number is in the range of the values
abbrev pub IsGoodValue : Value → Type 0
IsGoodValue (value.Whole n) = IsWhole n
IsGoodValue v = ⊤
