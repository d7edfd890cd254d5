-- The words that stand for values in fields.
use Rattle.std.specs.Prelude.{◌≡◌, ℕ, ℤ, pos, negsuc, ◌+◌, ◌-◌, ◌*◌, ◌/◌, ◌%◌, ◌^◌, ◌<◌, ⊤, true, false, nat_lt, nat_eq, if◌then◌else◌}
use Rattle.property_keys.specs.Wholes.{IsWhole}
use Rattle.property_keys.specs.declared.values.Value.{Value}
use Rattle.property_keys.specs.declared.values.Value.TheVariants as value
use Rattle.map_store.specs.declared.entries.Representation.{Representation}
use Rattle.map_store.specs.declared.entries.Representation.TheVariants as representation
use Rattle.map_deprecation.specs.Classes.{is_at_or_above, of_class, value_class}

abbrev pub IsGoodValue : Value → Type 0
IsGoodValue (value.Whole n) = IsWhole n
IsGoodValue other = ⊤

-- the ids of a program's values are numbers of 32 bits
abbrev pub HasRange : Value → Type 0
HasRange (value.Text id) = id.0 < 2 ^ 32
HasRange (value.Symbol id) = id.0 < 2 ^ 32
HasRange (value.Object id) = id.0 < 2 ^ 32
HasRange other = ⊤

-- 2 ^ 53 - 1
abbrev pub most : ℕ
most = 9007199254740991

-- the 32 bits of a number
abbrev pub small_bits : ℤ → ℕ
small_bits (pos n) = n
small_bits (negsuc n) = 4294967295 - n

-- the number plus 2 ^ 53 - 1
abbrev pub raised : ℤ → ℕ
raised (pos n) = n + most
raised (negsuc n) = most - 1 - n

-- the low three bits of a tagged word say what the value is: undefined, null, Bool, Whole, Text, Symbol, Object
abbrev pub tagged_word : Value → ℕ
tagged_word value.Undefined = 0
tagged_word value.Null = 1
tagged_word (value.Bool true) = 2 + 8 * 1
tagged_word (value.Bool false) = 2 + 8 * 0
tagged_word (value.Whole n) = 3 + 8 * raised n
tagged_word (value.Text id) = 4 + 8 * id.0
tagged_word (value.Symbol id) = 5 + 8 * id.0
tagged_word (value.Object id) = 6 + 8 * id.0

abbrev pub word_of : Value → Representation → ℕ
word_of (value.Whole n) representation.Smi = small_bits n
word_of (value.Whole n) representation.Whole = raised n
word_of (value.Object id) representation.Ref = id.0
word_of v r = tagged_word v

-- ---- and back

abbrev pub small_of : ℕ → ℤ
small_of bits = if nat_lt bits 2147483648 then pos bits else negsuc (4294967295 - bits)

abbrev pub lowered : ℕ → ℤ
lowered sum = if nat_lt sum most then negsuc (most - 1 - sum) else pos (sum - most)

abbrev pub tagged_value : ℕ → ℕ → Value
tagged_value tag rest =
    if nat_eq tag 0 then value.Undefined else if nat_eq tag 1 then value.Null else if nat_eq tag 2 then value.Bool (nat_eq rest 1)
    else if nat_eq tag 3 then value.Whole (lowered rest) else if nat_eq tag 4 then value.Text (record { 0 = rest % 4294967296 })
    else if nat_eq tag 5 then value.Symbol (record { 0 = rest % 4294967296 }) else value.Object (record { 0 = rest % 4294967296 })

abbrev pub value_of : ℕ → Representation → Value
value_of word representation.Smi = value.Whole (small_of (word % 4294967296))
value_of word representation.Whole = value.Whole (lowered (word % 18014398509481984))
value_of word representation.Ref = value.Object (record { 0 = word % 4294967296 })
value_of word representation.Tagged = tagged_value (word % 8) (word / 8)
value_of word other = value.Undefined

-- what is written of a value that the representation takes is read as that value
abbrev pub WordsComeBack : Type 0
WordsComeBack =
    (v : Value) (r : Representation) → IsGoodValue v → HasRange v → is_at_or_above r (of_class (value_class v)) ≡ true → value_of (word_of v r) r ≡ v
