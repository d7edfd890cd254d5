-- How many words a call reads, writes or carries over: a dictionary has no words.
use Rattle.std.specs.Prelude.{◌≡◌, ◌+◌, ◌-◌, ◌*◌, ◌==◌, ◌||◌, not, ℕ, if◌then◌else◌, nat_le, nat_lt}
use Rattle.std.specs.FinMap as map_of
use Rattle.descriptors.specs.declared.property.Complete.{Complete}
use Rattle.elements_kinds.specs.declared.kinds.Class.{Class}
use Rattle.elements_kinds.specs.declared.kinds.Class.TheVariants as class
use Rattle.elements_kinds.specs.Kinds.{class_in, is_dictionary, join}
use Rattle.elements_kinds.specs.Rules.{View, capacity_for, class_for, end_of, is_dictionary_after, leaves_hole}

-- whether the words are made anew for another class
abbrev pub widens : Class → Class → ℕ → ℕ
widens class.Smi class.Smi words = 0
widens class.Smi b words = 2 * words
widens class.Whole class.Tagged words = 2 * words
widens class.Whole b words = 0
widens class.Tagged b words = 0

-- a class takes the values of another
pub record Admits (a b : Class) : Type 0 where
  pub joined : join a b ≡ a
  pub free : (words : ℕ) → widens a b words ≡ 0

-- this class takes the values of both, and the first does not
pub record Widens (a b wider : Class) : Type 0 where
  pub joined : join a b ≡ wider
  pub above : join a wider ≡ wider
  pub steps : (words : ℕ) → widens a b words ≡ 2 * words

-- a growth carries the words over and fills the rest with holes
abbrev pub steps_to_grow : ℕ → ℕ → ℕ
steps_to_grow capacity i = if nat_lt i capacity then 0 else capacity_for capacity i

-- another class reads and writes each word, and the value is one word
abbrev pub steps_to_put : Class → Class → ℕ → ℕ → ℕ
steps_to_put held put capacity i = steps_to_grow capacity i + widens held put (capacity_for capacity i) + 1

abbrev pub steps_in_store : View → ℕ → Complete → ℕ
steps_in_store v i property = steps_to_put (class_in v.kind) (class_for property) v.capacity i

-- a store that becomes a dictionary reads each word up to the greatest index
abbrev pub steps_to_define : View → ℕ → Complete → ℕ
steps_to_define v i property =
    if is_dictionary v.kind then 0 else if is_dictionary_after v i property then end_of v.properties else steps_in_store v i property

-- the indices of a store are read off its words, up to the greatest one
abbrev pub steps_to_list : View → ℕ
steps_to_list v = if is_dictionary v.kind then 0 else end_of v.properties

-- from one past the end of what was taken out down to the next word of a value
abbrev pub steps_down : ℕ → ℕ → ℕ
steps_down from end = (from - end) + (if end == 0 then 0 else 1)

-- a removal reads the word and makes it a hole; at the greatest index it reads on downwards
abbrev pub steps_to_remove : View → ℕ → ℕ
steps_to_remove v i =
    if is_dictionary v.kind || nat_le v.capacity i then 0 else if not (map_of.contains_key v.properties i) then 1
    else if leaves_hole v.properties i then 2 else 2 + steps_down i (end_of (map_of.remove v.properties i))
