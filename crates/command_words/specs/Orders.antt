-- What the words order.
use Rattle.std.specs.Prelude.{◌≡◌, ℕ, List, Option, Some, None, Result, Ok, Err, codes, option_map, if◌then◌else◌, ⊤}
use Rattle.command_words.specs.Command.{takes_words, word_of}
use Rattle.command_words.specs.Numbers.{number_of, within}
use Rattle.command_words.specs.declared.orders.Order.{Order as OrderIs}
use Rattle.command_words.specs.declared.orders.Source.{Source as SourceIs}
use Rattle.command_words.specs.declared.orders.Source.TheVariants as source_is
use Rattle.command_words.specs.declared.orders.WordsStop.{WordsStop}
use Rattle.command_words.specs.declared.orders.WordsStop.TheVariants.{Usage, NoMemory}

-- where a script comes from: the file of this name, or the generated script of so many constructors
pub data Source : Type 0 where
  OfFile : List ℕ → Source
  Generated : ℕ → Source

pub record Order : Type 0 where
  -- the turns of the run
  pub budget : ℕ
  pub source : Source

abbrev pub default_budget : ℕ
default_budget = 1000000

-- the number in the words, from 1 to 10,000,000, or else the default
abbrev pub budget_of : Option (List ℕ) → Option ℕ
budget_of None = Some default_budget
budget_of (Some text) = within 1 10000000 (number_of text)

-- exactly one of FILE and the number of `--generate`, which is from 1 to 10,000
abbrev pub source_of : Option (List ℕ) → Option (List ℕ) → Option Source
source_of (Some name) None = Some (OfFile name)
source_of None (Some text) = option_map Generated (within 1 10000 (number_of text))
source_of None None = None
source_of (Some name) (Some text) = None

abbrev pub ordered_from : ℕ → Source → Order
ordered_from turns source = record { budget = turns; source = source }

abbrev pub order_by : Option ℕ → Option Source → Option Order
order_by None source = None
order_by (Some turns) None = None
order_by (Some turns) (Some source) = Some (ordered_from turns source)

-- what the words order: None where the simple command does not take them, a number is outside its form or range, or FILE and `--generate` are
-- both there or both absent
abbrev pub order_of : List (List ℕ) → Option Order
order_of words =
    if takes_words words
    then order_by (budget_of (word_of (codes "budget") words)) (source_of (word_of (codes "file") words) (word_of (codes "generate") words))
    else None

-- ---- the answer of the code

abbrev pub source_in : SourceIs → Source
source_in (source_is.File name) = OfFile name.now
source_in (source_is.Generated n) = Generated n

abbrev pub order_in : OrderIs → Order
order_in order = ordered_from order.budget (source_in order.source)

-- the order of the words, or Usage exactly where they have none; want of memory is free
abbrev pub ReadsOrder : List (List ℕ) → Result OrderIs WordsStop → Type 0
ReadsOrder words (Ok order) = order_of words ≡ Some (order_in order)
ReadsOrder words (Err Usage) = order_of words ≡ None
ReadsOrder words (Err NoMemory) = ⊤
