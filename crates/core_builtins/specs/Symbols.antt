-- The Symbol constructor and the functions of its prototype (ECMA-262, 20.4).
use Rattle.std.specs.Prelude.{Option, Some, None, List, [], codes}
use Rattle.property_keys.specs.declared.identifiers.SymbolId.{SymbolId}
use Rattle.property_keys.specs.declared.identifiers.TextId.{TextId}
use Rattle.property_keys.specs.declared.values.Value.{Value}
use Rattle.property_keys.specs.declared.values.Value.TheVariants as value
use Rattle.es_model.specs.Completions.{Completion}
use Rattle.es_model.specs.World.{description}
use Rattle.es_model.specs.Program.{Program, intern, look, make_symbol}
use Rattle.es_model.specs.programs.Texts.{then_text, to_string}
use Rattle.core_builtins.specs.Answers.{first_of, gives, inner_value, three_joined, wrong_value}

-- ---- Symbol ( [ description ] ) (20.4.1.1)

-- step 4
abbrev pub symbol_made : Option TextId → Program
symbol_made d = make_symbol d (λ s. gives (value.Symbol s))

-- step 3
abbrev pub described : TextId → Program
described t = symbol_made (Some t)

abbrev pub description_given : Completion → Program
description_given c = then_text described c

-- steps 2 and 3
abbrev pub symbol_of : Value → Program
symbol_of value.Undefined = symbol_made None
symbol_of other = to_string other description_given

abbrev pub symbol_called : List Value → Program
symbol_called arguments = symbol_of (first_of arguments)

-- ---- ThisSymbolValue (20.4.3.4.1)

abbrev pub with_symbol : (SymbolId → Program) → Value → Program
with_symbol next (value.Symbol s) = next s
with_symbol next other = wrong_value

abbrev pub this_symbol : Value → (SymbolId → Program) → Program
this_symbol this next = look (λ l. with_symbol next (inner_value l this))

-- ---- the getter of Symbol.prototype.description (20.4.3.2)

abbrev pub description_value : Option TextId → Value
description_value None = value.Undefined
description_value (Some t) = value.Text t

abbrev pub gives_description : SymbolId → Program
gives_description s = look (λ l. gives (description_value (description l s)))

abbrev pub symbol_description : Value → Program
symbol_description this = this_symbol this gives_description

-- ---- Symbol.prototype.toString (20.4.3.3) with SymbolDescriptiveString (20.4.3.3.1)

-- a description that is undefined is shown as the empty text
abbrev pub with_description : Option TextId → (TextId → Program) → Program
with_description None next = intern [] next
with_description (Some t) next = next t

abbrev pub descriptive_of : TextId → Program
descriptive_of t = intern (codes "Symbol(") (λ start. intern (codes ")") (λ end. three_joined start t end))

abbrev pub descriptive_string : SymbolId → Program
descriptive_string s = look (λ l. with_description (description l s) descriptive_of)

abbrev pub symbol_to_string : Value → Program
symbol_to_string this = this_symbol this descriptive_string

-- ---- Symbol.prototype.valueOf (20.4.3.4) and Symbol.prototype[@@toPrimitive] (20.4.3.5)

abbrev pub gives_symbol : SymbolId → Program
gives_symbol s = gives (value.Symbol s)

abbrev pub symbol_value_of : Value → Program
symbol_value_of this = this_symbol this gives_symbol
