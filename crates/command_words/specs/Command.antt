-- The command as one simple command, and what it makes of the words.
use Rattle.std.specs.Prelude.{◌≡◌, ℕ, Bool, true, false, List, [], ◌∷◌, Option, Some, codes}
use Rattle.clap.specs.Words.{App, Kinds, Rule, Text, app_of, fault_of, first_of, matches_of, new_app, new_rule, with_rule}
use Rattle.clap.specs.Simple.{on_top}
use Rattle.clap.specs.declared.builder.Command.{Command}

-- an option with a value, which is a text
abbrev pub option_rule : Text → Rule
option_rule name = record (new_rule name) { long = Some name }

-- `[--budget N] [--generate N] [FILE]`, over words without the program's name
unfoldable pub the_command : App
the_command = on_top (λ s. record s { no_binary_name = true })
    (with_rule (with_rule (with_rule (new_app (codes "hcjs"))
    (option_rule (codes "budget"))) (option_rule (codes "generate"))) (new_rule (codes "file")))

abbrev pub IsTheCommand : Command → Type 0
IsTheCommand c = app_of c ≡ the_command

abbrev pub is_free_of_faults : Kinds → Bool
is_free_of_faults [] = true
is_free_of_faults (kind ∷ kinds) = false

-- the simple command takes the words: no step of reading them fails
abbrev pub takes_words : List (List ℕ) → Bool
takes_words words = is_free_of_faults (fault_of the_command words)

-- the value that the words give under a name
abbrev pub word_of : List ℕ → List (List ℕ) → Option (List ℕ)
word_of name words = first_of name (matches_of the_command words)
