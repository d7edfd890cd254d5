-- The function that prints a line: its arguments are converted to texts from left to right, and then one line is asked for.
use Rattle.std.specs.Prelude.{List, [], ◌∷◌, ◌++◌}
use Rattle.property_keys.specs.declared.values.Value.{Value}
use Rattle.es_model.specs.declared.requests.Operation.TheVariants as operation
use Rattle.es_model.specs.declared.requests.Request.TheVariants.{Print, Work}
use Rattle.es_model.specs.Completions.{Completion}
use Rattle.es_model.specs.Program.{Program, done, charge, ask}
use Rattle.es_model.specs.programs.Abrupt.{then_value}
use Rattle.es_model.specs.programs.Errors.{undefined}

-- the line was printed
abbrev pub line_printed : Completion → Program
line_printed c = then_value (λ v. done undefined) c

-- a text more of the line
abbrev pub argument_given : (List Value → Program) → List Value → Completion → Program
argument_given next line c = then_value (λ t. next (line ++ t ∷ [])) c

-- the arguments that are left, a turn for each
abbrev pub print_left : List Value → List Value → Program
print_left [] line = ask (Print line) line_printed
print_left (v ∷ vs) line = charge 1 (ask (Work operation.ToText (v ∷ [])) (argument_given (print_left vs) line))

abbrev pub print : List Value → Program
print arguments = print_left arguments []
