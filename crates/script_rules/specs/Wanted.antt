-- Which names are added to a scope.
use Rattle.std.specs.Prelude.{Bool, true}
use Rattle.script_rules.specs.declared.manner.Manner.{Manner}
use Rattle.script_rules.specs.declared.scope_makers.Wanted.{Wanted}
use Rattle.script_rules.specs.declared.scope_makers.Wanted.TheVariants as wanted
use Rattle.script_rules.specs.Scopes.{is_lexical, is_function}

abbrev pub takes : Wanted → Manner → Bool
takes wanted.All manner = true
takes wanted.Lexical manner = is_lexical manner
takes wanted.Functions manner = is_function manner
