use Rattle.std.proofs.Common.{refl}
use Rattle.small_sources.specs.Bindings.{function_binding_rows, scope_rows, script_binding_rows}
use Rattle.small_sources.proofs.Computing.{bindings_hold, scopes_hold, tables}
use Rattle.small_sources.proofs.rules.names_are_bound.Goals as goal

pub returns-clause-in_scripts : goal.returns-clause-in_scripts
unfolding tables
returns-clause-in_scripts c = bindings_hold script_binding_rows refl

pub returns-clause-in_functions : goal.returns-clause-in_functions
unfolding tables
returns-clause-in_functions c = bindings_hold function_binding_rows refl

pub returns-clause-scopes : goal.returns-clause-scopes
unfolding tables
returns-clause-scopes c = scopes_hold scope_rows refl
