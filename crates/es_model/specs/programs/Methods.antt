-- Properties that algorithms ask for by a name of the standard's own, and methods (ECMA-262, 7.3.2, 7.3.10, 7.3.11).
use Rattle.std.specs.Prelude.{ℕ, if◌then◌else◌, Option, Some, None, List}
use Rattle.property_keys.specs.declared.identifiers.ObjectId.{ObjectId}
use Rattle.property_keys.specs.declared.keys.PropKey.{PropKey}
use Rattle.property_keys.specs.declared.keys.PropKey.TheVariants.{Name}
use Rattle.property_keys.specs.declared.values.Value.{Value}
use Rattle.property_keys.specs.declared.values.Value.TheVariants as value
use Rattle.es_model.specs.declared.callables.Method.{Method}
use Rattle.es_model.specs.declared.callables.Method.TheVariants as method
use Rattle.es_model.specs.declared.requests.Request.TheVariants.{Has, Read}
use Rattle.es_model.specs.Completions.{Completion}
use Rattle.es_model.specs.World.{Lists, kind}
use Rattle.es_model.specs.Program.{Program, look, ask, intern}
use Rattle.es_model.specs.programs.Abrupt.{then_value}
use Rattle.es_model.specs.programs.Errors.{not_a_function}
use Rattle.es_model.specs.programs.Testing.{is_callable_kind}

-- Get (7.3.2) of an object by a key
abbrev pub get : ObjectId → PropKey → (Completion → Program) → Program
get o k next = ask (Read o k (value.Object o) None) next

-- Get by a name, which is no array index
abbrev pub get_named : ObjectId → List ℕ → (Completion → Program) → Program
get_named o name next = intern name (λ t. get o (Name t) next)

-- HasProperty (7.3.11) by a name
abbrev pub has_named : ObjectId → List ℕ → (Completion → Program) → Program
has_named o name next = intern name (λ t. ask (Has o (Name t)) next)

-- steps 2 to 4 of GetMethod (7.3.10), of the value that stands under the key
abbrev pub method_in : Lists → Value → Method
method_in l value.Undefined = method.Absent
method_in l value.Null = method.Absent
method_in l (value.Object o) = if is_callable_kind (kind l o) then method.Function o else method.Other
method_in l other = method.Other

abbrev pub with_method : (Option ObjectId → Program) → Method → Program
with_method next method.Absent = next None
with_method next (method.Function f) = next (Some f)
with_method next method.Other = not_a_function

-- GetMethod, after the value was asked for
abbrev pub then_method : (Option ObjectId → Program) → Completion → Program
then_method next c = then_value (λ v. look (λ l. with_method next (method_in l v))) c
