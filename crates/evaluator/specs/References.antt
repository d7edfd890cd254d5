-- References (ECMA-262, 6.2.5): what a name is resolved to, and how a value is got from it and put into it.
use Rattle.std.specs.Prelude.{ℕ, Bool, true, false, ◌||◌, not, if◌then◌else◌, Option, Some, None, List, [], ◌∷◌, pos, length, slice_get, slice_index_or}
use Rattle.property_keys.specs.declared.identifiers.ObjectId.{ObjectId}
use Rattle.property_keys.specs.declared.identifiers.TextId.{TextId}
use Rattle.property_keys.specs.declared.keys.PropKey.{PropKey}
use Rattle.property_keys.specs.declared.keys.PropKey.TheVariants.{Index, Name, Sym}
use Rattle.property_keys.specs.declared.values.Value.{Value}
use Rattle.property_keys.specs.declared.values.Value.TheVariants as value
use Rattle.es_tree.specs.declared.names.Binding.{Binding}
use Rattle.es_tree.specs.declared.names.Binding.TheVariants as binding
use Rattle.es_tree.specs.declared.names.Named.{Named}
use Rattle.es_tree.specs.declared.numbers.SiteId.{SiteId}
use Rattle.es_model.specs.declared.intrinsics.Class.{Class}
use Rattle.es_model.specs.declared.intrinsics.Class.TheVariants as class
use Rattle.es_model.specs.declared.intrinsics.Intrinsic.TheVariants as intrinsic
use Rattle.es_model.specs.declared.kinds.CellNo.{CellNo}
use Rattle.es_model.specs.declared.requests.Request.TheVariants.{Has, Read, Write, Delete}
use Rattle.es_model.specs.declared.running.FunctionName.{FunctionName}
use Rattle.es_model.specs.declared.running.FunctionName.TheVariants as given_name
use Rattle.es_model.specs.Completions.{Completion}
use Rattle.es_model.specs.StartObjects.{object_of}
use Rattle.es_model.specs.World.{cell, units_of}
use Rattle.es_model.specs.Changes.{SettingCell}
use Rattle.es_model.specs.Program.{Program, look, change, charge, ask, intern}
use Rattle.es_model.specs.programs.Abrupt.{then_flag}
use Rattle.evaluator.specs.declared.references.Reference.{Reference}
use Rattle.evaluator.specs.declared.references.Reference.TheVariants as reference
use Rattle.evaluator.specs.Contexts.{Context, is_strict, normal, gives}
use Rattle.evaluator.specs.Errors.{make_text, not_an_object, not_defined, not_initialised, is_constant, refused}
use Rattle.evaluator.specs.Values.{key_of_text, is_length, is_own_key}

-- ---- ResolveBinding (9.4.2): what is done with the reference stands last

abbrev pub global : ObjectId
global = object_of intrinsic.Global

-- the cell at a place of the running body, of those that are in force
abbrev pub cell_in_force : List CellNo → ℕ → CellNo
cell_in_force cells place = slice_index_or cells place (record { 0 = 0 })

abbrev pub cell_at : Context → ℕ → CellNo
cell_at here place = cell_in_force here.cells place

abbrev pub object_or_undefined : Option ObjectId → Value
object_or_undefined None = value.Undefined
object_or_undefined (Some o) = value.Object o

-- the first look at a name of the global object has been answered
abbrev pub looked : TextId → PropKey → (Reference → Program) → Completion → Program
looked name k next c = then_flag (λ present. next (reference.Global name k present)) c

abbrev pub resolve_bound : Context → TextId → Binding → (Reference → Program) → Program
resolve_bound here name binding.Global next = look (λ l. ask (Has global (key_of_text l name)) (looked name (key_of_text l name) next))
resolve_bound here name (binding.Top c constant) next = next (reference.Cell name (record { 0 = c }) constant)
resolve_bound here name (binding.Own place constant) next = next (reference.Cell name (cell_at here place) constant)
resolve_bound here name binding.Arguments next = next (reference.Arguments (object_or_undefined here.body.arguments))
resolve_bound here name binding.Callee next = next (reference.Callee name (object_or_undefined here.body.callee))

abbrev pub resolve : Context → Named → (Reference → Program) → Program
resolve here named next = make_text named.name (λ t. resolve_bound here t named.binding next)

-- ---- the properties of a value: an object's own method; of a primitive value, for which no object is made, its own properties as a String object has them,
-- and then the prototype of its class, which is one link

abbrev pub prototype_of : Class → ObjectId
prototype_of c = object_of (intrinsic.Prototype c)

abbrev pub get_above : Class → Value → PropKey → Option SiteId → (Completion → Program) → Program
get_above c base k site next = charge 1 (ask (Read (prototype_of c) k base site) next)

abbrev pub get_unit : TextId → PropKey → Option SiteId → (Completion → Program) → Option ℕ → Program
get_unit t k site next None = get_above class.String (value.Text t) k site next
get_unit t k site next (Some unit) = intern (unit ∷ []) (λ u. next (normal (value.Text u)))

abbrev pub get_named : TextId → TextId → Option SiteId → (Completion → Program) → Program
get_named t n site next =
    look (λ l. if is_length n then next (normal (value.Whole (pos (length (units_of l t))))) else get_above class.String (value.Text t) (Name n) site next)

abbrev pub get_in_text : TextId → PropKey → Option SiteId → (Completion → Program) → Program
get_in_text t (Index i) site next = look (λ l. get_unit t (Index i) site next (slice_get (units_of l t) i))
get_in_text t (Name n) site next = get_named t n site next
get_in_text t (Sym s) site next = get_above class.String (value.Text t) (Sym s) site next

abbrev pub get_of : Value → PropKey → Option SiteId → (Completion → Program) → Program
get_of value.Undefined k site next = not_an_object
get_of value.Null k site next = not_an_object
get_of (value.Bool b) k site next = get_above class.Boolean (value.Bool b) k site next
get_of (value.Whole n) k site next = get_above class.Number (value.Whole n) k site next
get_of (value.Text t) k site next = get_in_text t k site next
get_of (value.Symbol s) k site next = get_above class.Symbol (value.Symbol s) k site next
get_of (value.Object o) k site next = ask (Read o k (value.Object o) site) next

-- a [[Set]] or [[Delete]] that answered false throws in strict code
abbrev pub unless_refused : Context → Bool → Value → Program
unless_refused here succeeded result = if succeeded || not (is_strict here) then gives result else refused

abbrev pub put_answered : Context → Value → Completion → Program
put_answered here result c = then_flag (λ succeeded. unless_refused here succeeded result) c

abbrev pub put_above : Context → Class → Value → PropKey → Option SiteId → Value → Value → Program
put_above here c base k site v result = charge 1 (ask (Write (prototype_of c) k v base site) (put_answered here result))

abbrev pub put_of : Context → Value → PropKey → Option SiteId → Value → Value → Program
put_of here value.Undefined k site v result = not_an_object
put_of here value.Null k site v result = not_an_object
put_of here (value.Bool b) k site v result = put_above here class.Boolean (value.Bool b) k site v result
put_of here (value.Whole n) k site v result = put_above here class.Number (value.Whole n) k site v result
put_of here (value.Text t) k site v result =
    look (λ l. if is_own_key l t k then unless_refused here false result else put_above here class.String (value.Text t) k site v result)
put_of here (value.Symbol s) k site v result = put_above here class.Symbol (value.Symbol s) k site v result
put_of here (value.Object o) k site v result = ask (Write o k v (value.Object o) site) (put_answered here result)

-- ---- GetValue (6.2.5.5)

-- GetBindingValue (9.1.1.1.6)
abbrev pub cell_value : TextId → (Completion → Program) → Option Value → Program
cell_value name next None = not_initialised name
cell_value name next (Some v) = next (normal v)

-- GetBindingValue of the global object (9.1.1.2.6): the second look has been answered
abbrev pub got_again : Context → TextId → PropKey → (Completion → Program) → (present : Bool) → Program
got_again here name k next true = ask (Read global k (value.Object global) None) next
got_again here name k next false = if is_strict here then not_defined name else next (normal value.Undefined)

abbrev pub looked_again : Context → TextId → PropKey → (Completion → Program) → Completion → Program
looked_again here name k next c = then_flag (got_again here name k next) c

abbrev pub get_value : Context → Reference → (Completion → Program) → Program
get_value here (reference.Cell name c constant) next = look (λ l. cell_value name next (cell l c))
get_value here (reference.Global name k false) next = not_defined name
get_value here (reference.Global name k true) next = ask (Has global k) (looked_again here name k next)
get_value here (reference.Arguments v) next = next (normal v)
get_value here (reference.Callee name v) next = next (normal v)
get_value here (reference.Property base k read write) next = get_of base k read next

-- ---- PutValue (6.2.5.6): a value is put, and the whole gives a result

-- SetMutableBinding (9.1.1.1.5)
abbrev pub cell_put : TextId → CellNo → (constant : Bool) → Value → Value → Option Value → Program
cell_put name c constant v result None = not_initialised name
cell_put name c true v result (Some old) = is_constant name
cell_put name c false v result (Some old) = change (SettingCell c v) (gives result)

abbrev pub put_global : Context → PropKey → Value → Value → Program
put_global here k v result = ask (Write global k v (value.Object global) None) (put_answered here result)

-- SetMutableBinding of the global object (9.1.1.2.5): the second look has been answered
abbrev pub put_again : Context → TextId → PropKey → Value → Value → (present : Bool) → Program
put_again here name k v result present = if present || not (is_strict here) then put_global here k v result else not_defined name

abbrev pub put_looked : Context → TextId → PropKey → Value → Value → Completion → Program
put_looked here name k v result c = then_flag (put_again here name k v result) c

abbrev pub put_value : Context → Reference → Value → Value → Program
put_value here (reference.Cell name c constant) v result = look (λ l. cell_put name c constant v result (cell l c))
put_value here (reference.Global name k false) v result = if is_strict here then not_defined name else put_global here k v result
put_value here (reference.Global name k true) v result = ask (Has global k) (put_looked here name k v result)
put_value here (reference.Arguments x) v result = gives result
put_value here (reference.Callee name x) v result = if is_strict here then is_constant name else gives result
put_value here (reference.Property base k read write) v result = put_of here base k write v result

-- ---- what the `delete` operator does with a reference (13.5.1.2, steps 4 and 5). A reference to a name is a fault of the static rules

abbrev pub delete_answered : Context → Completion → Program
delete_answered here c = then_flag (λ succeeded. unless_refused here succeeded (value.Bool succeeded)) c

abbrev pub delete_of : Context → Value → PropKey → Program
delete_of here value.Undefined k = not_an_object
delete_of here value.Null k = not_an_object
delete_of here (value.Object o) k = ask (Delete o k) (delete_answered here)
delete_of here (value.Text t) k = look (λ l. if is_own_key l t k then unless_refused here false (value.Bool false) else gives (value.Bool true))
delete_of here other k = gives (value.Bool true)

abbrev pub delete_reference : Context → Reference → Program
delete_reference here (reference.Property base k read write) = delete_of here base k
delete_reference here other = gives (value.Bool true)

-- ---- what a reference has

-- the receiver of a call by a reference (13.3.6.2, steps 1 and 2)
abbrev pub base_of : Reference → Value
base_of (reference.Property base k read write) = base
base_of other = value.Undefined

-- the name that an anonymous function gets by an assignment to the reference (13.15.2)
abbrev pub name_of : Reference → Option FunctionName
name_of (reference.Cell name c constant) = Some (given_name.Text name)
name_of (reference.Global name k present) = Some (given_name.Text name)
name_of (reference.Callee name v) = Some (given_name.Text name)
name_of other = None
