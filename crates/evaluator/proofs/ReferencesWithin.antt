-- References keep within their budgets: a name asks twice at most, a read of a name twice, a write twice, and a write weighs most.
use Rattle.std.proofs.Common.{ℕ, ◌+◌, ◌≤◌, Bool, true, false, Option, Some, None, arith}
use Rattle.std.specs.Prelude.{slice_get}
use Rattle.property_keys.specs.declared.identifiers.TextId.{TextId}
use Rattle.property_keys.specs.declared.keys.PropKey.{PropKey}
use Rattle.property_keys.specs.declared.keys.PropKey.TheVariants.{Index, Name, Sym}
use Rattle.property_keys.specs.declared.values.Value.{Value}
use Rattle.property_keys.specs.declared.values.Value.TheVariants as value
use Rattle.es_tree.specs.declared.names.Binding.{Binding}
use Rattle.es_tree.specs.declared.names.Binding.TheVariants as binding
use Rattle.es_tree.specs.declared.names.Named.{Named}
use Rattle.es_tree.specs.declared.numbers.SiteId.{SiteId}
use Rattle.es_model.specs.declared.intrinsics.Class.{Class}
use Rattle.es_model.specs.declared.intrinsics.Class.TheVariants as class
use Rattle.es_model.specs.declared.kinds.CellNo.{CellNo}
use Rattle.es_model.specs.declared.kinds.ErrorKind.TheVariants as error
use Rattle.es_model.specs.Completions.{Completion}
use Rattle.es_model.specs.World.{cell, units_of}
use Rattle.es_model.specs.Program.{Program}
use Rattle.evaluator.specs.declared.references.Reference.{Reference}
use Rattle.evaluator.specs.declared.references.Reference.TheVariants as reference
use Rattle.es_model.specs.declared.requests.Request.TheVariants.{Read, Write}
use Rattle.evaluator.specs.Contexts.{Context, normal}
use Rattle.evaluator.specs.References.{cell_put, cell_value, delete_answered, delete_of, delete_reference, get_above, get_in_text, get_named, get_of, get_unit, get_value, got_again, looked, looked_again, prototype_of, put_above, put_again, put_answered, put_global, put_looked, put_of, put_value, resolve, resolve_bound, unless_refused}
use Rattle.evaluator.proofs.WordsWithin.{On, Within, asked-within, change-within, charged-within, cond-within, done-within, error_thrown, flag-within, interned-within, look-within, more-within, named_error-within, text-within}

-- what is done with every reference
abbrev pub OnReference : ℕ → ℕ → (Reference → Program) → Type 0
OnReference r b next = (ref : Reference) → Within r b (next ref)

-- ---- names

pub looked-within : (r b : ℕ) (name : TextId) (k : PropKey) (next : Reference → Program) (c : Completion) → OnReference r b next → Within r b (looked name k next c)
looked-within r b name k next c h = flag-within r b _ c (λ x. h (reference.Global name k x))

pub resolve_bound-within : (r b left : ℕ) (here : Context) (name : TextId) (bound : Binding) (next : Reference → Program) → left + 2 ≤ b → OnReference r left next → Within r b (resolve_bound here name bound next)
resolve_bound-within r b left here name binding.Global next some h = look-within _ _ _ (λ l. (asked-within _ _ left _ _ (omega arith) (λ c. looked-within r left name _ next c h)))
resolve_bound-within r b left here name (binding.Top c constant) next some h = more-within r left b _ (omega arith) (h _)
resolve_bound-within r b left here name (binding.Own place constant) next some h = more-within r left b _ (omega arith) (h _)
resolve_bound-within r b left here name binding.Arguments next some h = more-within r left b _ (omega arith) (h _)
resolve_bound-within r b left here name binding.Callee next some h = more-within r left b _ (omega arith) (h _)

pub resolve-within : (r b left : ℕ) (here : Context) (named : Named) (next : Reference → Program) → left + 2 ≤ b → OnReference r left next → Within r b (resolve here named next)
resolve-within r b left here named next some h = text-within r b named.name _ (λ t. resolve_bound-within r b left here t named.binding next some h)

-- ---- the properties of a value

get_above-within : (r b left : ℕ) (c : Class) (base : Value) (k : PropKey) (site : Option SiteId) (next : Completion → Program) → left + 2 ≤ r → On r left next → Within r b (get_above c base k site next)
get_above-within r b left c base k site next enough h = charged-within r b _ (asked-within r r left (Read (prototype_of c) k base site) next (omega arith) h)

get_unit-within : (r b left : ℕ) (t : TextId) (k : PropKey) (site : Option SiteId) (next : Completion → Program) (unit : Option ℕ) → left ≤ b → left + 2 ≤ r → On r left next → Within r b (get_unit t k site next unit)
get_unit-within r b left t k site next None some enough h = get_above-within r b left class.String (value.Text t) k site next enough h
get_unit-within r b left t k site next (Some unit) some enough h = interned-within _ _ _ _ (λ u. more-within r left b _ some (h (normal (value.Text u))))

get_named-within : (r b left : ℕ) (t n : TextId) (site : Option SiteId) (next : Completion → Program) → left ≤ b → left + 2 ≤ r → On r left next → Within r b (get_named t n site next)
get_named-within r b left t n site next some enough h = look-within _ _ _ (λ l.
    cond-within r b _ _ _ (more-within r left b _ some (h _)) (get_above-within r b left class.String (value.Text t) (Name n) site next enough h))

get_in_text-within : (r b left : ℕ) (t : TextId) (k : PropKey) (site : Option SiteId) (next : Completion → Program) → left ≤ b → left + 2 ≤ r → On r left next → Within r b (get_in_text t k site next)
get_in_text-within r b left t (Index i) site next some enough h = look-within _ _ _ (λ l. get_unit-within r b left t (Index i) site next (slice_get (units_of l t) i) some enough h)
get_in_text-within r b left t (Name n) site next some enough h = get_named-within r b left t n site next some enough h
get_in_text-within r b left t (Sym s) site next some enough h = get_above-within r b left class.String (value.Text t) (Sym s) site next enough h

get_of-within : (r b left : ℕ) (base : Value) (k : PropKey) (site : Option SiteId) (next : Completion → Program) → left + 2 ≤ b → left + 2 ≤ r → On r left next → Within r b (get_of base k site next)
get_of-within r b left value.Undefined k site next some enough h = error_thrown _ _ error.TypeError _
get_of-within r b left value.Null k site next some enough h = error_thrown _ _ error.TypeError _
get_of-within r b left (value.Bool x) k site next some enough h = get_above-within r b left class.Boolean (value.Bool x) k site next enough h
get_of-within r b left (value.Whole n) k site next some enough h = get_above-within r b left class.Number (value.Whole n) k site next enough h
get_of-within r b left (value.Text t) k site next some enough h = get_in_text-within r b left t k site next (omega arith) enough h
get_of-within r b left (value.Symbol s) k site next some enough h = get_above-within r b left class.Symbol (value.Symbol s) k site next enough h
get_of-within r b left (value.Object o) k site next some enough h = (asked-within _ _ left _ _ (omega arith) h)

pub unless_refused-within : (r b : ℕ) (here : Context) (succeeded : Bool) (v : Value) → Within r b (unless_refused here succeeded v)
unless_refused-within r b here succeeded v = cond-within r b _ _ _ (done-within _ _ _) (error_thrown _ _ error.TypeError _)

pub put_answered-within : (r b : ℕ) (here : Context) (v : Value) → On r b (put_answered here v)
put_answered-within r b here v = λ c. flag-within r b _ c (λ x. unless_refused-within r b here x v)

put_above-within : (r b : ℕ) (here : Context) (c : Class) (base : Value) (k : PropKey) (site : Option SiteId) (v result : Value) → 33 ≤ r → Within r b (put_above here c base k site v result)
put_above-within r b here c base k site v result enough = charged-within r b _ (asked-within r r 0 (Write (prototype_of c) k v base site) _ (omega arith) (put_answered-within r 0 here result))

put_of-within : (r b : ℕ) (here : Context) (base : Value) (k : PropKey) (site : Option SiteId) (v result : Value) → 33 ≤ b → 33 ≤ r → Within r b (put_of here base k site v result)
put_of-within r b here value.Undefined k site v result some enough = error_thrown _ _ error.TypeError _
put_of-within r b here value.Null k site v result some enough = error_thrown _ _ error.TypeError _
put_of-within r b here (value.Bool x) k site v result some enough = put_above-within r b here class.Boolean (value.Bool x) k site v result enough
put_of-within r b here (value.Whole n) k site v result some enough = put_above-within r b here class.Number (value.Whole n) k site v result enough
put_of-within r b here (value.Text t) k site v result some enough = look-within _ _ _ (λ l.
    cond-within r b _ _ _ (unless_refused-within r b here false result) (put_above-within r b here class.String (value.Text t) k site v result enough))
put_of-within r b here (value.Symbol s) k site v result some enough = put_above-within r b here class.Symbol (value.Symbol s) k site v result enough
put_of-within r b here (value.Object o) k site v result some enough = (asked-within _ _ 0 _ _ (omega arith) (put_answered-within r 0 here result))

-- ---- GetValue

cell_value-within : (r b : ℕ) (name : TextId) (next : Completion → Program) (v : Option Value) → On r b next → Within r b (cell_value name next v)
cell_value-within r b name next None h = named_error-within r b error.ReferenceError _ name
cell_value-within r b name next (Some v) h = h (normal v)

pub got_again-within : (r b left : ℕ) (here : Context) (name : TextId) (k : PropKey) (next : Completion → Program) (present : Bool) → left + 2 ≤ b → On r left next → Within r b (got_again here name k next present)
got_again-within r b left here name k next true some h = (asked-within _ _ left _ _ (omega arith) h)
got_again-within r b left here name k next false some h = cond-within r b _ _ _ (named_error-within r b error.ReferenceError _ name) (more-within r left b _ (omega arith) (h (normal value.Undefined)))

pub looked_again-within : (r b left : ℕ) (here : Context) (name : TextId) (k : PropKey) (next : Completion → Program) (c : Completion) → left + 2 ≤ b → On r left next → Within r b (looked_again here name k next c)
looked_again-within r b left here name k next c some h = flag-within r b _ c (λ x. got_again-within r b left here name k next x some h)

pub get_value-within : (r b left : ℕ) (here : Context) (ref : Reference) (next : Completion → Program) → left + 4 ≤ b → left + 2 ≤ r → On r left next → Within r b (get_value here ref next)
get_value-within r b left here (reference.Cell name c constant) next some enough h = look-within _ _ _ (λ l.
    more-within r left b _ (omega arith) (cell_value-within r left name next (cell l c) h))
get_value-within r b left here (reference.Global name k false) next some enough h = named_error-within r b error.ReferenceError _ name
get_value-within r b left here (reference.Global name k true) next some enough h = (asked-within _ _ (left + 2) _ _ (omega arith) (λ c. looked_again-within r (left + 2) left here name k next c (omega arith) h))
get_value-within r b left here (reference.Arguments v) next some enough h = more-within r left b _ (omega arith) (h (normal v))
get_value-within r b left here (reference.Callee name v) next some enough h = more-within r left b _ (omega arith) (h (normal v))
get_value-within r b left here (reference.Property base k read write) next some enough h = get_of-within r b left base k read next (omega arith) enough h

-- ---- PutValue

cell_put-within : (r b : ℕ) (name : TextId) (c : CellNo) (constant : Bool) (v result : Value) (old : Option Value) → Within r b (cell_put name c constant v result old)
cell_put-within r b name c constant v result None = named_error-within r b error.ReferenceError _ name
cell_put-within r b name c true v result (Some old) = named_error-within r b error.TypeError _ name
cell_put-within r b name c false v result (Some old) = change-within _ _ _ _ (done-within _ _ _)

put_global-within : (r b : ℕ) (here : Context) (k : PropKey) (v result : Value) → 33 ≤ b → Within r b (put_global here k v result)
put_global-within r b here k v result some = (asked-within _ _ 0 _ _ (omega arith) (put_answered-within r 0 here result))

pub put_again-within : (r b : ℕ) (here : Context) (name : TextId) (k : PropKey) (v result : Value) (present : Bool) → 33 ≤ b → Within r b (put_again here name k v result present)
put_again-within r b here name k v result present some = cond-within r b _ _ _ (put_global-within r b here k v result some) (named_error-within r b error.ReferenceError _ name)

pub put_looked-within : (r b : ℕ) (here : Context) (name : TextId) (k : PropKey) (v result : Value) (c : Completion) → 33 ≤ b → Within r b (put_looked here name k v result c)
put_looked-within r b here name k v result c some = flag-within r b _ c (λ x. put_again-within r b here name k v result x some)

pub put_value-within : (r b : ℕ) (here : Context) (ref : Reference) (v result : Value) → 35 ≤ b → 33 ≤ r → Within r b (put_value here ref v result)
put_value-within r b here (reference.Cell name c constant) v result some enough = look-within _ _ _ (λ l. cell_put-within r b name c constant v result (cell l c))
put_value-within r b here (reference.Global name k false) v result some enough =
    cond-within r b _ _ _ (named_error-within r b error.ReferenceError _ name) (put_global-within r b here k v result (omega arith))
put_value-within r b here (reference.Global name k true) v result some enough = (asked-within _ _ 33 _ _ (omega arith) (λ c. put_looked-within r 33 here name k v result c (omega arith)))
put_value-within r b here (reference.Arguments x) v result some enough = done-within _ _ _
put_value-within r b here (reference.Callee name x) v result some enough = cond-within r b _ _ _ (named_error-within r b error.TypeError _ name) (done-within _ _ _)
put_value-within r b here (reference.Property base k read write) v result some enough = put_of-within r b here base k write v result (omega arith) enough

-- ---- delete

pub delete_answered-within : (r b : ℕ) (here : Context) → On r b (delete_answered here)
delete_answered-within r b here = λ c. flag-within r b _ c (λ x. unless_refused-within r b here x (value.Bool x))

delete_of-within : (r b : ℕ) (here : Context) (base : Value) (k : PropKey) → 1 ≤ b → Within r b (delete_of here base k)
delete_of-within r b here value.Undefined k some = error_thrown _ _ error.TypeError _
delete_of-within r b here value.Null k some = error_thrown _ _ error.TypeError _
delete_of-within r b here (value.Object o) k some = (asked-within _ _ 0 _ _ (omega arith) (delete_answered-within r 0 here))
delete_of-within r b here (value.Text t) k some = look-within _ _ _ (λ l. cond-within r b _ _ _ (unless_refused-within r b here false (value.Bool false)) (done-within _ _ _))
delete_of-within r b here (value.Bool x) k some = done-within _ _ _
delete_of-within r b here (value.Whole n) k some = done-within _ _ _
delete_of-within r b here (value.Symbol s) k some = done-within _ _ _

pub delete_reference-within : (r b : ℕ) (here : Context) (ref : Reference) → 1 ≤ b → Within r b (delete_reference here ref)
delete_reference-within r b here (reference.Cell name c constant) some = done-within _ _ _
delete_reference-within r b here (reference.Global name k present) some = done-within _ _ _
delete_reference-within r b here (reference.Arguments v) some = done-within _ _ _
delete_reference-within r b here (reference.Callee name v) some = done-within _ _ _
delete_reference-within r b here (reference.Property base k read write) some = delete_of-within r b here base k some
