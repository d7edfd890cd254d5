-- Every task's program keeps within its weight.
use Rattle.std.specs.Prelude.{nat_eq}
use Rattle.std.proofs.Common.{ℕ, ◌+◌, ◌*◌, ◌≤◌, Option, Some, None, List, sym, true≢false, arith}
use Rattle.property_keys.specs.declared.identifiers.ObjectId.{ObjectId}
use Rattle.property_keys.specs.declared.keys.PropKey.{PropKey}
use Rattle.property_keys.specs.declared.values.Value.{Value}
use Rattle.property_keys.specs.declared.values.Value.TheVariants as value
use Rattle.es_tree.specs.declared.numbers.SiteId.{SiteId}
use Rattle.es_tree.specs.Definitions.{most_definitions}
use Rattle.es_tree.specs.Tree.{Tree}
use Rattle.es_model.specs.declared.kinds.ObjectKind.{ObjectKind}
use Rattle.es_model.specs.declared.kinds.ObjectKind.TheVariants as kind_of
use Rattle.es_model.specs.declared.requests.Request.{Request}
use Rattle.es_model.specs.declared.requests.Request.TheVariants.{GetOwn, Define, Has, Read, Write, Delete, Keys, Proto, SetProto, Extensible, Prevent, Call, Construct, Work, Print}
use Rattle.es_model.specs.Events.{Way, Reads, Writes, class_of}
use Rattle.es_model.specs.World.{kind}
use Rattle.es_model.specs.Changes.{Accessing}
use Rattle.es_model.specs.Program.{Program, look, change, Of, Evaluating, Statements, Round}
use Rattle.es_model.specs.Servers.{AreWithin, ChargeFirst}
use Rattle.es_model.specs.Weights.{request_weight, renewed, IsWithin}
use Rattle.es_model.specs.programs.Errors.{entering, unwritten, not_a_function, not_a_constructor}
use Rattle.es_model.proofs.Within.{within-cond, renewed-enough}
use Rattle.ordinary_object.proofs.OrdinaryWithin.{ordinary-within}
use Rattle.core_builtins.specs.Core.{row_called, row_constructed}
use Rattle.core_builtins.proofs.CoreWithin.{row_called-within, row_constructed-within}
use Rattle.plain_builtins.specs.Plain.{print_row, row_program}
use Rattle.plain_builtins.proofs.PlainWithin.{row-within, work-within}
use Rattle.evaluator.specs.Functions as functions
use Rattle.evaluator.proofs.FunctionsWithin.{call_program-within, construct_program-within}
use Rattle.evaluator.proofs.TasksWithin.{node-within, statements-within, round-within}
use Rattle.es_serve.specs.Serve.{method_of, define_of, is_counted, noting, builtin_called, call_of, call_program, construct_of, request_program, program_of}

-- an error that is thrown asks for nothing, and what is entered is not written yet
no_function-within : (r b : ℕ) → IsWithin r b not_a_function
no_function-within r b = λ a c d e. tt

no_constructor-within : (r b : ℕ) → IsWithin r b not_a_constructor
no_constructor-within r b = λ a c d e. tt

-- a charge renews the budget for what is entered
entered-within : (r b : ℕ) (body : Program) → IsWithin r r body → IsWithin r b (entering body)
entered-within r b body h = (h, λ a c d e. tt)

entering-within : (r b : ℕ) → IsWithin r b (entering unwritten)
entering-within r b = entered-within r b unwritten tt

method-within : (r : ℕ) → 200 ≤ r → (k : ObjectKind) (q : Request) → IsWithin r (request_weight q) (method_of k q)
method-within r enough kind_of.Ordinary q = ordinary-within r enough q
method-within r enough (kind_of.Function function constructor strict) q = ordinary-within r enough q
method-within r enough (kind_of.Builtin row constructor proxy) q = ordinary-within r enough q
method-within r enough kind_of.Array q = ordinary-within r enough q
method-within r enough (kind_of.Text t) q = ordinary-within r enough q
method-within r enough (kind_of.Wrapper v) q = ordinary-within r enough q
method-within r enough (kind_of.Arguments cells) q = tt
method-within r enough kind_of.Error q = ordinary-within r enough q
method-within r enough (kind_of.Proxy target handler callable constructor) q = entering-within r (request_weight q)

define-within : (r : ℕ) → 200 ≤ r → (k : ObjectKind) (q : Request) → IsWithin r (request_weight q) (define_of k q)
define-within r enough kind_of.Ordinary q = ordinary-within r enough q
define-within r enough (kind_of.Function function constructor strict) q = ordinary-within r enough q
define-within r enough (kind_of.Builtin row constructor proxy) q = ordinary-within r enough q
define-within r enough kind_of.Array q = tt
define-within r enough (kind_of.Text t) q = ordinary-within r enough q
define-within r enough (kind_of.Wrapper v) q = ordinary-within r enough q
define-within r enough (kind_of.Arguments cells) q = tt
define-within r enough kind_of.Error q = ordinary-within r enough q
define-within r enough (kind_of.Proxy target handler callable constructor) q = entering-within r (request_weight q)

noting-within : (r b : ℕ) (site : Option SiteId) (way : Way) (o : ObjectId) (k : PropKey) (v : Value) (p : Program) → IsWithin r b p → IsWithin r b (noting site way o k v p)
noting-within r b None way o k v p h = h
noting-within r b (Some site) way o k v p h = λ l. within-cond r b (is_counted (kind l o) o k v) (change (Accessing site way o k) p) p h h

-- a built-in function is entered
row_entered-within : (r b : ℕ) → 200 ≤ r → (row : ℕ) (f : ObjectId) (this : Value) (arguments : List Value) → IsWithin r b (entering (builtin_called row f this arguments))
row_entered-within r b enough row f this arguments =
    entered-within r b (builtin_called row f this arguments)
    (within-cond r r (nat_eq row print_row) (row_program row arguments) (row_called row f this arguments) (row-within r enough row arguments) (row_called-within r enough row f this arguments))

constructed-within : (r b : ℕ) → 200 ≤ r → (row : ℕ) (arguments : List Value) (target : ObjectId) → IsWithin r b (entering (row_constructed row arguments target))
constructed-within r b enough row arguments target = entered-within r b (row_constructed row arguments target) (row_constructed-within r enough row arguments target)

call_of-within : (r : ℕ) → 200 ≤ r → (script : Tree) (k : ObjectKind) (f : ObjectId) (this : Value) (arguments : List Value) → IsWithin r 0 (call_of script k f this arguments)
call_of-within r enough script kind_of.Ordinary f this arguments = no_function-within r 0
call_of-within r enough script (kind_of.Function function constructor strict) f this arguments =
    entered-within r 0 (functions.call_program script function f this arguments) (call_program-within r r script function f this arguments (omega arith) (omega arith))
call_of-within r enough script (kind_of.Builtin row constructor proxy) f this arguments = row_entered-within r 0 enough row f this arguments
call_of-within r enough script kind_of.Array f this arguments = no_function-within r 0
call_of-within r enough script (kind_of.Text t) f this arguments = no_function-within r 0
call_of-within r enough script (kind_of.Wrapper v) f this arguments = no_function-within r 0
call_of-within r enough script (kind_of.Arguments cells) f this arguments = no_function-within r 0
call_of-within r enough script kind_of.Error f this arguments = no_function-within r 0
call_of-within r enough script (kind_of.Proxy target handler callable constructor) f this arguments =
    within-cond r 0 callable (entering unwritten) not_a_function (entering-within r 0) (no_function-within r 0)

call-within : (r : ℕ) → 200 ≤ r → (script : Tree) (f this : Value) (arguments : List Value) → IsWithin r 0 (call_program script f this arguments)
call-within r enough script (value.Object f) this arguments = λ l. call_of-within r enough script (kind l f) f this arguments
call-within r enough script value.Undefined this arguments = no_function-within r 0
call-within r enough script value.Null this arguments = no_function-within r 0
call-within r enough script (value.Bool x) this arguments = no_function-within r 0
call-within r enough script (value.Whole n) this arguments = no_function-within r 0
call-within r enough script (value.Text t) this arguments = no_function-within r 0
call-within r enough script (value.Symbol s) this arguments = no_function-within r 0

construct_of-within : (r : ℕ) → 200 ≤ r → (script : Tree) (k : ObjectKind) (f : ObjectId) (arguments : List Value) (target : ObjectId) → IsWithin r 0 (construct_of script k f arguments target)
construct_of-within r enough script kind_of.Ordinary f arguments target = no_constructor-within r 0
construct_of-within r enough script (kind_of.Function function constructor strict) f arguments target =
    within-cond r 0 constructor (entering (functions.construct_program script function f arguments target)) not_a_constructor
    (entered-within r 0 (functions.construct_program script function f arguments target) (construct_program-within r r script function f arguments target (omega arith) (omega arith))) (no_constructor-within r 0)
construct_of-within r enough script (kind_of.Builtin row constructor proxy) f arguments target =
    within-cond r 0 constructor (entering (row_constructed row arguments target)) not_a_constructor (constructed-within r 0 enough row arguments target) (no_constructor-within r 0)
construct_of-within r enough script kind_of.Array f arguments target = no_constructor-within r 0
construct_of-within r enough script (kind_of.Text t) f arguments target = no_constructor-within r 0
construct_of-within r enough script (kind_of.Wrapper v) f arguments target = no_constructor-within r 0
construct_of-within r enough script (kind_of.Arguments cells) f arguments target = no_constructor-within r 0
construct_of-within r enough script kind_of.Error f arguments target = no_constructor-within r 0
construct_of-within r enough script (kind_of.Proxy t handler callable constructor) f arguments target =
    within-cond r 0 constructor (entering unwritten) not_a_constructor (entering-within r 0) (no_constructor-within r 0)

request-within : (r : ℕ) → 200 ≤ r → (script : Tree) (q : Request) → IsWithin r (request_weight q) (request_program script q)
request-within r enough script (GetOwn o k) = λ l. method-within r enough (kind l o) (GetOwn o k)
request-within r enough script (Define o k wanted) = λ l. define-within r enough (kind l o) (Define o k wanted)
request-within r enough script (Has o k) = λ l. method-within r enough (kind l o) (Has o k)
request-within r enough script (Read o k v site) =
    noting-within r 1 site Reads o k v (look (λ l. method_of (kind l o) (Read o k v site))) (λ l. method-within r enough (kind l o) (Read o k v site))
request-within r enough script (Write o k x v site) =
    noting-within r 32 site (Writes (class_of x)) o k v (look (λ l. method_of (kind l o) (Write o k x v site))) (λ l. method-within r enough (kind l o) (Write o k x v site))
request-within r enough script (Delete o k) = λ l. method-within r enough (kind l o) (Delete o k)
request-within r enough script (Keys o) = λ l. method-within r enough (kind l o) (Keys o)
request-within r enough script (Proto o) = λ l. method-within r enough (kind l o) (Proto o)
request-within r enough script (SetProto o p) = λ l. method-within r enough (kind l o) (SetProto o p)
request-within r enough script (Extensible o) = λ l. method-within r enough (kind l o) (Extensible o)
request-within r enough script (Prevent o) = λ l. method-within r enough (kind l o) (Prevent o)
request-within r enough script (Call f this arguments) = call-within r enough script f this arguments
request-within r enough script (Construct f arguments target) = λ l. construct_of-within r enough script (kind l f) f arguments target
request-within r enough script (Work op operands) = work-within r enough op operands
request-within r enough script (Print line) = λ l. tt

-- a charge gives enough for the longest object literal of the script
renewed-literals : (script : Tree) → 200 + 40 * most_definitions script.nodes ≤ renewed script
unfolding renewed
renewed-literals script = omega arith

pub programs-within : AreWithin program_of
programs-within script (Of q) = request-within (renewed script) (renewed-enough script) script q
programs-within script (Evaluating body cells name n) = node-within (renewed script) script body cells name n (renewed-literals script)
programs-within script (Statements body cells list i) = statements-within (renewed script) script body cells list i (renewed-enough script)
programs-within script (Round body cells n) = round-within (renewed script) script body cells n (renewed-enough script)

pub programs-charge_first : ChargeFirst program_of
programs-charge_first script (Of q) e = absurd (true≢false (sym e))
programs-charge_first script (Evaluating body cells name n) e = tt
programs-charge_first script (Statements body cells list i) e = absurd (true≢false (sym e))
programs-charge_first script (Round body cells n) e = absurd (true≢false (sym e))
