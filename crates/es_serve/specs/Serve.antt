-- Serve: which program each task has, and what it comes to. The cases that are not written yet throw undefined, after their entering where they have one.
use Rattle.std.specs.Prelude.{ℕ, Bool, false, nat_eq, if◌then◌else◌, Option, Some, None, List}
use Rattle.property_keys.specs.declared.identifiers.ObjectId.{ObjectId}
use Rattle.property_keys.specs.declared.keys.PropKey.{PropKey}
use Rattle.property_keys.specs.declared.keys.PropKey.TheVariants.{Index, Name, Sym}
use Rattle.property_keys.specs.declared.values.Value.{Value}
use Rattle.property_keys.specs.declared.values.Value.TheVariants as value
use Rattle.property_keys.specs.Values.{same_value}
use Rattle.es_tree.specs.declared.numbers.SiteId.{SiteId}
use Rattle.es_tree.specs.Tree.{Tree}
use Rattle.es_model.specs.declared.kinds.ObjectKind.{ObjectKind}
use Rattle.es_model.specs.declared.kinds.ObjectKind.TheVariants as kind_of
use Rattle.es_model.specs.declared.requests.Request.{Request}
use Rattle.es_model.specs.declared.requests.Request.TheVariants.{GetOwn, Define, Has, Read, Write, Delete, Keys, Proto}
use Rattle.es_model.specs.declared.requests.Request.TheVariants.{SetProto, Extensible, Prevent, Call, Construct, Work, Print}
use Rattle.es_model.specs.Events.{Way, Reads, Writes, class_of}
use Rattle.es_model.specs.World.{kind}
use Rattle.es_model.specs.Changes.{Accessing}
use Rattle.es_model.specs.Program.{Program, look, change, Task, Of, Evaluating, Statements, Round, Server}
use Rattle.es_model.specs.Servers.{model_by}
use Rattle.es_model.specs.programs.Errors.{entering, unwritten, not_a_function, not_a_constructor}
use Rattle.ordinary_object.specs.Ordinary.{ordinary_program}
use Rattle.core_builtins.specs.Core as core
use Rattle.plain_builtins.specs.Plain as plain
use Rattle.evaluator.specs.Functions as functions
use Rattle.evaluator.specs.Tasks as evaluator
use Rattle.es_serve.specs.Lines.{print_line}

-- ---- internal methods other than Call and Construct

abbrev pub method_of : ObjectKind → Request → Program
method_of kind_of.Ordinary q = ordinary_program q
method_of (kind_of.Function function constructor strict) q = ordinary_program q
method_of (kind_of.Builtin row constructor proxy) q = ordinary_program q
method_of kind_of.Array q = ordinary_program q
method_of (kind_of.Text t) q = ordinary_program q
method_of (kind_of.Wrapper v) q = ordinary_program q
method_of (kind_of.Arguments cells) q = unwritten
method_of kind_of.Error q = ordinary_program q
method_of (kind_of.Proxy target handler callable constructor) q = entering unwritten

abbrev pub method_program : ObjectId → Request → Program
method_program o q = look (λ l. method_of (kind l o) q)

-- [[DefineOwnProperty]]: that of an Array object is its own (10.4.2.1), and is not written yet
abbrev pub define_of : ObjectKind → Request → Program
define_of kind_of.Array q = unwritten
define_of other q = method_of other q

abbrev pub define_program : ObjectId → Request → Program
define_program o q = look (λ l. define_of (kind l o) q)

-- a site counts an access on its own receiver that is no Proxy, by a key that is no array index
abbrev pub is_counted : ObjectKind → ObjectId → PropKey → Value → Bool
is_counted (kind_of.Proxy target handler callable constructor) o k receiver = false
is_counted other o (Index i) receiver = false
is_counted other o (Name t) receiver = same_value receiver (value.Object o)
is_counted other o (Sym s) receiver = same_value receiver (value.Object o)

-- an access that counts is noted before the method starts
abbrev pub noting : Option SiteId → Way → ObjectId → PropKey → Value → Program → Program
noting None way o k receiver p = p
noting (Some site) way o k receiver p = look (λ l. if is_counted (kind l o) o k receiver then change (Accessing site way o k) p else p)

-- ---- Call (10.2.1, 10.3.1, 10.5.12) and Construct (10.2.2, 10.3.2, 10.5.13): what has the method is entered

-- a built-in function, by its row
abbrev pub builtin_called : ℕ → ObjectId → Value → List Value → Program
builtin_called row f this arguments = if nat_eq row plain.print_row then plain.row_program row arguments else core.row_called row f this arguments

abbrev pub call_of : Tree → ObjectKind → ObjectId → Value → List Value → Program
call_of script (kind_of.Function function constructor strict) f this arguments = entering (functions.call_program script function f this arguments)
call_of script (kind_of.Builtin row constructor proxy) f this arguments = entering (builtin_called row f this arguments)
call_of script (kind_of.Proxy target handler callable constructor) f this arguments = if callable then entering unwritten else not_a_function
call_of script other f this arguments = not_a_function

abbrev pub call_program : Tree → Value → Value → List Value → Program
call_program script (value.Object f) this arguments = look (λ l. call_of script (kind l f) f this arguments)
call_program script other this arguments = not_a_function

abbrev pub construct_of : Tree → ObjectKind → ObjectId → List Value → ObjectId → Program
construct_of script (kind_of.Function function constructor strict) f arguments target =
    if constructor then entering (functions.construct_program script function f arguments target) else not_a_constructor
construct_of script (kind_of.Builtin row constructor proxy) f arguments target =
    if constructor then entering (core.row_constructed row arguments target) else not_a_constructor
construct_of script (kind_of.Proxy target handler callable constructor) f arguments new_target = if constructor then entering unwritten else not_a_constructor
construct_of script other f arguments target = not_a_constructor

abbrev pub construct_program : Tree → ObjectId → List Value → ObjectId → Program
construct_program script f arguments target = look (λ l. construct_of script (kind l f) f arguments target)

-- ---- each request

abbrev pub request_program : Tree → Request → Program
request_program script (GetOwn o k) = method_program o (GetOwn o k)
request_program script (Define o k wanted) = define_program o (Define o k wanted)
request_program script (Has o k) = method_program o (Has o k)
request_program script (Read o k receiver site) = noting site Reads o k receiver (method_program o (Read o k receiver site))
request_program script (Write o k v receiver site) = noting site (Writes (class_of v)) o k receiver (method_program o (Write o k v receiver site))
request_program script (Delete o k) = method_program o (Delete o k)
request_program script (Keys o) = method_program o (Keys o)
request_program script (Proto o) = method_program o (Proto o)
request_program script (SetProto o p) = method_program o (SetProto o p)
request_program script (Extensible o) = method_program o (Extensible o)
request_program script (Prevent o) = method_program o (Prevent o)
request_program script (Call f this arguments) = call_program script f this arguments
request_program script (Construct f arguments target) = construct_program script f arguments target
request_program script (Work operation operands) = plain.work_program operation operands
request_program script (Print line) = print_line line

-- the program of each task, one line for each crate
abbrev pub program_of : Tree → Task → Program
program_of script (Of q) = request_program script q
program_of script (Evaluating body cells name n) = evaluator.node_program script body cells name n
program_of script (Statements body cells list i) = evaluator.statements_program script body cells list i
program_of script (Round body cells n) = evaluator.round_program script body cells n

-- What a task comes to: the model of a run.
unfoldable pub model : Server
model = model_by program_of
