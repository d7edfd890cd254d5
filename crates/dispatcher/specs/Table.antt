-- Who serves what.
use Rattle.std.specs.Prelude.{◌≡◌, ℕ, nat_eq, if◌then◌else◌, List, Option, Some, None}
use Rattle.property_keys.specs.declared.identifiers.ObjectId.{ObjectId}
use Rattle.property_keys.specs.declared.keys.PropKey.{PropKey}
use Rattle.property_keys.specs.declared.values.Value.{Value}
use Rattle.property_keys.specs.declared.values.Value.TheVariants as value
use Rattle.es_tree.specs.declared.numbers.FunctionNo.{FunctionNo}
use Rattle.es_tree.specs.declared.numbers.SiteId.{SiteId}
use Rattle.es_tree.specs.Tree.{Tree}
use Rattle.es_model.specs.declared.kinds.ObjectKind.{ObjectKind}
use Rattle.es_model.specs.declared.kinds.ObjectKind.TheVariants as kind_of
use Rattle.es_model.specs.declared.requests.Request.{Request}
use Rattle.es_model.specs.declared.requests.Request.TheVariants.{GetOwn, Define, Has, Read, Write, Delete, Keys, Proto}
use Rattle.es_model.specs.declared.requests.Request.TheVariants.{SetProto, Extensible, Prevent, Call, Construct, Work, Print}
use Rattle.es_model.specs.Changes.{Accessing, changed}
use Rattle.es_model.specs.Events.{Way, Reads, Writes, class_of}
use Rattle.es_model.specs.Program.{Program, Server, run}
use Rattle.es_model.specs.World.{Lists, World, kind}
use Rattle.es_model.specs.programs.Errors.{entering, unwritten}
use Rattle.evaluator.specs.Functions as functions
use Rattle.ordinary_object.specs.Ordinary.{ordinary_program}
use Rattle.core_builtins.specs.Core.{core_program}
use Rattle.plain_builtins.specs.Plain.{plain_program, print_row}
use Rattle.es_serve.specs.Lines.{print_line}
use Rattle.es_serve.specs.Serve.{is_counted, request_program}
use Rattle.dispatcher.specs.declared.table.Provider.{Provider}
use Rattle.dispatcher.specs.declared.table.Provider.TheVariants.{Ordinary, Plain, Core, Running, Unwritten}
use Rattle.dispatcher.specs.declared.table.Service.{Service}
use Rattle.dispatcher.specs.declared.table.Service.TheVariants.{Begins, Enters, Prints}

-- ---- the table

-- an internal method other than Call and Construct, by the kind of its object
abbrev pub method_service : ObjectKind → Service
method_service (kind_of.Arguments cells) = Begins Unwritten
method_service (kind_of.Proxy target handler callable constructor) = Enters Unwritten
method_service other = Begins Ordinary

-- [[DefineOwnProperty]], in the same way
abbrev pub define_service : ObjectKind → Service
define_service kind_of.Array = Begins Unwritten
define_service other = method_service other

-- where the algorithm of a built-in function stands, by its row
abbrev pub builtin_provider : ℕ → Provider
builtin_provider row = if nat_eq row print_row then Plain else Core

-- a call, by the kind of the function. What cannot be called goes to `plain_builtins`, which throws
abbrev pub call_service : ObjectKind → Service
call_service (kind_of.Function function constructor strict) = Enters (Running function)
call_service (kind_of.Builtin row constructor proxy) = Enters (builtin_provider row)
call_service (kind_of.Proxy target handler callable constructor) = if callable then Enters Unwritten else Begins Plain
call_service other = Begins Plain

abbrev pub callee_service : Lists → Value → Service
callee_service l (value.Object f) = call_service (kind l f)
callee_service l other = Begins Plain

-- a construction, in the same way
abbrev pub construct_service : ObjectKind → Service
construct_service (kind_of.Function function constructor strict) = if constructor then Enters (Running function) else Begins Plain
construct_service (kind_of.Builtin row constructor proxy) = if constructor then Enters Core else Begins Plain
construct_service (kind_of.Proxy target handler callable constructor) = if constructor then Enters Unwritten else Begins Plain
construct_service other = Begins Plain

abbrev pub served_by : Lists → Request → Service
served_by l (GetOwn o k) = method_service (kind l o)
served_by l (Define o k wanted) = define_service (kind l o)
served_by l (Has o k) = method_service (kind l o)
served_by l (Read o k receiver site) = method_service (kind l o)
served_by l (Write o k v receiver site) = method_service (kind l o)
served_by l (Delete o k) = method_service (kind l o)
served_by l (Keys o) = method_service (kind l o)
served_by l (Proto o) = method_service (kind l o)
served_by l (SetProto o p) = method_service (kind l o)
served_by l (Extensible o) = method_service (kind l o)
served_by l (Prevent o) = method_service (kind l o)
served_by l (Call f this arguments) = callee_service l f
served_by l (Construct f arguments target) = construct_service (kind l f)
served_by l (Work operation operands) = Begins Plain
served_by l (Print line) = Prints

-- ---- what each service does. The tree is that of the script that runs

-- the body of a function of the script. No other value comes here, and no other request
abbrev pub called_program : Tree → FunctionNo → Value → Value → List Value → Program
called_program script function (value.Object f) this arguments = functions.call_program script function f this arguments
called_program script function other this arguments = unwritten

abbrev pub body_program : Tree → FunctionNo → Request → Program
body_program script function (Call f this arguments) = called_program script function f this arguments
body_program script function (Construct f arguments target) = functions.construct_program script function f arguments target
body_program script function other = unwritten

abbrev pub begin_program : Tree → Provider → Request → Program
begin_program script Ordinary q = ordinary_program q
begin_program script Plain q = plain_program q
begin_program script Core q = core_program q
begin_program script (Running function) q = body_program script function q
begin_program script Unwritten q = unwritten

-- the dispatcher prints a line itself. No other request comes here
abbrev pub print_program : Request → Program
print_program (Print line) = print_line line
print_program other = unwritten

abbrev pub service_program : Tree → Service → Request → Program
service_program script (Begins p) q = begin_program script p q
service_program script (Enters p) q = entering (begin_program script p q)
service_program script Prints q = print_program q

-- ---- the site of a request, which is noted before its service is looked up

abbrev pub noted_at : Option SiteId → Way → ObjectId → PropKey → Value → World → World
noted_at None way o k receiver w = w
noted_at (Some site) way o k receiver w = if is_counted (kind w.lists o) o k receiver then changed (Accessing site way o k) w else w

abbrev pub noted_for : Request → World → World
noted_for (Read o k receiver site) w = noted_at site Reads o k receiver w
noted_for (Write o k v receiver site) w = noted_at site (Writes (class_of v)) o k receiver w
noted_for other w = w

-- ---- the law of the table: what serves a request does what the model does

abbrev pub TableServes : Type 0
TableServes =
    (S : Server) (n : ℕ) (q : Request) (w : World)
    → run S (request_program w.script q) n w
    ≡ run S (service_program w.script (served_by (noted_for q w).lists q) q) n (noted_for q w)
