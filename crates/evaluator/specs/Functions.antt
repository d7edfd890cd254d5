-- Functions of the script (ECMA-262, 10.2, 15.2): how one is made where it stands, and what its body does once it is entered.
use Rattle.std.specs.Prelude.{ℕ, zero, suc, ◌-◌, true, false, if◌then◌else◌, Option, Some, None, List, [], ◌∷◌, ◌++◌, codes, slice_get}
use Rattle.property_keys.specs.declared.identifiers.ObjectId.{ObjectId}
use Rattle.property_keys.specs.declared.identifiers.TextId.{TextId}
use Rattle.property_keys.specs.declared.keys.PropKey.{PropKey}
use Rattle.property_keys.specs.declared.keys.PropKey.TheVariants.{Sym}
use Rattle.property_keys.specs.declared.values.Value.{Value}
use Rattle.property_keys.specs.declared.values.Value.TheVariants as value
use Rattle.property_keys.specs.Keys.{text_of_key}
use Rattle.descriptors.specs.declared.fields.Descriptor.{Descriptor}
use Rattle.es_tree.specs.declared.body.Body.{Body}
use Rattle.es_tree.specs.declared.body.DeclaredFunction.{DeclaredFunction}
use Rattle.es_tree.specs.declared.facts.FunctionFacts.{FunctionFacts}
use Rattle.es_tree.specs.declared.numbers.FunctionNo.{FunctionNo}
use Rattle.es_tree.specs.Tree.{Tree, top_names}
use Rattle.es_model.specs.declared.intrinsics.Class.TheVariants as class
use Rattle.es_model.specs.declared.kinds.CellNo.{CellNo}
use Rattle.es_model.specs.declared.running.FunctionName.{FunctionName}
use Rattle.es_model.specs.declared.running.FunctionName.TheVariants.{Text, Key}
use Rattle.es_model.specs.declared.running.NamePrefix.{NamePrefix}
use Rattle.es_model.specs.declared.running.NamePrefix.TheVariants as name_prefix
use Rattle.es_model.specs.declared.running.Part.{Part}
use Rattle.es_model.specs.declared.running.Part.TheVariants as part_of
use Rattle.es_model.specs.declared.running.Running.{Running}
use Rattle.es_model.specs.Completions.{Completion, Return, Throw}
use Rattle.es_model.specs.World.{Lists, description, units_of}
use Rattle.es_model.specs.Program.{Program, done, look, charge, part, define, make_cell, Statements}
use Rattle.es_model.specs.programs.Errors.{undefined, unwritten}
use Rattle.function_objects.specs.Constructing.{get_prototype, make_constructed, note_construction, prototype_given}
use Rattle.function_objects.specs.Making.{create_function, function_made, name_function}
use Rattle.function_objects.specs.Receivers.{bind_this}
use Rattle.evaluator.specs.Contexts.{Context, context, falls, gives, normal, with_cells}
use Rattle.evaluator.specs.Errors.{make_text}
use Rattle.evaluator.specs.References.{global}
use Rattle.evaluator.specs.Scopes.{enter_scope, initialise}
use Rattle.evaluator.specs.Values.{key_of_text}

-- ---- names of functions (10.2.9 SetFunctionName, steps 1 to 5): the text of a key, or a Symbol's description in brackets, behind a prefix

abbrev pub bracketed : Option (List ℕ) → List ℕ
bracketed None = []
bracketed (Some units) = codes "[" ++ units ++ codes "]"

abbrev pub description_units : Lists → Option TextId → Option (List ℕ)
description_units l None = None
description_units l (Some t) = Some (units_of l t)

abbrev pub name_units : Lists → PropKey → List ℕ
name_units l (Sym s) = bracketed (description_units l (description l s))
name_units l other = text_of_key l.texts other

abbrev pub prefix_units : NamePrefix → List ℕ
prefix_units name_prefix.Nothing = []
prefix_units name_prefix.Get = codes "get "
prefix_units name_prefix.Set = codes "set "

abbrev pub with_name : NamePrefix → PropKey → (TextId → Program) → Program
with_name before k next = look (λ l. make_text (prefix_units before ++ name_units l k) next)

-- ---- function expressions, methods and accessors (15.2.5, 15.4.4)

-- the name that is written at a function; else what it gets where it stands; else the empty text
abbrev pub function_name : Option (List ℕ) → Option FunctionName → (TextId → Program) → Program
function_name (Some units) given next = make_text units next
function_name None (Some (Text name)) next = next name
function_name None (Some (Key before k)) next = with_name before k next
function_name None None next = make_text [] next

abbrev pub written_name : Option Body → Option (List ℕ)
written_name None = None
written_name (Some code) = code.name

abbrev pub make_found : Context → Option FunctionName → FunctionNo → Option FunctionFacts → Program
make_found here name f None = falls
make_found here name f (Some facts) = create_function f facts (λ o.
    function_name (written_name (slice_get here.script.bodies f.0)) name (λ n. name_function o facts n (gives (value.Object o))))

-- the name is made once the function is there
abbrev pub make_function : Context → Option FunctionName → FunctionNo → Program
make_function here name f = make_found here name f (slice_get here.script.functions f.0)

-- ---- how a body ends

-- as every request does (10.2.1, steps 8 to 10)
abbrev pub body_end : Completion → Completion
body_end (Return v) = normal v
body_end (Throw v) = Throw v
body_end other = undefined

-- a constructor gives the object that its body returns, or else the new one (10.2.2, steps 10 to 13)
abbrev pub constructed_end : ObjectId → Completion → Completion
constructed_end o (Return (value.Object p)) = normal (value.Object p)
constructed_end o (Throw v) = Throw v
constructed_end o other = normal (value.Object o)

-- the event of a construction by the function whose body runs, which stands behind the last step, also where that throws
abbrev pub note_by : Tree → Option FunctionFacts → Program → Program
note_by script None next = next
note_by script (Some facts) next = note_construction script facts next

abbrev pub facts_of : Tree → Option FunctionNo → Option FunctionFacts
facts_of script None = None
facts_of script (Some f) = slice_get script.functions f.0

abbrev pub ended_by : Tree → Running → Option ObjectId → Completion → Program
ended_by script body None c = done (body_end c)
ended_by script body (Some o) c = note_by script (facts_of script body.function) (done (constructed_end o c))

-- the end of the body that runs
abbrev pub body_ended : Context → Completion → Program
body_ended here c = ended_by here.script here.body here.body.constructs c

-- ---- declared functions

-- CreateGlobalFunctionBinding (9.1.1.4.18). Where a script starts, the global object is extensible, and has no property of the name or a configurable one
abbrev pub global_function : Value → Descriptor
global_function v = record { value = Some v; writable = Some true; get = None; set = None; enumerable = Some true; configurable = Some false }

-- a declared function is that of its name: on the global object in a script, and else in the cell of the running body
abbrev pub bind_in : Option FunctionNo → Context → DeclaredFunction → TextId → ObjectId → Program → Program
bind_in None here d name o next = look (λ l. define global (key_of_text l name) (global_function (value.Object o)) (λ succeeded. next))
bind_in (Some f) here d name o next = initialise here d.named.binding (value.Object o) next

abbrev pub bind_declared : Context → DeclaredFunction → TextId → ObjectId → Program → Program
bind_declared here d name o next = bind_in here.body.function here d name o next

abbrev pub declare_found : Context → DeclaredFunction → Option FunctionFacts → Program → Program
declare_found here d None next = next
declare_found here d (Some facts) next =
    make_text d.named.name (λ name. function_made d.function facts name (λ o. bind_declared here d name o next))

-- a declared function is made, with its turn, where it is the last one of its name
abbrev pub declare_function : Context → DeclaredFunction → Program → Program
declare_function here d next = if d.is_last then charge 1 (declare_found here d (slice_get here.script.functions d.function.0) next) else next

abbrev pub declare_functions : Context → List DeclaredFunction → Program → Program
declare_functions here [] next = next
declare_functions here (d ∷ ds) next = declare_function here d (declare_functions here ds next)

-- ---- the start of a script (16.1.6, 16.1.7)

abbrev pub script_body : Tree → Running
script_body script =
    record { function = None; callee = None; arguments = None; this = value.Object global; constructs = None; strict = script.strict }

-- the statements of a part, and the end of the body that runs
abbrev pub run_part : Context → Part → Program
run_part here list = part (Statements here.body here.cells list zero) (body_ended here)

-- The lexical names are bound without a value, the declared functions are made, and then the statements run. The cells of the top scope are the first of the
-- world, and no names of the body that runs. A script ends as a body does, and its value is not asked for
abbrev pub script_program : Tree → Program
script_program script =
    let here : Context = context script (script_body script) [] in
    enter_scope here (top_names script) (λ top. declare_functions top script.script.declared (run_part here part_of.Script))

-- ---- the bodies of functions, after they are entered

-- the function, its object, the receiver, and the object that it makes as a constructor
abbrev pub running : FunctionNo → FunctionFacts → ObjectId → Value → Option ObjectId → Running
running f facts callee this made =
    record { function = Some f; callee = Some callee; arguments = None; this = this; constructs = made; strict = facts.strict }

-- The parameters get the arguments, and undefined where there are fewer (10.2.11, steps 24 to 26)
abbrev pub bind_parameters : ℕ → List Value → List CellNo → (List CellNo → Program) → Program
bind_parameters zero vs cells next = next cells
bind_parameters (suc n) [] cells next = make_cell (Some value.Undefined) (λ c. bind_parameters n [] (cells ++ c ∷ []) next)
bind_parameters (suc n) (v ∷ vs) cells next = make_cell (Some v) (λ c. bind_parameters n vs (cells ++ c ∷ []) next)

-- FunctionDeclarationInstantiation (10.2.11): the parameters, then the other names without a value, and then the declared functions are made, each in its
-- name's cell. Between the two nothing of the script runs, so it is not seen that the standard gives the names of declared functions undefined at first
abbrev pub enter_function : Context → FunctionFacts → Body → List Value → (Context → Program) → Program
enter_function here facts code vs next =
    bind_parameters facts.parameters vs here.cells (λ cells.
    enter_scope (with_cells here cells) (code.names - facts.parameters) (λ inner.
    declare_functions inner code.declared (next inner)))

-- EvaluateFunctionBody (15.2.3). A body that names `arguments` is not written yet
abbrev pub evaluate_body : Context → FunctionNo → FunctionFacts → Body → List Value → Program
evaluate_body here f facts code vs =
    if code.arguments then body_ended here (Throw value.Undefined)
    else enter_function here facts code vs (λ inner. run_part inner (part_of.Body f))

abbrev pub evaluate_found : Context → FunctionNo → FunctionFacts → Option Body → List Value → Program
evaluate_found here f facts None vs = unwritten
evaluate_found here f facts (Some code) vs = evaluate_body here f facts code vs

-- the body of a function, with what is known of it
abbrev pub run_body : Context → FunctionNo → FunctionFacts → List Value → Program
run_body here f facts vs = evaluate_found here f facts (slice_get here.script.bodies f.0) vs

abbrev pub call_found : Tree → FunctionNo → ObjectId → Value → List Value → Option FunctionFacts → Program
call_found script f callee this vs None = unwritten
call_found script f callee this vs (Some facts) =
    bind_this facts.strict this (λ receiver. run_body (context script (running f facts callee receiver None) []) f facts vs)

-- [[Call]] of a function of the script (10.2.1): the function, its object, the receiver and the arguments
abbrev pub call_program : Tree → FunctionNo → ObjectId → Value → List Value → Program
call_program script f callee this vs = call_found script f callee this vs (slice_get script.functions f.0)

-- ---- [[Construct]] (10.2.2)

-- the new object, with its prototype, as `this` of the body (steps 3 to 13)
abbrev pub construct_on : Tree → FunctionNo → FunctionFacts → ObjectId → List Value → ObjectId → Program
construct_on script f facts callee vs proto = make_constructed script facts proto (λ o.
    run_body (context script (running f facts callee (value.Object o) (Some o)) []) f facts vs)

-- the prototype is not to be had
abbrev pub construct_failed : Tree → FunctionFacts → Completion → Program
construct_failed script facts c = note_construction script facts (done c)

abbrev pub construct_given : Tree → FunctionNo → ObjectId → List Value → ObjectId → Option FunctionFacts → Completion → Program
construct_given script f callee vs target None c = unwritten
construct_given script f callee vs target (Some facts) c =
    prototype_given class.Object target (construct_on script f facts callee vs) (construct_failed script facts) c

-- the prototype of the new target has been asked for
abbrev pub construct_answered : Tree → FunctionNo → ObjectId → List Value → ObjectId → Completion → Program
construct_answered script f callee vs target c = construct_given script f callee vs target (slice_get script.functions f.0) c

abbrev pub construct_found : Tree → FunctionNo → ObjectId → List Value → ObjectId → Option FunctionFacts → Program
construct_found script f callee vs target None = unwritten
construct_found script f callee vs target (Some facts) =
    get_prototype class.Object target (construct_on script f facts callee vs) (construct_failed script facts)

-- [[Construct]] of a function of the script: the function, its object, the arguments and the new target
abbrev pub construct_program : Tree → FunctionNo → ObjectId → List Value → ObjectId → Program
construct_program script f callee vs target = construct_found script f callee vs target (slice_get script.functions f.0)
