-- What functions of the script do keeps within its budget, where a charge gives no less.
use Rattle.std.proofs.Common.{ℕ, ◌≤◌, Option, Some, None, List, [], ◌∷◌, arith}
use Rattle.std.specs.Prelude.{zero, suc, ◌-◌, slice_get}
use Rattle.property_keys.specs.declared.identifiers.ObjectId.{ObjectId}
use Rattle.property_keys.specs.declared.identifiers.TextId.{TextId}
use Rattle.property_keys.specs.declared.keys.PropKey.{PropKey}
use Rattle.property_keys.specs.declared.values.Value.{Value}
use Rattle.property_keys.specs.declared.values.Value.TheVariants as value
use Rattle.es_tree.specs.declared.body.Body.{Body}
use Rattle.es_tree.specs.declared.body.DeclaredFunction.{DeclaredFunction}
use Rattle.es_tree.specs.declared.facts.FunctionFacts.{FunctionFacts}
use Rattle.es_tree.specs.declared.numbers.FunctionNo.{FunctionNo}
use Rattle.es_tree.specs.Tree.{Tree, top_names}
use Rattle.es_model.specs.declared.intrinsics.Class.TheVariants as class
use Rattle.es_model.specs.declared.kinds.CellNo.{CellNo}
use Rattle.es_model.specs.declared.running.FunctionName.{FunctionName}
use Rattle.es_model.specs.declared.running.FunctionName.TheVariants as given_name
use Rattle.es_model.specs.declared.running.NamePrefix.{NamePrefix}
use Rattle.es_model.specs.declared.running.Part.{Part}
use Rattle.es_model.specs.declared.running.Part.TheVariants as part_of
use Rattle.es_model.specs.declared.running.Running.{Running}
use Rattle.es_model.specs.Completions.{Completion, Throw}
use Rattle.es_model.specs.Program.{Program}
use Rattle.es_model.specs.Weights.{IsWithin}
use Rattle.function_objects.specs.Making.{create_function, function_made, name_function}
use Rattle.function_objects.proofs.Bound.{bind_this_within}
use Rattle.function_objects.proofs.Constructed.{get_prototype_within, prototype_within}
use Rattle.function_objects.proofs.Made.{create_within, made_within, name_within}
use Rattle.evaluator.specs.Contexts.{Context, context, normal, with_cells}
use Rattle.evaluator.specs.Functions.{bind_in, bind_parameters, body_ended, call_found, call_program, construct_answered, construct_failed, construct_found, construct_given, construct_on, construct_program, declare_found, declare_functions, ended_by, enter_function, evaluate_body, evaluate_found, facts_of, function_name, make_found, make_function, note_by, run_body, run_part, running, script_body, script_program, with_name, written_name}
use Rattle.evaluator.proofs.StatementsWithin.{scope-within}
use Rattle.evaluator.proofs.WordsWithin.{Within, within-of, within-whole, change-within, charged-within, cond-within, done-within, listed-within, look-within, more-within, text-within}

-- ---- function expressions, methods and accessors

with_name-within : (r b : ℕ) (before : NamePrefix) (k : PropKey) (next : TextId → Program) → ((t : TextId) → Within r b (next t)) → Within r b (with_name before k next)
with_name-within r b before k next h = look-within _ _ _ (λ l. text-within r b _ next h)

name-within : (r b : ℕ) (written : Option (List ℕ)) (given : Option FunctionName) (next : TextId → Program) → ((t : TextId) → Within r b (next t)) → Within r b (function_name written given next)
name-within r b (Some units) given next h = text-within r b units next h
name-within r b None (Some (given_name.Text name)) next h = h name
name-within r b None (Some (given_name.Key before k)) next h = with_name-within r b before k next h
name-within r b None None next h = text-within r b [] next h

made-within : (r b : ℕ) (f : FunctionNo) (facts : FunctionFacts) (name : TextId) (next : ObjectId → Program) → ((o : ObjectId) → Within r b (next o)) → Within r b (function_made f facts name next)
made-within r b f facts name next h = within-of r b (function_made f facts name next) (made_within r b f facts name next (λ o. within-whole r b (next o) (h o)))

created-within : (r b : ℕ) (f : FunctionNo) (facts : FunctionFacts) (next : ObjectId → Program) → ((o : ObjectId) → Within r b (next o)) → Within r b (create_function f facts next)
created-within r b f facts next h = within-of r b (create_function f facts next) (create_within r b f facts next (λ o. within-whole r b (next o) (h o)))

named-within : (r b : ℕ) (o : ObjectId) (facts : FunctionFacts) (name : TextId) (next : Program) → Within r b next → Within r b (name_function o facts name next)
named-within r b o facts name next h = within-of r b (name_function o facts name next) (name_within r b o facts name next (within-whole r b next h))

make_found-within : (r b : ℕ) (here : Context) (name : Option FunctionName) (f : FunctionNo) (found : Option FunctionFacts) → Within r b (make_found here name f found)
make_found-within r b here name f None = done-within _ _ _
make_found-within r b here name f (Some facts) =
    created-within r b f facts _ (λ o. name-within r b (written_name (slice_get here.script.bodies f.0)) name _ (λ n. named-within r b o facts n _ (done-within r b (normal (value.Object o)))))

pub make_function-within : (r b : ℕ) (here : Context) (name : Option FunctionName) (f : FunctionNo) → Within r b (make_function here name f)
make_function-within r b here name f = make_found-within r b here name f (slice_get here.script.functions f.0)

-- ---- declared functions

bind_in-within : (r b : ℕ) (f : Option FunctionNo) (here : Context) (d : DeclaredFunction) (name : TextId) (o : ObjectId) (next : Program) → Within r b next → Within r b (bind_in f here d name o next)
bind_in-within r b None here d name o next h = look-within _ _ _ (λ l. look-within _ _ _ (λ m. change-within _ _ _ _ h))
bind_in-within r b (Some f) here d name o next h = change-within _ _ _ _ h

declare_found-within : (r b : ℕ) (here : Context) (d : DeclaredFunction) (found : Option FunctionFacts) (next : Program) → Within r b next → Within r b (declare_found here d found next)
declare_found-within r b here d None next h = h
declare_found-within r b here d (Some facts) next h =
    text-within r b d.named.name _ (λ name. made-within r b d.function facts name _ (λ o. bind_in-within r b here.body.function here d name o next h))

pub declare_functions-within : (r b : ℕ) (here : Context) (ds : List DeclaredFunction) (next : Program) → b ≤ r → Within r b next → Within r b (declare_functions here ds next)
declare_functions-within r b here [] next le h = h
declare_functions-within r b here (d ∷ ds) next le h =
    let rest = declare_functions-within r b here ds next le h in
    let found = declare_found-within r r here d (slice_get here.script.functions d.function.0) (declare_functions here ds next) (more-within r b r (declare_functions here ds next) le rest) in
    cond-within r b d.is_last _ (declare_functions here ds next) (charged-within r b _ found) rest

-- ---- how a body ends

note_by-within : (r b : ℕ) (script : Tree) (facts : Option FunctionFacts) (next : Program) → Within r b next → Within r b (note_by script facts next)
note_by-within r b script None next h = h
note_by-within r b script (Some facts) next h = change-within _ _ _ _ h

ended_by-within : (r b : ℕ) (script : Tree) (body : Running) (made : Option ObjectId) (c : Completion) → Within r b (ended_by script body made c)
ended_by-within r b script body None c = done-within _ _ _
ended_by-within r b script body (Some o) c = note_by-within r b script (facts_of script body.function) _ (done-within _ _ _)

pub body_ended-within : (r b : ℕ) (here : Context) (c : Completion) → Within r b (body_ended here c)
body_ended-within r b here c = ended_by-within r b here.script here.body here.body.constructs c

run_part-within : (r b : ℕ) (here : Context) (list : Part) → 2 ≤ b → Within r b (run_part here list)
run_part-within r b here list some = listed-within r b 0 here.body here.cells list 0 (body_ended here) some (λ c. body_ended-within r 0 here c)

-- ---- the start of a script

pub script-within : (r b : ℕ) (script : Tree) → 2 ≤ b → b ≤ r → Within r b (script_program script)
script-within r b script some le =
    let here : Context = context script (script_body script) [] in
    scope-within r b here (top_names script) _ (λ top. declare_functions-within r b top script.script.declared (run_part here part_of.Script) le (run_part-within r b here part_of.Script some))

-- ---- the bodies of functions

bind_parameters-within : (r b n : ℕ) (vs : List Value) (cells : List CellNo) (next : List CellNo → Program) → ((all : List CellNo) → Within r b (next all)) → Within r b (bind_parameters n vs cells next)
bind_parameters-within r b zero vs cells next h = h cells
bind_parameters-within r b (suc n) [] cells next h = look-within _ _ _ (λ l. change-within _ _ _ _ (bind_parameters-within r b n [] _ next h))
bind_parameters-within r b (suc n) (v ∷ vs) cells next h = look-within _ _ _ (λ l. change-within _ _ _ _ (bind_parameters-within r b n vs _ next h))

enter_function-within : (r b : ℕ) (here : Context) (facts : FunctionFacts) (code : Body) (vs : List Value) (next : Context → Program) → b ≤ r → ((inner : Context) → Within r b (next inner)) → Within r b (enter_function here facts code vs next)
enter_function-within r b here facts code vs next le h =
    bind_parameters-within r b facts.parameters vs here.cells _ (λ cells.
    scope-within r b (with_cells here cells) (code.names - facts.parameters) _ (λ inner. declare_functions-within r b inner code.declared (next inner) le (h inner)))

evaluate_body-within : (r b : ℕ) (here : Context) (f : FunctionNo) (facts : FunctionFacts) (code : Body) (vs : List Value) → 2 ≤ b → b ≤ r → Within r b (evaluate_body here f facts code vs)
evaluate_body-within r b here f facts code vs some le =
    cond-within r b code.arguments _ _ (body_ended-within r b here (Throw value.Undefined))
    (enter_function-within r b here facts code vs _ le (λ inner. run_part-within r b inner (part_of.Body f) some))

evaluate_found-within : (r b : ℕ) (here : Context) (f : FunctionNo) (facts : FunctionFacts) (found : Option Body) (vs : List Value) → 2 ≤ b → b ≤ r → Within r b (evaluate_found here f facts found vs)
evaluate_found-within r b here f facts None vs some le = done-within _ _ _
evaluate_found-within r b here f facts (Some code) vs some le = evaluate_body-within r b here f facts code vs some le

run_body-within : (r b : ℕ) (here : Context) (f : FunctionNo) (facts : FunctionFacts) (vs : List Value) → 2 ≤ b → b ≤ r → IsWithin r b (run_body here f facts vs)
run_body-within r b here f facts vs some le = within-whole r b (run_body here f facts vs) (evaluate_found-within r b here f facts (slice_get here.script.bodies f.0) vs some le)

-- ---- calls

call_found-within : (r b : ℕ) (script : Tree) (f : FunctionNo) (callee : ObjectId) (this : Value) (vs : List Value) (found : Option FunctionFacts) → 2 ≤ b → b ≤ r → IsWithin r b (call_found script f callee this vs found)
call_found-within r b script f callee this vs None some le = tt
call_found-within r b script f callee this vs (Some facts) some le =
    bind_this_within r b facts.strict this _ (λ receiver. run_body-within r b (context script (running f facts callee receiver None) []) f facts vs some le)

pub call_program-within : (r b : ℕ) (script : Tree) (f : FunctionNo) (callee : ObjectId) (this : Value) (vs : List Value) → 2 ≤ b → b ≤ r → IsWithin r b (call_program script f callee this vs)
call_program-within r b script f callee this vs some le = call_found-within r b script f callee this vs (slice_get script.functions f.0) some le

-- ---- constructions

construct_on-within : (r b : ℕ) (script : Tree) (f : FunctionNo) (facts : FunctionFacts) (callee : ObjectId) (vs : List Value) → 2 ≤ b → b ≤ r → (proto : ObjectId) → IsWithin r b (construct_on script f facts callee vs proto)
construct_on-within r b script f facts callee vs some le proto = λ l.
    run_body-within r b (context script (running f facts callee (value.Object _) (Some _)) []) f facts vs some le

construct_failed-within : (r b : ℕ) (script : Tree) (facts : FunctionFacts) (c : Completion) → IsWithin r b (construct_failed script facts c)
construct_failed-within r b script facts c = tt

construct_given-within : (r b : ℕ) (script : Tree) (f : FunctionNo) (callee : ObjectId) (vs : List Value) (target : ObjectId) (found : Option FunctionFacts) (c : Completion) → 2 ≤ b → b ≤ r →
    IsWithin r b (construct_given script f callee vs target found c)
construct_given-within r b script f callee vs target None c some le = tt
construct_given-within r b script f callee vs target (Some facts) c some le =
    prototype_within r b class.Object target (construct_on script f facts callee vs) (construct_failed script facts) c (construct_on-within r b script f facts callee vs some le) (construct_failed-within r b script facts)

pub construct_answered-within : (r b : ℕ) (script : Tree) (f : FunctionNo) (callee : ObjectId) (vs : List Value) (target : ObjectId) (c : Completion) → 2 ≤ b → b ≤ r → IsWithin r b (construct_answered script f callee vs target c)
construct_answered-within r b script f callee vs target c some le = construct_given-within r b script f callee vs target (slice_get script.functions f.0) c some le

construct_found-within : (r b : ℕ) (script : Tree) (f : FunctionNo) (callee : ObjectId) (vs : List Value) (target : ObjectId) (found : Option FunctionFacts) → 4 ≤ b → b ≤ r → IsWithin r b (construct_found script f callee vs target found)
construct_found-within r b script f callee vs target None some le = tt
construct_found-within r b script f callee vs target (Some facts) some le =
    get_prototype_within r b 2 class.Object target (construct_on script f facts callee vs) (construct_failed script facts) (omega arith)
    (construct_on-within r 2 script f facts callee vs (omega arith) (omega arith)) (construct_failed-within r 2 script facts)

-- the prototype of the new target is asked for first
pub construct_program-within : (r b : ℕ) (script : Tree) (f : FunctionNo) (callee : ObjectId) (vs : List Value) (target : ObjectId) → 4 ≤ b → b ≤ r → IsWithin r b (construct_program script f callee vs target)
construct_program-within r b script f callee vs target some le = construct_found-within r b script f callee vs target (slice_get script.functions f.0) some le
