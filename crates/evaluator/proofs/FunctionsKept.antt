-- What functions of the script do keeps worlds sound: how one is made where it stands, and what its body does once it is entered.
use Rattle.std.proofs.Common.{◌≡◌, ◌≤◌, ◌++◌, ℕ, Bool, true, false, cond, Option, Some, None, List, [], ◌∷◌, length, refl, sym, ◌∙◌, subst, arith}
use Rattle.std.specs.Prelude.{zero, suc, ◌-◌, is_some, nat_le, slice_get}
use Rattle.std.proofs.lemmas.Bool.{leb-true}
use Rattle.std.proofs.lemmas.Option.{slice_get_within}
use Rattle.property_keys.specs.declared.identifiers.ObjectId.{ObjectId}
use Rattle.property_keys.specs.declared.identifiers.TextId.{TextId}
use Rattle.property_keys.specs.declared.keys.PropKey.{PropKey}
use Rattle.property_keys.specs.declared.values.Value.{Value}
use Rattle.property_keys.specs.declared.values.Value.TheVariants as value
use Rattle.property_keys.specs.Limits.{most_units}
use Rattle.es_tree.specs.declared.body.Body.{Body}
use Rattle.es_tree.specs.declared.body.DeclaredFunction.{DeclaredFunction}
use Rattle.es_tree.specs.declared.facts.FunctionFacts.{FunctionFacts}
use Rattle.es_tree.specs.declared.numbers.FunctionNo.{FunctionNo}
use Rattle.es_tree.specs.Tree.{Tree, top_names}
use Rattle.es_model.specs.declared.answers.Reply.TheVariants as reply
use Rattle.es_model.specs.declared.intrinsics.Class.TheVariants as class
use Rattle.es_model.specs.declared.kinds.CellNo.{CellNo}
use Rattle.es_model.specs.declared.kinds.ErrorKind.TheVariants as error
use Rattle.es_model.specs.declared.requests.Request.{Request}
use Rattle.es_model.specs.declared.requests.Request.TheVariants.{Call, Construct}
use Rattle.es_model.specs.declared.running.FunctionName.{FunctionName}
use Rattle.es_model.specs.declared.running.FunctionName.TheVariants as given_name
use Rattle.es_model.specs.declared.running.NamePrefix.{NamePrefix}
use Rattle.es_model.specs.declared.running.Part.{Part}
use Rattle.es_model.specs.declared.running.Part.TheVariants as part_of
use Rattle.es_model.specs.declared.running.Running.{Running}
use Rattle.es_model.specs.Changes.{Change, Defining, Interning, MakingCell, SettingCell, changed, charged}
use Rattle.es_model.specs.Completions.{Completion, Normal, Break, Continue, Return, Throw}
use Rattle.es_model.specs.Fits.{Fits, IsKnownCompletion}
use Rattle.es_model.specs.Kept.{AreCells, FitsTask, IsKept, IsKnownName, IsKnownRunning, IsLater}
use Rattle.es_model.specs.Known.{AreKnown, IfThere, IsKnown, IsObject, IsText}
use Rattle.es_model.specs.Program.{Of, Program, Statements, Task, charge, done, intern}
use Rattle.es_model.specs.Sound.{IsSound}
use Rattle.es_model.specs.World.{Lists, World, new_cell, number_of}
use Rattle.es_model.proofs.Keeping.{later_none, later_then}
use Rattle.es_model.proofs.KnownLater.{there-map}
use Rattle.es_model.proofs.SharedKept.{later-changed}
use Rattle.es_model.proofs.ArrayLengths.{IsNoArray, no_array-later, no_array-leaves}
use Rattle.es_model.proofs.SoundChanges.{sound-cell, sound-cell_set, sound-defining, sound-interning}
use Rattle.es_model.proofs.SoundErrors.{error-kept, interned-known, kept-if, throw-fits}
use Rattle.es_model.proofs.SoundReads.{sound-charged}
use Rattle.function_objects.specs.Making.{create_function, function_made, name_function}
use Rattle.function_objects.proofs.Bound.{bind_this_kept}
use Rattle.function_objects.proofs.Constructed.{constructed_kept, get_prototype_kept, noted_kept, prototype_kept}
use Rattle.function_objects.proofs.Made.{create_kept, made_kept, name_kept}
use Rattle.evaluator.specs.Contexts.{Context, context, normal, with_cells}
use Rattle.evaluator.specs.Errors.{make_text, text_too_long}
use Rattle.evaluator.specs.Functions.{bind_in, bind_parameters, body_end, body_ended, call_found, call_program, construct_answered, construct_failed, construct_found, construct_given, construct_on, construct_program, constructed_end, declare_found, declare_functions, ended_by, enter_function, evaluate_body, evaluate_found, facts_of, function_name, global_function, make_found, make_function, note_by, run_body, run_part, running, script_body, script_program, with_name, written_name}
use Rattle.evaluator.specs.References.{global}
use Rattle.evaluator.specs.Scopes.{bound_cell}
use Rattle.evaluator.specs.Soundness.{FitsEnd, IsKnownEnd, IsKnownNew}
use Rattle.evaluator.specs.Values.{key_of_text}
use Rattle.evaluator.proofs.StatementsKept.{cells-more, cells_kept}
use Rattle.evaluator.proofs.WordsKept.{Keeps, kept-of, kept-whole, done-kept, look-kept, IsHere, OnText, completion-stays, global-there, here-stays, later-charged, name-stays, text-key, text-kept, text-stays, object-stays, value-stays, values-stay, global-other}

-- ---- what is there of the script

-- the facts of a function that the script of a body has are those in the world
facts-here : (w : World) (here : Context) (f : ℕ) (facts : FunctionFacts) → IsHere w here → slice_get here.script.functions f ≡ Some facts → slice_get w.script.functions f ≡ Some facts
facts-here w here f facts h e = subst (λ (script : Tree). slice_get script.functions f ≡ Some facts) h.2 e

-- ---- function expressions, methods and accessors

with_name-kept : (w : World) (before : NamePrefix) (k : PropKey) (next : TextId → Program) → IsSound w → OnText w next → Keeps (with_name before k next) w
with_name-kept w before k next s f = look-kept w _ (text-kept w _ next s f)

name-kept : (w : World) (written : Option (List ℕ)) (given : Option FunctionName) (next : TextId → Program) → IsSound w → IfThere (IsKnownName w.lists) given → OnText w next → Keeps (function_name written given next) w
name-kept w (Some units) given next s known f = text-kept w units next s f
name-kept w None (Some (given_name.Text name)) next s known f = f name w s (later_none w) known
name-kept w None (Some (given_name.Key before k)) next s known f = with_name-kept w before k next s f
name-kept w None None next s known f = text-kept w [] next s f

created-kept : (w : World) (here : Context) (f : FunctionNo) (facts : FunctionFacts) (next : ObjectId → Program) → IsSound w → IsHere w here → slice_get here.script.functions f.0 ≡ Some facts →
    ((o : ObjectId) (v : World) → IsSound v → IsLater w v → IsNoArray v.lists o → Keeps (next o) v) → Keeps (create_function f facts next) w
created-kept w here f facts next s h e onward =
    kept-of _ w (create_kept IsKnownCompletion f facts next w s (facts-here w here f.0 facts h e) h.0.top (λ o v sv l other. kept-whole (next o) v (onward o v sv l other)))

named-kept : (w : World) (o : ObjectId) (facts : FunctionFacts) (name : TextId) → IsSound w → IsNoArray w.lists o → IsText w.lists name →
    Keeps (name_function o facts name (done (normal (value.Object o)))) w
named-kept w o facts name s other known = kept-of _ w (name_kept IsKnownCompletion o facts name (done (normal (value.Object o))) w s other known (λ v sv l. (sv, object-stays w v l o other.there)))

make_found-kept : (w : World) (here : Context) (name : Option FunctionName) (f : FunctionNo) (found : Option FunctionFacts) → IsSound w → IsHere w here → IfThere (IsKnownName w.lists) name → slice_get here.script.functions f.0 ≡ found →
    Keeps (make_found here name f found) w
make_found-kept w here name f None s h known e = done-kept w _ s tt
make_found-kept w here name f (Some facts) s h known e = created-kept w here f facts _ s h e (λ o v sv l other.
    name-kept v (written_name (slice_get here.script.bodies f.0)) name _ sv (there-map (IsKnownName w.lists) (IsKnownName v.lists) (name-stays w v l) name known) (λ n u su later text.
    named-kept u o facts n su (no_array-later v.lists u.lists later.lists o other) text))

pub make_function-kept : (w : World) (here : Context) (name : Option FunctionName) (f : FunctionNo) → IsSound w → IsHere w here → IfThere (IsKnownName w.lists) name → Keeps (make_function here name f) w
make_function-kept w here name f s h known = make_found-kept w here name f (slice_get here.script.functions f.0) s h known refl

-- ---- what goes on in every later world, in a program of any task

abbrev pub GoesOn : Task → World → Program → Type 0
GoesOn t w next = (v : World) → IsSound v → IsLater w v → IsKept (FitsTask t) next v

goes-on : (t : Task) (w v : World) (next : Program) → IsLater w v → GoesOn t w next → GoesOn t v next
goes-on t w v next l f = λ u su m. f u su (later_then w v u l m)

le-kept : (t : Task) (n m : ℕ) (w : World) (p q : Program) (b : Bool) → nat_le n m ≡ b → (n ≤ m → IsKept (FitsTask t) p w) → IsKept (FitsTask t) q w → IsKept (FitsTask t) (cond b p q) w
le-kept t n m w p q true e f h = f (leb-true n m e)
le-kept t n m w p q false e f h = h

too_long-kept : (t : Task) (w : World) → IsSound w → IsKept (FitsTask t) text_too_long w
too_long-kept t w s = error-kept t w error.RangeError _ s (omega arith)

made_text-kept : (t : Task) (w : World) (units : List ℕ) (next : TextId → Program) → IsSound w → ((n : TextId) (v : World) → IsSound v → IsLater w v → IsText v.lists n → IsKept (FitsTask t) (next n) v) →
    IsKept (FitsTask t) (make_text units next) w
made_text-kept t w units next s f =
    le-kept t (length units) most_units w (intern units next) text_too_long (nat_le (length units) most_units) refl
    (λ short. f (number_of w.lists units) (changed (Interning units) w) (sound-interning w units s short) (later-changed (Interning units) w) (interned-known w units)) (too_long-kept t w s)

-- ---- declared functions

bind_in-kept : (t : Task) (w : World) (f : Option FunctionNo) (here : Context) (d : DeclaredFunction) (name : TextId) (o : ObjectId) (next : Program) → IsSound w → IsText w.lists name → IsObject w.lists o → GoesOn t w next →
    IsKept (FitsTask t) (bind_in f here d name o next) w
bind_in-kept t w None here d name o next s text there onward =
    let k : PropKey = key_of_text w.lists name in
    let op : Change = Defining global k (global_function (value.Object o)) in
    onward (changed op w) (sound-defining w global k (global_function (value.Object o)) s (global-there w s) (text-key w.lists name text) (record { value = there; get = tt; set = tt; sound = refl })
    (no_array-leaves w.lists global k (Some (value.Object o)) (global-other w s).other)) (later-changed op w)
bind_in-kept t w (Some f) here d name o next s text there onward =
    let c : CellNo = bound_cell here d.named.binding in
    onward (changed (SettingCell c (value.Object o)) w) (sound-cell_set w c (value.Object o) s there) (later-changed (SettingCell c (value.Object o)) w)

declare_found-kept : (t : Task) (w : World) (here : Context) (d : DeclaredFunction) (found : Option FunctionFacts) (next : Program) → IsSound w → IsHere w here → slice_get here.script.functions d.function.0 ≡ found → GoesOn t w next →
    IsKept (FitsTask t) (declare_found here d found next) w
declare_found-kept t w here d None next s h e onward = onward w s (later_none w)
declare_found-kept t w here d (Some facts) next s h e onward =
    let bound : TextId → ObjectId → Program = λ name o. bind_in here.body.function here d name o next in
    made_text-kept t w d.named.name (λ name. function_made d.function facts name (bound name)) s (λ name v sv l text.
    let hv : IsHere v here = here-stays w v l here h in
    made_kept (FitsTask t) d.function facts name (bound name) v sv text (facts-here v here d.function.0 facts hv e) hv.0.top (λ o u su m there.
    bind_in-kept t u here.body.function here d name o next su (text-stays v u m name text) there (goes-on t v u next m (goes-on t w v next l onward))))

pub declare_functions-kept : (t : Task) (w : World) (here : Context) (ds : List DeclaredFunction) (next : Program) → IsSound w → IsHere w here → GoesOn t w next → IsKept (FitsTask t) (declare_functions here ds next) w
declare_functions-kept t w here [] next s h onward = onward w s (later_none w)
declare_functions-kept t w here (d ∷ ds) next s h onward =
    let found : Option FunctionFacts = slice_get here.script.functions d.function.0 in
    let rest : Program = declare_functions here ds next in
    let u : World = charged w 1 in
    let l : IsLater w u = later-charged w in
    let on : GoesOn t u rest = λ v sv m. declare_functions-kept t v here ds next sv (here-stays u v m here (here-stays w u l here h)) (goes-on t u v next m (goes-on t w u next l onward)) in
    kept-if (FitsTask t) w d.is_last (charge 1 (declare_found here d found rest)) rest
    (s.intact, declare_found-kept t u here d found rest (sound-charged w 1 s) (here-stays w u l here h) refl on) (declare_functions-kept t w here ds next s h onward)

-- ---- how a body ends

pub body_end_known : (l : Lists) (c : Completion) → IsKnownCompletion l c → IsKnownEnd l (body_end c)
body_end_known l (Normal r) h = tt
body_end_known l Break h = tt
body_end_known l Continue h = tt
body_end_known l (Return v) h = h
body_end_known l (Throw v) h = h

returned-new : (l : Lists) (o : ObjectId) (v : Value) → IsObject l o → IsKnown l v → IsKnownNew l (constructed_end o (Return v))
returned-new l o value.Undefined there known = there
returned-new l o value.Null there known = there
returned-new l o (value.Bool b) there known = there
returned-new l o (value.Whole n) there known = there
returned-new l o (value.Text t) there known = there
returned-new l o (value.Symbol s) there known = there
returned-new l o (value.Object p) there known = known

pub constructed_end_known : (l : Lists) (o : ObjectId) (c : Completion) → IsObject l o → IsKnownCompletion l c → IsKnownNew l (constructed_end o c)
constructed_end_known l o (Normal r) there h = there
constructed_end_known l o Break there h = there
constructed_end_known l o Continue there h = there
constructed_end_known l o (Return v) there h = returned-new l o v there h
constructed_end_known l o (Throw v) there h = h

-- an end of a call is a value or a throw
each-end : (M : Completion → Type 0) (l : Lists) → ((v : Value) → IsKnown l v → M (normal v)) → ((v : Value) → IsKnown l v → M (Throw v)) → (c : Completion) → IsKnownEnd l c → M c
each-end M l f g (Normal (reply.Value v)) h = f v h
each-end M l f g (Normal (reply.Flag b)) h = absurd h
each-end M l f g (Normal (reply.Property p)) h = absurd h
each-end M l f g (Normal (reply.Keys ks)) h = absurd h
each-end M l f g (Normal (reply.Key k)) h = absurd h
each-end M l f g (Normal (reply.Proto p)) h = absurd h
each-end M l f g (Normal (reply.List vs)) h = absurd h
each-end M l f g (Normal (reply.Wanted d)) h = absurd h
each-end M l f g Break h = absurd h
each-end M l f g Continue h = absurd h
each-end M l f g (Return v) h = absurd h
each-end M l f g (Throw v) h = g v h

-- and one of a construction an Object or a throw
each-new_value : (M : Completion → Type 0) (l : Lists) → ((o : ObjectId) → IsObject l o → M (normal (value.Object o))) → (v : Value) → IsKnownNew l (normal v) → M (normal v)
each-new_value M l f value.Undefined h = absurd h
each-new_value M l f value.Null h = absurd h
each-new_value M l f (value.Bool b) h = absurd h
each-new_value M l f (value.Whole n) h = absurd h
each-new_value M l f (value.Text t) h = absurd h
each-new_value M l f (value.Symbol s) h = absurd h
each-new_value M l f (value.Object o) h = f o h

each-new : (M : Completion → Type 0) (l : Lists) → ((o : ObjectId) → IsObject l o → M (normal (value.Object o))) → ((v : Value) → IsKnown l v → M (Throw v)) → (c : Completion) → IsKnownNew l c → M c
each-new M l f g (Normal (reply.Value v)) h = each-new_value M l f v h
each-new M l f g (Normal (reply.Flag b)) h = absurd h
each-new M l f g (Normal (reply.Property p)) h = absurd h
each-new M l f g (Normal (reply.Keys ks)) h = absurd h
each-new M l f g (Normal (reply.Key k)) h = absurd h
each-new M l f g (Normal (reply.Proto p)) h = absurd h
each-new M l f g (Normal (reply.List vs)) h = absurd h
each-new M l f g (Normal (reply.Wanted d)) h = absurd h
each-new M l f g Break h = absurd h
each-new M l f g Continue h = absurd h
each-new M l f g (Return v) h = absurd h
each-new M l f g (Throw v) h = g v h

-- how a body ends fits a task
abbrev pub FitsAs : Task → (constructs : Bool) → Type 0
FitsAs t constructs = (l : Lists) (c : Completion) → FitsEnd constructs l c → FitsTask t l c

pub call_fits : (f this : Value) (vs : List Value) → FitsAs (Of (Call f this vs)) false
call_fits f this vs l c h = each-end (λ d. Fits l (Call f this vs) d) l (λ v known. (tt, known)) (λ v known. known) c h

pub construct_fits : (f : ObjectId) (vs : List Value) (target : ObjectId) → FitsAs (Of (Construct f vs target)) true
construct_fits f vs target l c h = each-new (λ d. Fits l (Construct f vs target) d) l (λ o known. (tt, known)) (λ v known. known) c h

end-known : (l : Lists) (c : Completion) → IsKnownEnd l c → IsKnownCompletion l c
end-known l c h = each-end (IsKnownCompletion l) l (λ v known. known) (λ v known. known) c h

note_by-kept : (t : Task) (w : World) (script : Tree) (facts : Option FunctionFacts) (c : Completion) → IsSound w → ((v : World) → IsLater w v → FitsTask t v.lists c) → IsKept (FitsTask t) (note_by script facts (done c)) w
note_by-kept t w script None c s fits = (s, fits w (later_none w))
note_by-kept t w script (Some facts) c s fits = noted_kept (FitsTask t) script facts (done c) w s (λ u su l. (su, fits u l))

ended_by-kept : (t : Task) (w : World) (script : Tree) (body : Running) (made : Option ObjectId) (c : Completion) → IsSound w → FitsAs t (is_some made) → IfThere (IsObject w.lists) made → ((v : World) → IsLater w v → IsKnownCompletion v.lists c) →
    IsKept (FitsTask t) (ended_by script body made c) w
ended_by-kept t w script body None c s fits there known = (s, fits w.lists (body_end c) (body_end_known w.lists c (known w (later_none w))))
ended_by-kept t w script body (Some o) c s fits there known =
    note_by-kept t w script (facts_of script body.function) (constructed_end o c) s (λ v l. fits v.lists (constructed_end o c) (constructed_end_known v.lists o c (object-stays w v l o there) (known v l)))

pub body_ended_kept : (t : Task) (w : World) (here : Context) (c : Completion) → IsSound w → FitsAs t (is_some here.body.constructs) → IfThere (IsObject w.lists) here.body.constructs → IsKnownCompletion w.lists c →
    IsKept (FitsTask t) (body_ended here c) w
body_ended_kept t w here c s fits there known = ended_by-kept t w here.script here.body here.body.constructs c s fits there (λ v l. completion-stays w v l c known)

run_part-kept : (t : Task) (w : World) (here : Context) (list : Part) → IsSound w → IsHere w here → FitsAs t (is_some here.body.constructs) → IsKept (FitsTask t) (run_part here list) w
run_part-kept t w here list s h fits = (s, (h.0, h.1), λ c v sv l known. body_ended_kept t v here c sv fits (here-stays w v l here h).0.constructs known)

-- ---- the start of a script

script-running : (w v : World) → IsSound v → IsLater w v → top_names w.script ≤ length v.lists.cells → IsHere v (context w.script (script_body w.script) [])
script-running w v s l top =
    let most = subst (λ (script : Tree). top_names script ≤ length v.lists.cells) (sym l.script) top in
    (record { function = tt; callee = tt; arguments = tt; this = global-there v s; constructs = tt; top = most }, tt, sym l.script)

-- The program of a script, as that of each task that the end of a call fits
pub script_kept : (t : Task) (w : World) → FitsAs t false → IsSound w → IsKept (FitsTask t) (script_program w.script) w
script_kept t w fits s =
    let here : Context = context w.script (script_body w.script) [] in
    cells_kept (FitsTask t) w (top_names w.script) [] _ s tt (λ all v sv l more there.
    let h : IsHere v here = script-running w v sv l (omega arith) in
    declare_functions-kept t v (with_cells here all) w.script.script.declared (run_part here part_of.Script) sv (h.0, there, h.2)
    (λ u su m. run_part-kept t u here part_of.Script su (here-stays v u m here h) fits))

pub script-kept : (w : World) → IsSound w → IsKept IsKnownCompletion (script_program w.script) w
script-kept w s = script_kept (Statements (script_body w.script) [] part_of.Script 0) w end-known s

-- ---- the bodies of functions

abbrev OnCells : Task → World → (List CellNo → Program) → Type 0
OnCells t w next = (all : List CellNo) (v : World) → IsSound v → IsLater w v → AreCells v.lists all → IsKept (FitsTask t) (next all) v

cells-on : (t : Task) (w v : World) (next : List CellNo → Program) → IsLater w v → OnCells t w next → OnCells t v next
cells-on t w v next l onward = λ all u su m are. onward all u su (later_then w v u l m) are

bind_parameters-kept : (t : Task) (w : World) (n : ℕ) (vs : List Value) (cells : List CellNo) (next : List CellNo → Program) → IsSound w → AreKnown w.lists vs → AreCells w.lists cells → OnCells t w next →
    IsKept (FitsTask t) (bind_parameters n vs cells next) w
bind_parameters-kept t w zero vs cells next s known there onward = onward cells w s (later_none w) there
bind_parameters-kept t w (suc n) [] cells next s known there onward =
    let v : World = changed (MakingCell (Some value.Undefined)) w in
    bind_parameters-kept t v n [] (cells ++ new_cell w.lists ∷ []) next (sound-cell w (Some value.Undefined) s tt) tt (cells-more w (Some value.Undefined) cells there)
    (cells-on t w v next (later-changed (MakingCell (Some value.Undefined)) w) onward)
bind_parameters-kept t w (suc n) (x ∷ vs) cells next s known there onward =
    let v : World = changed (MakingCell (Some x)) w in
    let l : IsLater w v = later-changed (MakingCell (Some x)) w in
    bind_parameters-kept t v n vs (cells ++ new_cell w.lists ∷ []) next (sound-cell w (Some x) s known.0) (values-stay w v l vs known.1) (cells-more w (Some x) cells there) (cells-on t w v next l onward)

-- what goes on in the scope of the body
abbrev OnInner : Task → World → Context → (Context → Program) → Type 0
OnInner t w here next = (all : List CellNo) (v : World) → IsSound v → IsLater w v → IsHere v (with_cells here all) → IsKept (FitsTask t) (next (with_cells here all)) v

enter_function-kept : (t : Task) (w : World) (here : Context) (facts : FunctionFacts) (code : Body) (vs : List Value) (next : Context → Program) → IsSound w → IsHere w here → AreKnown w.lists vs → OnInner t w here next →
    IsKept (FitsTask t) (enter_function here facts code vs next) w
enter_function-kept t w here facts code vs next s h known onward =
    bind_parameters-kept t w facts.parameters vs here.cells _ s known h.1 (λ cells v sv l are.
    cells_kept (FitsTask t) v (code.names - facts.parameters) cells _ sv are (λ all u su m more there.
    let later : IsLater w u = later_then w v u l m in
    let stays : IsHere u here = here-stays w u later here h in
    let inner : Context = with_cells here all in
    let known_inner : IsHere u inner = (stays.0, there, stays.2) in
    declare_functions-kept t u inner code.declared (next inner) su known_inner (λ x sx k. onward all x sx (later_then w u x later k) (here-stays u x k inner known_inner))))

evaluate_body-kept : (t : Task) (w : World) (here : Context) (f : FunctionNo) (facts : FunctionFacts) (code : Body) (vs : List Value) → IsSound w → IsHere w here → AreKnown w.lists vs → FitsAs t (is_some here.body.constructs) →
    IsKept (FitsTask t) (evaluate_body here f facts code vs) w
evaluate_body-kept t w here f facts code vs s h known fits =
    let inside : Context → Program = λ inner. run_part inner (part_of.Body f) in
    kept-if (FitsTask t) w code.arguments (body_ended here (Throw value.Undefined)) (enter_function here facts code vs inside) (body_ended_kept t w here (Throw value.Undefined) s fits h.0.constructs tt)
    (enter_function-kept t w here facts code vs inside s h known (λ all v sv l there. run_part-kept t v (with_cells here all) (part_of.Body f) sv there fits))

evaluate_found-kept : (t : Task) (w : World) (here : Context) (f : FunctionNo) (facts : FunctionFacts) (found : Option Body) (vs : List Value) → IsSound w → IsHere w here → AreKnown w.lists vs → FitsAs t (is_some here.body.constructs) →
    IsKept (FitsTask t) (evaluate_found here f facts found vs) w
evaluate_found-kept t w here f facts None vs s h known fits = (s, throw-fits t w.lists value.Undefined tt)
evaluate_found-kept t w here f facts (Some code) vs s h known fits = evaluate_body-kept t w here f facts code vs s h known fits

pub run_body_kept : (t : Task) (w : World) (here : Context) (f : FunctionNo) (facts : FunctionFacts) (vs : List Value) → IsSound w → IsHere w here → AreKnown w.lists vs → FitsAs t (is_some here.body.constructs) →
    IsKept (FitsTask t) (run_body here f facts vs) w
run_body_kept t w here f facts vs s h known fits = evaluate_found-kept t w here f facts (slice_get here.script.bodies f.0) vs s h known fits

-- a function whose body runs, in the script of the world
running-here : (script : Tree) (w : World) (f : FunctionNo) (facts : FunctionFacts) (callee : ObjectId) (this : Value) (made : Option ObjectId) → w.script ≡ script → slice_get script.functions f.0 ≡ Some facts →
    top_names script ≤ length w.lists.cells → IsObject w.lists callee → IsKnown w.lists this → IfThere (IsObject w.lists) made → IsHere w (context script (running f facts callee this made) [])
running-here script w f facts callee this made same found top callee-there known there =
    let body : Running = running f facts callee this made in
    let known_body : IsKnownRunning script w.lists body = record { function = slice_get_within script.functions f.0 facts found; callee = callee-there; arguments = tt; this = known; constructs = there; top = top } in
    (subst (λ (s : Tree). IsKnownRunning s w.lists body) (sym same) known_body, tt, sym same)

-- ---- calls

top-later : (script : Tree) (w v : World) → IsLater w v → top_names script ≤ length w.lists.cells → top_names script ≤ length v.lists.cells
top-later script w v l top = let more = l.lists.cells in omega arith

call_found-kept : (t : Task) (script : Tree) (w : World) (f : FunctionNo) (callee : ObjectId) (this : Value) (vs : List Value) (found : Option FunctionFacts) → FitsAs t false → w.script ≡ script → IsSound w →
    slice_get script.functions f.0 ≡ found → top_names script ≤ length w.lists.cells → IsObject w.lists callee → IsKnown w.lists this → AreKnown w.lists vs → IsKept (FitsTask t) (call_found script f callee this vs found) w
call_found-kept t script w f callee this vs None fits same s e top there known all = (s, throw-fits t w.lists value.Undefined tt)
call_found-kept t script w f callee this vs (Some facts) fits same s e top there known all =
    let inside : Value → Program = λ receiver. run_body (context script (running f facts callee receiver None) []) f facts vs in
    bind_this_kept (FitsTask t) facts.strict this inside w s known (λ receiver v sv l receiver-known.
    let here : Context = context script (running f facts callee receiver None) [] in
    let h : IsHere v here = running-here script v f facts callee receiver None (l.script ∙ same) e (top-later script w v l top) (object-stays w v l callee there) receiver-known tt in
    run_body_kept t v here f facts vs sv h (values-stay w v l vs all) fits)

pub call_program_kept : (t : Task) (script : Tree) (w : World) (f : FunctionNo) (callee : ObjectId) (this : Value) (vs : List Value) → FitsAs t false → w.script ≡ script → IsSound w → top_names script ≤ length w.lists.cells →
    IsObject w.lists callee → IsKnown w.lists this → AreKnown w.lists vs → IsKept (FitsTask t) (call_program script f callee this vs) w
call_program_kept t script w f callee this vs fits same s top there known all = call_found-kept t script w f callee this vs (slice_get script.functions f.0) fits same s refl top there known all

-- ---- constructions

-- what is there for a construction by a function of the script
pub record IsConstructing (script : Tree) (w : World) (f : FunctionNo) (facts : FunctionFacts) (callee : ObjectId) (vs : List Value) : Type 0 where
  pub same : w.script ≡ script
  pub found : slice_get script.functions f.0 ≡ Some facts
  pub top : top_names script ≤ length w.lists.cells
  pub called : IsObject w.lists callee
  pub known : AreKnown w.lists vs

constructing-stays : (script : Tree) (w v : World) (f : FunctionNo) (facts : FunctionFacts) (callee : ObjectId) (vs : List Value) → IsLater w v → IsConstructing script w f facts callee vs → IsConstructing script v f facts callee vs
constructing-stays script w v f facts callee vs l h = record {
  same = l.script ∙ h.same;
  found = h.found;
  top = top-later script w v l h.top;
  called = object-stays w v l callee h.called;
  known = values-stay w v l vs h.known;
}

pub construct_on_kept : (t : Task) (script : Tree) (w : World) (f : FunctionNo) (facts : FunctionFacts) (callee : ObjectId) (vs : List Value) (proto : ObjectId) → FitsAs t true → IsSound w → IsConstructing script w f facts callee vs →
    IsObject w.lists proto → IsKept (FitsTask t) (construct_on script f facts callee vs proto) w
construct_on_kept t script w f facts callee vs proto fits s h there =
    let inside : ObjectId → Program = λ o. run_body (context script (running f facts callee (value.Object o) (Some o)) []) f facts vs in
    constructed_kept (FitsTask t) script facts proto inside w s there (λ o v sv l new-there.
    let k : IsConstructing script v f facts callee vs = constructing-stays script w v f facts callee vs l h in
    let here : Context = context script (running f facts callee (value.Object o) (Some o)) [] in
    run_body_kept t v here f facts vs sv (running-here script v f facts callee (value.Object o) (Some o) k.same k.found k.top k.called new-there new-there) k.known fits)

construct_failed-kept : (t : Task) (script : Tree) (w : World) (facts : FunctionFacts) (x : Value) → IsSound w → IsKnown w.lists x → IsKept (FitsTask t) (construct_failed script facts (Throw x)) w
construct_failed-kept t script w facts x s known = noted_kept (FitsTask t) script facts (done (Throw x)) w s (λ u su l. (su, throw-fits t u.lists x (value-stays w u l x known)))

construct_given-kept : (t : Task) (script : Tree) (w : World) (q : Request) (f : FunctionNo) (callee : ObjectId) (vs : List Value) (target : ObjectId) (found : Option FunctionFacts) (c : Completion) → FitsAs t true → w.script ≡ script → IsSound w →
    slice_get script.functions f.0 ≡ found → top_names script ≤ length w.lists.cells → IsObject w.lists callee → AreKnown w.lists vs → Fits w.lists q c → IsKept (FitsTask t) (construct_given script f callee vs target found c) w
construct_given-kept t script w q f callee vs target None c fits same s e top there all fit = (s, throw-fits t w.lists value.Undefined tt)
construct_given-kept t script w q f callee vs target (Some facts) c fits same s e top there all fit =
    let h : IsConstructing script w f facts callee vs = record { same = same; found = e; top = top; called = there; known = all } in
    prototype_kept (FitsTask t) w q class.Object target (construct_on script f facts callee vs) (construct_failed script facts) c s fit
    (λ p u su l p-there. construct_on_kept t script u f facts callee vs p fits su (constructing-stays script w u f facts callee vs l h) p-there)
    (λ x u su l known. construct_failed-kept t script u facts x su known)

-- with an answer to the question of the prototype, which fits
pub construct_answered_kept : (t : Task) (script : Tree) (w : World) (q : Request) (f : FunctionNo) (callee : ObjectId) (vs : List Value) (target : ObjectId) (c : Completion) → FitsAs t true → w.script ≡ script → IsSound w →
    top_names script ≤ length w.lists.cells → IsObject w.lists callee → AreKnown w.lists vs → Fits w.lists q c → IsKept (FitsTask t) (construct_answered script f callee vs target c) w
construct_answered_kept t script w q f callee vs target c fits same s top there all fit =
    construct_given-kept t script w q f callee vs target (slice_get script.functions f.0) c fits same s refl top there all fit

construct_found-kept : (t : Task) (script : Tree) (w : World) (f : FunctionNo) (callee : ObjectId) (vs : List Value) (target : ObjectId) (found : Option FunctionFacts) → FitsAs t true → w.script ≡ script → IsSound w →
    slice_get script.functions f.0 ≡ found → top_names script ≤ length w.lists.cells → IsObject w.lists callee → AreKnown w.lists vs → IsObject w.lists target → IsKept (FitsTask t) (construct_found script f callee vs target found) w
construct_found-kept t script w f callee vs target None fits same s e top there all target-there = (s, throw-fits t w.lists value.Undefined tt)
construct_found-kept t script w f callee vs target (Some facts) fits same s e top there all target-there =
    let h : IsConstructing script w f facts callee vs = record { same = same; found = e; top = top; called = there; known = all } in
    get_prototype_kept (FitsTask t) w class.Object target (construct_on script f facts callee vs) (construct_failed script facts) s target-there
    (λ p u su l p-there. construct_on_kept t script u f facts callee vs p fits su (constructing-stays script w u f facts callee vs l h) p-there)
    (λ x u su l known. construct_failed-kept t script u facts x su known)

pub construct_program_kept : (t : Task) (script : Tree) (w : World) (f : FunctionNo) (callee : ObjectId) (vs : List Value) (target : ObjectId) → FitsAs t true → w.script ≡ script → IsSound w → top_names script ≤ length w.lists.cells →
    IsObject w.lists callee → AreKnown w.lists vs → IsObject w.lists target → IsKept (FitsTask t) (construct_program script f callee vs target) w
construct_program_kept t script w f callee vs target fits same s top there all target-there =
    construct_found-kept t script w f callee vs target (slice_get script.functions f.0) fits same s refl top there all target-there
