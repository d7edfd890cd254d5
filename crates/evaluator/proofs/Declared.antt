-- Functions are made where they stand, and declared ones where their code is entered, over plain variables.
use Rattle.std.proofs.Common.{◌≡◌, ◌≤◌, ℕ, suc, Bool, true, false, cond, Option, Some, None, List, [], ◌∷◌, drop, length, nat_le, slice_get, Result, Ok, Err, OnOk, refl, sym, ◌∙◌, ap, subst}
use Rattle.std.proofs.lemmas.List.{drop_all}
use Rattle.property_keys.specs.declared.identifiers.ObjectId.{ObjectId}
use Rattle.property_keys.specs.declared.identifiers.TextId.{TextId}
use Rattle.property_keys.specs.declared.values.Value.TheVariants as value
use Rattle.property_keys.specs.Limits.{most_units}
use Rattle.es_tree.specs.declared.body.Body.{Body}
use Rattle.es_tree.specs.declared.body.DeclaredFunction.{DeclaredFunction}
use Rattle.es_tree.specs.declared.facts.FunctionFacts.{FunctionFacts}
use Rattle.es_tree.specs.declared.numbers.FunctionNo.{FunctionNo}
use Rattle.es_tree.specs.Tree.{Tree}
use Rattle.es_model.specs.declared.answers.Stop.{Stop}
use Rattle.es_model.specs.declared.answers.Stop.TheVariants.{Halted, NoMemory}
use Rattle.es_model.specs.declared.running.FunctionName.{FunctionName}
use Rattle.es_model.specs.Changes.{Interning, changed, charged}
use Rattle.es_model.specs.Program.{Program, charge}
use Rattle.es_model.specs.Stages.{AtEnd, AtHalt, stage_of}
use Rattle.es_model.specs.World.{World, new_object, number_of}
use Rattle.object_heap.specs.Stands.{HeapView, StandsFor, Goes, goes_none, goes_then, halts_at, halts_then}
use Rattle.object_heap.proofs.StartLists.{dropped-one}
use Rattle.function_objects.specs.Making.{created_world, function_made, function_world, name_function, named_world}
use Rattle.function_objects.proofs.Made.{created_stage, made_stage, named_stage}
use Rattle.evaluator.specs.declared.items.Ending.TheVariants as ending
use Rattle.evaluator.specs.declared.items.Plan.{Plan}
use Rattle.evaluator.specs.declared.items.Plan.TheVariants as plan
use Rattle.evaluator.specs.Contexts.{Context, context, gives, normal}
use Rattle.evaluator.specs.Entering.{Brings, Declares, Makes}
use Rattle.evaluator.specs.Errors.{text_too_long}
use Rattle.evaluator.specs.Functions.{bind_declared, declare_found, declare_functions, function_name, make_found, make_function, written_name}
use Rattle.evaluator.specs.Plans.{Plans, PlansIn}
use Rattle.evaluator.proofs.Defining.{plans_same}
use Rattle.evaluator.proofs.Joining.{text_stage}

-- ---- function expressions, methods and accessors

-- what comes behind the creation of one
found-stage : (here : Context) (w : World) (name : Option FunctionName) (f : FunctionNo) (facts : FunctionFacts) (code : Body) (o : ObjectId) →
    slice_get here.script.functions f.0 ≡ Some facts → slice_get here.script.bodies f.0 ≡ Some code → o ≡ new_object w.lists →
    stage_of (make_function here name f) w ≡ stage_of (function_name code.name name (λ n. name_function o facts n (gives (value.Object o)))) (created_world f facts w)
found-stage here w name f facts code o found body is =
    let u : World = created_world f facts w in
    let named : ObjectId → TextId → Program = λ (p : ObjectId) (n : TextId). name_function p facts n (gives (value.Object p)) in
    ap (λ (x : Option FunctionFacts). stage_of (make_found here name f x) w) found
    ∙ created_stage f facts (λ p. function_name (written_name (slice_get here.script.bodies f.0)) name (named p)) w
    ∙ ap (λ (x : Option Body). stage_of (function_name (written_name x) name (named (new_object w.lists))) u) body
    ∙ ap (λ (p : ObjectId). stage_of (function_name code.name name (named p)) u) (sym is)

pub function_plan : (here : Context) (a b c d : HeapView) (w : World) (name : Option FunctionName) (f : FunctionNo) (facts : FunctionFacts) (code : Body) (o : ObjectId) (x : Option TextId) (n : TextId) →
    slice_get here.script.functions f.0 ≡ Some facts → slice_get here.script.bodies f.0 ≡ Some code → o ≡ new_object w.lists → Goes a b w (created_world f facts w) →
    ((v : World) → StandsFor b v → Makes b c v (function_name code.name name) x) → x ≡ Some n → ((v : World) → StandsFor c v → Goes c d v (named_world o facts n v)) →
    Plans here here a d w (stage_of (make_function here name f) w) (Ok (plan.Ends (ending.Gives (value.Object o))))
function_plan here a b c d w name f facts code o x n found body is one makes some goes =
    let u : World = created_world f facts w in
    let (v, two, e) = subst (λ y. Makes b c u (function_name code.name name) y) some (makes u one.stands) in
    let three : Goes c d v (named_world o facts n v) = goes v two.stands in
    let at : stage_of (make_function here name f) w ≡ AtEnd (normal (value.Object o)) (named_world o facts n v) =
    found-stage here w name f facts code o found body is ∙ e (λ m. name_function o facts m (gives (value.Object o))) ∙ named_stage o facts n (gives (value.Object o)) v in
    subst (λ s. Plans here here a d w s (Ok (plan.Ends (ending.Gives (value.Object o))))) (sym at)
    (refl, goes_then a b d w u (named_world o facts n v) one (goes_then b c d u v (named_world o facts n v) two three))

-- where the name is too long, what that throws comes next
pub function_too_long : (here : Context) (a b c d : HeapView) (w : World) (name : Option FunctionName) (f : FunctionNo) (facts : FunctionFacts) (code : Body) (o : ObjectId) (x : Option TextId) (r : Result Plan Stop) →
    slice_get here.script.functions f.0 ≡ Some facts → slice_get here.script.bodies f.0 ≡ Some code → o ≡ new_object w.lists → Goes a b w (created_world f facts w) →
    ((v : World) → StandsFor b v → Makes b c v (function_name code.name name) x) → x ≡ None → PlansIn here here c d (λ y. text_too_long) r →
    Plans here here a d w (stage_of (make_function here name f) w) r
function_too_long here a b c d w name f facts code o x r found body is one makes none throws =
    let u : World = created_world f facts w in
    let (two, e) = subst (λ y. Makes b c u (function_name code.name name) y) none (makes u one.stands) in
    let next : TextId → Program = λ (m : TextId). name_function o facts m (gives (value.Object o)) in
    plans_same here a c d w u (make_function here name f) text_too_long r (goes_then a b c w u u one two)
    (found-stage here w name f facts code o found body is ∙ e next) (throws u two.stands)

-- ---- one declared function

-- the function is made, and its name gets it
pub found_brings : {A E : Type 0} (here : Context) (d : DeclaredFunction) (facts : FunctionFacts) (a b c e : HeapView) (id : TextId) (o : ObjectId) (r : Result A E) →
    slice_get here.script.functions d.function.0 ≡ Some facts → nat_le (length d.named.name) most_units ≡ true →
    ((w : World) → StandsFor a w → id ≡ number_of w.lists d.named.name) → ((w : World) → StandsFor a w → Goes a b w (changed (Interning d.named.name) w)) →
    ((w : World) → StandsFor b w → o ≡ new_object w.lists) → ((w : World) → StandsFor b w → Goes b c w (function_world d.function facts id w)) →
    OnOk r ((script : Tree) (w : World) → StandsFor c w → Brings c e w (λ next. bind_declared (context script here.body here.cells) d id o (next (context script here.body here.cells))) (context script here.body here.cells)) →
    OnOk r ((w : World) → StandsFor a w → Brings a e w (λ next. declare_found here d (slice_get here.script.functions d.function.0) (next here)) here)
found_brings here d facts a b c e id o (Err x) found short number interns is goes bound = tt
found_brings here d facts a b c e id o (Ok x) found short number interns is goes bound = λ w h.
    let u : World = changed (Interning d.named.name) w in
    let one : Goes a b w u = interns w h in
    let v : World = function_world d.function facts id u in
    let two : Goes b c u v = goes u one.stands in
    let (y, three, rest) = bound here.script v two.stands in (
      y,
      goes_then a b e w u y one (goes_then b c e u v y two three),
      λ next.
          let end : TextId → ObjectId → Program = λ (name : TextId) (p : ObjectId). bind_declared here d name p (next here) in
          ap (λ (y : Option FunctionFacts). stage_of (declare_found here d y (next here)) w) found ∙ text_stage d.named.name (λ (name : TextId). function_made d.function facts name (end name)) w id short (number w h)
          ∙ made_stage d.function facts id (end id) u ∙ ap (λ (p : ObjectId). stage_of (end id p) v) (sym (is u one.stands)) ∙ rest next,
    )

-- there is no turn for it
pub declare_halts : (here : Context) (d : DeclaredFunction) (a b : HeapView) (w : World) → d.is_last ≡ true → (nat_le 1 w.turns ≡ false) × Goes a b w w → Declares here (d ∷ []) a b w (Err Halted)
declare_halts here d a b w last (short, g) = (
  w,
  halts_at a b w w g,
  λ next.
      let found : Program = declare_found here d (slice_get here.script.functions d.function.0) (next here) in
      ap (λ (t : Bool). stage_of (cond t (charge 1 found) (next here)) w) last ∙ ap (λ (t : Bool). cond t (stage_of found (charged w 1)) (AtHalt w)) short,
)

-- ---- one after another

-- those behind a number are still to be made
abbrev pub Declared : Context → List DeclaredFunction → HeapView → HeapView → World → ℕ → Type 0
Declared here ds a b w i =
    (v : World) × Goes a b w v × ((next : Context → Program) → stage_of (declare_functions here ds (next here)) w ≡ stage_of (declare_functions here (drop i ds) (next here)) v)

pub declared_none : (here : Context) (ds : List DeclaredFunction) (a : HeapView) (w : World) → StandsFor a w → Declared here ds a a w 0
declared_none here ds a w h = (w, goes_none a w h, λ next. refl)

pub declared_one : (here : Context) (ds : List DeclaredFunction) (a b c : HeapView) (w : World) (i j : ℕ) (d : DeclaredFunction) (r : Result Unit Stop) → j ≡ suc i → slice_get ds i ≡ Some d → Declared here ds a b w i →
    ((v : World) → StandsFor b v → Declares here (d ∷ []) b c v r) → r ≡ Ok tt → Declared here ds a c w j
declared_one here ds a b c w i j d r more is (v, g, e) declares fine =
    let (u, one, rest) = subst (λ x. Declares here (d ∷ []) b c v x) fine (declares v g.stands) in (
      u,
      goes_then a b c w v u g one,
      λ next.
          let left : ℕ → Program = λ (k : ℕ). declare_functions here (drop k ds) (next here) in
          e next ∙ ap (λ l. stage_of (declare_functions here l (next here)) v) (dropped-one ds i d is) ∙ rest (λ (x : Context). left (suc i)) ∙ ap (λ k. stage_of (left k) u) (sym more),
    )

stops-at : (here : Context) (ds : List DeclaredFunction) (a b c : HeapView) (w : World) (i : ℕ) (d : DeclaredFunction) (stop : Stop) → slice_get ds i ≡ Some d → Declared here ds a b w i →
    ((v : World) → StandsFor b v → Declares here (d ∷ []) b c v (Err stop)) → Declares here ds a c w (Err stop)
stops-at here ds a b c w i d NoMemory is h declares = tt
stops-at here ds a b c w i d Halted is (v, g, e) declares =
    let (u, one, rest) = declares v g.stands in (
      u,
      halts_then a b c w v u g one,
      λ next. e next ∙ ap (λ l. stage_of (declare_functions here l (next here)) v) (dropped-one ds i d is) ∙ rest (λ (x : Context). declare_functions here (drop (suc i) ds) (next here)),
    )

pub declared_stops : (here : Context) (ds : List DeclaredFunction) (a b c : HeapView) (w : World) (i : ℕ) (d : DeclaredFunction) (stop : Stop) (r : Result Unit Stop) → slice_get ds i ≡ Some d → Declared here ds a b w i →
    ((v : World) → StandsFor b v → Declares here (d ∷ []) b c v r) → r ≡ Err stop → Declares here ds a c w (Err stop)
declared_stops here ds a b c w i d stop r is h declares fails = stops-at here ds a b c w i d stop is h (λ v k. subst (λ x. Declares here (d ∷ []) b c v x) fails (declares v k))

pub declared_all : (here : Context) (ds : List DeclaredFunction) (a b : HeapView) (w : World) (i : ℕ) → length ds ≤ i → Declared here ds a b w i → Declares here ds a b w (Ok tt)
declared_all here ds a b w i past (v, g, e) = (v, g, λ next. e next ∙ ap (λ l. stage_of (declare_functions here l (next here)) v) (drop_all i ds past))
