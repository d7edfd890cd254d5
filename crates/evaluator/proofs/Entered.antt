-- The body of a function is entered, over plain variables.
use Rattle.std.proofs.Common.{◌≡◌, ◌≤◌, ◌<◌, ℕ, zero, suc, Some, List, [], ◌∷◌, ◌++◌, drop, Result, Ok, Err, refl, sym, ◌∙◌, ap, arith}
use Rattle.std.specs.Prelude.{◌-◌, slice_index_or}
use Rattle.property_keys.specs.declared.values.Value.{Value}
use Rattle.property_keys.specs.declared.values.Value.TheVariants as value
use Rattle.es_tree.specs.declared.body.Body.{Body}
use Rattle.es_tree.specs.declared.facts.FunctionFacts.{FunctionFacts}
use Rattle.es_model.specs.declared.answers.Stop.{Stop}
use Rattle.es_model.specs.declared.answers.Stop.TheVariants.{Halted, NoMemory}
use Rattle.es_model.specs.declared.kinds.CellNo.{CellNo}
use Rattle.es_model.specs.Changes.{MakingCell, changed}
use Rattle.es_model.specs.Program.{Program}
use Rattle.es_model.specs.Stages.{stage_of}
use Rattle.es_model.specs.World.{World, new_cell}
use Rattle.object_heap.specs.Stands.{HeapView, StandsFor, Goes, goes_none, goes_then, halts_then}
use Rattle.evaluator.specs.Contexts.{Context, with_cells}
use Rattle.evaluator.specs.Entering.{Brings, Declares, Enters}
use Rattle.evaluator.specs.Functions.{bind_parameters, declare_functions, enter_function}
use Rattle.evaluator.specs.Scopes.{enter_scope, fresh_cells, world_with}
use Rattle.evaluator.proofs.Entering.{cells_stage}

-- ---- the parameters

-- the first of those that are left
first-bound : (n i : ℕ) (vs : List Value) (cells : List CellNo) (k : List CellNo → Program) (w : World) →
    stage_of (bind_parameters (suc n) (drop i vs) cells k) w
    ≡ stage_of (bind_parameters n (drop (suc i) vs) (cells ++ new_cell w.lists ∷ []) k) (changed (MakingCell (Some (slice_index_or vs i value.Undefined))) w)
first-bound n zero [] cells k w = refl
first-bound n zero (v ∷ vs) cells k w = refl
first-bound n (suc i) [] cells k w = refl
first-bound n (suc i) (v ∷ vs) cells k w = first-bound n i vs cells k w

-- the parameters behind a number have no cell yet
abbrev pub Bound : HeapView → HeapView → World → ℕ → List Value → List CellNo → ℕ → List CellNo → Type 0
Bound a b w n vs start i cells =
    (v : World) × Goes a b w v × ((k : List CellNo → Program) → stage_of (bind_parameters n vs start k) w ≡ stage_of (bind_parameters (n - i) (drop i vs) cells k) v)

pub bound_none : (a : HeapView) (w : World) (n : ℕ) (vs : List Value) (start : List CellNo) → StandsFor a w → Bound a a w n vs start 0 start
bound_none a w n vs start h =
    let all : n ≡ n - 0 = omega arith in (w, goes_none a w h, λ k. ap (λ m. stage_of (bind_parameters m vs start k) w) all)

pub bound_one : (a b c : HeapView) (w : World) (n i j : ℕ) (vs : List Value) (start cells new : List CellNo) (x : Value) (cell : CellNo) → i < n → j ≡ suc i → x ≡ slice_index_or vs i value.Undefined → Bound a b w n vs start i cells →
    ((v : World) → StandsFor b v → cell ≡ new_cell v.lists) → ((v : World) → StandsFor b v → Goes b c v (changed (MakingCell (Some x)) v)) → new ≡ cells ++ cell ∷ [] → Bound a c w n vs start j new
bound_one a b c w n i j vs start cells new x cell less more given (v, g, e) is goes pushed =
    let u : World = changed (MakingCell (Some x)) v in
    let left : n - i ≡ suc (n - j) = omega (arith, less, more) in (
      u,
      goes_then a b c w v u g (goes v g.stands),
      λ k.
          e k ∙ ap (λ m. stage_of (bind_parameters m (drop i vs) cells k) v) left ∙ first-bound (n - j) i vs cells k v
          ∙ ap (λ (y : Value). stage_of (bind_parameters (n - j) (drop (suc i) vs) (cells ++ new_cell v.lists ∷ []) k) (changed (MakingCell (Some y)) v)) (sym given)
          ∙ ap (λ (y : CellNo). stage_of (bind_parameters (n - j) (drop (suc i) vs) (cells ++ y ∷ []) k) u) (sym (is v g.stands))
          ∙ ap (λ (l : List CellNo). stage_of (bind_parameters (n - j) (drop (suc i) vs) l k) u) (sym pushed) ∙ ap (λ m. stage_of (bind_parameters (n - j) (drop m vs) new k) u) (sym more),
    )

pub bound_all : (a b : HeapView) (w : World) (n i : ℕ) (vs : List Value) (start cells : List CellNo) → n ≤ i → Bound a b w n vs start i cells → Brings a b w (bind_parameters n vs start) cells
bound_all a b w n i vs start cells past (v, g, e) =
    let none : n - i ≡ 0 = omega (arith, past) in (v, g, λ next. e next ∙ ap (λ m. stage_of (bind_parameters m (drop i vs) cells next) v) none)

-- ---- the whole

-- the scope behind the parameters, up to the declared functions
scope-brings : (here : Context) (facts : FunctionFacts) (code : Body) (vs : List Value) (a b c : HeapView) (w : World) (cells1 cells2 : List CellNo) → Brings a b w (bind_parameters facts.parameters vs here.cells) cells1 →
    ((v : World) → StandsFor b v → Goes b c v (world_with (code.names - facts.parameters) v)) → ((v : World) → StandsFor b v → cells2 ≡ cells1 ++ fresh_cells (code.names - facts.parameters) v) →
    (v : World) × Goes a c w v
    × ((next : Context → Program) → stage_of (enter_function here facts code vs next) w ≡ stage_of (declare_functions (with_cells here cells2) code.declared (next (with_cells here cells2))) v)
scope-brings here facts code vs a b c w cells1 cells2 (v, g, e) goes made =
    let m : ℕ = code.names - facts.parameters in
    let u : World = world_with m v in (
      u,
      goes_then a b c w v u g (goes v g.stands),
      λ next.
          let rest : List CellNo → Program = λ (l : List CellNo). declare_functions (with_cells here l) code.declared (next (with_cells here l)) in
          e (λ (l : List CellNo). enter_scope (with_cells here l) m (λ (x : Context). declare_functions x code.declared (next x))) ∙ cells_stage m cells1 rest v ∙ ap (λ l. stage_of (rest l) u) (sym (made v g.stands)),
    )

pub entered : (here : Context) (facts : FunctionFacts) (code : Body) (vs : List Value) (a b c e : HeapView) (w : World) (cells1 cells2 : List CellNo) (r : Result Unit Stop) →
    Brings a b w (bind_parameters facts.parameters vs here.cells) cells1 → ((v : World) → StandsFor b v → Goes b c v (world_with (code.names - facts.parameters) v)) →
    ((v : World) → StandsFor b v → cells2 ≡ cells1 ++ fresh_cells (code.names - facts.parameters) v) → ((v : World) → StandsFor c v → Declares (with_cells here cells2) code.declared c e v r) →
    Enters a e w (enter_function here facts code vs) (with_cells here cells2) r
entered here facts code vs a b c e w cells1 cells2 (Err NoMemory) brings goes made declares = tt
entered here facts code vs a b c e w cells1 cells2 (Err Halted) brings goes made declares =
    let (v, g, same) = scope-brings here facts code vs a b c w cells1 cells2 brings goes made in
    let (u, h, rest) = declares v g.stands in (u, halts_then a c e w v u g h, λ next. same next ∙ rest next)
entered here facts code vs a b c e w cells1 cells2 (Ok x) brings goes made declares =
    let (v, g, same) = scope-brings here facts code vs a b c w cells1 cells2 brings goes made in
    let (u, h, rest) = declares v g.stands in (u, goes_then a c e w v u g h, λ next. same next ∙ rest next)
