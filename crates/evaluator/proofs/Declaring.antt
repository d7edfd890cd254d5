-- The names of a declaration, one after another, over plain variables.
use Rattle.std.proofs.Common.{◌≡◌, ℕ, true, Some, None, List, [], ◌∷◌, drop, length, nat_le, Result, Ok, Err, refl, sym, ◌∙◌, ap, subst}
use Rattle.property_keys.specs.declared.identifiers.TextId.{TextId}
use Rattle.property_keys.specs.declared.values.Value.{Value}
use Rattle.property_keys.specs.declared.values.Value.TheVariants as value
use Rattle.property_keys.specs.Limits.{most_units}
use Rattle.es_tree.specs.declared.numbers.NodeId.{NodeId}
use Rattle.es_tree.specs.declared.statements.Declared.{Declared}
use Rattle.es_model.specs.declared.running.FunctionName.TheVariants as given_name
use Rattle.es_model.specs.declared.answers.Stop.{Stop}
use Rattle.es_model.specs.declared.kinds.CellNo.{CellNo}
use Rattle.es_model.specs.Completions.{Completion}
use Rattle.es_model.specs.World.{World, number_of}
use Rattle.es_model.specs.Changes.{Interning, SettingCell, changed}
use Rattle.es_model.specs.Program.{Program}
use Rattle.es_model.specs.Stages.{stage_of}
use Rattle.es_model.specs.programs.Abrupt.{go_on, taken, then_value, value_in}
use Rattle.object_heap.specs.Stands.{HeapView, StandsFor, Goes, goes_none, goes_then}
use Rattle.evaluator.specs.declared.items.Ending.{Ending}
use Rattle.evaluator.specs.declared.items.Ending.TheVariants as ending
use Rattle.evaluator.specs.declared.items.Item.TheVariants as item
use Rattle.evaluator.specs.declared.items.Job.TheVariants as job
use Rattle.evaluator.specs.declared.items.Plan.{Plan}
use Rattle.evaluator.specs.declared.items.Plan.TheVariants as plan
use Rattle.evaluator.specs.declared.items.StatementItem.TheVariants as statement
use Rattle.evaluator.specs.Contexts.{Context, evaluate_named}
use Rattle.evaluator.specs.Plans.{Plans, ended}
use Rattle.evaluator.specs.Scopes.{bound_cell, initialise}
use Rattle.evaluator.specs.Statements.{declare_all, declare_first, declared_at, declared_valued}
use Rattle.evaluator.proofs.Joining.{text_stage}
use Rattle.evaluator.proofs.Planned.{plans_then}

-- the names from one number up to another have their cells set
abbrev pub Declaring : Context → List Declared → HeapView → HeapView → World → ℕ → ℕ → Type 0
Declaring here ds a b w first next = (v : World) × Goes a b w v × (stage_of (declare_all here (drop first ds)) w ≡ stage_of (declare_all here (drop next ds)) v)

pub declaring_none : (here : Context) (ds : List Declared) (a : HeapView) (w : World) (first : ℕ) → StandsFor a w → Declaring here ds a a w first first
declaring_none here ds a w first h = (w, goes_none a w h, refl)

-- a name without a value
pub declaring_one : (here : Context) (ds rest : List Declared) (a b c : HeapView) (w : World) (first next after : ℕ) (d : Declared) (cell : CellNo) → Declaring here ds a b w first next →
    drop next ds ≡ d ∷ rest → drop after ds ≡ rest → d.value ≡ None → cell ≡ bound_cell here d.named.binding →
    ((v : World) → StandsFor b v → Goes b c v (changed (SettingCell cell value.Undefined) v)) → Declaring here ds a c w first after
declaring_one here ds rest a b c w first next after d cell (v, g, e) is behind none place goes =
    let u : World = changed (SettingCell cell value.Undefined) v in (
      u,
      goes_then a b c w v u g (goes v g.stands),
      e ∙ ap (λ l. stage_of (declare_all here l) v) is ∙ ap (λ n. stage_of (declare_first here d n (declare_all here rest)) v) none
          ∙ ap (λ n. stage_of (declare_all here rest) (changed (SettingCell n value.Undefined) v)) (sym place) ∙ ap (λ l. stage_of (declare_all here l) u) (sym behind),
    )

-- no name is left
pub declaring_ends : (here : Context) (ds : List Declared) (a b : HeapView) (w : World) (first next : ℕ) → Declaring here ds a b w first next → drop next ds ≡ [] →
    Plans here here a b w (stage_of (declare_all here (drop first ds)) w) (Ok (plan.Ends (ending.Gives value.Undefined)))
declaring_ends here ds a b w first next (v, g, e) none =
    subst (λ s. Plans here here a b w s (Ok (plan.Ends (ending.Gives value.Undefined))))
    (sym (e ∙ ap (λ l. stage_of (declare_all here l) v) none)) (refl, g)

-- a name with a value, which is evaluated
pub declaring_waits : (here : Context) (rest : List Declared) (a b c : HeapView) (w : World) (first next : ℕ) (d : Declared) (n node : NodeId) (id : TextId) →
    Declaring here (declared_at here node) a b w first next → drop next (declared_at here node) ≡ d ∷ rest → d.value ≡ Some n →
    nat_le (length d.named.name) most_units ≡ true → ((v : World) → StandsFor b v → id ≡ number_of v.lists d.named.name) →
    ((v : World) → StandsFor b v → Goes b c v (changed (Interning d.named.name) v)) →
    Plans here here a c w (stage_of (declare_all here (drop first (declared_at here node))) w) (Ok (plan.Wait (job.Node (Some (given_name.Text id)) n) (item.Statement (statement.Declared node next))))
declaring_waits here rest a b c w first next d n node id (v, g, e) is some short number goes =
    let u : World = changed (Interning d.named.name) v in
    let k : TextId → Program = (λ name. evaluate_named here (Some (given_name.Text name)) n (λ c. then_value (λ x. initialise here d.named.binding x (declare_all here rest)) c)) in
    subst (λ s. Plans here here a c w s (Ok (plan.Wait (job.Node (Some (given_name.Text id)) n) (item.Statement (statement.Declared node next)))))
    (sym (e ∙ ap (λ l. stage_of (declare_all here l) v) is ∙ ap (λ m. stage_of (declare_first here d m (declare_all here rest)) v) some ∙ text_stage d.named.name k v id short (number v g.stands)))
    (refl, ap {B = Completion → Program} (λ (l : List Declared) (c : Completion). declared_valued here l c) is, goes_then a b c w v u g (goes v g.stands))

-- no name is left whose value was waited for
pub declared_none : (here : Context) (ds : List Declared) (a : HeapView) (w : World) (next : ℕ) (c : Completion) → StandsFor a w → drop next ds ≡ [] →
    Plans here here a a w (stage_of (declared_valued here (drop next ds) c) w) (Ok (plan.Ends (ending.Gives value.Undefined)))
declared_none here ds a w next c h none =
    subst (λ l. Plans here here a a w (stage_of (declared_valued here l c) w) (Ok (plan.Ends (ending.Gives value.Undefined)))) (sym none) (refl, goes_none a w h)

-- a value ended otherwise
pub declared_ends : (here : Context) (ds rest : List Declared) (a : HeapView) (w : World) (next : ℕ) (d : Declared) (c : Completion) (e : Ending) → StandsFor a w →
    drop next ds ≡ d ∷ rest → taken value_in c ≡ Err (ended e) → Plans here here a a w (stage_of (declared_valued here (drop next ds) c) w) (Ok (plan.Ends e))
declared_ends here ds rest a w next d c e h is abrupt =
    subst (λ l. Plans here here a a w (stage_of (declared_valued here l c) w) (Ok (plan.Ends e))) (sym is)
    (subst (λ t. Plans here here a a w (stage_of (go_on (λ v. initialise here d.named.binding v (declare_all here rest)) t) w) (Ok (plan.Ends e))) (sym abrupt) (refl, goes_none a w h))

-- the first name has its value, and the others come then
pub declared_plan : (here : Context) (rest : List Declared) (a b c : HeapView) (w : World) (next after : ℕ) (d : Declared) (node : NodeId) (end : Completion) (x : Value) (cell : CellNo) (r : Result Plan Stop) →
    drop next (declared_at here node) ≡ d ∷ rest → drop after (declared_at here node) ≡ rest → taken value_in end ≡ Ok x → cell ≡ bound_cell here d.named.binding →
    Goes a b w (changed (SettingCell cell x) w) →
    Plans here here b c (changed (SettingCell cell x) w) (stage_of (declare_all here (drop after (declared_at here node))) (changed (SettingCell cell x) w)) r →
    Plans here here a c w (stage_of (declared_valued here (drop next (declared_at here node)) end) w) r
declared_plan here rest a b c w next after d node end x cell r is behind valued place goes h =
    let u : World = changed (SettingCell cell x) w in
    let set : Plans here here a c w (stage_of (declare_all here rest) u) r =
    subst (λ l. Plans here here a c w (stage_of (declare_all here l) u) r) behind (plans_then here here a b c w u _ r goes h) in
    subst (λ l. Plans here here a c w (stage_of (declared_valued here l end) w) r) (sym is)
    (subst (λ t. Plans here here a c w (stage_of (go_on (λ v. initialise here d.named.binding v (declare_all here rest)) t) w) r) (sym valued)
    (subst (λ n. Plans here here a c w (stage_of (declare_all here rest) (changed (SettingCell n x) w)) r) place set))
