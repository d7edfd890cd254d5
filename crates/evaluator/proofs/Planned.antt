-- Plans, over plain variables.
use Rattle.std.proofs.Common.{◌≡◌, ℕ, zero, suc, Bool, true, cond, nat_le, Some, None, List, [], ◌∷◌, ◌++◌, length, take, slice_get, unwrap_or, Result, Ok, Err, OnOk, refl, sym, ◌∙◌, ap, subst}
use Rattle.std.proofs.Math.Seq.{take-length}
use Rattle.std.specs.List.{AllByRecursion}
use Rattle.property_keys.specs.declared.values.Value.{Value}
use Rattle.es_model.specs.declared.answers.Stop.{Stop}
use Rattle.es_model.specs.declared.answers.Stop.TheVariants.{Halted, NoMemory}
use Rattle.es_model.specs.declared.kinds.CellNo.{CellNo}
use Rattle.es_model.specs.Completions.{Completion}
use Rattle.es_model.specs.World.{World}
use Rattle.es_model.specs.Changes.{charged}
use Rattle.es_model.specs.Program.{Program, charge}
use Rattle.es_model.specs.programs.Abrupt.{go_on, taken, then_value, value_in}
use Rattle.es_model.specs.Stages.{Stage, AtEnd, AtHalt, AtAsk, AtPart, AtNest, AtPrint, stage_of}
use Rattle.object_heap.specs.Stands.{HeapView, Goes, StandsFor, goes_none, goes_then, halts_then}
use Rattle.evaluator.specs.declared.items.Ending.{Ending}
use Rattle.evaluator.specs.declared.items.Item.{Item}
use Rattle.evaluator.specs.declared.items.Item.TheVariants as item
use Rattle.evaluator.specs.declared.items.Plan.{Plan}
use Rattle.evaluator.specs.declared.items.Plan.TheVariants as plan
use Rattle.evaluator.specs.declared.items.StatementItem.{StatementItem}
use Rattle.evaluator.specs.Contexts.{Context}
use Rattle.evaluator.specs.Plans.{Plans, ended, item_program, item_valued}
use Rattle.evaluator.specs.Scopes.{fresh_cells, make_cells, world_with}
use Rattle.evaluator.proofs.Entering.{cells_stage}

-- a plan that begins where another call left the heap
pub plans_then : (outer inner : Context) (a b c : HeapView) (w v : World) (stage : Stage) (r : Result Plan Stop) → Goes a b w v →
    Plans outer inner b c v stage r → Plans outer inner a c w stage r
plans_then outer inner a b c w v stage (Err NoMemory) g h = tt
plans_then outer inner a b c w v (AtEnd d x) (Ok (plan.Ends e)) g h = (h.0, goes_then a b c w v x g h.1)
plans_then outer inner a b c w v (AtAsk q k x) (Ok (plan.Ask p i)) g h = (h.0, h.1, goes_then a b c w v x g h.2)
plans_then outer inner a b c w v (AtPart t k x) (Ok (plan.Wait j i)) g h = (h.0, h.1, goes_then a b c w v x g h.2)
plans_then outer inner a b c w v (AtPart t k x) (Ok (plan.Last j)) g h = (h.0, h.1, goes_then a b c w v x g h.2)
plans_then outer inner a b c w v (AtPart t k x) (Ok (plan.Enter j i d)) g h = (h.0, h.1, h.2, goes_then a b c w v x g h.3)
plans_then outer inner a b c w v (AtHalt x) (Err Halted) g h = halts_then a b c w v x g h
plans_then outer inner a b c w v (AtHalt x) (Ok p) g h = absurd h
plans_then outer inner a b c w v (AtNest p q x) (Ok r) g h = absurd h
plans_then outer inner a b c w v (AtPrint y p x) (Ok r) g h = absurd h
plans_then outer inner a b c w v (AtEnd d x) (Ok (plan.Ask p i)) g h = absurd h
plans_then outer inner a b c w v (AtEnd d x) (Ok (plan.Wait j i)) g h = absurd h
plans_then outer inner a b c w v (AtEnd d x) (Ok (plan.Last j)) g h = absurd h
plans_then outer inner a b c w v (AtEnd d x) (Ok (plan.Enter j i n)) g h = absurd h
plans_then outer inner a b c w v (AtAsk q k x) (Ok (plan.Ends e)) g h = absurd h
plans_then outer inner a b c w v (AtAsk q k x) (Ok (plan.Wait j i)) g h = absurd h
plans_then outer inner a b c w v (AtAsk q k x) (Ok (plan.Last j)) g h = absurd h
plans_then outer inner a b c w v (AtAsk q k x) (Ok (plan.Enter j i n)) g h = absurd h
plans_then outer inner a b c w v (AtPart t k x) (Ok (plan.Ends e)) g h = absurd h
plans_then outer inner a b c w v (AtPart t k x) (Ok (plan.Ask p i)) g h = absurd h
plans_then outer inner a b c w v (AtEnd d x) (Err Halted) g h = absurd h
plans_then outer inner a b c w v (AtAsk q k x) (Err Halted) g h = absurd h
plans_then outer inner a b c w v (AtPart t k x) (Err Halted) g h = absurd h
plans_then outer inner a b c w v (AtNest p q x) (Err Halted) g h = absurd h
plans_then outer inner a b c w v (AtPrint y p x) (Err Halted) g h = absurd h

-- a scope is entered, and then the plan
pub cells_plan : (outer inner : Context) (a b : HeapView) (w : World) (n : ℕ) (cells new : List CellNo) (k : List CellNo → Program) (r : Result Plan Stop) →
    Goes a b w (world_with n w) → new ≡ cells ++ fresh_cells n w →
    Plans outer inner b b (world_with n w) (stage_of (k new) (world_with n w)) r → Plans outer inner a b w (stage_of (make_cells n cells k) w) r
cells_plan outer inner a b w n cells new k r g made h =
    subst (λ s. Plans outer inner a b w s r) (ap (λ e. stage_of (k e) (world_with n w)) made ∙ sym (cells_stage n cells k w)) (plans_then outer inner a b b w (world_with n w) _ r g h)

-- a turn is charged, and then the plan
pub charged_plan : (outer inner : Context) (a b c : HeapView) (w : World) (p : Program) (r : Result Plan Stop) → nat_le 1 w.turns ≡ true → Goes a b w (charged w 1) →
    Plans outer inner b c (charged w 1) (stage_of p (charged w 1)) r → Plans outer inner a c w (stage_of (charge 1 p) w) r
charged_plan outer inner a b c w p r fits g h =
    subst (λ (t : Bool). Plans outer inner a c w (cond t (stage_of p (charged w 1)) (AtHalt w)) r) (sym fits) (plans_then outer inner a b c w (charged w 1) _ r g h)

-- ---- what waits for the value of a part

-- an expression's item
pub item_on : (here : Context) (i : Item) (c : Completion) → ((s : StatementItem) → i ≡ item.Statement s → ⊥) → item_program here i c ≡ then_value (item_valued here i) c
item_on here (item.Read r) c other = refl
item_on here (item.Access i) c other = refl
item_on here (item.Operator i) c other = refl
item_on here (item.Literal i) c other = refl
item_on here (item.Statement s) c other = absurd (other s refl)
item_on here (item.Argument n next i given) c other = refl
item_on here (item.Constructor n) c other = refl

-- the part gave none
pub valued_ends : (here : Context) (a : HeapView) (w : World) (next : Value → Program) (c : Completion) (e : Ending) → taken value_in c ≡ Err (ended e) → StandsFor a w →
    Plans here here a a w (stage_of (then_value next c) w) (Ok (plan.Ends e))
valued_ends here a w next c e abrupt h = subst (λ t. Plans here here a a w (stage_of (go_on next t) w) (Ok (plan.Ends e))) (sym abrupt) (refl, goes_none a w h)

-- the part gave one
pub valued_goes : (here : Context) (a b : HeapView) (w : World) (next : Value → Program) (c : Completion) (v : Value) (r : Result Plan Stop) → taken value_in c ≡ Ok v →
    Plans here here a b w (stage_of (next v) w) r → Plans here here a b w (stage_of (then_value next c) w) r
valued_goes here a b w next c v r valued h = subst (λ t. Plans here here a b w (stage_of (go_on next t) w) r) (sym valued) h

-- ---- cells and nodes

-- cells that stay are in front of themselves, whatever is answered
pub front_same : {A E : Type 0} (r : Result A E) (cells : List CellNo) → OnOk r (take (length cells) cells ≡ cells)
front_same (Ok x) cells = take-length cells
front_same (Err e) cells = tt

-- what holds of each item holds of the one at a place
pub each_at : {A : Type 0} (P : A → Type 0) (xs : List A) (i : ℕ) (x : A) → AllByRecursion P xs → slice_get xs i ≡ Some x → P x
each_at P [] i x h e = absurd (let n : None ≡ Some x = e in cc)
each_at P (y ∷ xs) zero x h e = subst P (ap (λ o. unwrap_or o y) e) h.0
each_at P (y ∷ xs) (suc i) x h e = each_at P xs i x h.1 e
