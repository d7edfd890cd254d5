-- The elements of an array literal, one after another, over plain variables.
use Rattle.std.proofs.Common.{◌≡◌, ℕ, ◌+◌, true, cond, nat_le, Option, Some, None, List, [], ◌∷◌, drop, Result, Ok, Err, refl, sym, ◌∙◌, ap, subst}
use Rattle.property_keys.specs.Keys.{most_index}
use Rattle.property_keys.specs.declared.identifiers.ObjectId.{ObjectId}
use Rattle.property_keys.specs.declared.values.Value.{Value}
use Rattle.property_keys.specs.declared.values.Value.TheVariants as value
use Rattle.es_tree.specs.declared.numbers.NodeId.{NodeId}
use Rattle.es_model.specs.declared.answers.Stop.{Stop}
use Rattle.es_model.specs.declared.intrinsics.Class.TheVariants as class
use Rattle.es_model.specs.Program.{Program}
use Rattle.es_model.specs.Stages.{stage_of}
use Rattle.es_model.specs.World.{World}
use Rattle.object_heap.specs.Stands.{HeapView, StandsFor, Goes, goes_none, goes_then}
use Rattle.evaluator.specs.declared.items.Ending.TheVariants as ending
use Rattle.evaluator.specs.declared.items.Plan.{Plan}
use Rattle.evaluator.specs.declared.items.Plan.TheVariants as plan
use Rattle.array_objects.specs.Making.{append_element, appended_world, made_world, new_array, raise_length, raised_world}
use Rattle.array_objects.proofs.Made.{appended_stage, made_stage, raised_stage}
use Rattle.evaluator.specs.Contexts.{Context, falls}
use Rattle.evaluator.specs.Elements.{array_literal, element_put, element_then, elements_after, elements_at, elements_from}
use Rattle.evaluator.specs.Plans.{DefinesIn, Plans}
use Rattle.evaluator.specs.References.{prototype_of}
use Rattle.evaluator.proofs.Defining.{plans_same}

-- the elements from one number up to another are done
abbrev pub Filled : Context → NodeId → ObjectId → HeapView → HeapView → World → ℕ → ℕ → Type 0
Filled here n a old new w first next =
    (v : World) × Goes old new w v × (stage_of (elements_after here n first a) w ≡ stage_of (elements_after here n next a) v)

pub elements_none : (here : Context) (n : NodeId) (a : ObjectId) (old : HeapView) (w : World) (first : ℕ) → StandsFor old w → Filled here n a old old w first first
elements_none here n a old w first h = (w, goes_none old w h, refl)

-- what one element does, in each world
abbrev pub FillsOne : Context → NodeId → ObjectId → Option NodeId → ℕ → HeapView → HeapView → Result (Option Plan) Stop → Type 0
FillsOne here n a e i b c r = DefinesIn here b c (λ x. element_then x a i e) (λ x. elements_after x n (i + 1) a) r

-- the program from a number on begins with the element that stands there
from-here : (here : Context) (n : NodeId) (a : ObjectId) (e : Option NodeId) (i : ℕ) (v : World) → drop i (elements_at here n) ≡ e ∷ drop (i + 1) (elements_at here n) →
    stage_of (elements_after here n i a) v ≡ stage_of (element_then here a i e (elements_after here n (i + 1) a)) v
from-here here n a e i v is = ap (λ l. stage_of (elements_from here a i l) v) is

pub elements_on : (here : Context) (n : NodeId) (a : ObjectId) (e : Option NodeId) (old b c : HeapView) (w : World) (first i : ℕ) → Filled here n a old b w first i →
    drop i (elements_at here n) ≡ e ∷ drop (i + 1) (elements_at here n) → FillsOne here n a e i b c (Ok None) → Filled here n a old c w first (i + 1)
elements_on here n a e old b c w first i (v, g, same) is d =
    let one = d v g.stands in (one.0, goes_then old b c w v one.0 g one.1, same ∙ from-here here n a e i v is ∙ one.2)

pub elements_plan : (here : Context) (n : NodeId) (a : ObjectId) (e : Option NodeId) (old b c : HeapView) (w : World) (first i : ℕ) (x : Plan) → Filled here n a old b w first i →
    drop i (elements_at here n) ≡ e ∷ drop (i + 1) (elements_at here n) → FillsOne here n a e i b c (Ok (Some x)) → Plans here here old c w (stage_of (elements_after here n first a) w) (Ok x)
elements_plan here n a e old b c w first i x (v, g, same) is d =
    plans_same here old b c w v (elements_after here n first a) (element_then here a i e (elements_after here n (i + 1) a)) (Ok x) g (same ∙ from-here here n a e i v is) (d v g.stands)

pub elements_stop : (here : Context) (n : NodeId) (a : ObjectId) (e : Option NodeId) (old b c : HeapView) (w : World) (first i : ℕ) (stop : Stop) → Filled here n a old b w first i →
    drop i (elements_at here n) ≡ e ∷ drop (i + 1) (elements_at here n) → FillsOne here n a e i b c (Err stop) → Plans here here old c w (stage_of (elements_after here n first a) w) (Err stop)
elements_stop here n a e old b c w first i stop (v, g, same) is d =
    plans_same here old b c w v (elements_after here n first a) (element_then here a i e (elements_after here n (i + 1) a)) (Err stop) g (same ∙ from-here here n a e i v is) (d v g.stands)

pub elements_end : (here : Context) (n : NodeId) (a : ObjectId) (old b : HeapView) (w : World) (first i : ℕ) → Filled here n a old b w first i → drop i (elements_at here n) ≡ [] →
    Plans here here old b w (stage_of (elements_after here n first a) w) (Ok (plan.Ends (ending.Gives (value.Object a))))
elements_end here n a old b w first i (v, g, same) none =
    subst (λ s. Plans here here old b w s (Ok (plan.Ends (ending.Gives (value.Object a))))) (sym (same ∙ ap (λ l. stage_of (elements_from here a i l) v) none)) (refl, g)

-- ---- one element, and the literal

-- an element that is left out raises the length
pub left_out_done : (here : Context) (a : ObjectId) (i j : ℕ) (found : Option NodeId) (rest : Program) (old new : HeapView) (w : World) → found ≡ None → j ≡ i → nat_le i most_index ≡ true → Goes old new w (raised_world a (j + 1) w) →
    (x : World) × Goes old new w x × (stage_of (element_then here a i found rest) w ≡ stage_of rest x)
left_out_done here a i j found rest old new w none same fits g = (
  raised_world a (j + 1) w,
  g,
  ap (λ f. stage_of (element_then here a i f rest) w) none ∙ ap (λ b. stage_of (cond b (raise_length a (i + 1) rest) falls) w) fits
      ∙ raised_stage a (i + 1) rest w ∙ ap (λ n. stage_of rest (raised_world a (n + 1) w)) (sym same),
)

-- an element with its value
pub put_stage : (a : ObjectId) (i j : ℕ) (v : Value) (rest : Program) (w : World) → j ≡ i → nat_le i most_index ≡ true → stage_of (element_put a i rest v) w ≡ stage_of rest (appended_world a j v w)
put_stage a i j v rest w same fits =
    ap (λ b. stage_of (cond b (append_element a i v rest) falls) w) fits ∙ appended_stage a i v rest w ∙ ap (λ n. stage_of rest (appended_world a n v w)) (sym same)

pub literal_stage : (here : Context) (n : NodeId) (a p : ObjectId) (w : World) → a ≡ new_array w → p ≡ prototype_of class.Array → stage_of (array_literal here n) w ≡ stage_of (elements_after here n 0 a) (made_world 0 p w)
literal_stage here n a p w is proto =
    made_stage 0 (prototype_of class.Array) (elements_after here n 0) w ∙ ap (λ o. stage_of (elements_after here n 0 o) (made_world 0 (prototype_of class.Array) w)) (sym is)
    ∙ ap (λ o. stage_of (elements_after here n 0 a) (made_world 0 o w)) (sym proto)
