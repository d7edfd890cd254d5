-- Property definitions, one after another, over plain variables.
use Rattle.std.proofs.Common.{◌≡◌, ℕ, true, Option, Some, None, List, [], ◌∷◌, drop, length, nat_le, Result, Ok, Err, refl, sym, ◌∙◌, ap, subst}
use Rattle.property_keys.specs.Limits.{most_units}
use Rattle.property_keys.specs.declared.identifiers.ObjectId.{ObjectId}
use Rattle.property_keys.specs.declared.identifiers.TextId.{TextId}
use Rattle.property_keys.specs.declared.keys.PropKey.{PropKey}
use Rattle.property_keys.specs.declared.values.Value.TheVariants as value
use Rattle.es_tree.specs.declared.names.Named.{Named}
use Rattle.es_tree.specs.declared.numbers.NodeId.{NodeId}
use Rattle.es_tree.specs.declared.primaries.Property.{Property}
use Rattle.es_tree.specs.declared.primaries.Property.TheVariants as property
use Rattle.es_model.specs.declared.answers.Stop.{Stop}
use Rattle.es_model.specs.Changes.{Interning, changed}
use Rattle.es_model.specs.Completions.{Completion}
use Rattle.es_model.specs.World.{World, number_of}
use Rattle.es_model.specs.Program.{Program, look}
use Rattle.es_model.specs.Stages.{stage_of}
use Rattle.object_heap.specs.Stands.{HeapView, StandsFor, Goes, goes_none, goes_then}
use Rattle.evaluator.specs.declared.items.Ending.TheVariants as ending
use Rattle.evaluator.specs.declared.items.Item.TheVariants as item
use Rattle.evaluator.specs.declared.items.Job.TheVariants as job
use Rattle.evaluator.specs.declared.items.LiteralItem.TheVariants as literal
use Rattle.evaluator.specs.declared.items.Plan.{Plan}
use Rattle.evaluator.specs.declared.items.Plan.TheVariants as plan
use Rattle.evaluator.specs.Contexts.{Context, evaluate}
use Rattle.evaluator.specs.Literals.{key_valued, plain, properties_at, properties_from, property_then, property_valued, shorthand_keyed}
use Rattle.evaluator.specs.Plans.{Defines, DefinesIn, Plans, property_keyed}
use Rattle.evaluator.specs.References.{get_value, resolve_bound}
use Rattle.evaluator.specs.Values.{key_of_text, with_key}
use Rattle.evaluator.proofs.Joining.{text_stage}
use Rattle.evaluator.proofs.Planned.{plans_then}

-- a plan of another program with the same stage, which begins where another call left the heap
pub plans_same : (here : Context) (a b c : HeapView) (w v : World) (p q : Program) (r : Result Plan Stop) → Goes a b w v → stage_of p w ≡ stage_of q v →
    Plans here here b c v (stage_of q v) r → Plans here here a c w (stage_of p w) r
plans_same here a b c w v p q r g e h = subst (λ s. Plans here here a c w s r) (sym e) (plans_then here here a b c w v (stage_of q v) r g h)

-- the same of a property definition
pub defines_same : (here : Context) (a b c : HeapView) (w v : World) (p q rest : Program) (r : Result (Option Plan) Stop) → Goes a b w v → stage_of p w ≡ stage_of q v →
    Defines here b c v q rest r → Defines here a c w p rest r
defines_same here a b c w v p q rest (Ok (Some x)) g e h = plans_same here a b c w v p q (Ok x) g e h
defines_same here a b c w v p q rest (Ok None) g e h = (h.0, goes_then a b c w v h.0 g h.1, e ∙ h.2)
defines_same here a b c w v p q rest (Err stop) g e h = plans_same here a b c w v p q (Err stop) g e h

-- ---- keys that are texts

pub key_stage : (units : List ℕ) (next : PropKey → Program) (w : World) (text : TextId) (k : PropKey) → nat_le (length units) most_units ≡ true → text ≡ number_of w.lists units →
    k ≡ key_of_text (changed (Interning units) w).lists text → stage_of (with_key units next) w ≡ stage_of (next k) (changed (Interning units) w)
key_stage units next w text k short number key =
    text_stage units (λ t. look (λ l. next (key_of_text l t))) w text short number ∙ ap (λ x. stage_of (next x) (changed (Interning units) w)) (sym key)

-- a name alone: its text is the key, and it is a text once more where the binding is resolved
pub shorthand_stage : (here : Context) (o : ObjectId) (named : Named) (rest : Program) (w u : World) (text name : TextId) (k : PropKey) → nat_le (length named.name) most_units ≡ true →
    text ≡ number_of w.lists named.name → u ≡ changed (Interning named.name) w → k ≡ key_of_text u.lists text → name ≡ number_of u.lists named.name →
    stage_of (property_then here o (property.Shorthand named) rest) w
    ≡ stage_of (resolve_bound here name named.binding (λ r. get_value here r (property_valued o k plain rest))) (changed (Interning named.name) u)
shorthand_stage here o named rest w u text name k short number one key again =
    key_stage named.name (shorthand_keyed here o named rest) w text k short number (key ∙ ap (λ (x : World). key_of_text x.lists text) one)
    ∙ ap (λ x. stage_of (shorthand_keyed here o named rest k) x) (sym one)
    ∙ text_stage named.name (λ t. resolve_bound here t named.binding (λ r. get_value here r (property_valued o k plain rest))) u name short again

-- a computed key is evaluated, and the definition with this number goes on with it
pub computed_plan : (here : Context) (a : HeapView) (w : World) (n : NodeId) (o : ObjectId) (p : Property) (at next : ℕ) (key : NodeId) → StandsFor a w →
    drop at (properties_at here n) ≡ p ∷ drop next (properties_at here n) →
    Plans here here a a w (stage_of (evaluate here key (key_valued (property_keyed here o (p ∷ drop next (properties_at here n))))) w)
    (Ok (plan.Wait (job.Node None key) (item.Literal (literal.KeyValued n at o))))
computed_plan here a w n o p at next key h is =
    let waits : List Property → Completion → Program = λ l c. key_valued (property_keyed here o l) c in (refl, ap waits is, goes_none a w h)

-- ---- the loop: the definitions from one number up to another are done

abbrev pub Defined : Context → NodeId → ObjectId → HeapView → HeapView → World → ℕ → ℕ → Type 0
Defined here n o a b w first next =
    (v : World) × Goes a b w v × (stage_of (properties_from here o (drop first (properties_at here n))) w ≡ stage_of (properties_from here o (drop next (properties_at here n))) v)

pub defined_none : (here : Context) (n : NodeId) (o : ObjectId) (a : HeapView) (w : World) (first : ℕ) → StandsFor a w → Defined here n o a a w first first
defined_none here n o a w first h = (w, goes_none a w h, refl)

-- what one definition does, in each world
abbrev pub DefinesOne : Context → NodeId → ObjectId → Property → ℕ → HeapView → HeapView → Result (Option Plan) Stop → Type 0
DefinesOne here n o p after b c r = DefinesIn here b c (λ x. property_then x o p) (λ x. properties_from x o (drop after (properties_at x n))) r

pub defined_on : (here : Context) (n : NodeId) (o : ObjectId) (p : Property) (a b c : HeapView) (w : World) (first next after : ℕ) → Defined here n o a b w first next →
    drop next (properties_at here n) ≡ p ∷ drop after (properties_at here n) → DefinesOne here n o p after b c (Ok None) → Defined here n o a c w first after
defined_on here n o p a b c w first next after (v, g, e) is d =
    let one = d v g.stands in (one.0, goes_then a b c w v one.0 g one.1, e ∙ ap (λ l. stage_of (properties_from here o l) v) is ∙ one.2)

pub defined_plan : (here : Context) (n : NodeId) (o : ObjectId) (p : Property) (a b c : HeapView) (w : World) (first next after : ℕ) (x : Plan) → Defined here n o a b w first next →
    drop next (properties_at here n) ≡ p ∷ drop after (properties_at here n) → DefinesOne here n o p after b c (Ok (Some x)) →
    Plans here here a c w (stage_of (properties_from here o (drop first (properties_at here n))) w) (Ok x)
defined_plan here n o p a b c w first next after x (v, g, e) is d =
    plans_same here a b c w v (properties_from here o (drop first (properties_at here n))) (property_then here o p (properties_from here o (drop after (properties_at here n)))) (Ok x) g
    (e ∙ ap (λ l. stage_of (properties_from here o l) v) is) (d v g.stands)

pub defined_stops : (here : Context) (n : NodeId) (o : ObjectId) (p : Property) (a b c : HeapView) (w : World) (first next after : ℕ) (stop : Stop) → Defined here n o a b w first next →
    drop next (properties_at here n) ≡ p ∷ drop after (properties_at here n) → DefinesOne here n o p after b c (Err stop) →
    Plans here here a c w (stage_of (properties_from here o (drop first (properties_at here n))) w) (Err stop)
defined_stops here n o p a b c w first next after stop (v, g, e) is d =
    plans_same here a b c w v (properties_from here o (drop first (properties_at here n))) (property_then here o p (properties_from here o (drop after (properties_at here n)))) (Err stop) g
    (e ∙ ap (λ l. stage_of (properties_from here o l) v) is) (d v g.stands)

pub defined_ends : (here : Context) (n : NodeId) (o : ObjectId) (a b : HeapView) (w : World) (first next : ℕ) → Defined here n o a b w first next → drop next (properties_at here n) ≡ [] →
    Plans here here a b w (stage_of (properties_from here o (drop first (properties_at here n))) w) (Ok (plan.Ends (ending.Gives (value.Object o))))
defined_ends here n o a b w first next (v, g, e) none =
    subst (λ s. Plans here here a b w s (Ok (plan.Ends (ending.Gives (value.Object o))))) (sym (e ∙ ap (λ l. stage_of (properties_from here o l) v) none)) (refl, g)
