-- An array literal keeps sound worlds sound, and within its budget.
use Rattle.std.proofs.Common.{◌≡◌, ℕ, ◌+◌, ◌≤◌, ◌∷◌, [], Option, Some, None, List, nat_le, refl, arith}
use Rattle.property_keys.specs.Keys.{most_index}
use Rattle.property_keys.specs.declared.identifiers.ObjectId.{ObjectId}
use Rattle.property_keys.specs.declared.values.Value.{Value}
use Rattle.es_tree.specs.declared.numbers.NodeId.{NodeId}
use Rattle.es_model.specs.declared.intrinsics.Class.TheVariants as class
use Rattle.es_model.specs.declared.intrinsics.Intrinsic.TheVariants as intrinsic
use Rattle.es_model.specs.Fits.{IsKnownCompletion}
use Rattle.es_model.specs.Kept.{IsLater}
use Rattle.es_model.specs.Known.{IsObject, IsKnown}
use Rattle.es_model.specs.Program.{Program}
use Rattle.es_model.specs.Sound.{IsSound}
use Rattle.es_model.specs.World.{World}
use Rattle.array_objects.specs.Making.{append_element, raise_length}
use Rattle.array_objects.proofs.Made.{appended_kept, appended_within, made_kept, made_within, raised_kept, raised_within}
use Rattle.evaluator.specs.Contexts.{Context, falls}
use Rattle.evaluator.specs.Elements.{array_literal, element_left_out, element_put, element_then, element_valued, elements_after, elements_at, elements_from}
use Rattle.evaluator.specs.References.{prototype_of}
use Rattle.evaluator.proofs.WordsKept.{Keeps, kept-of, kept-whole, done-kept, IsHere, OnEnd, Onward, evaluated-kept, here-stays, kept-le, object-stays, onward-stays, value-kept}
use Rattle.evaluator.proofs.WordsWithin.{On, Within, within-of, within-whole, cond-within, done-within, evaluated-within, value-within}

-- ---- sound worlds

onward-whole : (w : World) (next : Program) → Onward w next → (v : World) → IsSound v → IsLater w v → Keeps next v
onward-whole w next f = λ v sv l. f v sv l

element_put-kept : (w : World) (a : ObjectId) (i : ℕ) (next : Program) (v : Value) → IsSound w → IsObject w.lists a → IsKnown w.lists v → Onward w next → Keeps (element_put a i next v) w
element_put-kept w a i next v s there known f =
    kept-le i most_index w (append_element a i v next) falls (nat_le i most_index) refl
    (λ fits. kept-of _ w (appended_kept IsKnownCompletion a i v next w s fits there known (λ u su l. kept-whole next u (f u su l))))
    (done-kept w _ s tt)

element_valued-kept : (w : World) (a : ObjectId) (i : ℕ) (next : Program) → IsObject w.lists a → Onward w next → OnEnd w (element_valued a i next)
element_valued-kept w a i next there f = λ c v sv l known. value-kept v (element_put a i next) c sv known (λ x h.
    element_put-kept v a i next x sv (object-stays w v l a there) h (onward-stays w v l next f))

left_out-kept : (w : World) (a : ObjectId) (i : ℕ) (next : Program) → IsSound w → IsObject w.lists a → Onward w next → Keeps (element_left_out a i next) w
left_out-kept w a i next s there f =
    kept-le i most_index w (raise_length a (i + 1) next) falls (nat_le i most_index) refl
    (λ fits. kept-of _ w (raised_kept IsKnownCompletion a (i + 1) next w s (omega arith) there (λ u su l. kept-whole next u (f u su l))))
    (done-kept w _ s tt)

element_then-kept : (w : World) (here : Context) (a : ObjectId) (i : ℕ) (e : Option NodeId) (next : Program) → IsSound w → IsHere w here → IsObject w.lists a → Onward w next → Keeps (element_then here a i e next) w
element_then-kept w here a i None next s h there f = left_out-kept w a i next s there f
element_then-kept w here a i (Some e) next s h there f = evaluated-kept w here None e (element_valued a i next) s h tt (element_valued-kept w a i next there f)

elements-kept : (w : World) (here : Context) (a : ObjectId) (i : ℕ) (es : List (Option NodeId)) → IsSound w → IsHere w here → IsObject w.lists a → Keeps (elements_from here a i es) w
elements-kept w here a i [] s h there = done-kept w _ s there
elements-kept w here a i (e ∷ es) s h there =
    element_then-kept w here a i e (elements_from here a (i + 1) es) s h there (λ v sv l. elements-kept v here a (i + 1) es sv (here-stays w v l here h) (object-stays w v l a there))

pub array-kept : (w : World) (here : Context) (n : NodeId) → IsSound w → IsHere w here → Keeps (array_literal here n) w
array-kept w here n s h =
    kept-of _ w (made_kept IsKnownCompletion 0 (prototype_of class.Array) (elements_after here n 0) w s (omega arith) (s.intact.start (intrinsic.Prototype class.Array)).0 (λ a v sv l there.
    kept-whole (elements_after here n 0 a) v (elements-kept v here a 0 (elements_at here n) sv (here-stays w v l here h) there)))

-- ---- budgets: an element is a node, and takes its turn; one that is left out asks for nothing

pub element_put-within : (r b : ℕ) (a : ObjectId) (i : ℕ) (next : Program) (v : Value) → Within r b next → Within r b (element_put a i next v)
element_put-within r b a i next v h =
    cond-within r b (nat_le i most_index) (append_element a i v next) falls (within-of r b _ (appended_within r b a i v next (within-whole r b next h))) (done-within _ _ _)

left_out-within : (r b : ℕ) (a : ObjectId) (i : ℕ) (next : Program) → Within r b next → Within r b (element_left_out a i next)
left_out-within r b a i next h =
    cond-within r b (nat_le i most_index) (raise_length a (i + 1) next) falls (within-of r b _ (raised_within r b a (i + 1) next (within-whole r b next h))) (done-within _ _ _)

element_valued-within : (r b : ℕ) (a : ObjectId) (i : ℕ) (next : Program) → Within r b next → On r b (element_valued a i next)
element_valued-within r b a i next h = λ c. value-within r b (element_put a i next) c (λ v. element_put-within r b a i next v h)

pub elements-within : (r b : ℕ) (here : Context) (a : ObjectId) (i : ℕ) (es : List (Option NodeId)) → 1 ≤ b → 1 ≤ r → Within r b (elements_from here a i es)
elements-within r b here a i [] some enough = done-within _ _ _
elements-within r b here a i (None ∷ es) some enough = left_out-within r b a i (elements_from here a (i + 1) es) (elements-within r b here a (i + 1) es some enough)
elements-within r b here a i (Some e ∷ es) some enough =
    evaluated-within r b here None e (element_valued a i (elements_from here a (i + 1) es)) some (element_valued-within r r a i (elements_from here a (i + 1) es) (elements-within r r here a (i + 1) es enough enough))

pub array-within : (r : ℕ) (here : Context) (n : NodeId) → 1 ≤ r → Within r r (array_literal here n)
array-within r here n enough =
    within-of r r _ (made_within r r 0 (prototype_of class.Array) (elements_after here n 0) (λ a. within-whole r r (elements_after here n 0 a) (elements-within r r here a 0 (elements_at here n) enough enough)))
