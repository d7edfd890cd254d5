-- InstanceofOperator and OrdinaryHasInstance keep worlds sound.
use Rattle.std.proofs.Common.{ℕ, zero, suc, Bool, true, false, Option, Some, None, List, [], ◌∷◌, refl, arith}
use Rattle.std.specs.Prelude.{codes}
use Rattle.property_keys.specs.declared.identifiers.ObjectId.{ObjectId}
use Rattle.property_keys.specs.declared.keys.PropKey.TheVariants.{Name, Sym}
use Rattle.property_keys.specs.declared.values.Value.{Value}
use Rattle.property_keys.specs.declared.values.Value.TheVariants as value
use Rattle.es_model.specs.declared.answers.Reply.TheVariants as reply
use Rattle.es_model.specs.declared.requests.Operation.TheVariants as operation
use Rattle.es_model.specs.declared.requests.Request.{Request}
use Rattle.es_model.specs.declared.requests.Request.TheVariants.{Call, Proto, Read, Work}
use Rattle.es_model.specs.declared.start_texts.WellKnown.TheVariants as symbol
use Rattle.es_model.specs.Completions.{Completion, Normal}
use Rattle.es_model.specs.StartTexts.{symbol_of}
use Rattle.es_model.specs.World.{Lists, World, kind, number_of}
use Rattle.es_model.specs.Changes.{charged}
use Rattle.es_model.specs.Program.{Program, Task, Of, look}
use Rattle.es_model.specs.Known.{IsObject, IfThere, IsKnown}
use Rattle.es_model.specs.Fits.{Fits}
use Rattle.es_model.specs.Sound.{IsSound}
use Rattle.es_model.specs.Kept.{FitsTask, IsKept}
use Rattle.es_model.specs.programs.Testing.{as_object, is_callable_kind, is_truth}
use Rattle.es_model.proofs.KnownLater.{object-later, known-later}
use Rattle.es_model.proofs.SharedKept.{get_named-kept, not_function-kept, not_object-kept, proto-kept, then_method-kept, value-kept}
use Rattle.es_model.proofs.SoundErrors.{kept-if}
use Rattle.es_model.proofs.SoundReads.{sound-charged}
use Rattle.plain_builtins.specs.Comparisons.{says}
use Rattle.plain_builtins.specs.Instances.{most_rounds, same_object, parent_found, instance_round, prototype_by, prototype_given, has_instance, handler_found, instance_of_by, ordinary_by}

abbrev InstanceTask : List Value → Task
InstanceTask operands = Of (Work operation.InstanceOf operands)

-- the object that a known value is
pub object-known : (l : Lists) (v : Value) → IsKnown l v → IfThere (IsObject l) (as_object v)
object-known l value.Undefined h = tt
object-known l value.Null h = tt
object-known l (value.Bool b) h = tt
object-known l (value.Whole n) h = tt
object-known l (value.Text t) h = tt
object-known l (value.Symbol s) h = tt
object-known l (value.Object o) h = h

-- the task's answer may be a flag
abbrev TakesFlag : Task → Type 0
TakesFlag t = (l : Lists) (b : Bool) → FitsTask t l (Normal (reply.Flag b))

takes_flag : (operands : List Value) → TakesFlag (InstanceTask operands)
takes_flag operands l b = (tt, tt)

parent_found-kept : (t : Task) → TakesFlag t → (w : World) (onward : ObjectId → Program) (p : ObjectId) (up : Option ObjectId) → IsSound w → IfThere (IsObject w.lists) up →
    ((x : ObjectId) → IsObject w.lists x → IsKept (FitsTask t) (onward x) w) → IsKept (FitsTask t) (parent_found onward p up) w
parent_found-kept t takes w onward p None s there h = (s, takes w.lists false)
parent_found-kept t takes w onward p (Some up) s there h = kept-if (FitsTask t) w (same_object up p) (says true) (onward up) (s, takes w.lists true) (h up there)

round-kept : (t : Task) → TakesFlag t → (n : ℕ) (w : World) (p x : ObjectId) → IsSound w → IsObject w.lists x → IsKept (FitsTask t) (instance_round n p x) w
unfolding charged
round-kept t takes zero w p x s there = (s, takes w.lists false)
round-kept t takes (suc n) w p x s there = (
  s.intact,
  (
    sound-charged w 1 s,
    there,
    λ c u su l fit.
        proto-kept t (Proto x) u (parent_found (instance_round n p) p) c su fit (λ up k.
        parent_found-kept t takes u (instance_round n p) p up su k (λ y ky. round-kept t takes n u p y su ky)),
  ),
)

prototype_by-kept : (t : Task) → TakesFlag t → (w : World) (p : Option ObjectId) (x : ObjectId) → IsSound w → IsObject w.lists x → IsKept (FitsTask t) (prototype_by p x) w
prototype_by-kept t takes w (Some p) x s there = round-kept t takes most_rounds w p x s there
prototype_by-kept t takes w None x s there = not_object-kept t w s

prototype-kept : (t : Task) → TakesFlag t → (q : Request) (w : World) (x : ObjectId) (c : Completion) → IsSound w → IsObject w.lists x → Fits w.lists q c → IsKept (FitsTask t) (prototype_given x c) w
prototype-kept t takes q w x c s there fit = value-kept t q w (λ p. prototype_by (as_object p) x) c s fit (λ p k. prototype_by-kept t takes w (as_object p) x s there)

has_instance-kept : (t : Task) → TakesFlag t → (w : World) (f : ObjectId) (x : Option ObjectId) → IsSound w → IsObject w.lists f → IfThere (IsObject w.lists) x → IsKept (FitsTask t) (has_instance f x) w
has_instance-kept t takes w f None s callee there = (s, takes w.lists false)
has_instance-kept t takes w f (Some x) s callee there =
    get_named-kept (FitsTask t) w f (codes "prototype") (prototype_given x) s callee (omega arith) refl (λ c u su l fit.
    prototype-kept t takes (Read f (Name (number_of w.lists (codes "prototype"))) (value.Object f) None) u x c su (object-later w.lists u.lists l.lists x there) fit)

handler_found-kept : (operands : List Value) (w : World) (v : Value) (f : ObjectId) (h : Option ObjectId) → IsSound w → IsKnown w.lists v → IsObject w.lists f → IfThere (IsObject w.lists) h → IsKept (FitsTask (InstanceTask operands)) (handler_found v f h) w
handler_found-kept operands w v f (Some h) s known target there = (
  s,
  (there, target, (known, tt)),
  λ c u su l fit.
      value-kept (InstanceTask operands) (Call (value.Object h) (value.Object f) (v ∷ [])) u (λ x. look (λ k. says (is_truth k x))) c su fit (λ x k. (su, (tt, tt))),
)
handler_found-kept operands w v f None s known target there =
    kept-if (FitsTask (InstanceTask operands)) w (is_callable_kind (kind w.lists f)) _ _
    (has_instance-kept (InstanceTask operands) (takes_flag operands) w f (as_object v) s target (object-known w.lists v known)) (not_function-kept (InstanceTask operands) w s)

by-kept : (operands : List Value) (w : World) (v : Value) (f : Option ObjectId) → IsSound w → IsKnown w.lists v → IfThere (IsObject w.lists) f → IsKept (FitsTask (InstanceTask operands)) (instance_of_by v f) w
by-kept operands w v None s known there = not_object-kept (InstanceTask operands) w s
by-kept operands w v (Some f) s known there =
    let symbols = s.intact.symbols in (
      s,
      (there, (tt, omega arith), there),
      λ c u su l fit.
          then_method-kept (InstanceTask operands) (Read f (Sym (symbol_of symbol.HasInstance)) (value.Object f) None) u (handler_found v f) c su fit (λ h k.
          handler_found-kept operands u v f h su (known-later w.lists u.lists l.lists v known) (object-later w.lists u.lists l.lists f there) k),
    )

pub instance_of-kept : (operands : List Value) (w : World) (v target : Value) → IsSound w → IsKnown w.lists v → IsKnown w.lists target → IsKept (FitsTask (InstanceTask operands)) (instance_of_by v (as_object target)) w
instance_of-kept operands w v target s known k = by-kept operands w v (as_object target) s known (object-known w.lists target k)

-- ---- OrdinaryHasInstance

abbrev OrdinaryTask : List Value → Task
OrdinaryTask operands = Of (Work operation.OrdinaryHasInstance operands)

ordinary_by-kept : (operands : List Value) (w : World) (f : Option ObjectId) (v : Value) → IsSound w → IfThere (IsObject w.lists) f → IsKnown w.lists v → IsKept (FitsTask (OrdinaryTask operands)) (ordinary_by f v) w
ordinary_by-kept operands w None v s there known = (s, (tt, tt))
ordinary_by-kept operands w (Some f) v s there known =
    kept-if (FitsTask (OrdinaryTask operands)) w (is_callable_kind (kind w.lists f)) (has_instance f (as_object v)) (says false)
    (has_instance-kept (OrdinaryTask operands) (λ l b. (tt, tt)) w f (as_object v) s there (object-known w.lists v known)) (s, (tt, tt))

pub ordinary-kept : (operands : List Value) (w : World) (f v : Value) → IsSound w → IsKnown w.lists f → IsKnown w.lists v → IsKept (FitsTask (OrdinaryTask operands)) (ordinary_by (as_object f) v) w
ordinary-kept operands w f v s fk known = ordinary_by-kept operands w (as_object f) v s (object-known w.lists f fk) known
