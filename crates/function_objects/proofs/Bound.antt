-- A receiver that is bound: what its program comes to, and that worlds stay sound.
use Rattle.std.proofs.Common.{◌≡◌, ℕ, true, false, refl}
use Rattle.std.specs.Prelude.{Bool, codes}
use Rattle.property_keys.specs.declared.identifiers.ObjectId.{ObjectId}
use Rattle.property_keys.specs.declared.identifiers.TextId.{TextId}
use Rattle.property_keys.specs.declared.values.Value.{Value}
use Rattle.property_keys.specs.declared.values.Value.TheVariants as value
use Rattle.es_model.specs.declared.intrinsics.Class.{Class}
use Rattle.es_model.specs.declared.intrinsics.Class.TheVariants as class
use Rattle.es_model.specs.declared.intrinsics.Intrinsic.TheVariants as intrinsic
use Rattle.es_model.specs.declared.kinds.ObjectKind.{ObjectKind}
use Rattle.es_model.specs.declared.kinds.ObjectKind.TheVariants as kind_of
use Rattle.es_model.specs.declared.requests.Request.TheVariants.{Proto}
use Rattle.es_model.specs.Completions.{Completion, Throw}
use Rattle.es_model.specs.Changes.{Interning, changed}
use Rattle.es_model.specs.Kept.{FitsTask, IsKept, IsLater}
use Rattle.es_model.specs.Known.{IsKnown}
use Rattle.es_model.specs.Program.{Of, Program, done}
use Rattle.es_model.specs.Sound.{IsSound}
use Rattle.es_model.specs.Stages.{stage_of}
use Rattle.es_model.specs.Weights.{IsWithin}
use Rattle.es_model.specs.World.{Lists, World}
use Rattle.es_model.specs.programs.Converting.{to_object}
use Rattle.es_model.proofs.Keeping.{later_none, later_then}
use Rattle.es_model.proofs.SharedKept.{later-changed, to_object-kept}
use Rattle.function_objects.specs.Receivers.{bind_this, bound_value, bound_world, global, text_object_world, wrapper_world}

-- ---- what the program comes to

pub bound_stage : (strict : Bool) (this : Value) (next : Value → Program) (w : World) → stage_of (bind_this strict this next) w ≡ stage_of (next (bound_value strict this w)) (bound_world strict this w)
unfolding bound_world bound_value
bound_stage true this next w = refl
bound_stage false value.Undefined next w = refl
bound_stage false value.Null next w = refl
bound_stage false (value.Bool b) next w = refl
bound_stage false (value.Whole n) next w = refl
bound_stage false (value.Text t) next w = refl
bound_stage false (value.Symbol s) next w = refl
bound_stage false (value.Object o) next w = refl

-- ---- later worlds

wrapper-later : (c : Class) (kind : ObjectKind) (w : World) → IsLater w (wrapper_world c kind w)
wrapper-later c kind w = later-changed _ w

text-later : (t : TextId) (w : World) → IsLater w (text_object_world t w)
text-later t w =
    let a : World = wrapper_world class.String (kind_of.Text t) w in
    let b : World = changed (Interning (codes "length")) a in
    later_then w a (text_object_world t w) (wrapper-later class.String (kind_of.Text t) w) (later_then a b (text_object_world t w) (later-changed (Interning (codes "length")) a) (later-changed _ b))

pub bound_later : (strict : Bool) (this : Value) (w : World) → IsLater w (bound_world strict this w)
unfolding bound_world
bound_later true this w = later_none w
bound_later false value.Undefined w = later_none w
bound_later false value.Null w = later_none w
bound_later false (value.Bool b) w = wrapper-later class.Boolean (kind_of.Wrapper (value.Bool b)) w
bound_later false (value.Whole n) w = wrapper-later class.Number (kind_of.Wrapper (value.Whole n)) w
bound_later false (value.Text t) w = text-later t w
bound_later false (value.Symbol s) w = wrapper-later class.Symbol (kind_of.Wrapper (value.Symbol s)) w
bound_later false (value.Object o) w = later_none w

-- ---- sound worlds

-- a program that gives the Object of a value, so that its end says of the world what it is to say
abbrev given : ObjectId → Program
given o = done (Throw (value.Object o))

object-kept : (w : World) (v : Value) → IsSound w → IsKnown w.lists v → IsKept (FitsTask (Of (Proto global))) (to_object v given) w
object-kept w v s known = to_object-kept (Of (Proto global)) w v given s known (λ o u su l there. (su, there))

bound-both : (strict : Bool) (this : Value) (w : World) → IsSound w → IsKnown w.lists this → IsSound (bound_world strict this w) × IsKnown (bound_world strict this w).lists (bound_value strict this w)
unfolding bound_world bound_value
bound-both true this w s known = (s, known)
bound-both false value.Undefined w s known = (s, (s.intact.start intrinsic.Global).0)
bound-both false value.Null w s known = (s, (s.intact.start intrinsic.Global).0)
bound-both false (value.Bool b) w s known = object-kept w (value.Bool b) s known
bound-both false (value.Whole n) w s known = object-kept w (value.Whole n) s known
bound-both false (value.Text t) w s known = object-kept w (value.Text t) s known
bound-both false (value.Symbol x) w s known = object-kept w (value.Symbol x) s known
bound-both false (value.Object o) w s known = (s, known)

pub bound_sound : (strict : Bool) (this : Value) (w : World) → IsSound w → IsKnown w.lists this → IsSound (bound_world strict this w)
bound_sound strict this w s known = (bound-both strict this w s known).0

pub bound_known : (strict : Bool) (this : Value) (w : World) → IsSound w → IsKnown w.lists this → IsKnown (bound_world strict this w).lists (bound_value strict this w)
bound_known strict this w s known = (bound-both strict this w s known).1

kept-same : (P : Lists → Completion → Type 0) (strict : Bool) (this : Value) (next : Value → Program) (w : World) → IsKept P (next (bound_value strict this w)) (bound_world strict this w) → IsKept P (bind_this strict this next) w
unfolding bound_world bound_value
kept-same P true this next w h = h
kept-same P false value.Undefined next w h = h
kept-same P false value.Null next w h = h
kept-same P false (value.Bool b) next w h = h
kept-same P false (value.Whole n) next w h = h
kept-same P false (value.Text t) next w h = h
kept-same P false (value.Symbol s) next w h = h
kept-same P false (value.Object o) next w h = h

-- what follows, with the receiver
pub bind_this_kept : (P : Lists → Completion → Type 0) (strict : Bool) (this : Value) (next : Value → Program) (w : World) → IsSound w → IsKnown w.lists this →
    ((v : Value) (u : World) → IsSound u → IsLater w u → IsKnown u.lists v → IsKept P (next v) u) → IsKept P (bind_this strict this next) w
bind_this_kept P strict this next w s known h =
    kept-same P strict this next w (h (bound_value strict this w) (bound_world strict this w) (bound_sound strict this w s known) (bound_later strict this w) (bound_known strict this w s known))

-- ---- budgets

-- nothing is asked for
pub bind_this_within : (r b : ℕ) (strict : Bool) (this : Value) (next : Value → Program) → ((v : Value) → IsWithin r b (next v)) → IsWithin r b (bind_this strict this next)
bind_this_within r b true this next h = h this
bind_this_within r b false value.Undefined next h = h (value.Object global)
bind_this_within r b false value.Null next h = h (value.Object global)
bind_this_within r b false (value.Bool x) next h = λ l. h _
bind_this_within r b false (value.Whole n) next h = λ l. h _
bind_this_within r b false (value.Text t) next h = λ l m n o. h _
bind_this_within r b false (value.Symbol s) next h = λ l. h _
bind_this_within r b false (value.Object o) next h = h (value.Object o)
