-- IsLooselyEqual and IsLessThan keep worlds sound.
use Rattle.std.proofs.Common.{Bool, true, false, Option, Some, None, Result, Ok, Err, List, [], refl}
use Rattle.std.specs.Prelude.{int_lt}
use Rattle.property_keys.specs.declared.identifiers.ObjectId.{ObjectId}
use Rattle.property_keys.specs.declared.identifiers.TextId.{TextId}
use Rattle.property_keys.specs.declared.values.Value.{Value}
use Rattle.property_keys.specs.declared.values.Value.TheVariants as value
use Rattle.es_model.specs.declared.answers.Reply.TheVariants as reply
use Rattle.es_model.specs.declared.requests.Operation.TheVariants as operation
use Rattle.es_model.specs.declared.requests.Request.TheVariants.{Work}
use Rattle.es_model.specs.Completions.{Completion, Normal}
use Rattle.es_model.specs.World.{World}
use Rattle.es_model.specs.Program.{Task, Of}
use Rattle.es_model.specs.Known.{IsKnown}
use Rattle.es_model.specs.Fits.{Fits}
use Rattle.es_model.specs.Sound.{IsSound}
use Rattle.es_model.specs.Kept.{FitsTask, IsKept, IsLater}
use Rattle.es_model.specs.programs.Testing.{as_object}
use Rattle.es_model.proofs.Keeping.{later_none}
use Rattle.es_model.proofs.KnownLater.{known-later}
use Rattle.es_model.proofs.SharedKept.{value-kept}
use Rattle.es_model.proofs.SoundErrors.{kept-if}
use Rattle.es_model.proofs.SoundReads.{sound-charged}
use Rattle.es_model.specs.Program.{Program}
use Rattle.plain_builtins.specs.Comparisons.{says, equal_in, says_equal, numbered, primitives_equal, is_nullish, loosely_equal_by, texts_less, numbers_less, as_text, less_by, primitives_less, converted, right_after, left_first, left_after, right_first, less_than}
use Rattle.plain_builtins.specs.Conversions.{number_in, with_number}
use Rattle.plain_builtins.specs.declared.words.NoNumber.{NoNumber}
use Rattle.plain_builtins.proofs.KeptConversions.{no_number-kept, with_number-kept, number-whole}

-- ---- IsLooselyEqual

abbrev EqualTask : List Value → Task
EqualTask operands = Of (Work operation.LooselyEqual operands)

says_equal-kept : (operands : List Value) (w : World) (e : Result Bool NoNumber) → IsSound w → IsKept (FitsTask (EqualTask operands)) (says_equal e) w
says_equal-kept operands w (Ok b) s = (s, (tt, tt))
says_equal-kept operands w (Err e) s = no_number-kept (EqualTask operands) w e s

equal-kept : (operands : List Value) (w : World) (a b : Value) → IsSound w → IsKept (FitsTask (EqualTask operands)) (primitives_equal a b) w
equal-kept operands w a b s = says_equal-kept operands w (equal_in w.lists (numbered a) (numbered b)) s

-- the object on the left, or on the right, is converted
left-kept : (operands : List Value) (w : World) (a b : Value) → IsSound w → IsKnown w.lists a → (o : ObjectId) → IsKept (FitsTask (EqualTask operands)) (loosely_equal_by (Some o) None a b) w
left-kept operands w a b s known o =
    kept-if (FitsTask (EqualTask operands)) w (is_nullish b) _ _ (s, (tt, tt))
    (s, (refl, (known, tt)), λ c u su l fit. value-kept (EqualTask operands) (Work operation.ToPrimitiveDefault []) u (λ p. primitives_equal p b) c su fit (λ p k. equal-kept operands u p b su))

right-kept : (operands : List Value) (w : World) (a b : Value) → IsSound w → IsKnown w.lists b → (o : ObjectId) → IsKept (FitsTask (EqualTask operands)) (loosely_equal_by None (Some o) a b) w
right-kept operands w a b s known o =
    kept-if (FitsTask (EqualTask operands)) w (is_nullish a) _ _ (s, (tt, tt))
    (s, (refl, (known, tt)), λ c u su l fit. value-kept (EqualTask operands) (Work operation.ToPrimitiveDefault []) u (λ p. primitives_equal a p) c su fit (λ p k. equal-kept operands u a p su))

by-kept : (operands : List Value) (w : World) (x y : Option ObjectId) (a b : Value) → IsSound w → IsKnown w.lists a → IsKnown w.lists b → IsKept (FitsTask (EqualTask operands)) (loosely_equal_by x y a b) w
by-kept operands w (Some x) (Some y) a b s ka kb = (s, (tt, tt))
by-kept operands w (Some x) None a b s ka kb = left-kept operands w a b s ka x
by-kept operands w None (Some y) a b s ka kb = right-kept operands w a b s kb y
by-kept operands w None None a b s ka kb = equal-kept operands w a b s

pub loosely_equal-kept : (operands : List Value) (w : World) (a b : Value) → IsSound w → IsKnown w.lists a → IsKnown w.lists b → IsKept (FitsTask (EqualTask operands)) (loosely_equal_by (as_object a) (as_object b) a b) w
loosely_equal-kept operands w a b s ka kb = by-kept operands w (as_object a) (as_object b) a b s ka kb

-- ---- IsLessThan

abbrev LessTask : List Value → Task
LessTask operands = Of (Work operation.LessThan operands)

texts_less-kept : (operands : List Value) (w : World) (x y : TextId) → IsSound w → IsKept (FitsTask (LessTask operands)) (texts_less x y) w
texts_less-kept operands w x y s = (s.intact, (sound-charged w _ s, (tt, tt)))

numbers_less-kept : (operands : List Value) (w : World) (p q : Value) → IsSound w → IsKnown w.lists p → IsKnown w.lists q → IsKept (FitsTask (LessTask operands)) (numbers_less p q) w
numbers_less-kept operands w p q s kp kq =
    with_number-kept (LessTask operands) w (λ n. with_number (λ m. says (int_lt n m)) (number_in w.lists q)) (number_in w.lists p) s (number-whole w.lists p kp) (λ n hn.
    with_number-kept (LessTask operands) w (λ m. says (int_lt n m)) (number_in w.lists q) s (number-whole w.lists q kq) (λ m hm. (s, (tt, tt))))

less_by-kept : (operands : List Value) (w : World) (x y : Option TextId) (p q : Value) → IsSound w → IsKnown w.lists p → IsKnown w.lists q → IsKept (FitsTask (LessTask operands)) (less_by x y p q) w
less_by-kept operands w (Some x) (Some y) p q s kp kq = texts_less-kept operands w x y s
less_by-kept operands w (Some x) None p q s kp kq = numbers_less-kept operands w p q s kp kq
less_by-kept operands w None y p q s kp kq = numbers_less-kept operands w p q s kp kq

less-kept : (operands : List Value) (w : World) (p q : Value) → IsSound w → IsKnown w.lists p → IsKnown w.lists q → IsKept (FitsTask (LessTask operands)) (primitives_less p q) w
less-kept operands w p q s kp kq = less_by-kept operands w (as_text p) (as_text q) p q s kp kq

-- what follows a conversion, which a value that is no object does not ask for
abbrev OnConverted : List Value → World → (Completion → Program) → Type 0
OnConverted operands w next = (c : Completion) (u : World) → IsSound u → IsLater w u → Fits u.lists (Work operation.ToPrimitiveNumber []) c → IsKept (FitsTask (LessTask operands)) (next c) u

converted-kept : (operands : List Value) (w : World) (v : Value) (next : Completion → Program) → IsSound w → IsKnown w.lists v → OnConverted operands w next → IsKept (FitsTask (LessTask operands)) (converted v next) w
converted-kept operands w value.Undefined next s known h = h (Normal (reply.Value value.Undefined)) w s (later_none w) (tt, known)
converted-kept operands w value.Null next s known h = h (Normal (reply.Value value.Null)) w s (later_none w) (tt, known)
converted-kept operands w (value.Bool b) next s known h = h (Normal (reply.Value (value.Bool b))) w s (later_none w) (tt, known)
converted-kept operands w (value.Whole n) next s known h = h (Normal (reply.Value (value.Whole n))) w s (later_none w) (tt, known)
converted-kept operands w (value.Text t) next s known h = h (Normal (reply.Value (value.Text t))) w s (later_none w) (tt, known)
converted-kept operands w (value.Symbol y) next s known h = h (Normal (reply.Value (value.Symbol y))) w s (later_none w) (tt, known)
converted-kept operands w (value.Object o) next s known h = (s, (refl, (known, tt)), h)

right_after-kept : (operands : List Value) (w : World) (p : Value) (c : Completion) → IsSound w → IsKnown w.lists p → Fits w.lists (Work operation.ToPrimitiveNumber []) c → IsKept (FitsTask (LessTask operands)) (right_after p c) w
right_after-kept operands w p c s kp fit = value-kept (LessTask operands) (Work operation.ToPrimitiveNumber []) w (λ q. primitives_less p q) c s fit (λ q kq. less-kept operands w p q s kp kq)

left_after-kept : (operands : List Value) (w : World) (q : Value) (c : Completion) → IsSound w → IsKnown w.lists q → Fits w.lists (Work operation.ToPrimitiveNumber []) c → IsKept (FitsTask (LessTask operands)) (left_after q c) w
left_after-kept operands w q c s kq fit = value-kept (LessTask operands) (Work operation.ToPrimitiveNumber []) w (λ p. primitives_less p q) c s fit (λ p kp. less-kept operands w p q s kp kq)

left_first-kept : (operands : List Value) (w : World) (b : Value) (c : Completion) → IsSound w → IsKnown w.lists b → Fits w.lists (Work operation.ToPrimitiveNumber []) c → IsKept (FitsTask (LessTask operands)) (left_first b c) w
left_first-kept operands w b c s kb fit =
    value-kept (LessTask operands) (Work operation.ToPrimitiveNumber []) w (λ p. converted b (right_after p)) c s fit (λ p kp.
    converted-kept operands w b (right_after p) s kb (λ d u su l f. right_after-kept operands u p d su (known-later w.lists u.lists l.lists p kp) f))

right_first-kept : (operands : List Value) (w : World) (a : Value) (c : Completion) → IsSound w → IsKnown w.lists a → Fits w.lists (Work operation.ToPrimitiveNumber []) c → IsKept (FitsTask (LessTask operands)) (right_first a c) w
right_first-kept operands w a c s ka fit =
    value-kept (LessTask operands) (Work operation.ToPrimitiveNumber []) w (λ q. converted a (left_after q)) c s fit (λ q kq.
    converted-kept operands w a (left_after q) s ka (λ d u su l f. left_after-kept operands u q d su (known-later w.lists u.lists l.lists q kq) f))

pub less_than-kept : (operands : List Value) (w : World) (a b : Value) (first : Bool) → IsSound w → IsKnown w.lists a → IsKnown w.lists b → IsKept (FitsTask (LessTask operands)) (less_than a b first) w
less_than-kept operands w a b true s ka kb = converted-kept operands w a (left_first b) s ka (λ c u su l f. left_first-kept operands u b c su (known-later w.lists u.lists l.lists b kb) f)
less_than-kept operands w a b false s ka kb = converted-kept operands w b (right_first a) s kb (λ c u su l f. right_first-kept operands u a c su (known-later w.lists u.lists l.lists a ka) f)
