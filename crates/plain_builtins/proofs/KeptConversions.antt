-- ToPrimitive, ToString, ToNumber and ToPropertyKey keep worlds sound.
use Rattle.std.proofs.Common.{◌≡◌, ◌≤◌, ℕ, suc, ℤ, pos, negsuc, Bool, true, false, cond, Option, Some, None, Result, Ok, Err, List, [], refl, arith, sym, subst}
use Rattle.std.proofs.lemmas.Bool.{leb-true}
use Rattle.std.proofs.lemmas.Int.{ints}
use Rattle.std.proofs.lemmas.Fmt.{length_signed_le}
use Rattle.std.specs.Option.{option_map_or}
use Rattle.std.specs.Prelude.{codes, nat_le}
use Rattle.property_keys.specs.declared.identifiers.ObjectId.{ObjectId}
use Rattle.property_keys.specs.declared.identifiers.TextId.{TextId}
use Rattle.property_keys.specs.declared.keys.PropKey.{PropKey}
use Rattle.property_keys.specs.declared.keys.PropKey.TheVariants.{Index, Name, Sym}
use Rattle.property_keys.specs.declared.values.Value.{Value}
use Rattle.property_keys.specs.declared.values.Value.TheVariants as value
use Rattle.property_keys.specs.Decimals.{whole_units}
use Rattle.property_keys.specs.Keys.{array_index_of, key_of, most_index}
use Rattle.property_keys.specs.Numbers.{number_of, natural_of}
use Rattle.property_keys.specs.Wholes.{IsWhole, most_whole}
use Rattle.property_keys.proofs.KeyLaws.{IsGoodKey-key_of}
use Rattle.property_keys.proofs.Numerals.{IsWhole-number_of}
use Rattle.es_model.specs.declared.answers.Reply.TheVariants as reply
use Rattle.es_model.specs.declared.kinds.ErrorKind.TheVariants as error
use Rattle.es_model.specs.declared.requests.Operation.TheVariants as operation
use Rattle.es_model.specs.declared.requests.Request.{Request}
use Rattle.es_model.specs.declared.requests.Request.TheVariants.{Call, Read, Work}
use Rattle.es_model.specs.declared.start_texts.WellKnown.TheVariants as symbol
use Rattle.es_model.specs.Completions.{Completion, Normal}
use Rattle.es_model.specs.StartTexts.{symbol_of}
use Rattle.es_model.specs.World.{Lists, World, kind, units_of}
use Rattle.es_model.specs.World as world
use Rattle.es_model.specs.Changes.{Interning, changed, charged}
use Rattle.es_model.specs.Program.{Program, Task, Of}
use Rattle.es_model.specs.Known.{IsObject, IsText, IfThere, IsKnown, IsKnownKey, IsSymbolKey}
use Rattle.es_model.specs.Fits.{Fits, IsPrimitive}
use Rattle.es_model.specs.Sound.{IsShort, IsSound}
use Rattle.es_model.specs.Kept.{FitsTask, IsKept}
use Rattle.es_model.specs.programs.Testing.{as_object, is_callable}
use Rattle.es_model.proofs.Growing.{grows-changed}
use Rattle.es_model.proofs.KnownLater.{object-later}
use Rattle.es_model.proofs.SharedKept.{get_named-kept, then_method-kept, value-kept}
use Rattle.es_model.proofs.SoundChanges.{sound-interning}
use Rattle.es_model.proofs.SoundErrors.{error-kept, interned-known, kept-if}
use Rattle.es_model.proofs.SoundReads.{sound-charged}
use Rattle.plain_builtins.specs.Conversions.{cannot_convert, hint_text, first_name, second_name, tried, primitive_or, last_called, second_found, second_given, second_tried, first_called, first_found, first_given, ordinary_to_primitive, exotic_found, to_primitive_by, gives_text, truth_text, text_of, to_text_by, or_outside, truth_number, number_in, no_number, with_number, gives_number, whole_of, to_whole_by, key_of_text, key_of_units, index_of, key_of_number, key_in, to_key_by}
use Rattle.plain_builtins.specs.declared.words.Hint.{Hint}
use Rattle.plain_builtins.specs.declared.words.Hint.TheVariants as hint
use Rattle.plain_builtins.specs.declared.words.NoNumber.{NoNumber}
use Rattle.plain_builtins.specs.declared.words.NoNumber.TheVariants.{Outside, Inconvertible}

-- ---- errors

pub cannot-kept : (t : Task) (w : World) → IsSound w → IsKept (FitsTask t) cannot_convert w
cannot-kept t w s = error-kept t w error.TypeError (codes "cannot convert") s (omega arith)

pub no_number-kept : (t : Task) (w : World) (e : NoNumber) → IsSound w → IsKept (FitsTask t) (no_number e) w
no_number-kept t w Outside s = error-kept t w error.RangeError (codes "number outside the profile") s (omega arith)
no_number-kept t w Inconvertible s = cannot-kept t w s

-- ---- ToPrimitive, where the task takes a primitive

abbrev TakesPrimitive : Task → Type 0
TakesPrimitive t = (l : Lists) (v : Value) → IsPrimitive v → IsKnown l v → FitsTask t l (Normal (reply.Value v))

primitive_or-kept : (t : Task) → TakesPrimitive t → (w : World) (otherwise : Program) (v : Value) → IsSound w → IsKnown w.lists v → IsKept (FitsTask t) otherwise w → IsKept (FitsTask t) (primitive_or otherwise v) w
primitive_or-kept t fits w otherwise value.Undefined s known h = (s, fits w.lists value.Undefined tt known)
primitive_or-kept t fits w otherwise value.Null s known h = (s, fits w.lists value.Null tt known)
primitive_or-kept t fits w otherwise (value.Bool b) s known h = (s, fits w.lists (value.Bool b) tt known)
primitive_or-kept t fits w otherwise (value.Whole n) s known h = (s, fits w.lists (value.Whole n) tt known)
primitive_or-kept t fits w otherwise (value.Text x) s known h = (s, fits w.lists (value.Text x) tt known)
primitive_or-kept t fits w otherwise (value.Symbol x) s known h = (s, fits w.lists (value.Symbol x) tt known)
primitive_or-kept t fits w otherwise (value.Object o) s known h = h

last_called-kept : (t : Task) → TakesPrimitive t → (q : Request) (w : World) (c : Completion) → IsSound w → Fits w.lists q c → IsKept (FitsTask t) (last_called c) w
last_called-kept t fits q w c s fit = value-kept t q w (primitive_or cannot_convert) c s fit (λ v known. primitive_or-kept t fits w cannot_convert v s known (cannot-kept t w s))

second_given-kept : (t : Task) → TakesPrimitive t → (q : Request) (w : World) (o : ObjectId) (c : Completion) → IsSound w → IsObject w.lists o → Fits w.lists q c → IsKept (FitsTask t) (second_given o c) w
second_given-kept t fits q w o c s there fit = value-kept t q w (second_found o) c s fit (λ v known.
    kept-if (FitsTask t) w (is_callable w.lists v) _ _
    (s, (known, there, tt), λ d u su l f. last_called-kept t fits (Call v (value.Object o) []) u d su f) (cannot-kept t w s))

-- a method is tried
tried-kept : (t : Task) (w : World) (o : ObjectId) (name : List ℕ) (next : Completion → Program) → IsSound w → IsObject w.lists o → IsShort name → natural_of 10 name ≡ None →
    ((q : Request) (c : Completion) (u : World) → IsSound u → IsObject u.lists o → Fits u.lists q c → IsKept (FitsTask t) (next c) u) → IsKept (FitsTask t) (tried o name next) w
unfolding charged
tried-kept t w o name next s there short plain h =
    (s.intact, get_named-kept (FitsTask t) (charged w 1) o name next (sound-charged w 1 s) there short plain (λ c u su l fit. h (Read o (Name (world.number_of (charged w 1).lists name)) (value.Object o) None) c u su (object-later w.lists u.lists l.lists o there) fit))

second_tried-kept : (t : Task) → TakesPrimitive t → (h : Hint) (w : World) (o : ObjectId) → IsSound w → IsObject w.lists o → IsKept (FitsTask t) (second_tried h o) w
second_tried-kept t fits hint.Default w o s there = tried-kept t w o (second_name hint.Default) (second_given o) s there (omega arith) refl (λ q c u su to f. second_given-kept t fits q u o c su to f)
second_tried-kept t fits hint.Number w o s there = tried-kept t w o (second_name hint.Number) (second_given o) s there (omega arith) refl (λ q c u su to f. second_given-kept t fits q u o c su to f)
second_tried-kept t fits hint.Text w o s there = tried-kept t w o (second_name hint.Text) (second_given o) s there (omega arith) refl (λ q c u su to f. second_given-kept t fits q u o c su to f)

first_called-kept : (t : Task) → TakesPrimitive t → (h : Hint) (q : Request) (w : World) (o : ObjectId) (c : Completion) → IsSound w → IsObject w.lists o → Fits w.lists q c → IsKept (FitsTask t) (first_called h o c) w
first_called-kept t fits h q w o c s there fit =
    value-kept t q w (primitive_or (second_tried h o)) c s fit (λ v known. primitive_or-kept t fits w (second_tried h o) v s known (second_tried-kept t fits h w o s there))

first_given-kept : (t : Task) → TakesPrimitive t → (h : Hint) (q : Request) (w : World) (o : ObjectId) (c : Completion) → IsSound w → IsObject w.lists o → Fits w.lists q c → IsKept (FitsTask t) (first_given h o c) w
first_given-kept t fits h q w o c s there fit = value-kept t q w (first_found h o) c s fit (λ v known.
    kept-if (FitsTask t) w (is_callable w.lists v) _ _
    (s, (known, there, tt), λ d u su l f. first_called-kept t fits h (Call v (value.Object o) []) u o d su (object-later w.lists u.lists l.lists o there) f) (second_tried-kept t fits h w o s there))

ordinary-kept : (t : Task) → TakesPrimitive t → (h : Hint) (w : World) (o : ObjectId) → IsSound w → IsObject w.lists o → IsKept (FitsTask t) (ordinary_to_primitive h o) w
ordinary-kept t fits hint.Default w o s there = tried-kept t w o (first_name hint.Default) (first_given hint.Default o) s there (omega arith) refl (λ q c u su to f. first_given-kept t fits hint.Default q u o c su to f)
ordinary-kept t fits hint.Number w o s there = tried-kept t w o (first_name hint.Number) (first_given hint.Number o) s there (omega arith) refl (λ q c u su to f. first_given-kept t fits hint.Number q u o c su to f)
ordinary-kept t fits hint.Text w o s there = tried-kept t w o (first_name hint.Text) (first_given hint.Text o) s there (omega arith) refl (λ q c u su to f. first_given-kept t fits hint.Text q u o c su to f)

hint-short : (h : Hint) → IsShort (hint_text h)
hint-short hint.Default = omega arith
hint-short hint.Number = omega arith
hint-short hint.Text = omega arith

exotic_found-kept : (t : Task) → TakesPrimitive t → (h : Hint) (w : World) (o : ObjectId) (f : Option ObjectId) → IsSound w → IsObject w.lists o → IfThere (IsObject w.lists) f → IsKept (FitsTask t) (exotic_found h o f) w
exotic_found-kept t fits h w o (Some f) s there callee =
    let u : World = changed (Interning (hint_text h)) w in
    let g = grows-changed (Interning (hint_text h)) w in (
      sound-interning w (hint_text h) s (hint-short h),
      (object-later w.lists u.lists g f callee, object-later w.lists u.lists g o there, (interned-known w (hint_text h), tt)),
      λ d v sv l k. last_called-kept t fits (Call (value.Object f) (value.Object o) []) v d sv k,
    )
exotic_found-kept t fits h w o None s there callee = ordinary-kept t fits h w o s there

to_primitive-kept : (t : Task) → TakesPrimitive t → (h : Hint) (w : World) (v : Value) → IsSound w → IsKnown w.lists v → IsKept (FitsTask t) (to_primitive_by h (as_object v) v) w
to_primitive-kept t fits h w value.Undefined s known = (s, fits w.lists value.Undefined tt known)
to_primitive-kept t fits h w value.Null s known = (s, fits w.lists value.Null tt known)
to_primitive-kept t fits h w (value.Bool b) s known = (s, fits w.lists (value.Bool b) tt known)
to_primitive-kept t fits h w (value.Whole n) s known = (s, fits w.lists (value.Whole n) tt known)
to_primitive-kept t fits h w (value.Text x) s known = (s, fits w.lists (value.Text x) tt known)
to_primitive-kept t fits h w (value.Symbol x) s known = (s, fits w.lists (value.Symbol x) tt known)
to_primitive-kept t fits h w (value.Object o) s known =
    let symbols = s.intact.symbols in (
      s,
      (known, (tt, omega arith), known),
      λ c u su l fit. then_method-kept t (Read o (Sym (symbol_of symbol.ToPrimitive)) (value.Object o) None) u (exotic_found h o) c su fit (λ f k. exotic_found-kept t fits h u o f su (object-later w.lists u.lists l.lists o known) k),
    )

pub default-kept : (w : World) (v : Value) (operands : List Value) → IsSound w → IsKnown w.lists v → IsKept (FitsTask (Of (Work operation.ToPrimitiveDefault operands))) (to_primitive_by hint.Default (as_object v) v) w
default-kept w v operands s known = to_primitive-kept (Of (Work operation.ToPrimitiveDefault operands)) (λ l x p k. (p, k)) hint.Default w v s known

pub number-kept : (w : World) (v : Value) (operands : List Value) → IsSound w → IsKnown w.lists v → IsKept (FitsTask (Of (Work operation.ToPrimitiveNumber operands))) (to_primitive_by hint.Number (as_object v) v) w
number-kept w v operands s known = to_primitive-kept (Of (Work operation.ToPrimitiveNumber operands)) (λ l x p k. (p, k)) hint.Number w v s known

pub string-kept : (w : World) (v : Value) (operands : List Value) → IsSound w → IsKnown w.lists v → IsKept (FitsTask (Of (Work operation.ToPrimitiveText operands))) (to_primitive_by hint.Text (as_object v) v) w
string-kept w v operands s known = to_primitive-kept (Of (Work operation.ToPrimitiveText operands)) (λ l x p k. (p, k)) hint.Text w v s known

-- ---- ToString

-- a decimal has a sign and 16 digits at most
pub whole-short : (n : ℤ) → IsWhole n → IsShort (whole_units n)
whole-short (pos n) whole =
    let small : n ≤ most_whole = omega (arith, ints, whole.1) in
    let most = length_signed_le 16 (pos n) (omega (arith, small)) (omega (arith, small)) in omega (arith, most)
whole-short (negsuc n) whole =
    let small : suc n ≤ most_whole = omega (arith, ints, whole.0) in
    let most = length_signed_le 16 (negsuc n) (omega (arith, small)) (omega (arith, small)) in omega (arith, most)

truth-short : (b : Bool) → IsShort (truth_text b)
truth-short true = omega arith
truth-short false = omega arith

gives_text-kept : (operands : List Value) (w : World) (units : List ℕ) → IsSound w → IsShort units → IsKept (FitsTask (Of (Work operation.ToText operands))) (gives_text units) w
gives_text-kept operands w units s short = (sound-interning w units s short, (tt, interned-known w units))

text_of-kept : (operands : List Value) (w : World) (v : Value) → IsSound w → IsKnown w.lists v → IsKept (FitsTask (Of (Work operation.ToText operands))) (text_of v) w
text_of-kept operands w value.Undefined s known = gives_text-kept operands w (codes "undefined") s (omega arith)
text_of-kept operands w value.Null s known = gives_text-kept operands w (codes "null") s (omega arith)
text_of-kept operands w (value.Bool b) s known = gives_text-kept operands w (truth_text b) s (truth-short b)
text_of-kept operands w (value.Whole n) s known = gives_text-kept operands w (whole_units n) s (whole-short n known)
text_of-kept operands w (value.Text t) s known = (s, (tt, known))
text_of-kept operands w (value.Symbol y) s known = cannot-kept (Of (Work operation.ToText operands)) w s
text_of-kept operands w (value.Object o) s known = cannot-kept (Of (Work operation.ToText operands)) w s

pub to_text-kept : (operands : List Value) (w : World) (v : Value) → IsSound w → IsKnown w.lists v → IsKept (FitsTask (Of (Work operation.ToText operands))) (to_text_by (as_object v) v) w
to_text-kept operands w value.Undefined s known = text_of-kept operands w value.Undefined s known
to_text-kept operands w value.Null s known = text_of-kept operands w value.Null s known
to_text-kept operands w (value.Bool b) s known = text_of-kept operands w (value.Bool b) s known
to_text-kept operands w (value.Whole n) s known = text_of-kept operands w (value.Whole n) s known
to_text-kept operands w (value.Text t) s known = text_of-kept operands w (value.Text t) s known
to_text-kept operands w (value.Symbol y) s known = text_of-kept operands w (value.Symbol y) s known
to_text-kept operands w (value.Object o) s known =
    (s, (refl, (known, tt)), λ c u su l fit. value-kept (Of (Work operation.ToText operands)) (Work operation.ToPrimitiveText []) u text_of c su fit (λ p k. text_of-kept operands u p su k))

-- ---- ToNumber

-- the number of a value is a whole number
abbrev IsNumber : Result ℤ NoNumber → Type 0
IsNumber (Ok n) = IsWhole n
IsNumber (Err e) = Unit {0}

or_outside-whole : (n : Option ℤ) → ((m : ℤ) → n ≡ Some m → IsWhole m) → IsNumber (or_outside n)
or_outside-whole (Some n) h = h n refl
or_outside-whole None h = tt

truth-whole : (b : Bool) → IsWhole (truth_number b)
truth-whole true = (omega (arith, ints), omega (arith, ints))
truth-whole false = (omega (arith, ints), omega (arith, ints))

pub number-whole : (l : Lists) (v : Value) → IsKnown l v → IsNumber (number_in l v)
number-whole l value.Undefined known = tt
number-whole l value.Null known = (omega (arith, ints), omega (arith, ints))
number-whole l (value.Bool b) known = truth-whole b
number-whole l (value.Whole n) known = known
number-whole l (value.Text t) known = or_outside-whole (number_of (units_of l t)) (IsWhole-number_of (units_of l t))
number-whole l (value.Symbol s) known = tt
number-whole l (value.Object o) known = tt

pub with_number-kept : (t : Task) (w : World) (next : ℤ → Program) (n : Result ℤ NoNumber) → IsSound w → IsNumber n → ((m : ℤ) → IsWhole m → IsKept (FitsTask t) (next m) w) → IsKept (FitsTask t) (with_number next n) w
with_number-kept t w next (Ok n) s whole h = h n whole
with_number-kept t w next (Err e) s whole h = no_number-kept t w e s

whole_of-kept : (operands : List Value) (w : World) (v : Value) → IsSound w → IsKnown w.lists v → IsKept (FitsTask (Of (Work operation.ToWhole operands))) (whole_of v) w
whole_of-kept operands w v s known = with_number-kept (Of (Work operation.ToWhole operands)) w gives_number (number_in w.lists v) s (number-whole w.lists v known) (λ m whole. (s, (tt, whole)))

pub to_whole-kept : (operands : List Value) (w : World) (v : Value) → IsSound w → IsKnown w.lists v → IsKept (FitsTask (Of (Work operation.ToWhole operands))) (to_whole_by (as_object v) v) w
to_whole-kept operands w value.Undefined s known = whole_of-kept operands w value.Undefined s known
to_whole-kept operands w value.Null s known = whole_of-kept operands w value.Null s known
to_whole-kept operands w (value.Bool b) s known = whole_of-kept operands w (value.Bool b) s known
to_whole-kept operands w (value.Whole n) s known = whole_of-kept operands w (value.Whole n) s known
to_whole-kept operands w (value.Text t) s known = whole_of-kept operands w (value.Text t) s known
to_whole-kept operands w (value.Symbol y) s known = whole_of-kept operands w (value.Symbol y) s known
to_whole-kept operands w (value.Object o) s known =
    (s, (refl, (known, tt)), λ c u su l fit. value-kept (Of (Work operation.ToWhole operands)) (Work operation.ToPrimitiveNumber []) u whole_of c su fit (λ p k. whole_of-kept operands u p su k))

-- ---- ToPropertyKey

no-symbol : (l : Lists) (i : Option ℕ) (t : TextId) → IsSymbolKey l (option_map_or Index i (Name t))
no-symbol l (Some i) t = tt
no-symbol l None t = tt

-- the key of a text that is there
pub text-key : (l : Lists) (t : TextId) → IsText l t → IsKnownKey l (key_of (units_of l t) t)
text-key l t known = (IsGoodKey-key_of l.texts t known, no-symbol l (array_index_of (units_of l t)) t)

pub key_known : (l : Lists) (t : TextId) (k : PropKey) → k ≡ key_of (units_of l t) t → IsText l t → IsKnownKey l k
key_known l t k e known = subst (IsKnownKey l) (sym e) (text-key l t known)

key_of_text-kept : (operands : List Value) (w : World) (t : TextId) → IsSound w → IsText w.lists t → IsKept (FitsTask (Of (Work operation.ToKey operands))) (key_of_text t) w
key_of_text-kept operands w t s known = (s, (tt, text-key w.lists t known))

key_of_units-kept : (operands : List Value) (w : World) (units : List ℕ) → IsSound w → IsShort units → IsKept (FitsTask (Of (Work operation.ToKey operands))) (key_of_units units) w
key_of_units-kept operands w units s short =
    key_of_text-kept operands (changed (Interning units) w) (world.number_of w.lists units) (sound-interning w units s short) (interned-known w units)

key_of_number-kept : (operands : List Value) (w : World) (n : ℤ) (i : Option ℕ) → IsSound w → IsWhole n → IfThere (λ x. x ≤ most_index) i → IsKept (FitsTask (Of (Work operation.ToKey operands))) (key_of_number n i) w
key_of_number-kept operands w n (Some i) s whole small = (s, (tt, (small, tt)))
key_of_number-kept operands w n None s whole small = key_of_units-kept operands w (whole_units n) s (whole-short n whole)

index-small : (n : ℕ) (b : Bool) → nat_le n most_index ≡ b → IfThere (λ x. x ≤ most_index) (cond b (Some n) None)
index-small n true e = leb-true n most_index e
index-small n false e = tt

index_of-small : (n : ℤ) → IfThere (λ x. x ≤ most_index) (index_of n)
index_of-small (pos n) = index-small n (nat_le n most_index) refl
index_of-small (negsuc n) = tt

key_in-kept : (operands : List Value) (w : World) (v : Value) → IsSound w → IsKnown w.lists v → IsKept (FitsTask (Of (Work operation.ToKey operands))) (key_in v) w
key_in-kept operands w value.Undefined s known = key_of_units-kept operands w (codes "undefined") s (omega arith)
key_in-kept operands w value.Null s known = key_of_units-kept operands w (codes "null") s (omega arith)
key_in-kept operands w (value.Bool b) s known = key_of_units-kept operands w (truth_text b) s (truth-short b)
key_in-kept operands w (value.Whole n) s known = key_of_number-kept operands w n (index_of n) s known (index_of-small n)
key_in-kept operands w (value.Text t) s known = key_of_text-kept operands w t s known
key_in-kept operands w (value.Symbol y) s known = (s, (tt, (tt, known)))
key_in-kept operands w (value.Object o) s known = cannot-kept (Of (Work operation.ToKey operands)) w s

pub to_key-kept : (operands : List Value) (w : World) (v : Value) → IsSound w → IsKnown w.lists v → IsKept (FitsTask (Of (Work operation.ToKey operands))) (to_key_by (as_object v) v) w
to_key-kept operands w value.Undefined s known = key_in-kept operands w value.Undefined s known
to_key-kept operands w value.Null s known = key_in-kept operands w value.Null s known
to_key-kept operands w (value.Bool b) s known = key_in-kept operands w (value.Bool b) s known
to_key-kept operands w (value.Whole n) s known = key_in-kept operands w (value.Whole n) s known
to_key-kept operands w (value.Text t) s known = key_in-kept operands w (value.Text t) s known
to_key-kept operands w (value.Symbol y) s known = key_in-kept operands w (value.Symbol y) s known
to_key-kept operands w (value.Object o) s known =
    (s, (refl, (known, tt)), λ c u su l fit. value-kept (Of (Work operation.ToKey operands)) (Work operation.ToPrimitiveText []) u key_in c su fit (λ p k. key_in-kept operands u p su k))
