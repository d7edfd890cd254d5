-- What the built-in functions share keeps worlds sound: texts, receivers, arguments, and new objects.
use Rattle.std.proofs.Common.{◌≡◌, ◌≤◌, ◌+◌, ℕ, zero, suc, Bool, true, false, cond, length, nat_le, slice_get, Option, Some, None, List, [], ◌∷◌, ◌++◌, refl, arith}
use Rattle.std.specs.Prelude.{codes}
use Rattle.std.specs.List.{AllByRecursion}
use Rattle.std.proofs.lemmas.Bool.{leb-true}
use Rattle.std.proofs.lemmas.List.{length-append}
use Rattle.property_keys.specs.declared.identifiers.ObjectId.{ObjectId}
use Rattle.property_keys.specs.declared.identifiers.SymbolId.{SymbolId}
use Rattle.property_keys.specs.declared.identifiers.TextId.{TextId}
use Rattle.property_keys.specs.declared.keys.PropKey.TheVariants.{Name}
use Rattle.property_keys.specs.declared.values.Value.{Value}
use Rattle.property_keys.specs.declared.values.Value.TheVariants as value
use Rattle.property_keys.specs.Limits.{most_units}
use Rattle.property_keys.specs.Numbers.{natural_of}
use Rattle.descriptors.specs.declared.fields.Descriptor.{Descriptor}
use Rattle.es_model.specs.declared.answers.Reply.TheVariants as reply
use Rattle.es_model.specs.declared.kinds.ErrorKind.TheVariants as error
use Rattle.es_model.specs.declared.kinds.ObjectKind.{ObjectKind}
use Rattle.es_model.specs.declared.kinds.ObjectKind.TheVariants as kind_of
use Rattle.es_model.specs.declared.requests.Operation.TheVariants as operation
use Rattle.es_model.specs.declared.requests.Request.TheVariants.{Work}
use Rattle.es_model.specs.Changes.{Change, Defining, Interning, Making, changed, made, with_objects}
use Rattle.es_model.specs.Completions.{Completion, Normal}
use Rattle.es_model.specs.Events.{OfError, OfWrapper}
use Rattle.es_model.specs.Fits.{Fits}
use Rattle.es_model.specs.Kept.{FitsTask, IsKept, IsLater}
use Rattle.es_model.specs.Known.{AreKnown, IfThere, IsKnown, IsObject, IsText}
use Rattle.es_model.specs.Objects.{new_object_of}
use Rattle.es_model.specs.Program.{Program, Task, intern, make}
use Rattle.es_model.specs.Sound.{IsKnownKind, IsShort, IsSound}
use Rattle.es_model.specs.World.{Lists, World, description, description_in, kind, new_object, number_of, units_of}
use Rattle.es_model.specs.programs.Errors.{hidden}
use Rattle.es_model.specs.programs.Texts.{join, text, text_too_long, then_text, to_string, with_text}
use Rattle.es_model.proofs.Growing.{grows-changed}
use Rattle.es_model.proofs.Keeping.{later_none, later_then}
use Rattle.es_model.proofs.KnownLater.{known-later, object-later}
use Rattle.es_model.proofs.SharedKept.{later-changed, name-known, value-kept}
use Rattle.es_model.proofs.ArrayLengths.{IsNoArray, no_array-later, no_array-leaves}
use Rattle.es_model.proofs.SoundArrays.{made-no_array}
use Rattle.es_model.proofs.SoundChanges.{sound-defining, sound-interning, sound-making}
use Rattle.es_model.proofs.SoundErrors.{error-kept, interned-known, noted-objects, throw-fits}
use Rattle.core_builtins.specs.Answers.{first_given, first_of, inner_of, inner_value, rest_of, second_of, wrong_value}
use Rattle.core_builtins.specs.Constructed.{put_named, wrapper_made}

-- ---- what the task takes

abbrev pub TakesValue : Task → Type 0
TakesValue t = (l : Lists) (v : Value) → IsKnown l v → FitsTask t l (Normal (reply.Value v))

abbrev pub TakesObject : Task → Type 0
TakesObject t = (l : Lists) (o : ObjectId) → IsObject l o → FitsTask t l (Normal (reply.Value (value.Object o)))

-- ---- errors

pub wrong-kept : (t : Task) (w : World) → IsSound w → IsKept (FitsTask t) wrong_value w
wrong-kept t w s = error-kept t w error.TypeError (codes "wrong value") s (omega arith)

-- ---- arguments and receivers

pub first-known : (l : Lists) (vs : List Value) → AreKnown l vs → IsKnown l (first_of vs)
first-known l [] known = tt
first-known l (v ∷ vs) known = known.0

pub first_given-known : (l : Lists) (vs : List Value) → AreKnown l vs → IfThere (IsKnown l) (first_given vs)
first_given-known l [] known = tt
first_given-known l (v ∷ vs) known = known.0

pub second-known : (l : Lists) (vs : List Value) → AreKnown l vs → IsKnown l (second_of vs)
second-known l [] known = tt
second-known l (v ∷ vs) known = first-known l vs known.1

pub rest-known : (l : Lists) (vs : List Value) → AreKnown l vs → AreKnown l (rest_of vs)
rest-known l [] known = tt
rest-known l (v ∷ vs) known = known.1

inner_of-known : (l : Lists) (k : ObjectKind) (this : Value) → IsKnownKind l k → IsKnown l this → IsKnown l (inner_of k this)
inner_of-known l kind_of.Ordinary this slots known = known
inner_of-known l (kind_of.Function f constructor strict) this slots known = known
inner_of-known l (kind_of.Builtin row constructor proxy) this slots known = known
inner_of-known l kind_of.Array this slots known = known
inner_of-known l (kind_of.Text t) this slots known = known
inner_of-known l (kind_of.Wrapper v) this slots known = slots
inner_of-known l (kind_of.Arguments cells) this slots known = known
inner_of-known l kind_of.Error this slots known = known
inner_of-known l (kind_of.Proxy target handler callable constructor) this slots known = known

pub inner-known : (w : World) (this : Value) → IsSound w → IsKnown w.lists this → IsKnown w.lists (inner_value w.lists this)
inner-known w value.Undefined s known = known
inner-known w value.Null s known = known
inner-known w (value.Bool b) s known = known
inner-known w (value.Whole n) s known = known
inner-known w (value.Text t) s known = known
inner-known w (value.Symbol x) s known = known
inner-known w (value.Object o) s known = inner_of-known w.lists (kind w.lists o) (value.Object o) (s.intact.objects o known).slots known

description-at : (l : Lists) (xs : List (Option TextId)) (i : ℕ) → AllByRecursion (IfThere (IsText l)) xs → IfThere (IsText l) (description_in (slice_get xs i))
description-at l [] i all = tt
description-at l (None ∷ xs) zero all = tt
description-at l (Some t ∷ xs) zero all = all.0
description-at l (x ∷ xs) (suc i) all = description-at l xs i all.1

-- the description of a Symbol is there
pub description-known : (w : World) (x : SymbolId) → IsSound w → IfThere (IsText w.lists) (description w.lists x)
description-known w x s = description-at w.lists w.lists.symbols x.0 s.intact.descriptions

-- ---- texts

abbrev pub OnText : Task → World → (TextId → Program) → Type 0
OnText t w next = (x : TextId) (u : World) → IsSound u → IsLater w u → IsText u.lists x → IsKept (FitsTask t) (next x) u

pub intern-kept : (t : Task) (w : World) (units : List ℕ) (next : TextId → Program) → IsSound w → IsShort units → OnText t w next → IsKept (FitsTask t) (intern units next) w
intern-kept t w units next s short f = f (number_of w.lists units) (changed (Interning units) w) (sound-interning w units s short) (later-changed (Interning units) w) (interned-known w units)

le-kept : (P : Lists → Completion → Type 0) (n m : ℕ) (w : World) (p q : Program) (b : Bool) → nat_le n m ≡ b → (n ≤ m → IsKept P p w) → IsKept P q w → IsKept P (cond b p q) w
le-kept P n m w p q true e f h = f (leb-true n m e)
le-kept P n m w p q false e f h = h

pub join-kept : (t : Task) (w : World) (a b : TextId) (next : TextId → Program) → IsSound w → OnText t w next → IsKept (FitsTask t) (join a b next) w
join-kept t w a b next s f =
    let x : List ℕ = units_of w.lists a in
    let y : List ℕ = units_of w.lists b in
    le-kept (FitsTask t) (length x + length y) most_units w (intern (x ++ y) next) text_too_long (nat_le (length x + length y) most_units) refl
    (λ le. let both = length-append x y in intern-kept t w (x ++ y) next s (omega arith) f) (error-kept t w error.RangeError (codes "text too long") s (omega arith))

-- what ToString may answer
abbrev pub IsTextAnswer : Lists → Completion → Type 0
IsTextAnswer l c = Fits l (Work operation.ToText []) c

abbrev pub OnTextAnswer : Task → World → (Completion → Program) → Type 0
OnTextAnswer t w next = (c : Completion) (u : World) → IsSound u → IsLater w u → IsTextAnswer u.lists c → IsKept (FitsTask t) (next c) u

pub to_string-kept : (t : Task) (w : World) (v : Value) (next : Completion → Program) → IsSound w → IsKnown w.lists v → OnTextAnswer t w next → IsKept (FitsTask t) (to_string v next) w
to_string-kept t w value.Undefined next s known h = (s, (refl, (known, tt)), h)
to_string-kept t w value.Null next s known h = (s, (refl, (known, tt)), h)
to_string-kept t w (value.Bool b) next s known h = (s, (refl, (known, tt)), h)
to_string-kept t w (value.Whole n) next s known h = (s, (refl, (known, tt)), h)
to_string-kept t w (value.Text x) next s known h = h (text x) w s (later_none w) (tt, known)
to_string-kept t w (value.Symbol x) next s known h = (s, (refl, (known, tt)), h)
to_string-kept t w (value.Object o) next s known h = (s, (refl, (known, tt)), h)

with_text-kept : (t : Task) (w : World) (next : TextId → Program) (v : Value) → IsSound w → IsKnown w.lists v → ((x : TextId) → IsText w.lists x → IsKept (FitsTask t) (next x) w) → IsKept (FitsTask t) (with_text next v) w
with_text-kept t w next value.Undefined s known h = (s, throw-fits t w.lists value.Undefined tt)
with_text-kept t w next value.Null s known h = (s, throw-fits t w.lists value.Undefined tt)
with_text-kept t w next (value.Bool b) s known h = (s, throw-fits t w.lists value.Undefined tt)
with_text-kept t w next (value.Whole n) s known h = (s, throw-fits t w.lists value.Undefined tt)
with_text-kept t w next (value.Text x) s known h = h x known
with_text-kept t w next (value.Symbol x) s known h = (s, throw-fits t w.lists value.Undefined tt)
with_text-kept t w next (value.Object o) s known h = (s, throw-fits t w.lists value.Undefined tt)

pub then_text-kept : (t : Task) (w : World) (next : TextId → Program) (c : Completion) → IsSound w → IsTextAnswer w.lists c → ((x : TextId) → IsText w.lists x → IsKept (FitsTask t) (next x) w) → IsKept (FitsTask t) (then_text next c) w
then_text-kept t w next c s fit h = value-kept t (Work operation.ToText []) w (with_text next) c s fit (λ v known. with_text-kept t w next v s known h)

-- ---- new objects

wrapper-there : (w : World) (v : Value) (p : Option ObjectId) → IsObject (changed (Making (kind_of.Wrapper v) OfWrapper p) w).lists (new_object w.lists)
unfolding changed made
wrapper-there w v p =
    let n = length-append w.lists.objects (new_object_of (kind_of.Wrapper v) p ∷ []) in
    let same = noted-objects (with_objects w (w.lists.objects ++ new_object_of (kind_of.Wrapper v) p ∷ [])) p in omega arith

pub wrapper_made-kept : (t : Task) → TakesObject t → (w : World) (v : Value) (p : ObjectId) → IsSound w → IsKnown w.lists v → IsObject w.lists p → IsKept (FitsTask t) (wrapper_made v p) w
wrapper_made-kept t takes w v p s known there =
    let op : Change = Making (kind_of.Wrapper v) OfWrapper (Some p) in
    (sound-making w (kind_of.Wrapper v) OfWrapper (Some p) s known tt there refl, takes (changed op w).lists (new_object w.lists) (wrapper-there w v (Some p)))

-- what follows, with the new object, which is no Array
abbrev pub OnObject : Task → World → (ObjectId → Program) → Type 0
OnObject t w next = (o : ObjectId) (u : World) → IsSound u → IsLater w u → IsNoArray u.lists o → IsKept (FitsTask t) (next o) u

-- a new error, and what follows
pub make_error-kept : (t : Task) (w : World) (p : ObjectId) (next : ObjectId → Program) → IsSound w → IsObject w.lists p → OnObject t w next → IsKept (FitsTask t) (make kind_of.Error OfError (Some p) next) w
make_error-kept t w p next s there h =
    let op : Change = Making kind_of.Error OfError (Some p) in
    h (new_object w.lists) (changed op w) (sound-making w kind_of.Error OfError (Some p) s tt tt there refl) (later-changed op w) (made-no_array w kind_of.Error OfError (Some p) refl)

-- a property of an object that is no Array, by a name of the standard's own, and what follows
pub put_named-kept : (t : Task) (w : World) (o : ObjectId) (name : List ℕ) (v : Value) (next : Program) → IsSound w → IsNoArray w.lists o → IsKnown w.lists v → IsShort name → natural_of 10 name ≡ None →
    ((u : World) → IsSound u → IsLater w u → IsKept (FitsTask t) next u) → IsKept (FitsTask t) (put_named o name v next) w
put_named-kept t w o name v next s plain known short no_index h =
    let a : World = changed (Interning name) w in
    let g = grows-changed (Interning name) w in
    let d : Descriptor = hidden v in
    let op : Change = Defining o (Name (number_of w.lists name)) d in
    let here : IsNoArray a.lists o = no_array-later w.lists a.lists g o plain in
    h (changed op a)
    (sound-defining a o (Name (number_of w.lists name)) d (sound-interning w name s short) here.there (name-known w name no_index) (record { value = known-later w.lists a.lists g v known; get = tt; set = tt; sound = refl })
    (no_array-leaves a.lists o (Name (number_of w.lists name)) d.value here.other))
    (later_then w a (changed op a) (later-changed (Interning name) w) (later-changed op a))
