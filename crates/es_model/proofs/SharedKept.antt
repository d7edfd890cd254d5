-- The programs that all crates share keep worlds sound.
use Rattle.std.proofs.Common.{◌≡◌, ◌≤◌, ℕ, ℤ, pos, Option, Some, None, List, [], ◌∷◌, length, refl, ap, subst, ◌∙◌, arith, cond}
use Rattle.std.specs.Prelude.{Bool, true, false, codes, zero, suc, ◌++◌}
use Rattle.std.specs.List.{AllByRecursion}
use Rattle.std.proofs.Common.{get_or}
use Rattle.std.proofs.Math.Facts.{yes_leb}
use Rattle.std.proofs.lemmas.List.{length-append}
use Rattle.property_keys.specs.declared.identifiers.ObjectId.{ObjectId}
use Rattle.property_keys.specs.declared.identifiers.TextId.{TextId}
use Rattle.property_keys.specs.declared.keys.PropKey.{PropKey}
use Rattle.property_keys.specs.declared.keys.PropKey.TheVariants.{Name}
use Rattle.property_keys.specs.declared.values.Value.{Value}
use Rattle.property_keys.specs.declared.values.Value.TheVariants as value
use Rattle.property_keys.specs.Keys.{array_index_of}
use Rattle.property_keys.specs.Numbers.{natural_of}
use Rattle.property_keys.specs.Wholes.{IsWhole, most_whole}
use Rattle.property_keys.proofs.ArrayIndices.{array_index_of-no_number}
use Rattle.es_model.specs.declared.callables.Method.TheVariants as method
use Rattle.es_model.specs.declared.kinds.ErrorKind.TheVariants as error
use Rattle.es_model.specs.declared.kinds.ObjectKind.TheVariants as kind_of
use Rattle.es_model.specs.declared.intrinsics.Class.{Class}
use Rattle.es_model.specs.declared.intrinsics.Class.TheVariants as class
use Rattle.es_model.specs.declared.intrinsics.Intrinsic.TheVariants as intrinsic
use Rattle.es_model.specs.declared.requests.Operation.TheVariants as operation
use Rattle.es_model.specs.declared.requests.Request.{Request}
use Rattle.es_model.specs.declared.requests.Request.TheVariants.{Has, Read, Work}
use Rattle.es_model.specs.Completions.{Completion}
use Rattle.es_model.specs.Objects.{new_object_of}
use Rattle.es_model.specs.World.{Lists, World, kind, new_object, number_of, units_of}
use Rattle.es_model.specs.Grows.{Grows}
use Rattle.es_model.specs.Changes.{Change, Defining, Interning, Making, changed, made, with_objects}
use Rattle.es_model.specs.Program.{Program, Task, look}
use Rattle.es_model.specs.Events.{OfWrapper}
use Rattle.es_model.specs.Known.{IsObject, IsText, IfThere, IsKnown, IsKnownKey, IsKnownDescriptor}
use Rattle.es_model.specs.Fits.{Fits}
use Rattle.es_model.specs.Sound.{IsShort, IsSound}
use Rattle.es_model.specs.Kept.{FitsTask, IsKept, IsLater}
use Rattle.es_model.specs.programs.Abrupt.{value_in, flag_in, proto_in, then_value, then_flag, then_proto}
use Rattle.es_model.specs.programs.Converting.{number, to_number, to_integer, with_whole, then_whole, length_got, not_an_object, proto_of_class, make_wrapper, fixed, make_text_object, to_object}
use Rattle.es_model.specs.programs.Errors.{not_a_function}
use Rattle.es_model.specs.programs.Methods.{get_named, has_named, method_in, with_method, then_method}
use Rattle.es_model.specs.programs.Testing.{is_callable_kind}
use Rattle.es_model.proofs.Abrupt.{answer-kept, value-there, proto-there}
use Rattle.es_model.proofs.Growing.{grows-changed}
use Rattle.es_model.proofs.Keeping.{later_none, later_then}
use Rattle.es_model.proofs.KnownLater.{object-later}
use Rattle.es_model.proofs.Rests.{leaves-changed}
use Rattle.es_model.proofs.ArrayLengths.{IsNoArray, no_array-later, no_array-leaves}
use Rattle.es_model.proofs.SoundArrays.{made-no_array}
use Rattle.es_model.proofs.SoundChanges.{sound-defining, sound-interning, sound-making}
use Rattle.es_model.proofs.SoundErrors.{error-kept, interned-known, interned-names, noted-objects, throw-fits}

-- ---- what is taken from an answer is known

pub value-kept : (started : Task) (q : Request) (w : World) (next : Value → Program) (c : Completion) → IsSound w → Fits w.lists q c → ((v : Value) → IsKnown w.lists v → IsKept (FitsTask started) (next v) w) →
    IsKept (FitsTask started) (then_value next c) w
value-kept started q w next c s fit h = answer-kept started q w value_in next c s fit (λ r v e k. h v (subst (IfThere (IsKnown w.lists)) e (value-there w.lists r k.1)))

pub flag-kept : (started : Task) (q : Request) (w : World) (next : Bool → Program) (c : Completion) → IsSound w → Fits w.lists q c → ((b : Bool) → IsKept (FitsTask started) (next b) w) → IsKept (FitsTask started) (then_flag next c) w
flag-kept started q w next c s fit h = answer-kept started q w flag_in next c s fit (λ r b e k. h b)

pub proto-kept : (started : Task) (q : Request) (w : World) (next : Option ObjectId → Program) (c : Completion) → IsSound w → Fits w.lists q c → ((p : Option ObjectId) → IfThere (IsObject w.lists) p → IsKept (FitsTask started) (next p) w) →
    IsKept (FitsTask started) (then_proto next c) w
proto-kept started q w next c s fit h = answer-kept started q w proto_in next c s fit (λ r p e k. h p (subst (IfThere (IfThere (IsObject w.lists))) e (proto-there w.lists r k.1)))

-- ---- names

-- a change leads to a later world
pub later-changed : (op : Change) (w : World) → IsLater w (changed op w)
later-changed op w = record { lists = grows-changed op w; script = (leaves-changed op w).script }

-- the key of a name that is no number
pub name-known : (w : World) (name : List ℕ) → natural_of 10 name ≡ None → IsKnownKey (changed (Interning name) w).lists (Name (number_of w.lists name))
name-known w name plain = ((interned-known w name, ap array_index_of (interned-names w name) ∙ array_index_of-no_number name plain), tt)

-- What follows a question of an object by name, in each later world. An answer to either question fits by its kind alone.
pub get_named-kept : (P : Lists → Completion → Type 0) (w : World) (o : ObjectId) (name : List ℕ) (next : Completion → Program) → IsSound w → IsObject w.lists o → IsShort name → natural_of 10 name ≡ None →
    ((c : Completion) (v : World) → IsSound v → IsLater w v → Fits v.lists (Read o (Name (number_of w.lists name)) (value.Object o) None) c → IsKept P (next c) v) → IsKept P (get_named o name next) w
get_named-kept P w o name next s there short plain h =
    let v : World = changed (Interning name) w in
    let o-known = object-later w.lists v.lists (grows-changed (Interning name) w) o there in
    (sound-interning w name s short, (o-known, name-known w name plain, o-known), λ c u su l fit. h c u su (later_then w v u (later-changed (Interning name) w) l) fit)

pub has_named-kept : (P : Lists → Completion → Type 0) (w : World) (o : ObjectId) (name : List ℕ) (next : Completion → Program) → IsSound w → IsObject w.lists o → IsShort name → natural_of 10 name ≡ None →
    ((c : Completion) (v : World) → IsSound v → IsLater w v → Fits v.lists (Has o (Name (number_of w.lists name))) c → IsKept P (next c) v) → IsKept P (has_named o name next) w
has_named-kept P w o name next s there short plain h =
    let v : World = changed (Interning name) w in
    let o-known = object-later w.lists v.lists (grows-changed (Interning name) w) o there in
    (sound-interning w name s short, (o-known, name-known w name plain), λ c u su l fit. h c u su (later_then w v u (later-changed (Interning name) w) l) fit)

-- ---- methods

pub not_function-kept : (t : Task) (w : World) → IsSound w → IsKept (FitsTask t) not_a_function w
not_function-kept t w s = error-kept t w error.TypeError (codes "not a function") s (omega arith)

-- the function that was found is an object that is there
found-kept : (t : Task) (w : World) (next : Option ObjectId → Program) (o : ObjectId) (b : Bool) → IsSound w → IsObject w.lists o → ((f : Option ObjectId) → IfThere (IsObject w.lists) f → IsKept (FitsTask t) (next f) w) →
    IsKept (FitsTask t) (with_method next (cond b (method.Function o) method.Other)) w
found-kept t w next o true s there h = h (Some o) there
found-kept t w next o false s there h = not_function-kept t w s

method-found : (t : Task) (w : World) (next : Option ObjectId → Program) (v : Value) → IsSound w → IsKnown w.lists v → ((f : Option ObjectId) → IfThere (IsObject w.lists) f → IsKept (FitsTask t) (next f) w) →
    IsKept (FitsTask t) (with_method next (method_in w.lists v)) w
method-found t w next value.Undefined s known h = h None tt
method-found t w next value.Null s known h = h None tt
method-found t w next (value.Bool b) s known h = not_function-kept t w s
method-found t w next (value.Whole n) s known h = not_function-kept t w s
method-found t w next (value.Text x) s known h = not_function-kept t w s
method-found t w next (value.Symbol x) s known h = not_function-kept t w s
method-found t w next (value.Object o) s known h = found-kept t w next o (is_callable_kind (kind w.lists o)) s known h

pub then_method-kept : (t : Task) (q : Request) (w : World) (next : Option ObjectId → Program) (c : Completion) → IsSound w → Fits w.lists q c → ((f : Option ObjectId) → IfThere (IsObject w.lists) f → IsKept (FitsTask t) (next f) w) →
    IsKept (FitsTask t) (then_method next c) w
then_method-kept t q w next c s fit h = value-kept t q w (λ v. look (λ l. with_method next (method_in l v))) c s fit (λ v known. method-found t w next v s known h)

-- ---- numbers

-- a number from 0 on that is not too great
pub whole-of : (n : ℕ) → n ≤ most_whole → IsWhole (pos n)
whole-of n b = (omega arith, record { le = yes_leb b })

-- an answer to ToNumber
abbrev pub IsNumberAnswer : Lists → Completion → Type 0
IsNumberAnswer l c = Fits l (Work operation.ToWhole []) c

pub to_number-kept : (P : Lists → Completion → Type 0) (w : World) (v : Value) (next : Completion → Program) → IsSound w → IsKnown w.lists v → ((c : Completion) (u : World) → IsSound u → IsLater w u → IsNumberAnswer u.lists c → IsKept P (next c) u) →
    IsKept P (to_number v next) w
to_number-kept P w value.Undefined next s known h = (s, (refl, (known, tt)), h)
to_number-kept P w value.Null next s known h = (s, (refl, (known, tt)), h)
to_number-kept P w (value.Bool b) next s known h = (s, (refl, (known, tt)), h)
to_number-kept P w (value.Whole n) next s known h = h (number n) w s (later_none w) (tt, known)
to_number-kept P w (value.Text t) next s known h = (s, (refl, (known, tt)), h)
to_number-kept P w (value.Symbol x) next s known h = (s, (refl, (known, tt)), h)
to_number-kept P w (value.Object o) next s known h = (s, (refl, (known, tt)), h)

pub to_integer-kept : (P : Lists → Completion → Type 0) (w : World) (v : Value) (next : Completion → Program) → IsSound w → IsKnown w.lists v → ((c : Completion) (u : World) → IsSound u → IsLater w u → IsNumberAnswer u.lists c → IsKept P (next c) u) →
    IsKept P (to_integer v next) w
to_integer-kept P w value.Undefined next s known h = h (number (pos 0)) w s (later_none w) (tt, whole-of 0 (omega arith))
to_integer-kept P w value.Null next s known h = (s, (refl, (known, tt)), h)
to_integer-kept P w (value.Bool b) next s known h = (s, (refl, (known, tt)), h)
to_integer-kept P w (value.Whole n) next s known h = h (number n) w s (later_none w) (tt, known)
to_integer-kept P w (value.Text t) next s known h = (s, (refl, (known, tt)), h)
to_integer-kept P w (value.Symbol x) next s known h = (s, (refl, (known, tt)), h)
to_integer-kept P w (value.Object o) next s known h = (s, (refl, (known, tt)), h)

-- what follows a conversion to a number
whole-kept : (t : Task) (w : World) (next : ℤ → Program) (v : Value) → IsSound w → IsKnown w.lists v → ((n : ℤ) → IsWhole n → IsKept (FitsTask t) (next n) w) → IsKept (FitsTask t) (with_whole next v) w
whole-kept t w next value.Undefined s known h = (s, throw-fits t w.lists value.Undefined tt)
whole-kept t w next value.Null s known h = (s, throw-fits t w.lists value.Undefined tt)
whole-kept t w next (value.Bool b) s known h = (s, throw-fits t w.lists value.Undefined tt)
whole-kept t w next (value.Whole n) s known h = h n known
whole-kept t w next (value.Text x) s known h = (s, throw-fits t w.lists value.Undefined tt)
whole-kept t w next (value.Symbol x) s known h = (s, throw-fits t w.lists value.Undefined tt)
whole-kept t w next (value.Object o) s known h = (s, throw-fits t w.lists value.Undefined tt)

pub then_whole-kept : (t : Task) (w : World) (next : ℤ → Program) (c : Completion) → IsSound w → IsNumberAnswer w.lists c → ((n : ℤ) → IsWhole n → IsKept (FitsTask t) (next n) w) → IsKept (FitsTask t) (then_whole next c) w
then_whole-kept t w next c s fit h = value-kept t (Work operation.ToWhole []) w (with_whole next) c s fit (λ v known. whole-kept t w next v s known h)

-- LengthOfArrayLike, after the value under length was asked for
pub length_got-kept : (t : Task) (q : Request) (w : World) (next : Completion → Program) (c : Completion) → IsSound w → Fits w.lists q c → ((d : Completion) (u : World) → IsSound u → IsLater w u → IsNumberAnswer u.lists d → IsKept (FitsTask t) (next d) u) →
    IsKept (FitsTask t) (length_got next c) w
length_got-kept t q w next c s fit h = value-kept t q w (λ v. to_integer v next) c s fit (λ v known. to_integer-kept (FitsTask t) w v next s known h)

-- ---- ToObject

wrapper-there : (w : World) (v : Value) (p : Option ObjectId) → IsObject (changed (Making (kind_of.Wrapper v) OfWrapper p) w).lists (new_object w.lists)
unfolding changed made
wrapper-there w v p =
    let n = length-append w.lists.objects (new_object_of (kind_of.Wrapper v) p ∷ []) in
    let same = noted-objects (with_objects w (w.lists.objects ++ new_object_of (kind_of.Wrapper v) p ∷ [])) p in omega arith

-- what follows, with the new object
abbrev OnObject : Task → World → (ObjectId → Program) → Type 0
OnObject t w next = (o : ObjectId) (u : World) → IsSound u → IsLater w u → IsObject u.lists o → IsKept (FitsTask t) (next o) u

wrapper-kept : (t : Task) (w : World) (c : Class) (v : Value) (next : ObjectId → Program) → IsSound w → IsKnown w.lists v → OnObject t w next → IsKept (FitsTask t) (make_wrapper c v next) w
wrapper-kept t w c v next s known h =
    let op : Change = Making (kind_of.Wrapper v) OfWrapper (proto_of_class c) in
    h (new_object w.lists) (changed op w) (sound-making w (kind_of.Wrapper v) OfWrapper (proto_of_class c) s known tt (s.intact.start (intrinsic.Prototype c)).0 refl) (later-changed op w) (wrapper-there w v (proto_of_class c))

short-got : (ts : List (List ℕ)) (i : ℕ) → AllByRecursion IsShort ts → IsShort (get_or ts i [])
short-got [] i h = omega arith
short-got (t ∷ ts) zero h = h.0
short-got (t ∷ ts) (suc i) h = short-got ts i h.1

fixed-known : (l : Lists) (v : Value) → IsKnown l v → IsKnownDescriptor l (fixed v)
fixed-known l v h = record { value = h; get = tt; set = tt; sound = refl }

text_object-kept : (t : Task) (w : World) (x : TextId) (next : ObjectId → Program) → IsSound w → IsText w.lists x → OnObject t w next → IsKept (FitsTask t) (make_text_object x next) w
text_object-kept t w x next s known h =
    let name : List ℕ = codes "length" in
    let make_it : Change = Making (kind_of.Text x) OfWrapper (proto_of_class class.String) in
    let a : World = changed make_it w in
    let o : ObjectId = new_object w.lists in
    let b : World = changed (Interning name) a in
    let n : Value = value.Whole (pos (length (units_of w.lists x))) in
    let key : PropKey = Name (number_of a.lists name) in
    let d : Change = Defining o key (fixed n) in
    let short : IsShort (units_of w.lists x) = short-got w.lists.texts x.0 s.intact.lengths in
    let sa : IsSound a = sound-making w (kind_of.Text x) OfWrapper (proto_of_class class.String) s known tt (s.intact.start (intrinsic.Prototype class.String)).0 refl in
    let sb : IsSound b = sound-interning a name sa (omega arith) in
    let g : Grows a.lists b.lists = grows-changed (Interning name) a in
    let other : IsNoArray b.lists o = no_array-later a.lists b.lists g o (made-no_array w (kind_of.Text x) OfWrapper (proto_of_class class.String) refl) in
    h o (changed d b) (sound-defining b o key (fixed n) sb other.there (name-known a name refl) (fixed-known b.lists n (whole-of (length (units_of w.lists x)) (omega arith))) (no_array-leaves b.lists o key (Some n) other.other))
    (later_then w a (changed d b) (later-changed make_it w) (later_then a b (changed d b) (later-changed (Interning name) a) (later-changed d b)))
    (object-later b.lists (changed d b).lists (grows-changed d b) o other.there)

pub not_object-kept : (t : Task) (w : World) → IsSound w → IsKept (FitsTask t) not_an_object w
not_object-kept t w s = error-kept t w error.TypeError (codes "not an object") s (omega arith)

pub to_object-kept : (t : Task) (w : World) (v : Value) (next : ObjectId → Program) → IsSound w → IsKnown w.lists v → OnObject t w next → IsKept (FitsTask t) (to_object v next) w
to_object-kept t w value.Undefined next s known h = not_object-kept t w s
to_object-kept t w value.Null next s known h = not_object-kept t w s
to_object-kept t w (value.Bool b) next s known h = wrapper-kept t w class.Boolean (value.Bool b) next s known h
to_object-kept t w (value.Whole n) next s known h = wrapper-kept t w class.Number (value.Whole n) next s known h
to_object-kept t w (value.Text x) next s known h = text_object-kept t w x next s known h
to_object-kept t w (value.Symbol x) next s known h = wrapper-kept t w class.Symbol (value.Symbol x) next s known h
to_object-kept t w (value.Object o) next s known h = h o w s (later_none w) known
