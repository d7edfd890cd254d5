-- An arguments object that is made: what its program comes to, and that worlds stay sound.
use Rattle.std.proofs.Common.{◌≡◌, ◌≤◌, ℕ, suc, pos, Bool, true, false, cond, Option, Some, List, [], ◌∷◌, length, refl, ap, ◌∙◌, arith}
use Rattle.std.specs.Prelude.{codes, min, nat_le}
use Rattle.std.specs.List.{AllByRecursion}
use Rattle.std.proofs.lemmas.Bool.{leb-true, leb-false}
use Rattle.std.proofs.lemmas.Fmt.{decimal_is_IsNumeral, length_signed_le}
use Rattle.property_keys.specs.declared.identifiers.ObjectId.{ObjectId}
use Rattle.property_keys.specs.declared.keys.PropKey.TheVariants.{Index, Name}
use Rattle.property_keys.specs.declared.values.Value.{Value}
use Rattle.property_keys.specs.declared.values.Value.TheVariants as value
use Rattle.property_keys.specs.Decimals.{whole_units}
use Rattle.property_keys.specs.Keys.{array_index_of, most_index}
use Rattle.property_keys.specs.Wholes.{most_whole}
use Rattle.property_keys.proofs.ArrayIndices.{array_index_of-great}
use Rattle.descriptors.specs.declared.fields.Descriptor.{Descriptor}
use Rattle.es_model.specs.declared.intrinsics.Class.TheVariants as class
use Rattle.es_model.specs.declared.intrinsics.Intrinsic.TheVariants as intrinsic
use Rattle.es_model.specs.declared.kinds.CellNo.{CellNo}
use Rattle.es_model.specs.declared.kinds.ObjectKind.TheVariants as kind_of
use Rattle.es_model.specs.Changes.{Defining, Interning, changed}
use Rattle.es_model.specs.Completions.{Completion}
use Rattle.es_model.specs.Events.{OfArguments}
use Rattle.es_model.specs.Kept.{AreCells, IsKept, IsLater}
use Rattle.es_model.specs.Known.{AreKnown, IfThere, IsCell, IsKnown, IsKnownDescriptor, IsKnownKey, IsObject}
use Rattle.es_model.specs.Program.{Program}
use Rattle.es_model.specs.Sound.{IsShort, IsSound}
use Rattle.es_model.specs.Stages.{stage_of}
use Rattle.es_model.specs.Weights.{IsWithin}
use Rattle.es_model.specs.World.{Lists, World, new_object, number_of}
use Rattle.es_model.specs.programs.Converting.{proto_of_class}
use Rattle.es_model.specs.programs.Errors.{hidden}
use Rattle.es_model.proofs.ArrayLengths.{IsNoArray, no_array-later, no_array-leaves}
use Rattle.es_model.proofs.Growing.{grows-changed}
use Rattle.es_model.proofs.Keeping.{later_none, later_then}
use Rattle.es_model.proofs.KnownLater.{all-map, descriptor-later, known-later, object-later}
use Rattle.es_model.proofs.SharedKept.{later-changed, name-known, whole-of}
use Rattle.es_model.proofs.SoundArrays.{made-no_array}
use Rattle.es_model.proofs.SoundChanges.{sound-defining, sound-interning, sound-making}
use Rattle.es_model.proofs.SoundErrors.{interned-known, interned-names}
use Rattle.es_model.proofs.Within.{within-cond}
use Rattle.ordinary_object.specs.Ordinary.{with_three_true}
use Rattle.arguments_exotic.specs.Creating.{argument_count, argument_defined, arguments_defined, callee_defined, create_mapped_arguments, create_unmapped_arguments, define_argument, define_arguments, define_callee, define_length, define_named, length_defined, making, mapped_cells, mapped_world, named_defined, throwing, unmapped_world}

-- ---- what the programs come to

stage-if : (b : Bool) (p q next : Program) (w v u : World) → stage_of p w ≡ stage_of next v → stage_of q w ≡ stage_of next u → stage_of (cond b p q) w ≡ stage_of next (cond b v u)
stage-if true p q next w v u h k = h
stage-if false p q next w v u h k = k

argument_stage : (o : ObjectId) (i : ℕ) (v : Value) (next : Program) (w : World) → stage_of (define_argument o i v next) w ≡ stage_of next (argument_defined o i v w)
unfolding argument_defined
argument_stage o i v next w = stage-if (nat_le i most_index) _ _ next w _ _ refl refl

arguments_stage : (o : ObjectId) (i : ℕ) (vs : List Value) (next : Program) (w : World) → stage_of (define_arguments o i vs next) w ≡ stage_of next (arguments_defined o i vs w)
arguments_stage o i [] next w = refl
arguments_stage o i (v ∷ vs) next w = argument_stage o i v (define_arguments o (suc i) vs next) w ∙ arguments_stage o (suc i) vs next (argument_defined o i v w)

pub unmapped_stage : (vs : List Value) (next : ObjectId → Program) (w : World) → stage_of (create_unmapped_arguments vs next) w ≡ stage_of (next (new_object w.lists)) (unmapped_world vs w)
unfolding unmapped_world
unmapped_stage vs next w =
    let o : ObjectId = new_object w.lists in arguments_stage o 0 vs (define_callee o throwing (next o)) (length_defined o vs (changed (making []) w))

pub mapped_stage : (f : ObjectId) (cells : List CellNo) (vs : List Value) (next : ObjectId → Program) (w : World) →
    stage_of (create_mapped_arguments f cells vs next) w ≡ stage_of (next (new_object w.lists)) (mapped_world f (mapped_cells cells vs) vs w)
unfolding mapped_world
mapped_stage f cells vs next w =
    let o : ObjectId = new_object w.lists in arguments_stage o 0 vs (define_length o vs (define_callee o (hidden (value.Object f)) (next o))) (changed (making (mapped_cells cells vs)) w)

-- ---- within the weights: they ask for nothing

named-within : (r b : ℕ) (o : ObjectId) (name : List ℕ) (d : Descriptor) (next : Program) → IsWithin r b next → IsWithin r b (define_named o name d next)
named-within r b o name d next h = λ l m. h

arguments-within : (r b : ℕ) (o : ObjectId) (i : ℕ) (vs : List Value) (next : Program) → IsWithin r b next → IsWithin r b (define_arguments o i vs next)
arguments-within r b o i [] next h = h
arguments-within r b o i (v ∷ vs) next h =
    let rest : Program = define_arguments o (suc i) vs next in
    let k : IsWithin r b rest = arguments-within r b o (suc i) vs next h in
    within-cond r b (nat_le i most_index) _ _ (λ l. k) (λ l m. k)

pub unmapped_within : (r b : ℕ) (vs : List Value) (next : ObjectId → Program) → ((o : ObjectId) → IsWithin r b (next o)) → IsWithin r b (create_unmapped_arguments vs next)
unmapped_within r b vs next h = λ l m n.
    let o : ObjectId = new_object l in arguments-within r b o 0 vs (define_callee o throwing (next o)) (named-within r b o (codes "callee") throwing (next o) (h o))

pub mapped_within : (r b : ℕ) (f : ObjectId) (cells : List CellNo) (vs : List Value) (next : ObjectId → Program) → ((o : ObjectId) → IsWithin r b (next o)) → IsWithin r b (create_mapped_arguments f cells vs next)
mapped_within r b f cells vs next h = λ l.
    let o : ObjectId = new_object l in
    let d : Descriptor = hidden (value.Object f) in
    let end : Program = define_callee o d (next o) in
    arguments-within r b o 0 vs (define_length o vs end) (named-within r b o (codes "length") (hidden (argument_count vs)) end (named-within r b o (codes "callee") d (next o) (h o)))

-- ---- later worlds

named-later : (o : ObjectId) (name : List ℕ) (d : Descriptor) (w : World) → IsLater w (named_defined o name d w)
named-later o name d w =
    let a : World = changed (Interning name) w in
    later_then w a (named_defined o name d w) (later-changed (Interning name) w) (later-changed (Defining o (Name (number_of w.lists name)) d) a)

later-if : (b : Bool) (w v u : World) → IsLater w v → IsLater w u → IsLater w (cond b v u)
later-if true w v u h k = h
later-if false w v u h k = k

argument-later : (o : ObjectId) (i : ℕ) (v : Value) (w : World) → IsLater w (argument_defined o i v w)
unfolding argument_defined
argument-later o i v w =
    later-if (nat_le i most_index) w _ _ (later-changed (Defining o (Index i) (with_three_true v)) w) (named-later o (whole_units (pos (min i most_whole))) (with_three_true v) w)

arguments-later : (o : ObjectId) (i : ℕ) (vs : List Value) (w : World) → IsLater w (arguments_defined o i vs w)
arguments-later o i [] w = later_none w
arguments-later o i (v ∷ vs) w =
    let u : World = argument_defined o i v w in later_then w u (arguments_defined o (suc i) vs u) (argument-later o i v w) (arguments-later o (suc i) vs u)

-- ---- what is made stays sound

values-later : (w v : World) → IsLater w v → (vs : List Value) → AreKnown w.lists vs → AreKnown v.lists vs
values-later w v l vs h = all-map (IsKnown w.lists) (IsKnown v.lists) (known-later w.lists v.lists l.lists) vs h

plain-later : (w v : World) → IsLater w v → (o : ObjectId) → IsNoArray w.lists o → IsNoArray v.lists o
plain-later w v l o h = no_array-later w.lists v.lists l.lists o h

-- a name with its key, as it is known after the text got its number
named-sound : (o : ObjectId) (name : List ℕ) (d : Descriptor) (w : World) → IsSound w → IsNoArray w.lists o → IsShort name → IsKnownKey (changed (Interning name) w).lists (Name (number_of w.lists name)) →
    IsKnownDescriptor w.lists d → IsSound (named_defined o name d w)
named-sound o name d w s plain short key known =
    let a : World = changed (Interning name) w in
    let g = grows-changed (Interning name) w in
    let here : IsNoArray a.lists o = no_array-later w.lists a.lists g o plain in
    sound-defining a o (Name (number_of w.lists name)) d (sound-interning w name s short) here.there key (descriptor-later w.lists a.lists g d known) (no_array-leaves a.lists o (Name (number_of w.lists name)) d.value here.other)

three-known : (l : Lists) (v : Value) → IsKnown l v → IsKnownDescriptor l (with_three_true v)
three-known l v h = record { value = h; get = tt; set = tt; sound = refl }

hidden-known : (l : Lists) (v : Value) → IsKnown l v → IsKnownDescriptor l (hidden v)
hidden-known l v h = record { value = h; get = tt; set = tt; sound = refl }

throwing-known : (w : World) → IsSound w → IsKnownDescriptor w.lists throwing
throwing-known w s = let there = (s.intact.start intrinsic.ThrowTypeError).0 in record { value = tt; get = there; set = there; sound = refl }

count-known : (l : Lists) (vs : List Value) → IsKnown l (argument_count vs)
unfolding argument_count
count-known l vs = whole-of (min (length vs) most_whole) (omega arith)

-- the text of a number is short, and past the array indices it is a name
number-short : (n : ℕ) → n ≤ most_whole → IsShort (whole_units (pos n))
number-short n le = let most = length_signed_le 16 (pos n) (omega (arith, le)) (omega (arith, le)) in omega (arith, most)

great-key : (w : World) (i : ℕ) → suc most_index ≤ i → IsKnownKey (changed (Interning (whole_units (pos (min i most_whole)))) w).lists (Name (number_of w.lists (whole_units (pos (min i most_whole)))))
great-key w i great =
    let units : List ℕ = whole_units (pos (min i most_whole)) in
    let digits = (decimal_is_IsNumeral (min i most_whole) (omega arith)).1 in
    ((interned-known w units, ap array_index_of (interned-names w units) ∙ array_index_of-great units (omega (arith, digits))), tt)

argument-if : (o : ObjectId) (i : ℕ) (v : Value) (w : World) (b : Bool) → nat_le i most_index ≡ b → IsSound w → IsNoArray w.lists o → IsKnown w.lists v →
    IsSound (cond b (changed (Defining o (Index i) (with_three_true v)) w) (named_defined o (whole_units (pos (min i most_whole))) (with_three_true v) w))
argument-if o i v w true e s plain known =
    sound-defining w o (Index i) (with_three_true v) s plain.there (leb-true i most_index e, tt) (three-known w.lists v known) (no_array-leaves w.lists o (Index i) (Some v) plain.other)
argument-if o i v w false e s plain known =
    named-sound o (whole_units (pos (min i most_whole))) (with_three_true v) w s plain (number-short (min i most_whole) (omega arith)) (great-key w i (leb-false i most_index e)) (three-known w.lists v known)

argument-sound : (o : ObjectId) (i : ℕ) (v : Value) (w : World) → IsSound w → IsNoArray w.lists o → IsKnown w.lists v → IsSound (argument_defined o i v w)
unfolding argument_defined
argument-sound o i v w s plain known = argument-if o i v w (nat_le i most_index) refl s plain known

arguments-sound : (o : ObjectId) (i : ℕ) (vs : List Value) (w : World) → IsSound w → IsNoArray w.lists o → AreKnown w.lists vs → IsSound (arguments_defined o i vs w)
arguments-sound o i [] w s plain known = s
arguments-sound o i (v ∷ vs) w s plain known =
    let u : World = argument_defined o i v w in
    let l : IsLater w u = argument-later o i v w in
    arguments-sound o (suc i) vs u (argument-sound o i v w s plain known.0) (plain-later w u l o plain) (values-later w u l vs known.1)

length-sound : (o : ObjectId) (vs : List Value) (w : World) → IsSound w → IsNoArray w.lists o → IsSound (length_defined o vs w)
length-sound o vs w s plain = named-sound o (codes "length") (hidden (argument_count vs)) w s plain (omega arith) (name-known w (codes "length") refl) (hidden-known w.lists (argument_count vs) (count-known w.lists vs))

callee-sound : (o : ObjectId) (d : Descriptor) (w : World) → IsSound w → IsNoArray w.lists o → IsKnownDescriptor w.lists d → IsSound (callee_defined o d w)
callee-sound o d w s plain known = named-sound o (codes "callee") d w s plain (omega arith) (name-known w (codes "callee") refl) known

made-sound : (cells : List (Option CellNo)) (w : World) → IsSound w → AllByRecursion (IfThere (IsCell w.lists)) cells → IsSound (changed (making cells) w)
made-sound cells w s there = sound-making w (kind_of.Arguments cells) OfArguments (proto_of_class class.Object) s there tt (s.intact.start (intrinsic.Prototype class.Object)).0 refl

made-plain : (cells : List (Option CellNo)) (w : World) → IsNoArray (changed (making cells) w).lists (new_object w.lists)
made-plain cells w = made-no_array w (kind_of.Arguments cells) OfArguments (proto_of_class class.Object) refl

-- what holds of the world in which the object is whole
pub record IsCreated (w v : World) (o : ObjectId) : Type 0 where
  pub sound : IsSound v
  pub later : IsLater w v
  pub there : IsObject v.lists o

unmapped-created : (vs : List Value) (w : World) → IsSound w → AreKnown w.lists vs → IsCreated w (unmapped_world vs w) (new_object w.lists)
unfolding unmapped_world
unmapped-created vs w s known =
    let o : ObjectId = new_object w.lists in
    let a : World = changed (making []) w in
    let b : World = length_defined o vs a in
    let c : World = arguments_defined o 0 vs b in
    let e : World = callee_defined o throwing c in
    let wa : IsLater w a = later-changed (making []) w in
    let ab : IsLater a b = named-later o (codes "length") (hidden (argument_count vs)) a in
    let bc : IsLater b c = arguments-later o 0 vs b in
    let ce : IsLater c e = named-later o (codes "callee") throwing c in
    let wb : IsLater w b = later_then w a b wa ab in
    let pa : IsNoArray a.lists o = made-plain [] w in
    let pb : IsNoArray b.lists o = plain-later a b ab o pa in
    let pc : IsNoArray c.lists o = plain-later b c bc o pb in
    let sb : IsSound b = length-sound o vs a (made-sound [] w s tt) pa in
    let sc : IsSound c = arguments-sound o 0 vs b sb pb (values-later w b wb vs known) in
    record {
      sound = callee-sound o throwing c sc pc (throwing-known c sc);
      later = later_then w c e (later_then w b c wb bc) ce;
      there = (plain-later c e ce o pc).there;
    }

mapped-there : (l : Lists) (cells : List CellNo) (vs : List Value) → AreCells l cells → AllByRecursion (IfThere (IsCell l)) (mapped_cells cells vs)
mapped-there l [] vs h = tt
mapped-there l (c ∷ cs) [] h = tt
mapped-there l (c ∷ cs) (v ∷ vs) h = (h.0, mapped-there l cs vs h.1)

mapped-created : (f : ObjectId) (cells : List (Option CellNo)) (vs : List Value) (w : World) → IsSound w → IsObject w.lists f → AllByRecursion (IfThere (IsCell w.lists)) cells → AreKnown w.lists vs →
    IsCreated w (mapped_world f cells vs w) (new_object w.lists)
unfolding mapped_world
mapped-created f cells vs w s there are known =
    let o : ObjectId = new_object w.lists in
    let d : Descriptor = hidden (value.Object f) in
    let a : World = changed (making cells) w in
    let b : World = arguments_defined o 0 vs a in
    let c : World = length_defined o vs b in
    let e : World = callee_defined o d c in
    let wa : IsLater w a = later-changed (making cells) w in
    let ab : IsLater a b = arguments-later o 0 vs a in
    let bc : IsLater b c = named-later o (codes "length") (hidden (argument_count vs)) b in
    let ce : IsLater c e = named-later o (codes "callee") d c in
    let wc : IsLater w c = later_then w b c (later_then w a b wa ab) bc in
    let pa : IsNoArray a.lists o = made-plain cells w in
    let pb : IsNoArray b.lists o = plain-later a b ab o pa in
    let pc : IsNoArray c.lists o = plain-later b c bc o pb in
    let sb : IsSound b = arguments-sound o 0 vs a (made-sound cells w s are) pa (values-later w a wa vs known) in
    let sc : IsSound c = length-sound o vs b sb pb in
    record {
      sound = callee-sound o d c sc pc (hidden-known c.lists (value.Object f) (object-later w.lists c.lists wc.lists f there));
      later = later_then w c e wc ce;
      there = (plain-later c e ce o pc).there;
    }

-- ---- the programs with what goes on behind them

kept-if : (P : Lists → Completion → Type 0) (b : Bool) (p q next : Program) (w v u : World) → (IsKept P next v → IsKept P p w) → (IsKept P next u → IsKept P q w) → IsKept P next (cond b v u) → IsKept P (cond b p q) w
kept-if P true p q next w v u f g h = f h
kept-if P false p q next w v u f g h = g h

argument-kept : (P : Lists → Completion → Type 0) (o : ObjectId) (i : ℕ) (v : Value) (next : Program) (w : World) → IsKept P next (argument_defined o i v w) → IsKept P (define_argument o i v next) w
unfolding argument_defined
argument-kept P o i v next w h = kept-if P (nat_le i most_index) _ _ next w _ _ (λ k. k) (λ k. k) h

arguments-kept : (P : Lists → Completion → Type 0) (o : ObjectId) (i : ℕ) (vs : List Value) (next : Program) (w : World) → IsKept P next (arguments_defined o i vs w) → IsKept P (define_arguments o i vs next) w
arguments-kept P o i [] next w h = h
arguments-kept P o i (v ∷ vs) next w h = argument-kept P o i v (define_arguments o (suc i) vs next) w (arguments-kept P o (suc i) vs next (argument_defined o i v w) h)

unmapped-whole : (P : Lists → Completion → Type 0) (vs : List Value) (next : ObjectId → Program) (w : World) → IsKept P (next (new_object w.lists)) (unmapped_world vs w) → IsKept P (create_unmapped_arguments vs next) w
unfolding unmapped_world
unmapped-whole P vs next w h =
    let o : ObjectId = new_object w.lists in arguments-kept P o 0 vs (define_callee o throwing (next o)) (length_defined o vs (changed (making []) w)) h

mapped-whole : (P : Lists → Completion → Type 0) (f : ObjectId) (cells : List CellNo) (vs : List Value) (next : ObjectId → Program) (w : World) →
    IsKept P (next (new_object w.lists)) (mapped_world f (mapped_cells cells vs) vs w) → IsKept P (create_mapped_arguments f cells vs next) w
unfolding mapped_world
mapped-whole P f cells vs next w h =
    let o : ObjectId = new_object w.lists in arguments-kept P o 0 vs (define_length o vs (define_callee o (hidden (value.Object f)) (next o))) (changed (making (mapped_cells cells vs)) w) h

pub unmapped_kept : (P : Lists → Completion → Type 0) (vs : List Value) (next : ObjectId → Program) (w : World) → IsSound w → AreKnown w.lists vs →
    ((o : ObjectId) (v : World) → IsCreated w v o → IsKept P (next o) v) → IsKept P (create_unmapped_arguments vs next) w
unmapped_kept P vs next w s known onward = unmapped-whole P vs next w (onward (new_object w.lists) (unmapped_world vs w) (unmapped-created vs w s known))

pub mapped_kept : (P : Lists → Completion → Type 0) (f : ObjectId) (cells : List CellNo) (vs : List Value) (next : ObjectId → Program) (w : World) → IsSound w → IsObject w.lists f → AreCells w.lists cells → AreKnown w.lists vs →
    ((o : ObjectId) (v : World) → IsCreated w v o → IsKept P (next o) v) → IsKept P (create_mapped_arguments f cells vs next) w
mapped_kept P f cells vs next w s there are known onward =
    mapped-whole P f cells vs next w (onward (new_object w.lists) (mapped_world f (mapped_cells cells vs) vs w) (mapped-created f (mapped_cells cells vs) vs w s there (mapped-there w.lists cells vs are) known))
