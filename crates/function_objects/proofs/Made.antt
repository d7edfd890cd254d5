-- A function of the script that is made: what its program comes to, and that worlds stay sound.
use Rattle.std.proofs.Common.{◌≡◌, ◌≤◌, ℕ, Bool, true, false, cond, Option, Some, None, List, length, refl, sym, ◌∙◌, subst, arith}
use Rattle.std.specs.Prelude.{codes, min, slice_get}
use Rattle.property_keys.specs.declared.identifiers.ObjectId.{ObjectId}
use Rattle.property_keys.specs.declared.identifiers.TextId.{TextId}
use Rattle.property_keys.specs.declared.keys.PropKey.TheVariants.{Name}
use Rattle.property_keys.specs.declared.values.Value.{Value}
use Rattle.property_keys.specs.declared.values.Value.TheVariants as value
use Rattle.property_keys.specs.Numbers.{natural_of}
use Rattle.property_keys.specs.Wholes.{most_whole}
use Rattle.descriptors.specs.declared.fields.Descriptor.{Descriptor}
use Rattle.es_tree.specs.declared.facts.FunctionFacts.{FunctionFacts}
use Rattle.es_tree.specs.declared.numbers.FunctionNo.{FunctionNo}
use Rattle.es_tree.specs.Tree.{top_names}
use Rattle.es_model.specs.declared.intrinsics.Class.TheVariants as class
use Rattle.es_model.specs.declared.intrinsics.Intrinsic.TheVariants as intrinsic
use Rattle.es_model.specs.declared.kinds.ObjectKind.TheVariants as kind_of
use Rattle.es_model.specs.Changes.{Defining, Interning, changed}
use Rattle.es_model.specs.Completions.{Completion}
use Rattle.es_model.specs.Events.{OfFunction, OfPlain}
use Rattle.es_model.specs.Kept.{IsKept, IsLater}
use Rattle.es_model.specs.Known.{IsKnown, IsKnownDescriptor, IsObject, IsText}
use Rattle.es_model.specs.Program.{Program}
use Rattle.es_model.specs.Sound.{HasFlags, IsShort, IsSound}
use Rattle.es_model.specs.Stages.{stage_of}
use Rattle.es_model.specs.Weights.{IsWithin}
use Rattle.es_model.specs.World.{Lists, World, new_object, number_of}
use Rattle.es_model.specs.programs.Converting.{proto_of_class}
use Rattle.es_model.specs.programs.Errors.{hidden}
use Rattle.es_model.proofs.Growing.{grows-changed}
use Rattle.es_model.proofs.Keeping.{later_then}
use Rattle.es_model.proofs.KnownLater.{descriptor-later, object-later, text-later}
use Rattle.es_model.proofs.SharedKept.{later-changed, name-known, whole-of}
use Rattle.es_model.proofs.ArrayLengths.{IsNoArray, no_array-later, no_array-leaves}
use Rattle.es_model.proofs.SoundArrays.{made-no_array}
use Rattle.es_model.proofs.SoundChanges.{sound-defining, sound-interning, sound-making}
use Rattle.es_model.proofs.Within.{within-cond}
use Rattle.object_heap.specs.Stands.{HeapView, StandsFor}
use Rattle.object_heap.proofs.Standing.{count-stands}
use Rattle.function_objects.specs.Making.{constructor_world, create_function, created_world, function_kind, function_made, function_world, kept, make_constructor, making_function, making_prototype, name_function, named_defined, named_world, parameter_count, prototype_made, readable}

-- ---- what the program comes to

stage-if : (b : Bool) (p next : Program) (v u : World) → stage_of p v ≡ stage_of next u → stage_of (cond b p next) v ≡ stage_of next (cond b u v)
stage-if true p next v u h = h
stage-if false p next v u h = refl

constructor_stage : (o : ObjectId) (next : Program) (w : World) → stage_of (make_constructor o next) w ≡ stage_of next (constructor_world o w)
unfolding constructor_world prototype_made
constructor_stage o next w = refl

pub named_stage : (o : ObjectId) (facts : FunctionFacts) (name : TextId) (next : Program) (w : World) → stage_of (name_function o facts name next) w ≡ stage_of next (named_world o facts name w)
unfolding named_world
named_stage o facts name next w =
    let v : World = named_defined o (codes "name") (readable (value.Text name)) w in stage-if facts.constructor (make_constructor o next) next v (constructor_world o v) (constructor_stage o next v)

pub created_stage : (f : FunctionNo) (facts : FunctionFacts) (next : ObjectId → Program) (w : World) → stage_of (create_function f facts next) w ≡ stage_of (next (new_object w.lists)) (created_world f facts w)
unfolding created_world
created_stage f facts next w = refl

pub made_stage : (f : FunctionNo) (facts : FunctionFacts) (name : TextId) (next : ObjectId → Program) (w : World) →
    stage_of (function_made f facts name next) w ≡ stage_of (next (new_object w.lists)) (function_world f facts name w)
unfolding function_world
made_stage f facts name next w =
    let o : ObjectId = new_object w.lists in
    created_stage f facts (λ p. name_function p facts name (next p)) w ∙ named_stage o facts name (next o) (created_world f facts w)

-- ---- later worlds

named-later : (o : ObjectId) (name : List ℕ) (d : Descriptor) (w : World) → IsLater w (named_defined o name d w)
named-later o name d w =
    let a : World = changed (Interning name) w in later_then w a (named_defined o name d w) (later-changed (Interning name) w) (later-changed (Defining o (Name (number_of w.lists name)) d) a)

created-later : (f : FunctionNo) (facts : FunctionFacts) (w : World) → IsLater w (created_world f facts w)
unfolding created_world
created-later f facts w =
    let a : World = changed (making_function f facts) w in
    later_then w a (created_world f facts w) (later-changed (making_function f facts) w) (named-later (new_object w.lists) (codes "length") (readable (parameter_count facts)) a)

constructor-later : (o : ObjectId) (w : World) → IsLater w (constructor_world o w)
unfolding constructor_world prototype_made
constructor-later o w =
    let p : ObjectId = new_object w.lists in
    let a : World = changed making_prototype w in
    let b : World = named_defined p (codes "constructor") (hidden (value.Object o)) a in
    later_then w a (constructor_world o w) (later-changed making_prototype w)
    (later_then a b (constructor_world o w) (named-later p (codes "constructor") (hidden (value.Object o)) a) (named-later o (codes "prototype") (kept (value.Object p)) b))

later-if : (b : Bool) (w v u : World) → IsLater w v → IsLater w u → IsLater w (cond b v u)
later-if true w v u h k = h
later-if false w v u h k = k

named_world-later : (o : ObjectId) (facts : FunctionFacts) (name : TextId) (w : World) → IsLater w (named_world o facts name w)
unfolding named_world
named_world-later o facts name w =
    let v : World = named_defined o (codes "name") (readable (value.Text name)) w in
    let first : IsLater w v = named-later o (codes "name") (readable (value.Text name)) w in
    later-if facts.constructor w (constructor_world o v) v (later_then w v (constructor_world o v) first (constructor-later o v)) first

pub made_later : (f : FunctionNo) (facts : FunctionFacts) (name : TextId) (w : World) → IsLater w (function_world f facts name w)
unfolding function_world
made_later f facts name w =
    later_then w (created_world f facts w) (function_world f facts name w) (created-later f facts w) (named_world-later (new_object w.lists) facts name (created_world f facts w))

-- ---- the new object is there, and no Array

object-stays : (w v : World) → IsLater w v → (o : ObjectId) → IsObject w.lists o → IsObject v.lists o
object-stays w v l o h = object-later w.lists v.lists l.lists o h

function-other : (f : FunctionNo) (facts : FunctionFacts) (w : World) → IsNoArray (changed (making_function f facts) w).lists (new_object w.lists)
function-other f facts w = made-no_array w (function_kind f facts) OfFunction (proto_of_class class.Function) refl

created-other : (f : FunctionNo) (facts : FunctionFacts) (w : World) → IsNoArray (created_world f facts w).lists (new_object w.lists)
unfolding created_world
created-other f facts w =
    let o : ObjectId = new_object w.lists in
    let a : World = changed (making_function f facts) w in
    no_array-later a.lists (created_world f facts w).lists (named-later o (codes "length") (readable (parameter_count facts)) a).lists o (function-other f facts w)

pub made_there : (f : FunctionNo) (facts : FunctionFacts) (name : TextId) (w : World) → IsObject (function_world f facts name w).lists (new_object w.lists)
unfolding function_world
made_there f facts name w =
    let o : ObjectId = new_object w.lists in
    let a : World = created_world f facts w in
    object-stays a (function_world f facts name w) (named_world-later o facts name a) o (created-other f facts w).there

-- ---- sound worlds

known-stored : (l : Lists) (v : Value) → IsKnown l v → IsKnownDescriptor l (readable v) × IsKnownDescriptor l (kept v) × IsKnownDescriptor l (hidden v)
known-stored l v h = (record { value = h; get = tt; set = tt; sound = refl }, record { value = h; get = tt; set = tt; sound = refl }, record { value = h; get = tt; set = tt; sound = refl })

count-known : (l : Lists) (facts : FunctionFacts) → IsKnown l (parameter_count facts)
unfolding parameter_count
count-known l facts = whole-of (min facts.parameters most_whole) (omega arith)

named-sound : (o : ObjectId) (name : List ℕ) (d : Descriptor) (w : World) → IsSound w → IsNoArray w.lists o → IsShort name → natural_of 10 name ≡ None → IsKnownDescriptor w.lists d → IsSound (named_defined o name d w)
named-sound o name d w s plain short no_index known =
    let a : World = changed (Interning name) w in
    let k = Name (number_of w.lists name) in
    let g = grows-changed (Interning name) w in
    let here : IsNoArray a.lists o = no_array-later w.lists a.lists g o plain in
    sound-defining a o k d (sound-interning w name s short) here.there (name-known w name no_index) (descriptor-later w.lists a.lists g d known) (no_array-leaves a.lists o k d.value here.other)

flags-of : (found : Option FunctionFacts) (facts : FunctionFacts) → found ≡ Some facts → HasFlags found facts.constructor facts.strict
flags-of found facts e = subst (λ (x : Option FunctionFacts). HasFlags x facts.constructor facts.strict) (sym e) (refl, refl)

created-sound : (f : FunctionNo) (facts : FunctionFacts) (w : World) → IsSound w → slice_get w.script.functions f.0 ≡ Some facts → top_names w.script ≤ length w.lists.cells → IsSound (created_world f facts w)
unfolding created_world
created-sound f facts w s found top =
    let a : World = changed (making_function f facts) w in
    let sa : IsSound a = sound-making w (function_kind f facts) OfFunction (proto_of_class class.Function) s tt (flags-of _ facts found, top) (s.intact.start (intrinsic.Prototype class.Function)).0 refl in
    named-sound (new_object w.lists) (codes "length") (readable (parameter_count facts)) a sa (function-other f facts w) (omega arith) refl (known-stored a.lists (parameter_count facts) (count-known a.lists facts)).0

constructor-sound : (o : ObjectId) (w : World) → IsSound w → IsNoArray w.lists o → IsSound (constructor_world o w)
unfolding constructor_world prototype_made
constructor-sound o w s plain =
    let p : ObjectId = new_object w.lists in
    let a : World = changed making_prototype w in
    let sa : IsSound a = sound-making w kind_of.Ordinary OfPlain (proto_of_class class.Object) s tt tt (s.intact.start (intrinsic.Prototype class.Object)).0 refl in
    let oa : IsNoArray a.lists o = no_array-later w.lists a.lists (later-changed making_prototype w).lists o plain in
    let pa : IsNoArray a.lists p = made-no_array w kind_of.Ordinary OfPlain (proto_of_class class.Object) refl in
    let b : World = named_defined p (codes "constructor") (hidden (value.Object o)) a in
    let l : IsLater a b = named-later p (codes "constructor") (hidden (value.Object o)) a in
    let sb : IsSound b = named-sound p (codes "constructor") (hidden (value.Object o)) a sa pa (omega arith) refl (known-stored a.lists (value.Object o) oa.there).2 in
    named-sound o (codes "prototype") (kept (value.Object p)) b sb (no_array-later a.lists b.lists l.lists o oa) (omega arith) refl (known-stored b.lists (value.Object p) (object-stays a b l p pa.there)).1

sound-if : (b : Bool) (v u : World) → IsSound v → IsSound u → IsSound (cond b v u)
sound-if true v u h k = h
sound-if false v u h k = k

named_world-sound : (o : ObjectId) (facts : FunctionFacts) (name : TextId) (w : World) → IsSound w → IsNoArray w.lists o → IsText w.lists name → IsSound (named_world o facts name w)
unfolding named_world
named_world-sound o facts name w s plain known =
    let d : Descriptor = readable (value.Text name) in
    let v : World = named_defined o (codes "name") d w in
    let sv : IsSound v = named-sound o (codes "name") d w s plain (omega arith) refl (known-stored w.lists (value.Text name) known).0 in
    sound-if facts.constructor (constructor_world o v) v (constructor-sound o v sv (no_array-later w.lists v.lists (named-later o (codes "name") d w).lists o plain)) sv

pub made_sound : (f : FunctionNo) (facts : FunctionFacts) (name : TextId) (w : World) → IsSound w → IsText w.lists name → slice_get w.script.functions f.0 ≡ Some facts → top_names w.script ≤ length w.lists.cells →
    IsSound (function_world f facts name w)
unfolding function_world
made_sound f facts name w s known found top =
    let a : World = created_world f facts w in
    let g = (created-later f facts w).lists in
    named_world-sound (new_object w.lists) facts name a (created-sound f facts w s found top) (created-other f facts w) (text-later w.lists a.lists g name known)

-- ---- the program with what goes on behind it

created-kept : (P : Lists → Completion → Type 0) (f : FunctionNo) (facts : FunctionFacts) (next : ObjectId → Program) (w : World) → IsKept P (next (new_object w.lists)) (created_world f facts w) → IsKept P (create_function f facts next) w
unfolding created_world
created-kept P f facts next w h = h

constructor-kept : (P : Lists → Completion → Type 0) (o : ObjectId) (next : Program) (w : World) → IsKept P next (constructor_world o w) → IsKept P (make_constructor o next) w
unfolding constructor_world prototype_made
constructor-kept P o next w h = h

kept-choice : (P : Lists → Completion → Type 0) (b : Bool) (p next : Program) (v u : World) → (IsKept P next u → IsKept P p v) → IsKept P next (cond b u v) → IsKept P (cond b p next) v
kept-choice P true p next v u f h = f h
kept-choice P false p next v u f h = h

named-kept : (P : Lists → Completion → Type 0) (o : ObjectId) (facts : FunctionFacts) (name : TextId) (next : Program) (w : World) → IsKept P next (named_world o facts name w) → IsKept P (name_function o facts name next) w
unfolding named_world
named-kept P o facts name next w h =
    let v : World = named_defined o (codes "name") (readable (value.Text name)) w in
    kept-choice P facts.constructor (make_constructor o next) next v (constructor_world o v) (constructor-kept P o next v) h

kept-whole : (P : Lists → Completion → Type 0) (f : FunctionNo) (facts : FunctionFacts) (name : TextId) (next : ObjectId → Program) (w : World) →
    IsKept P (next (new_object w.lists)) (function_world f facts name w) → IsKept P (function_made f facts name next) w
unfolding function_world
kept-whole P f facts name next w h =
    let o : ObjectId = new_object w.lists in created-kept P f facts (λ p. name_function p facts name (next p)) w (named-kept P o facts name (next o) (created_world f facts w) h)

pub made_kept : (P : Lists → Completion → Type 0) (f : FunctionNo) (facts : FunctionFacts) (name : TextId) (next : ObjectId → Program) (w : World) →
    IsSound w → IsText w.lists name → slice_get w.script.functions f.0 ≡ Some facts → top_names w.script ≤ length w.lists.cells →
    ((o : ObjectId) (v : World) → IsSound v → IsLater w v → IsObject v.lists o → IsKept P (next o) v) → IsKept P (function_made f facts name next) w
made_kept P f facts name next w s known found top onward =
    let v : World = function_world f facts name w in
    kept-whole P f facts name next w (onward (new_object w.lists) v (made_sound f facts name w s known found top) (made_later f facts name w) (made_there f facts name w))

-- ---- the two parts by themselves

pub create_kept : (P : Lists → Completion → Type 0) (f : FunctionNo) (facts : FunctionFacts) (next : ObjectId → Program) (w : World) →
    IsSound w → slice_get w.script.functions f.0 ≡ Some facts → top_names w.script ≤ length w.lists.cells →
    ((o : ObjectId) (v : World) → IsSound v → IsLater w v → IsNoArray v.lists o → IsKept P (next o) v) → IsKept P (create_function f facts next) w
create_kept P f facts next w s found top onward =
    created-kept P f facts next w (onward (new_object w.lists) (created_world f facts w) (created-sound f facts w s found top) (created-later f facts w) (created-other f facts w))

pub name_kept : (P : Lists → Completion → Type 0) (o : ObjectId) (facts : FunctionFacts) (name : TextId) (next : Program) (w : World) →
    IsSound w → IsNoArray w.lists o → IsText w.lists name → ((v : World) → IsSound v → IsLater w v → IsKept P next v) → IsKept P (name_function o facts name next) w
name_kept P o facts name next w s plain known onward =
    named-kept P o facts name next w (onward (named_world o facts name w) (named_world-sound o facts name w s plain known) (named_world-later o facts name w))

constructor-within : (r b : ℕ) (o : ObjectId) (next : Program) → IsWithin r b next → IsWithin r b (make_constructor o next)
constructor-within r b o next h = λ l m n x y. h

pub create_within : (r b : ℕ) (f : FunctionNo) (facts : FunctionFacts) (next : ObjectId → Program) → ((o : ObjectId) → IsWithin r b (next o)) → IsWithin r b (create_function f facts next)
create_within r b f facts next h = λ l m n. h (new_object l)

pub name_within : (r b : ℕ) (o : ObjectId) (facts : FunctionFacts) (name : TextId) (next : Program) → IsWithin r b next → IsWithin r b (name_function o facts name next)
name_within r b o facts name next h = λ l m. within-cond r b facts.constructor (make_constructor o next) next (constructor-within r b o next h) h

-- it takes no turn and asks for nothing
pub made_within : (r b : ℕ) (f : FunctionNo) (facts : FunctionFacts) (name : TextId) (next : ObjectId → Program) → ((o : ObjectId) → IsWithin r b (next o)) → IsWithin r b (function_made f facts name next)
made_within r b f facts name next h = λ l m n x y.
    let o : ObjectId = new_object l in within-cond r b facts.constructor (make_constructor o (next o)) (next o) (constructor-within r b o (next o) (h o)) (h o)

-- ---- two worlds of one heap

there-too : (heap : HeapView) (u v : World) (o : ObjectId) → StandsFor heap u → StandsFor heap v → IsObject u.lists o → IsObject v.lists o
there-too heap u v o h k there = let a = count-stands heap u h in let b = count-stands heap v k in omega arith

-- the new function is there in each world that its heap stands for
pub named_there : (heap : HeapView) (f : FunctionNo) (facts : FunctionFacts) (name : TextId) (o : ObjectId) (w v : World) →
    o ≡ new_object w.lists → StandsFor heap (named_world o facts name (created_world f facts w)) → StandsFor heap v → IsObject v.lists o
named_there heap f facts name o w v is one two =
    let a : World = created_world f facts w in
    let there : IsObject a.lists o = subst (λ p. IsObject a.lists p) (sym is) (created-other f facts w).there in
    there-too heap (named_world o facts name a) v o one two (object-stays a (named_world o facts name a) (named_world-later o facts name a) o there)
