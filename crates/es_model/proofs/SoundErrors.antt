-- Errors that are thrown keep worlds sound.
use Rattle.std.proofs.Common.{◌≡◌, ℕ, Bool, true, false, cond, Option, Some, None, List, [], ◌∷◌, ◌++◌, length, refl, ap, ◌∙◌, arith}
use Rattle.property_keys.specs.declared.identifiers.ObjectId.{ObjectId}
use Rattle.property_keys.specs.declared.identifiers.TextId.{TextId}
use Rattle.property_keys.specs.declared.keys.PropKey.TheVariants.{Name}
use Rattle.property_keys.specs.declared.values.Value.{Value}
use Rattle.property_keys.specs.declared.values.Value.TheVariants as value
use Rattle.property_keys.specs.Keys.{array_index_of}
use Rattle.property_keys.proofs.ArrayIndices.{array_index_of-no_number}
use Rattle.property_keys.specs.Texts.{text_at}
use Rattle.descriptors.specs.declared.fields.Descriptor.{Descriptor}
use Rattle.es_model.specs.declared.kinds.ErrorKind.{ErrorKind}
use Rattle.es_model.specs.declared.kinds.ObjectKind.TheVariants as kind_of
use Rattle.es_model.specs.declared.intrinsics.Class.TheVariants as class
use Rattle.es_model.specs.declared.intrinsics.Intrinsic.TheVariants as intrinsic
use Rattle.es_model.specs.declared.start_texts.StartText.TheVariants as start_text
use Rattle.es_model.specs.StartTexts.{units_of_start}
use Rattle.es_model.specs.Completions.{Completion, Throw}
use Rattle.es_model.specs.Events.{OfError, MadePrototype}
use Rattle.es_model.specs.Objects.{is_proxy, new_object_of}
use Rattle.std.proofs.lemmas.List.{length-append}
use Rattle.es_model.specs.World.{Lists, World, kind, new_object, number_of}
use Rattle.es_model.specs.Changes.{Defining, Making, Interning, text_known, changed, made, prototype_noted, noted, with_objects}
use Rattle.es_model.specs.Program.{Program, Task, Of, Evaluating, Statements, Round}
use Rattle.es_model.specs.Known.{IsObject, IsText, IsKnown, IsKnownKey, IsKnownDescriptor}
use Rattle.es_model.specs.Sound.{IsShort, IsSound}
use Rattle.es_model.specs.Kept.{FitsTask, IsKept}
use Rattle.es_model.specs.programs.Errors.{hidden, throw_error, error_proto}
use Rattle.es_model.proofs.TextPlaces.{place-interned}
use Rattle.es_model.proofs.Growing.{grows-changed}
use Rattle.es_model.proofs.KnownLater.{key-later, object-later, text-later}
use Rattle.es_model.proofs.ArrayLengths.{no_array-leaves}
use Rattle.es_model.proofs.SoundArrays.{made-no_array}
use Rattle.es_model.proofs.SoundChanges.{sound-defining, sound-making, sound-interning}

pub kept-if : (P : Lists → Completion → Type 0) (w : World) (b : Bool) (p q : Program) → IsKept P p w → IsKept P q w → IsKept P (cond b p q) w
kept-if P w true p q h h' = h
kept-if P w false p q h h' = h'

pub interned-known : (w : World) (text : List ℕ) → IsText (changed (Interning text) w).lists (number_of w.lists text)
unfolding changed text_known number_of
interned-known w text = (place-interned w.lists.texts text).known

pub interned-names : (w : World) (text : List ℕ) → text_at (changed (Interning text) w).lists.texts (number_of w.lists text).0 ≡ text
unfolding changed text_known number_of
interned-names w text = (place-interned w.lists.texts text).names

objects-cond : (b : Bool) (v u : World) (n : ℕ) → length v.lists.objects ≡ n → length u.lists.objects ≡ n → length (cond b v u).lists.objects ≡ n
objects-cond true v u n h h' = h
objects-cond false v u n h h' = h'

pub noted-objects : (w : World) (p : Option ObjectId) → length (prototype_noted w p).lists.objects ≡ length w.lists.objects
noted-objects w None = refl
noted-objects w (Some p) = objects-cond (is_proxy (kind w.lists p)) w (noted w (MadePrototype p)) (length w.lists.objects) refl refl

made-there : (w : World) (k : ErrorKind) → IsObject (changed (Making kind_of.Error OfError (error_proto k)) w).lists (new_object w.lists)
unfolding changed made
made-there w k =
    let n = length-append w.lists.objects (new_object_of kind_of.Error (error_proto k) ∷ []) in
    let same = noted-objects (with_objects w (w.lists.objects ++ new_object_of kind_of.Error (error_proto k) ∷ [])) (error_proto k) in omega arith

hidden-known : (l : Lists) (t : TextId) → IsText l t → IsKnownDescriptor l (hidden (value.Text t))
hidden-known l t h = record { value = h; get = tt; set = tt; sound = refl }

message-is_no_index : array_index_of (units_of_start start_text.Message) ≡ None
message-is_no_index = array_index_of-no_number (units_of_start start_text.Message) refl

-- a thrown value fits every task
pub throw-fits : (t : Task) (l : Lists) (v : Value) → IsKnown l v → FitsTask t l (Throw v)
throw-fits (Of q) l v h = h
throw-fits (Evaluating body cells name n) l v h = h
throw-fits (Statements body cells list i) l v h = h
throw-fits (Round body cells n) l v h = h

pub error-kept : (t : Task) (w : World) (k : ErrorKind) (text : List ℕ) → IsSound w → IsShort text → IsKept (FitsTask t) (throw_error k text) w
error-kept task w k text s short =
    let a : World = changed (Interning text) w in
    let t : TextId = number_of w.lists text in
    let b : World = changed (Interning (units_of_start start_text.Message)) a in
    let name : TextId = number_of a.lists (units_of_start start_text.Message) in
    let c : World = changed (Making kind_of.Error OfError (error_proto k)) b in
    let e : ObjectId = new_object b.lists in
    let sa : IsSound a = sound-interning w text s short in
    let sb : IsSound b = sound-interning a (units_of_start start_text.Message) sa (omega arith) in
    let sc : IsSound c = sound-making b kind_of.Error OfError (error_proto k) sb tt tt (sb.intact.start (intrinsic.Prototype (class.Error k))).0 refl in
    let bc = grows-changed (Making kind_of.Error OfError (error_proto k)) b in
    let t-known : IsText c.lists t = text-later b.lists c.lists bc t (text-later a.lists b.lists (grows-changed (Interning (units_of_start start_text.Message)) a) t (interned-known w text)) in
    let key : IsKnownKey b.lists (Name name) = ((interned-known a (units_of_start start_text.Message), ap array_index_of (interned-names a (units_of_start start_text.Message)) ∙ message-is_no_index), tt) in
    let there : IsObject c.lists e = made-there b k in
    let d : Descriptor = hidden (value.Text t) in (
      sound-defining c e (Name name) d sc there (key-later b.lists c.lists bc (Name name) key) (hidden-known c.lists t t-known) (no_array-leaves c.lists e (Name name) d.value (made-no_array b kind_of.Error OfError (error_proto k) refl).other),
      throw-fits task (changed (Defining e (Name name) d) c).lists (value.Object e)
          (object-later c.lists (changed (Defining e (Name name) d) c).lists (grows-changed (Defining e (Name name) d) c) e there),
    )
