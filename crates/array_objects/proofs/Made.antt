-- An Array object that is made and filled: what its programs come to, and that worlds stay sound.
use Rattle.std.proofs.Common.{ℕ, suc, true≢false, ◌≡◌, ◌≤◌, ◌++◌, Some, [], ◌∷◌, length, length-append, refl, sym, subst, ap, arith}
use Rattle.property_keys.specs.declared.identifiers.ObjectId.{ObjectId}
use Rattle.property_keys.specs.declared.keys.PropKey.{PropKey}
use Rattle.property_keys.specs.declared.keys.PropKey.TheVariants.{Index, Name}
use Rattle.property_keys.specs.declared.values.Value.{Value}
use Rattle.property_keys.specs.Keys.{most_index}
use Rattle.descriptors.specs.declared.fields.Descriptor.{Descriptor}
use Rattle.es_model.specs.declared.kinds.ObjectKind.TheVariants as kind_of
use Rattle.es_model.specs.declared.start_texts.StartText.TheVariants as start_text
use Rattle.es_model.specs.Changes.{Defining, changed, made, text_known, with_objects}
use Rattle.es_model.specs.Completions.{Completion}
use Rattle.es_model.specs.Events.{OfArray}
use Rattle.es_model.specs.Objects.{new_object_of}
use Rattle.es_model.specs.Kept.{IsKept, IsLater}
use Rattle.es_model.specs.Known.{IsKnown, IsKnownDescriptor, IsKnownKey, IsObject}
use Rattle.es_model.specs.Program.{Program}
use Rattle.es_model.specs.Sound.{IsSound, length_key, most_length}
use Rattle.es_model.specs.Stages.{stage_of}
use Rattle.es_model.specs.StartTexts.{units_of_start}
use Rattle.es_model.specs.Weights.{IsWithin}
use Rattle.es_model.specs.World.{Lists, World, new_object, number_of, text_place}
use Rattle.es_model.proofs.ArrayLengths.{LeavesLength}
use Rattle.es_model.proofs.Growing.{grows-changed}
use Rattle.es_model.proofs.Keeping.{later_then}
use Rattle.es_model.proofs.KnownLater.{object-later}
use Rattle.es_model.proofs.SharedKept.{later-changed, name-known, whole-of}
use Rattle.es_model.proofs.SoundArrays.{sound-making_array}
use Rattle.es_model.proofs.SoundErrors.{noted-objects}
use Rattle.es_model.proofs.SoundChanges.{sound-defining, sound-interning}
use Rattle.es_model.proofs.TextPlaces.{place-alone, place-interned}
use Rattle.array_objects.specs.Making.{append_element, appended_world, array_made, defining_length, element_property, length_known, length_property, made_world, making_array, new_array, raise_length, raised_world}

-- ---- what the programs come to

pub made_stage : (n : ℕ) (prototype : ObjectId) (next : ObjectId → Program) (w : World) → stage_of (array_made n prototype next) w ≡ stage_of (next (new_array w)) (made_world n prototype w)
unfolding made_world
made_stage n prototype next w = refl

pub raised_stage : (a : ObjectId) (n : ℕ) (next : Program) (w : World) → stage_of (raise_length a n next) w ≡ stage_of next (raised_world a n w)
unfolding raised_world
raised_stage a n next w = refl

pub appended_stage : (a : ObjectId) (n : ℕ) (v : Value) (next : Program) (w : World) → stage_of (append_element a n v next) w ≡ stage_of next (appended_world a n v w)
unfolding appended_world raised_world
appended_stage a n v next w = refl

-- ---- later worlds

pub made_later : (n : ℕ) (prototype : ObjectId) (w : World) → IsLater w (made_world n prototype w)
unfolding made_world
made_later n prototype w =
    let a : World = changed length_known w in
    let b : World = changed (making_array prototype) a in
    later_then w a (made_world n prototype w) (later-changed length_known w)
    (later_then a b (made_world n prototype w) (later-changed (making_array prototype) a) (later-changed (defining_length w (new_array w) n) b))

pub raised_later : (a : ObjectId) (n : ℕ) (w : World) → IsLater w (raised_world a n w)
unfolding raised_world
raised_later a n w =
    let v : World = changed length_known w in later_then w v (raised_world a n w) (later-changed length_known w) (later-changed (defining_length w a n) v)

pub appended_later : (a : ObjectId) (n : ℕ) (x : Value) (w : World) → IsLater w (appended_world a n x w)
unfolding appended_world
appended_later a n x w =
    let d = Defining a (Index n) (element_property x) in
    later_then w (changed d w) (appended_world a n x w) (later-changed d w) (raised_later a (suc n) (changed d w))

-- ---- sound worlds

known-length : (l : Lists) (n : ℕ) → n ≤ most_length → IsKnownDescriptor l (length_property n)
known-length l n h = record { value = whole-of n (omega arith); get = tt; set = tt; sound = refl }

known-element : (l : Lists) (v : Value) → IsKnown l v → IsKnownDescriptor l (element_property v)
known-element l v h = record { value = h; get = tt; set = tt; sound = refl }

-- once its text is known, the key `length` is the one that it had before
same-key : (w : World) → IsSound (changed length_known w) → length_key (changed length_known w).lists ≡ Name (number_of w.lists (units_of_start start_text.Length))
unfolding changed text_known number_of
same-key w s =
    let units = units_of_start start_text.Length in
    let at = place-interned w.lists.texts units in
    ap (λ n. Name (record { 0 = n })) (place-alone (changed length_known w).lists.texts units (text_place w.lists.texts units) s.intact.texts at.known at.names)

sound-known : (w : World) → IsSound w → IsSound (changed length_known w)
sound-known w s = sound-interning w (units_of_start start_text.Length) s (omega arith)

length-known : (w : World) → IsKnownKey (changed length_known w).lists (Name (number_of w.lists (units_of_start start_text.Length)))
length-known w = name-known w (units_of_start start_text.Length) refl

pub made_sound : (n : ℕ) (prototype : ObjectId) (w : World) → IsSound w → n ≤ most_length → IsObject w.lists prototype → IsSound (made_world n prototype w)
unfolding made_world
made_sound n prototype w s fits there =
    let a : World = changed length_known w in
    let sa : IsSound a = sound-known w s in
    let same = same-key w sa in
    subst (λ (k : PropKey). IsSound (changed (Defining (new_array w) k (length_property n)) (changed (making_array prototype) a))) same
    (sound-making_array a OfArray (Some prototype) (length_property n) sa (object-later w.lists a.lists (grows-changed length_known w) prototype there)
    (subst (IsKnownKey a.lists) (sym same) (length-known w)) (known-length a.lists n fits) (fits, refl))

leaves-length : (l : Lists) (a : ObjectId) (k : PropKey) (n : ℕ) → n ≤ most_length → LeavesLength l a k (length_property n).value
leaves-length l a k n fits = λ array same. fits

pub raised_sound : (a : ObjectId) (n : ℕ) (w : World) → IsSound w → n ≤ most_length → IsObject w.lists a → IsSound (raised_world a n w)
unfolding raised_world
raised_sound a n w s fits there =
    let v : World = changed length_known w in
    let k : PropKey = Name (number_of w.lists (units_of_start start_text.Length)) in
    sound-defining v a k (length_property n) (sound-known w s) (object-later w.lists v.lists (grows-changed length_known w) a there) (length-known w) (known-length v.lists n fits) (leaves-length v.lists a k n fits)

pub appended_sound : (a : ObjectId) (n : ℕ) (x : Value) (w : World) → IsSound w → n ≤ most_index → IsObject w.lists a → IsKnown w.lists x → IsSound (appended_world a n x w)
unfolding appended_world
appended_sound a n x w s fits there known =
    let d = Defining a (Index n) (element_property x) in
    let v : World = changed d w in
    raised_sound a (suc n) v (sound-defining w a (Index n) (element_property x) s there (fits, tt) (known-element w.lists x known) (λ array same. absurd (true≢false (sym same)))) (omega arith)
    (object-later w.lists v.lists (grows-changed d w) a there)

-- ---- the new object is there

new-there : (w : World) (prototype : ObjectId) → IsObject (changed (making_array prototype) w).lists (new_object w.lists)
unfolding changed made
new-there w prototype =
    let n = length-append w.lists.objects (new_object_of kind_of.Array (Some prototype) ∷ []) in
    let same = noted-objects (with_objects w (w.lists.objects ++ new_object_of kind_of.Array (Some prototype) ∷ [])) (Some prototype) in omega arith

pub made_there : (n : ℕ) (prototype : ObjectId) (w : World) → IsObject (made_world n prototype w).lists (new_array w)
unfolding made_world
made_there n prototype w =
    let a : World = changed length_known w in
    let b : World = changed (making_array prototype) a in
    object-later b.lists (made_world n prototype w).lists (grows-changed (defining_length w (new_array w) n) b) (new_array w) (new-there a prototype)

-- ---- the programs with what goes on behind them

pub made_kept : (P : Lists → Completion → Type 0) (n : ℕ) (prototype : ObjectId) (next : ObjectId → Program) (w : World) → IsSound w → n ≤ most_length → IsObject w.lists prototype →
    ((a : ObjectId) (v : World) → IsSound v → IsLater w v → IsObject v.lists a → IsKept P (next a) v) → IsKept P (array_made n prototype next) w
unfolding made_world
made_kept P n prototype next w s fits there onward =
    onward (new_array w) (made_world n prototype w) (made_sound n prototype w s fits there) (made_later n prototype w) (made_there n prototype w)

pub raised_kept : (P : Lists → Completion → Type 0) (a : ObjectId) (n : ℕ) (next : Program) (w : World) → IsSound w → n ≤ most_length → IsObject w.lists a →
    ((v : World) → IsSound v → IsLater w v → IsKept P next v) → IsKept P (raise_length a n next) w
unfolding raised_world
raised_kept P a n next w s fits there onward = onward (raised_world a n w) (raised_sound a n w s fits there) (raised_later a n w)

pub appended_kept : (P : Lists → Completion → Type 0) (a : ObjectId) (n : ℕ) (x : Value) (next : Program) (w : World) → IsSound w → n ≤ most_index → IsObject w.lists a → IsKnown w.lists x →
    ((v : World) → IsSound v → IsLater w v → IsKept P next v) → IsKept P (append_element a n x next) w
unfolding appended_world raised_world
appended_kept P a n x next w s fits there known onward = onward (appended_world a n x w) (appended_sound a n x w s fits there known) (appended_later a n x w)

-- ---- they take no turn and ask for nothing

pub made_within : (r b n : ℕ) (prototype : ObjectId) (next : ObjectId → Program) → ((a : ObjectId) → IsWithin r b (next a)) → IsWithin r b (array_made n prototype next)
made_within r b n prototype next h = λ l m k. h (new_object m)

pub raised_within : (r b : ℕ) (a : ObjectId) (n : ℕ) (next : Program) → IsWithin r b next → IsWithin r b (raise_length a n next)
raised_within r b a n next h = λ l m. h

pub appended_within : (r b : ℕ) (a : ObjectId) (n : ℕ) (x : Value) (next : Program) → IsWithin r b next → IsWithin r b (append_element a n x next)
appended_within r b a n x next h = λ l m n. h
