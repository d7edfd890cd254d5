-- A definition changes nothing exactly where the property that it makes is the one that stands there.
use Rattle.std.proofs.Common.{◌≡◌, Bool, true, false, not, ◌&&◌, ◌||◌, Option, None, refl}
use Rattle.std.specs.Bool.{beq}
use Rattle.std.specs.Cmp.{booleans_Decides}
use Rattle.property_keys.specs.declared.keys.Attributes.{Attributes}
use Rattle.property_keys.specs.declared.values.Value.{Value}
use Rattle.property_keys.specs.declared.values.Value.TheVariants as value
use Rattle.property_keys.specs.declared.identifiers.ObjectId.{ObjectId}
use Rattle.descriptors.specs.declared.fields.Descriptor.{Descriptor}
use Rattle.descriptors.specs.declared.property.Complete.{Complete}
use Rattle.descriptors.specs.declared.property.Complete.TheVariants as complete
use Rattle.property_keys.specs.Values.{same_value}
use Rattle.property_keys.proofs.SameValues.{Decides-same_value}
use Rattle.descriptors.specs.Sameness.{stands}
use Rattle.descriptors.specs.Kinds.{is_accessor_descriptor, is_data_descriptor, is_sound, is_function_field, is_of_both_kinds}
use Rattle.descriptors.specs.Completion.{completed, fields_of, stored_or, accessor_or}
use Rattle.descriptors.specs.Validation.{changes_nothing, applied}
use Rattle.descriptors.proofs.SameFields.{unwrap_or-stands, stands-unwrap_or, is_some-stands, stands-absent, function_or-stands, stands-function_or, stands-made, stands-made_function}

-- each wanted field stands there
pub record Stands (wanted here : Descriptor) : Type 0 where
  pub value : stands same_value wanted.value here.value ≡ true
  pub writable : stands beq wanted.writable here.writable ≡ true
  pub get : stands same_value wanted.get here.get ≡ true
  pub set : stands same_value wanted.set here.set ≡ true
  pub enumerable : stands beq wanted.enumerable here.enumerable ≡ true
  pub configurable : stands beq wanted.configurable here.configurable ≡ true

six_parts : (a b c d e f : Bool) → (a && b && c && d && e && f) ≡ true
    → (a ≡ true) × (b ≡ true) × (c ≡ true) × (d ≡ true) × (e ≡ true) × (f ≡ true)
six_parts true true true true true true h = (refl, refl, refl, refl, refl, refl)
six_parts a b c d e f h = cc

pub stands_from : (wanted : Descriptor) (current : Complete) → changes_nothing wanted current ≡ true → Stands wanted (fields_of current)
stands_from wanted current h =
    let p = six_parts _ _ _ _ _ _ h in
    record { value = p.0; writable = p.1; get = p.2; set = p.3; enumerable = p.4; configurable = p.5 }

pub changes_nothing_from : (wanted : Descriptor) (current : Complete) → Stands wanted (fields_of current) → changes_nothing wanted current ≡ true
changes_nothing_from wanted current s =
    simp (s.value, s.writable, s.get, s.set, s.enumerable, s.configurable)

pub neither : (a b : Bool) → a ≡ false → b ≡ false → (a || b) ≡ false
neither false false e f = refl
neither a b e f = cc

-- where each wanted field stands there, the property that is made is the one that stands there
pub applied-stands : (wanted : Descriptor) (current : Complete) → changes_nothing wanted current ≡ true → applied wanted current ≡ current
applied-stands wanted (complete.Stored value attributes) h =
    let s = stands_from wanted (complete.Stored value attributes) h in
    let kind : is_accessor_descriptor wanted ≡ false =
    neither _ _ (is_some-stands same_value wanted.get s.get) (is_some-stands same_value wanted.set s.set) in
    let value_is = unwrap_or-stands Decides-same_value wanted.value value s.value in
    let writable_is = unwrap_or-stands booleans_Decides wanted.writable attributes.writable s.writable in
    let enumerable_is = unwrap_or-stands booleans_Decides wanted.enumerable attributes.enumerable s.enumerable in
    let configurable_is = unwrap_or-stands booleans_Decides wanted.configurable attributes.configurable s.configurable in
    simp (kind, value_is, writable_is, enumerable_is, configurable_is)
applied-stands wanted (complete.Accessor get set enumerable configurable) h =
    let s = stands_from wanted (complete.Accessor get set enumerable configurable) h in
    let kind : is_data_descriptor wanted ≡ false =
    neither _ _ (is_some-stands same_value wanted.value s.value) (is_some-stands beq wanted.writable s.writable) in
    let get_is = function_or-stands wanted.get get s.get in
    let set_is = function_or-stands wanted.set set s.set in
    let enumerable_is = unwrap_or-stands booleans_Decides wanted.enumerable enumerable s.enumerable in
    let configurable_is = unwrap_or-stands booleans_Decides wanted.configurable configurable s.configurable in
    simp (kind, get_is, set_is, enumerable_is, configurable_is)

-- the parts of a sound descriptor
pub record Sound (wanted : Descriptor) : Type 0 where
  pub get : is_function_field wanted.get ≡ true
  pub set : is_function_field wanted.set ≡ true
  pub one_kind : is_of_both_kinds wanted ≡ false

sound_parts : (a b c : Bool) → (a && b && not c) ≡ true → (a ≡ true) × (b ≡ true) × (c ≡ false)
sound_parts true true false h = (refl, refl, refl)
sound_parts a b c h = cc

pub sound_from : (wanted : Descriptor) → is_sound wanted ≡ true → Sound wanted
sound_from wanted h = let p = sound_parts _ _ _ h in record { get = p.0; set = p.1; one_kind = p.2 }

pub no_left : (a b : Bool) → (a || b) ≡ false → a ≡ false
no_left false b h = refl
no_left true b h = cc

pub no_right : (a b : Bool) → (a || b) ≡ false → b ≡ false
no_right false b h = h
no_right true b h = cc

-- the kind that a property keeps
pub stored_stays : (b : Bool) (wanted : Descriptor) (value : Value) (attributes : Attributes)
    → is_accessor_descriptor wanted ≡ b → applied wanted (complete.Stored value attributes) ≡ complete.Stored value attributes → b ≡ false
stored_stays false wanted value attributes kind h = refl
stored_stays true wanted value attributes kind h = let e = simp kind at h in cc

pub accessor_stays : (b : Bool) (wanted : Descriptor) (get set : Option ObjectId) (enumerable configurable : Bool)
    → is_data_descriptor wanted ≡ b
    → applied wanted (complete.Accessor get set enumerable configurable) ≡ complete.Accessor get set enumerable configurable → b ≡ false
accessor_stays false wanted get set enumerable configurable kind h = refl
accessor_stays true wanted get set enumerable configurable kind h = let e = simp kind at h in cc

-- and the other way round: a property that stays as it was has each wanted field
pub changes_nothing-applied : (wanted : Descriptor) (current : Complete) → is_sound wanted ≡ true → applied wanted current ≡ current → changes_nothing wanted current ≡ true
changes_nothing-applied wanted (complete.Stored value attributes) sound h =
    let kind = stored_stays (is_accessor_descriptor wanted) wanted value attributes refl h in
    let same : stored_or wanted value attributes ≡ complete.Stored value attributes = simp kind at h in
    changes_nothing_from wanted (complete.Stored value attributes) (record {
      value = stands-unwrap_or Decides-same_value wanted.value value (cc);
      writable = stands-unwrap_or booleans_Decides wanted.writable attributes.writable (cc);
      get = stands-absent same_value wanted.get None (no_left _ _ kind);
      set = stands-absent same_value wanted.set None (no_right _ _ kind);
      enumerable = stands-unwrap_or booleans_Decides wanted.enumerable attributes.enumerable (cc);
      configurable = stands-unwrap_or booleans_Decides wanted.configurable attributes.configurable (cc);
    })
changes_nothing-applied wanted (complete.Accessor get set enumerable configurable) sound h =
    let sound_is = sound_from wanted sound in
    let kind = accessor_stays (is_data_descriptor wanted) wanted get set enumerable configurable refl h in
    let same : accessor_or wanted get set enumerable configurable ≡ complete.Accessor get set enumerable configurable = simp kind at h in
    changes_nothing_from wanted (complete.Accessor get set enumerable configurable) (record {
      value = stands-absent same_value wanted.value None (no_left _ _ kind);
      writable = stands-absent beq wanted.writable None (no_right _ _ kind);
      get = stands-function_or wanted.get get sound_is.get (cc);
      set = stands-function_or wanted.set set sound_is.set (cc);
      enumerable = stands-unwrap_or booleans_Decides wanted.enumerable enumerable (cc);
      configurable = stands-unwrap_or booleans_Decides wanted.configurable configurable (cc);
    })

-- ---- a property that was made of the descriptor has each wanted field

pub stands-stored_or : (wanted : Descriptor) (value : Value) (given : Attributes)
    → is_accessor_descriptor wanted ≡ false → changes_nothing wanted (stored_or wanted value given) ≡ true
stands-stored_or wanted value given kind = changes_nothing_from wanted (stored_or wanted value given) (record {
  value = stands-made Decides-same_value wanted.value value;
  writable = stands-made booleans_Decides wanted.writable given.writable;
  get = stands-absent same_value wanted.get None (no_left _ _ kind);
  set = stands-absent same_value wanted.set None (no_right _ _ kind);
  enumerable = stands-made booleans_Decides wanted.enumerable given.enumerable;
  configurable = stands-made booleans_Decides wanted.configurable given.configurable;
})

pub stands-accessor_or : (wanted : Descriptor) (get set : Option ObjectId) (enumerable configurable : Bool)
    → Sound wanted → is_data_descriptor wanted ≡ false
    → changes_nothing wanted (accessor_or wanted get set enumerable configurable) ≡ true
stands-accessor_or wanted get set enumerable configurable sound kind =
    changes_nothing_from wanted (accessor_or wanted get set enumerable configurable) (record {
      value = stands-absent same_value wanted.value None (no_left _ _ kind);
      writable = stands-absent beq wanted.writable None (no_right _ _ kind);
      get = stands-made_function wanted.get get sound.get;
      set = stands-made_function wanted.set set sound.set;
      enumerable = stands-made booleans_Decides wanted.enumerable enumerable;
      configurable = stands-made booleans_Decides wanted.configurable configurable;
    })

-- a sound descriptor is of one kind at most
pub other_kind : (wanted : Descriptor) → Sound wanted → is_accessor_descriptor wanted ≡ true → is_data_descriptor wanted ≡ false
other_kind wanted sound kind = not_both _ _ kind sound.one_kind
  where
    not_both : (a b : Bool) → a ≡ true → (a && b) ≡ false → b ≡ false
    not_both true b e h = h
    not_both false b e h = cc

pub one_kind : (wanted : Descriptor) → Sound wanted → is_data_descriptor wanted ≡ true → is_accessor_descriptor wanted ≡ false
one_kind wanted sound kind = not_both _ _ kind sound.one_kind
  where
    not_both : (a b : Bool) → b ≡ true → (a && b) ≡ false → a ≡ false
    not_both false b e h = refl
    not_both true b e h = cc

stands-completed_as : (b : Bool) (wanted : Descriptor) → is_accessor_descriptor wanted ≡ b → Sound wanted → changes_nothing wanted (completed wanted) ≡ true
stands-completed_as true wanted kind sound =
    let made : completed wanted ≡ accessor_or wanted None None false false = simp kind in
    rw made (stands-accessor_or wanted None None false false sound (other_kind wanted sound kind))
stands-completed_as false wanted kind sound =
    let made : completed wanted ≡ stored_or wanted value.Undefined (record { writable = false; enumerable = false; configurable = false }) = simp kind in
    rw made (stands-stored_or wanted value.Undefined _ kind)

pub stands-completed : (wanted : Descriptor) → Sound wanted → changes_nothing wanted (completed wanted) ≡ true
stands-completed wanted sound = stands-completed_as (is_accessor_descriptor wanted) wanted refl sound

stands-applied_to_stored : (b : Bool) (wanted : Descriptor) (value : Value) (attributes : Attributes)
    → is_accessor_descriptor wanted ≡ b → Sound wanted
    → changes_nothing wanted (applied wanted (complete.Stored value attributes)) ≡ true
stands-applied_to_stored true wanted value attributes kind sound =
    let made : applied wanted (complete.Stored value attributes) ≡ accessor_or wanted None None attributes.enumerable attributes.configurable = simp kind in
    rw made (stands-accessor_or wanted None None attributes.enumerable attributes.configurable sound (other_kind wanted sound kind))
stands-applied_to_stored false wanted value attributes kind sound =
    let made : applied wanted (complete.Stored value attributes) ≡ stored_or wanted value attributes = simp kind in
    rw made (stands-stored_or wanted value attributes kind)

stands-applied_to_accessor : (b : Bool) (wanted : Descriptor) (get set : Option ObjectId) (enumerable configurable : Bool)
    → is_data_descriptor wanted ≡ b → Sound wanted
    → changes_nothing wanted (applied wanted (complete.Accessor get set enumerable configurable)) ≡ true
stands-applied_to_accessor true wanted get set enumerable configurable kind sound =
    let given : Attributes = record { writable = false; enumerable = enumerable; configurable = configurable } in
    let made : applied wanted (complete.Accessor get set enumerable configurable) ≡ stored_or wanted value.Undefined given = simp kind in
    rw made (stands-stored_or wanted value.Undefined given (one_kind wanted sound kind))
stands-applied_to_accessor false wanted get set enumerable configurable kind sound =
    let made : applied wanted (complete.Accessor get set enumerable configurable) ≡ accessor_or wanted get set enumerable configurable = simp kind in
    rw made (stands-accessor_or wanted get set enumerable configurable sound kind)

pub stands-applied : (wanted : Descriptor) (current : Complete) → Sound wanted → changes_nothing wanted (applied wanted current) ≡ true
stands-applied wanted (complete.Stored value attributes) sound =
    stands-applied_to_stored (is_accessor_descriptor wanted) wanted value attributes refl sound
stands-applied wanted (complete.Accessor get set enumerable configurable) sound =
    stands-applied_to_accessor (is_data_descriptor wanted) wanted get set enumerable configurable refl sound
