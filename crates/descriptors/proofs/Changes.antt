-- Which verdict a definition gets on a property that stands there.
use Rattle.std.proofs.Common.{◌≡◌, ◌≢◌, Bool, true, false, not, ◌&&◌, ◌||◌, Option, Some, None, refl, unwrap_or, if◌then◌else◌}
use Rattle.std.specs.Bool.{beq}
use Rattle.std.specs.Cmp.{booleans_Decides}
use Rattle.std.proofs.lemmas.Bool.{and_right}
use Rattle.property_keys.specs.declared.identifiers.ObjectId.{ObjectId}
use Rattle.property_keys.specs.declared.keys.Attributes.{Attributes}
use Rattle.property_keys.specs.declared.values.Value.{Value}
use Rattle.descriptors.specs.declared.fields.Descriptor.{Descriptor}
use Rattle.descriptors.specs.declared.property.Complete.{Complete}
use Rattle.descriptors.specs.declared.property.Complete.TheVariants as complete
use Rattle.descriptors.specs.declared.validation.Verdict.{Verdict}
use Rattle.descriptors.specs.declared.validation.Verdict.TheVariants as verdict
use Rattle.property_keys.specs.Values.{same_value}
use Rattle.descriptors.specs.Sameness.{differs}
use Rattle.descriptors.specs.Kinds.{is_sound, is_without_fields, is_accessor_descriptor}
use Rattle.descriptors.specs.Completion.{completed, stored_or, fields_of, value_of_function}
use Rattle.descriptors.specs.Validation.{changes_nothing, applied, is_refused, is_configurable, change_of, verdict_of, IsFixedStep}
use Rattle.descriptors.proofs.SameFields.{unwrap_or-stands, stands-absent, is_some-stands, differs-stands, stands-differs, not_raised, stands_down}
use Rattle.descriptors.proofs.Standing.{stands_from, changes_nothing_from, neither, no_left, no_right, applied-stands, changes_nothing-applied, sound_from, stands-completed, stands-applied}

-- ---- a definition that changes nothing is not refused

no_refusal : (configurable a b c d e f : Bool) → (not configurable && a) ≡ false → b ≡ false → c ≡ false → d ≡ false → e ≡ false → f ≡ false
    → (not configurable && (a || b || c || d || e || f)) ≡ false
no_refusal true a b c d e f h1 h2 h3 h4 h5 h6 = refl
no_refusal false false false false false false false h1 h2 h3 h4 h5 h6 = refl
no_refusal configurable a b c d e f h1 h2 h3 h4 h5 h6 = cc

pub is_refused-stands : (wanted : Descriptor) (current : Complete) → changes_nothing wanted current ≡ true → is_refused wanted current ≡ false
is_refused-stands wanted (complete.Stored value attributes) h =
    let s = stands_from wanted (complete.Stored value attributes) h in
    no_refusal attributes.configurable _ _ _ _ _ _
    (not_raised attributes.configurable wanted.configurable s.configurable)
    (differs-stands beq wanted.enumerable attributes.enumerable s.enumerable)
    (neither _ _ (is_some-stands same_value wanted.get s.get) (is_some-stands same_value wanted.set s.set))
    refl
    (not_raised attributes.writable wanted.writable s.writable)
    (and_right (not attributes.writable) _ (differs-stands same_value wanted.value value s.value))
is_refused-stands wanted (complete.Accessor get set enumerable configurable) h =
    let s = stands_from wanted (complete.Accessor get set enumerable configurable) h in
    no_refusal configurable _ _ _ _ _ _
    (not_raised configurable wanted.configurable s.configurable)
    (differs-stands beq wanted.enumerable enumerable s.enumerable)
    (neither _ _ (is_some-stands same_value wanted.value s.value) (is_some-stands beq wanted.writable s.writable))
    (neither _ _
    (differs-stands same_value wanted.get (value_of_function get) s.get)
    (differs-stands same_value wanted.set (value_of_function set) s.set))
    refl
    refl

-- ---- a descriptor without fields changes nothing

all_absent : (a b c d e f : Bool) → (not (a || b) && not (c || d) && not e && not f) ≡ true
    → (a ≡ false) × (b ≡ false) × (c ≡ false) × (d ≡ false) × (e ≡ false) × (f ≡ false)
all_absent false false false false false false h = (refl, refl, refl, refl, refl, refl)
all_absent a b c d e f h = cc

pub changes_nothing-without_fields : (wanted : Descriptor) (current : Complete) → is_without_fields wanted ≡ true → changes_nothing wanted current ≡ true
changes_nothing-without_fields wanted current h =
    let p = all_absent _ _ _ _ _ _ h in
    let here = fields_of current in
    changes_nothing_from wanted current (record {
      get = stands-absent same_value wanted.get here.get p.0;
      set = stands-absent same_value wanted.set here.set p.1;
      value = stands-absent same_value wanted.value here.value p.2;
      writable = stands-absent beq wanted.writable here.writable p.3;
      enumerable = stands-absent beq wanted.enumerable here.enumerable p.4;
      configurable = stands-absent beq wanted.configurable here.configurable p.5;
    })

-- ---- the four tests in their order

abbrev pick : Bool → Bool → Bool → Complete → Verdict
pick empty refused same property =
    if empty then verdict.Keep else if refused then verdict.Refuse else if same then verdict.Keep else verdict.Apply property

pick-keep : (empty refused same : Bool) (property : Complete) → refused ≡ false → same ≡ true → pick empty refused same property ≡ verdict.Keep
pick-keep true refused same property h k = refl
pick-keep false false true property h k = refl
pick-keep empty refused same property h k = cc

same_kept : (empty refused same : Bool) (property : Complete) → (empty ≡ true → same ≡ true) → pick empty refused same property ≡ verdict.Keep
    → same ≡ true
same_kept true refused same property e h = e refl
same_kept false false true property e h = refl
same_kept empty refused same property e h = cc

-- what a verdict to apply says
pub record Applies (wanted : Descriptor) (current property : Complete) : Type 0 where
  pub allowed : is_refused wanted current ≡ false
  pub changes : changes_nothing wanted current ≡ false
  pub made : applied wanted current ≡ property

picked : (empty refused same : Bool) (made property : Complete) → pick empty refused same made ≡ verdict.Apply property
    → (refused ≡ false) × (same ≡ false) × (made ≡ property)
picked false false false made property h = (refl, refl, cc)
picked empty refused same made property h = cc

pub applies_from : (wanted : Descriptor) (current property : Complete) → change_of wanted current ≡ verdict.Apply property → Applies wanted current property
applies_from wanted current property h =
    let p = picked (is_without_fields wanted) (is_refused wanted current) (changes_nothing wanted current) (applied wanted current) property h in
    record { allowed = p.0; changes = p.1; made = p.2 }

pub keep_from : (wanted : Descriptor) (current : Complete) → changes_nothing wanted current ≡ true → change_of wanted current ≡ verdict.Keep
keep_from wanted current h = pick-keep (is_without_fields wanted) _ _ (applied wanted current) (is_refused-stands wanted current h) h

pub kept_same : (wanted : Descriptor) (current : Complete) → change_of wanted current ≡ verdict.Keep → changes_nothing wanted current ≡ true
kept_same wanted current h =
    same_kept (is_without_fields wanted) (is_refused wanted current) (changes_nothing wanted current) (applied wanted current)
    (changes_nothing-without_fields wanted current) h

-- ---- the verdict by the property that is made

pub keep_from_same : (wanted : Descriptor) (current : Complete) → is_sound wanted ≡ true → applied wanted current ≡ current
    → change_of wanted current ≡ verdict.Keep
keep_from_same wanted current sound h = keep_from wanted current (changes_nothing-applied wanted current sound h)

-- ---- the laws

applied_again_in : (wanted : Descriptor) (current : Option Complete) (extensible : Bool) (property : Complete) → is_sound wanted ≡ true
    → verdict_of extensible wanted current ≡ verdict.Apply property → changes_nothing wanted property ≡ true
applied_again_in wanted None true property sound h =
    let made : completed wanted ≡ property = cc in
    rw (← made) (stands-completed wanted (sound_from wanted sound))
applied_again_in wanted None false property sound h = cc
applied_again_in wanted (Some current) extensible property sound h =
    let a = applies_from wanted current property h in
    rw (← a.made) (stands-applied wanted current (sound_from wanted sound))

pub kept_again : (extensible again : Bool) (wanted : Descriptor) (current : Option Complete) (property : Complete) → is_sound wanted ≡ true
    → verdict_of extensible wanted current ≡ verdict.Apply property → verdict_of again wanted (Some property) ≡ verdict.Keep
kept_again extensible again wanted current property sound h =
    keep_from wanted property (applied_again_in wanted current extensible property sound h)

-- the parts of what is not refused where current is not configurable
all_down : (a b c d e f : Bool) → (not false && (a || b || c || d || e || f)) ≡ false
    → (a ≡ false) × (b ≡ false) × (c ≡ false) × (d ≡ false) × (e ≡ false) × (f ≡ false)
all_down false false false false false false h = (refl, refl, refl, refl, refl, refl)
all_down a b c d e f h = cc

pub not_true : {b : Bool} → b ≡ true → b ≡ false → ⊥
not_true h k = cc

step_of_writable : (wanted : Descriptor) (value : Value) (attributes : Attributes) (property : Complete)
    → attributes.configurable ≡ false → attributes.writable ≡ true → is_accessor_descriptor wanted ≡ false
    → unwrap_or wanted.configurable false ≡ false → differs beq wanted.enumerable attributes.enumerable ≡ false
    → applied wanted (complete.Stored value attributes) ≡ property → IsFixedStep (complete.Stored value attributes) property
step_of_writable wanted value attributes property fixed writable kind down enumerable made =
    let enumerable_is = unwrap_or-stands booleans_Decides wanted.enumerable attributes.enumerable (stands-differs beq wanted.enumerable attributes.enumerable enumerable) in
    let property_is : stored_or wanted value attributes ≡ property = simp kind at made in
    rw (← property_is) (writable, rw fixed down, enumerable_is)

fixed_stored : (b : Bool) (wanted : Descriptor) (value : Value) (attributes : Attributes) (property : Complete)
    → attributes.configurable ≡ false → attributes.writable ≡ b
    → Applies wanted (complete.Stored value attributes) property → IsFixedStep (complete.Stored value attributes) property
fixed_stored true wanted value attributes property fixed writable a =
    let p = all_down _ _ _ _ _ _ (rw fixed at a.allowed) in
    step_of_writable wanted value attributes property fixed writable p.2 p.0 p.1 a.made
fixed_stored false wanted value attributes property fixed writable a =
    let p = all_down _ _ _ _ _ _ (rw (fixed, writable) at a.allowed) in
    absurd (not_true (changes_nothing_from wanted (complete.Stored value attributes) (record {
      value = stands-differs same_value wanted.value value p.5;
      writable = rw writable (stands_down wanted.writable p.4);
      get = stands-absent same_value wanted.get None (no_left _ _ p.2);
      set = stands-absent same_value wanted.set None (no_right _ _ p.2);
      enumerable = stands-differs beq wanted.enumerable attributes.enumerable p.1;
      configurable = rw fixed (stands_down wanted.configurable p.0);
    })) a.changes)

fixed_accessor : (wanted : Descriptor) (get set : Option ObjectId) (enumerable : Bool) (property : Complete)
    → Applies wanted (complete.Accessor get set enumerable false) property → ⊥
fixed_accessor wanted get set enumerable property a =
    let p = all_down _ _ _ _ _ _ a.allowed in
    not_true (changes_nothing_from wanted (complete.Accessor get set enumerable false) (record {
      value = stands-absent same_value wanted.value None (no_left _ _ p.2);
      writable = stands-absent beq wanted.writable None (no_right _ _ p.2);
      get = stands-differs same_value wanted.get (value_of_function get) (no_left _ _ p.3);
      set = stands-differs same_value wanted.set (value_of_function set) (no_right _ _ p.3);
      enumerable = stands-differs beq wanted.enumerable enumerable p.1;
      configurable = stands_down wanted.configurable p.0;
    })) a.changes

pub fixed_step : (wanted : Descriptor) (current property : Complete) → is_configurable current ≡ false
    → change_of wanted current ≡ verdict.Apply property → IsFixedStep current property
fixed_step wanted (complete.Stored value attributes) property fixed h =
    fixed_stored attributes.writable wanted value attributes property fixed refl (applies_from wanted (complete.Stored value attributes) property h)
fixed_step wanted (complete.Accessor get set enumerable false) property fixed h =
    absurd (fixed_accessor wanted get set enumerable property (applies_from wanted (complete.Accessor get set enumerable false) property h))
fixed_step wanted (complete.Accessor get set enumerable true) property fixed h = cc
