-- Worked examples of ValidateAndApplyPropertyDescriptor (ECMA-262, 10.1.6.3): for each step what is refused, what is near to that and is let through, and what
-- property comes of it. Worked out by hand from the numbered steps. That a flag alone decides, two rows that differ in it alone show.
use Rattle.std.specs.Prelude.{◌≡◌, Bool, true, false, Option, Some, None, List, [], ◌∷◌, map}
use Rattle.property_keys.specs.declared.identifiers.ObjectId.{ObjectId}
use Rattle.property_keys.specs.declared.values.Value.{Value}
use Rattle.property_keys.specs.declared.values.Value.TheVariants as value
use Rattle.descriptors.specs.declared.fields.Descriptor.{Descriptor}
use Rattle.descriptors.specs.declared.property.Complete.{Complete}
use Rattle.descriptors.specs.declared.property.Complete.TheVariants as complete
use Rattle.descriptors.specs.declared.validation.Verdict.{Verdict}
use Rattle.descriptors.specs.declared.validation.Verdict.TheVariants.{Refuse, Keep, Apply}
use Rattle.descriptors.specs.Validation.{is_allowed, verdict_of}
use Rattle.small_changes.specs.Worlds.{at, fixed_flags, nothing, object, whole, with_flags}
use Rattle.small_changes.specs.Worlds.{wants_configurable, wants_enumerable, wants_get, wants_set, wants_value, wants_writable}

-- what a definition comes to, and what it was worked out to come to
pub record Case : Type 0 where
  pub verdict : Verdict
  pub worked_out : Verdict

abbrev pub AllAgree : List Case → Type 0
AllAgree cases = map (λ (c : Case). c.verdict) cases ≡ map (λ (c : Case). c.worked_out) cases

-- on an extensible object without the property
abbrev pub onto_none : Descriptor → Verdict → Case
onto_none wanted worked_out = record { verdict = verdict_of true wanted None; worked_out = worked_out }

-- over a property, on an object that is not extensible, since that does not matter then
abbrev pub over : Complete → Descriptor → Verdict → Case
over current wanted worked_out = record { verdict = verdict_of false wanted (Some current); worked_out = worked_out }

-- a value with three flags: writable, enumerable, configurable
abbrev pub data_of : Value → Bool → Bool → Bool → Complete
data_of v w e c = complete.Stored v (with_flags w e c)

-- functions, which may be missing, with two flags: enumerable, configurable
abbrev pub functions : Option ObjectId → Option ObjectId → Bool → Bool → Complete
functions getter setter e c = complete.Accessor getter setter e c

-- the functions are objects 7 and 8
abbrev pub seventh : Option ObjectId
seventh = Some (at 7)

abbrev pub eighth : Option ObjectId
eighth = Some (at 8)

abbrev pub one : Value
one = whole 1

abbrev pub two : Value
two = whole 2

-- ---- step 2: no property is there

-- step 2.a: whatever is wanted
abbrev pub ClosedTakesNone : Type 0
ClosedTakesNone = verdict_of false nothing None ∷ verdict_of false (wants_get (object 7)) None ∷ [] ≡ Refuse ∷ Refuse ∷ []

-- steps 2.c and 2.d: a field that is not wanted is undefined or false
abbrev pub CompletedOnes : Type 0
CompletedOnes = AllAgree (
    onto_none nothing (Apply (complete.Stored value.Undefined fixed_flags))
    ∷ onto_none (wants_value one) (Apply (data_of one false false false))
    ∷ onto_none (wants_writable true) (Apply (data_of value.Undefined true false false))
    ∷ onto_none (wants_enumerable true) (Apply (data_of value.Undefined false true false))
    ∷ onto_none (wants_configurable true) (Apply (data_of value.Undefined false false true))
    ∷ onto_none (wants_writable false) (Apply (data_of value.Undefined false false false))
    ∷ onto_none (wants_get (object 7)) (Apply (functions seventh None false false))
    ∷ onto_none (wants_set (object 8)) (Apply (functions None eighth false false))
    ∷ onto_none (wants_get value.Undefined) (Apply (functions None None false false))
    ∷ onto_none (record (wants_get (object 7)) { enumerable = Some true }) (Apply (functions seventh None true false))
    ∷ onto_none (record (wants_get (object 7)) { configurable = Some true }) (Apply (functions seventh None false true))
    ∷ [])

-- ---- step 4: no field is wanted

abbrev pub NothingIsWanted : Type 0
NothingIsWanted = AllAgree (
    over (data_of one false false false) nothing Keep
    ∷ over (data_of one true true true) nothing Keep
    ∷ over (functions seventh None false false) nothing Keep
    ∷ [])

-- ---- step 5: a property that is not configurable

-- step 5.a: configurable is true. Beside it the same where it is false, and over a property that is configurable
abbrev pub ConfigurableDecides : Type 0
ConfigurableDecides = AllAgree (
    over (data_of one true true false) (wants_configurable true) Refuse
    ∷ over (data_of one true true false) (wants_configurable false) Keep
    ∷ over (data_of one true true true) (wants_configurable true) Keep
    ∷ over (functions seventh None true false) (wants_configurable true) Refuse
    ∷ over (functions seventh None true false) (wants_configurable false) Keep
    ∷ over (functions seventh None true true) (wants_configurable true) Keep
    ∷ [])

-- step 5.b: enumerable differs, either way. Beside it the same where it does not, and over a property that is configurable
abbrev pub EnumerableDecides : Type 0
EnumerableDecides = AllAgree (
    over (data_of one true true false) (wants_enumerable false) Refuse
    ∷ over (data_of one true true false) (wants_enumerable true) Keep
    ∷ over (data_of one true false false) (wants_enumerable true) Refuse
    ∷ over (data_of one true false false) (wants_enumerable false) Keep
    ∷ over (data_of one true false true) (wants_enumerable true) (Apply (data_of one true true true))
    ∷ over (functions seventh None true false) (wants_enumerable false) Refuse
    ∷ over (functions seventh None true false) (wants_enumerable true) Keep
    ∷ over (functions seventh None false false) (wants_enumerable true) Refuse
    ∷ over (functions seventh None false false) (wants_enumerable false) Keep
    ∷ over (functions seventh None false true) (wants_enumerable true) (Apply (functions seventh None true true))
    ∷ [])

-- step 5.c: it is of the other kind, by whichever field. A descriptor of neither kind never is
abbrev pub KindDecides : Type 0
KindDecides = AllAgree (
    over (data_of one true true false) (wants_get (object 7)) Refuse
    ∷ over (data_of one true true false) (wants_get value.Undefined) Refuse
    ∷ over (data_of one true true false) (wants_set value.Undefined) Refuse
    ∷ over (functions None None true false) (wants_value value.Undefined) Refuse
    ∷ over (functions None None true false) (wants_writable false) Refuse
    ∷ over (functions seventh None true false) (record (wants_enumerable true) { configurable = Some false }) Keep
    ∷ [])

-- step 5.d: another getter or setter. Beside it the same one
abbrev pub FunctionsDecide : Type 0
FunctionsDecide = AllAgree (
    over (functions seventh eighth true false) (wants_get (object 8)) Refuse
    ∷ over (functions seventh eighth true false) (wants_get value.Undefined) Refuse
    ∷ over (functions seventh eighth true false) (wants_get (object 7)) Keep
    ∷ over (functions seventh eighth true false) (wants_set (object 7)) Refuse
    ∷ over (functions seventh eighth true false) (wants_set value.Undefined) Refuse
    ∷ over (functions seventh eighth true false) (wants_set (object 8)) Keep
    ∷ over (functions None None true false) (wants_get (object 7)) Refuse
    ∷ over (functions None None true false) (wants_get value.Undefined) Keep
    ∷ over (functions None None true false) (wants_set value.Undefined) Keep
    ∷ [])

-- step 5.e: a value that is not writable. Beside it one that is, whose value may change and which may become read only, and one that is configurable
abbrev pub WritableDecides : Type 0
WritableDecides = AllAgree (
    over (data_of one false true false) (wants_writable true) Refuse
    ∷ over (data_of one false true false) (wants_writable false) Keep
    ∷ over (data_of one false true false) (wants_value two) Refuse
    ∷ over (data_of one false true false) (wants_value (value.Bool true)) Refuse
    ∷ over (data_of one false true false) (wants_value one) Keep
    ∷ over (data_of one true true false) (wants_writable true) Keep
    ∷ over (data_of one true true false) (wants_writable false) (Apply (data_of one false true false))
    ∷ over (data_of one true true false) (wants_value two) (Apply (data_of two true true false))
    ∷ over (data_of one false true true) (wants_writable true) (Apply (data_of one true true true))
    ∷ over (data_of one false true true) (wants_value two) (Apply (data_of two false true true))
    ∷ [])

-- ---- step 6.a: a value becomes an accessor. Enumerable and configurable are the wanted ones or stay, and a function that is not wanted is undefined

abbrev pub AccessorsMade : Type 0
AccessorsMade = AllAgree (
    over (data_of one true false true) (wants_get (object 7)) (Apply (functions seventh None false true))
    ∷ over (data_of one true true true) (wants_get (object 7)) (Apply (functions seventh None true true))
    ∷ over (data_of one false false true) (wants_set (object 8)) (Apply (functions None eighth false true))
    ∷ over (data_of one true false true) (record (wants_get (object 7)) { enumerable = Some true }) (Apply (functions seventh None true true))
    ∷ over (data_of one true true true) (record (wants_get (object 7)) { enumerable = Some false }) (Apply (functions seventh None false true))
    ∷ over (data_of one true false true) (record (wants_get (object 7)) { configurable = Some false }) (Apply (functions seventh None false false))
    ∷ over (data_of value.Undefined true false true) (wants_get value.Undefined) (Apply (functions None None false true))
    ∷ [])

-- ---- step 6.b: an accessor becomes a value. Enumerable and configurable are the wanted ones or stay; value and writable are, or are undefined and false

abbrev pub ValuesMade : Type 0
ValuesMade = AllAgree (
    over (functions seventh eighth false true) (wants_value two) (Apply (data_of two false false true))
    ∷ over (functions seventh eighth true true) (wants_value two) (Apply (data_of two false true true))
    ∷ over (functions seventh eighth false true) (wants_writable true) (Apply (data_of value.Undefined true false true))
    ∷ over (functions seventh eighth false true) (record (wants_value two) { enumerable = Some true }) (Apply (data_of two false true true))
    ∷ over (functions seventh eighth true true) (record (wants_value two) { enumerable = Some false }) (Apply (data_of two false false true))
    ∷ over (functions seventh eighth false true) (record (wants_value two) { configurable = Some false }) (Apply (data_of two false false false))
    ∷ over (functions None None false true) (wants_value value.Undefined) (Apply (data_of value.Undefined false false true))
    ∷ [])

-- ---- step 6.c: the kind stays. Each wanted field replaces, and only it; where each is there already nothing changes

abbrev pub ValuesChanged : Type 0
ValuesChanged = AllAgree (
    over (data_of one true false true) (wants_value two) (Apply (data_of two true false true))
    ∷ over (data_of one true false true) (wants_writable false) (Apply (data_of one false false true))
    ∷ over (data_of one true false true) (wants_enumerable true) (Apply (data_of one true true true))
    ∷ over (data_of one true false true) (wants_configurable false) (Apply (data_of one true false false))
    ∷ over (data_of one true false true) (record (wants_value one) { writable = Some true; enumerable = Some false; configurable = Some true }) Keep
    ∷ over (data_of one true false true) (record (wants_value two) { writable = Some true; enumerable = Some false }) (Apply (data_of two true false true))
    ∷ [])

abbrev pub AccessorsChanged : Type 0
AccessorsChanged = AllAgree (
    over (functions seventh None false true) (wants_get (object 8)) (Apply (functions eighth None false true))
    ∷ over (functions seventh None false true) (wants_set (object 8)) (Apply (functions seventh eighth false true))
    ∷ over (functions seventh None false true) (wants_get value.Undefined) (Apply (functions None None false true))
    ∷ over (functions seventh None false true) (wants_enumerable true) (Apply (functions seventh None true true))
    ∷ over (functions seventh None false true) (wants_configurable false) (Apply (functions seventh None false false))
    ∷ over (functions seventh None false true) (record (wants_get (object 7)) { set = Some value.Undefined; enumerable = Some false }) Keep
    ∷ [])

-- ---- what a verdict answers (10.1.6.3, steps 4, 5 and 7)

abbrev pub VerdictsAnswer : Type 0
VerdictsAnswer = map is_allowed (Refuse ∷ Keep ∷ Apply (data_of one true true true) ∷ []) ≡ false ∷ true ∷ true ∷ []
