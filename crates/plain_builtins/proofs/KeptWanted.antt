-- ToPropertyDescriptor keeps worlds sound.
use Rattle.std.proofs.Common.{◌≡◌, Bool, true, false, cond, Option, Some, None, List, [], ◌∷◌, refl, sym, arith, ap, ◌∙◌, true≢false, ◌&&◌}
use Rattle.std.specs.Prelude.{codes, not}
use Rattle.property_keys.specs.declared.identifiers.ObjectId.{ObjectId}
use Rattle.property_keys.specs.declared.values.Value.{Value}
use Rattle.property_keys.specs.declared.values.Value.TheVariants as value
use Rattle.property_keys.specs.Numbers.{natural_of}
use Rattle.descriptors.specs.declared.fields.Descriptor.{Descriptor}
use Rattle.descriptors.specs.Kinds.{has_functions, is_function_field, is_of_both_kinds, is_sound}
use Rattle.es_model.specs.declared.answers.Reply.TheVariants as reply
use Rattle.es_model.specs.declared.kinds.ErrorKind.TheVariants as error
use Rattle.es_model.specs.declared.requests.Operation.TheVariants as operation
use Rattle.es_model.specs.declared.requests.Request.TheVariants.{Has, Read, Work}
use Rattle.property_keys.specs.declared.keys.PropKey.TheVariants.{Name}
use Rattle.es_model.specs.Completions.{Normal}
use Rattle.es_model.specs.World.{Lists, World, number_of}
use Rattle.es_model.specs.Grows.{Grows}
use Rattle.es_model.specs.Program.{Program, Task, Of, done}
use Rattle.es_model.specs.Known.{IsObject, IfThere, IsKnown}
use Rattle.es_model.specs.Sound.{IsShort, IsSound}
use Rattle.es_model.specs.Kept.{FitsTask, IsKept}
use Rattle.es_model.specs.programs.Errors.{throw_error, not_a_function}
use Rattle.es_model.specs.programs.Testing.{as_object, is_truth}
use Rattle.es_model.proofs.KnownLater.{object-later, known-later, there-map}
use Rattle.es_model.proofs.SharedKept.{flag-kept, get_named-kept, has_named-kept, not_function-kept, not_object-kept, value-kept}
use Rattle.es_model.proofs.SoundErrors.{error-kept}
use Rattle.plain_builtins.specs.WantedFields.{field_name, fields_after, no_fields, wanted_done, is_accessor_value, field_put, field_given, field_is_there, field_had, fields_left, wanted_by}
use Rattle.plain_builtins.specs.declared.words.Field.{Field}
use Rattle.plain_builtins.specs.declared.words.Field.TheVariants as field
use Rattle.plain_builtins.proofs.KeptInstances.{object-known}

abbrev WantedTask : List Value → Task
WantedTask operands = Of (Work operation.ToWanted operands)

-- what was read so far is known, and its functions are undefined or objects
record IsGathered (l : Lists) (d : Descriptor) : Type 0 where
  value : IfThere (IsKnown l) d.value
  get : IfThere (IsKnown l) d.get
  set : IfThere (IsKnown l) d.set
  getter : is_function_field d.get ≡ true
  setter : is_function_field d.set ≡ true

gathered-later : (l l' : Lists) → Grows l l' → (d : Descriptor) → IsGathered l d → IsGathered l' d
gathered-later l l' g d h = record {
  value = there-map (IsKnown l) (IsKnown l') (known-later l l' g) d.value h.value;
  get = there-map (IsKnown l) (IsKnown l') (known-later l l' g) d.get h.get;
  set = there-map (IsKnown l) (IsKnown l') (known-later l l' g) d.set h.set;
  getter = h.getter;
  setter = h.setter;
}

two-true : (a b : Bool) → a ≡ true → b ≡ true → (a && b) ≡ true
two-true true b e f = f
two-true false b e f = absurd (true≢false (sym e))

functions-too : (d : Descriptor) (both : Bool) → is_of_both_kinds d ≡ both → both ≡ false → has_functions d ≡ true → is_sound d ≡ true
functions-too d both e plain h = two-true (has_functions d) (not (is_of_both_kinds d)) h (ap not (e ∙ plain))

-- the end, by whether the descriptor is of both kinds
end-kept : (operands : List Value) (w : World) (d : Descriptor) (both : Bool) → is_of_both_kinds d ≡ both → IsSound w → IsGathered w.lists d →
    IsKept (FitsTask (WantedTask operands)) (cond both (throw_error error.TypeError (codes "bad descriptor")) (done (Normal (reply.Wanted d)))) w
end-kept operands w d true e s h = error-kept (WantedTask operands) w error.TypeError (codes "bad descriptor") s (omega arith)
end-kept operands w d false e s h = (
  s,
  (
    tt,
    record {
      value = h.value;
      get = h.get;
      set = h.set;
      sound = functions-too d false e refl (two-true (is_function_field d.get) (is_function_field d.set) h.getter h.setter);
    },
  ),
)

wanted_done-kept : (operands : List Value) (w : World) (d : Descriptor) → IsSound w → IsGathered w.lists d → IsKept (FitsTask (WantedTask operands)) (wanted_done d) w
wanted_done-kept operands w d s h = end-kept operands w d (is_of_both_kinds d) refl s h

-- a value that may be a getter or setter is undefined or an object
accessor-function : (l : Lists) (v : Value) → is_accessor_value l v ≡ true → is_function_field (Some v) ≡ true
accessor-function l value.Undefined e = refl
accessor-function l value.Null e = absurd (true≢false (sym e))
accessor-function l (value.Bool b) e = absurd (true≢false (sym e))
accessor-function l (value.Whole n) e = absurd (true≢false (sym e))
accessor-function l (value.Text t) e = absurd (true≢false (sym e))
accessor-function l (value.Symbol s) e = absurd (true≢false (sym e))
accessor-function l (value.Object o) e = refl

abbrev OnGathered : List Value → World → (Descriptor → Program) → Type 0
OnGathered operands w next = (d : Descriptor) → IsGathered w.lists d → IsKept (FitsTask (WantedTask operands)) (next d) w

accessor-kept : (operands : List Value) (w : World) (v : Value) (p : Program) (b : Bool) → is_accessor_value w.lists v ≡ b → IsSound w → (is_function_field (Some v) ≡ true → IsKept (FitsTask (WantedTask operands)) p w) →
    IsKept (FitsTask (WantedTask operands)) (cond b p not_a_function) w
accessor-kept operands w v p true e s h = h (accessor-function w.lists v e)
accessor-kept operands w v p false e s h = not_function-kept (WantedTask operands) w s

field_put-kept : (operands : List Value) (w : World) (next : Descriptor → Program) (f : Field) (d : Descriptor) (v : Value) → IsSound w → IsGathered w.lists d → IsKnown w.lists v → OnGathered operands w next →
    IsKept (FitsTask (WantedTask operands)) (field_put next f d v) w
field_put-kept operands w next field.Enumerable d v s h known k =
    k (record d { enumerable = Some (is_truth w.lists v) }) (record { value = h.value; get = h.get; set = h.set; getter = h.getter; setter = h.setter })
field_put-kept operands w next field.Configurable d v s h known k =
    k (record d { configurable = Some (is_truth w.lists v) }) (record { value = h.value; get = h.get; set = h.set; getter = h.getter; setter = h.setter })
field_put-kept operands w next field.Value d v s h known k = k (record d { value = Some v }) (record { value = known; get = h.get; set = h.set; getter = h.getter; setter = h.setter })
field_put-kept operands w next field.Writable d v s h known k =
    k (record d { writable = Some (is_truth w.lists v) }) (record { value = h.value; get = h.get; set = h.set; getter = h.getter; setter = h.setter })
field_put-kept operands w next field.Get d v s h known k =
    accessor-kept operands w v (next (record d { get = Some v })) (is_accessor_value w.lists v) refl s (λ e.
    k (record d { get = Some v }) (record { value = h.value; get = known; set = h.set; getter = e; setter = h.setter }))
field_put-kept operands w next field.Set d v s h known k =
    accessor-kept operands w v (next (record d { set = Some v })) (is_accessor_value w.lists v) refl s (λ e.
    k (record d { set = Some v }) (record { value = h.value; get = h.get; set = known; getter = h.getter; setter = e }))

name-short : (f : Field) → IsShort (field_name f)
name-short field.Enumerable = omega arith
name-short field.Configurable = omega arith
name-short field.Value = omega arith
name-short field.Writable = omega arith
name-short field.Get = omega arith
name-short field.Set = omega arith

name-no_number : (f : Field) → natural_of 10 (field_name f) ≡ None
name-no_number field.Enumerable = refl
name-no_number field.Configurable = refl
name-no_number field.Value = refl
name-no_number field.Writable = refl
name-no_number field.Get = refl
name-no_number field.Set = refl

-- what goes on with a descriptor, in every world
abbrev Onward : List Value → ObjectId → (Descriptor → Program) → Type 0
Onward operands o next = (w : World) (d : Descriptor) → IsSound w → IsObject w.lists o → IsGathered w.lists d → IsKept (FitsTask (WantedTask operands)) (next d) w

there-kept : (operands : List Value) (w : World) (next : Descriptor → Program) (f : Field) (o : ObjectId) (d : Descriptor) (b : Bool) → IsSound w → IsObject w.lists o → IsGathered w.lists d → Onward operands o next →
    IsKept (FitsTask (WantedTask operands)) (field_is_there next f o d b) w
there-kept operands w next f o d true s there h k =
    get_named-kept (FitsTask (WantedTask operands)) w o (field_name f) (field_given next f d) s there (name-short f) (name-no_number f) (λ c u su l fit.
    value-kept (WantedTask operands) (Read o (Name (number_of w.lists (field_name f))) (value.Object o) None) u (field_put next f d) c su fit (λ v known.
    field_put-kept operands u next f d v su (gathered-later w.lists u.lists l.lists d h) known (λ e g. k u e su (object-later w.lists u.lists l.lists o there) g)))
there-kept operands w next f o d false s there h k = k w d s there h

fields-kept : (operands : List Value) (fs : List Field) (o : ObjectId) → Onward operands o (fields_left fs o)
fields-kept operands [] o w d s there h = wanted_done-kept operands w d s h
fields-kept operands (f ∷ fs) o w d s there h =
    has_named-kept (FitsTask (WantedTask operands)) w o (field_name f) (field_had (fields_left fs o) f o d) s there (name-short f) (name-no_number f) (λ c u su l fit.
    flag-kept (WantedTask operands) (Has o (Name (number_of w.lists (field_name f)))) u (field_is_there (fields_left fs o) f o d) c su fit (λ b.
    there-kept operands u (fields_left fs o) f o d b su (object-later w.lists u.lists l.lists o there) (gathered-later w.lists u.lists l.lists d h) (fields-kept operands fs o)))

by-kept : (operands : List Value) (w : World) (o : Option ObjectId) → IsSound w → IfThere (IsObject w.lists) o → IsKept (FitsTask (WantedTask operands)) (wanted_by o) w
by-kept operands w None s there = not_object-kept (WantedTask operands) w s
by-kept operands w (Some o) s there =
    fields-kept operands (field.Enumerable ∷ fields_after field.Enumerable) o w no_fields s there (record { value = tt; get = tt; set = tt; getter = refl; setter = refl })

pub to_wanted-kept : (operands : List Value) (w : World) (v : Value) → IsSound w → IsKnown w.lists v → IsKept (FitsTask (WantedTask operands)) (wanted_by (as_object v)) w
to_wanted-kept operands w v s known = by-kept operands w (as_object v) s (object-known w.lists v known)
