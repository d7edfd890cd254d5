-- Lists of properties stay known and distinct, and what a definition makes is known.
use Rattle.std.proofs.Common.{◌≡◌, ℕ, zero, suc, Bool, true, false, cond, Option, Some, None, List, [], ◌∷◌, ◌++◌, refl}
use Rattle.std.specs.Prelude.{⊤, filter, unwrap_or, slice_set}
use Rattle.std.specs.List.{AllByRecursion}
use Rattle.property_keys.specs.declared.identifiers.ObjectId.{ObjectId}
use Rattle.property_keys.specs.declared.keys.PropKey.{PropKey}
use Rattle.property_keys.specs.declared.keys.Attributes.{Attributes}
use Rattle.property_keys.specs.declared.values.Value.{Value}
use Rattle.property_keys.specs.declared.values.Value.TheVariants as value
use Rattle.descriptors.specs.declared.fields.Descriptor.{Descriptor}
use Rattle.descriptors.specs.declared.property.Complete.{Complete}
use Rattle.descriptors.specs.declared.property.Complete.TheVariants as complete
use Rattle.descriptors.specs.declared.validation.Verdict.{Verdict}
use Rattle.descriptors.specs.declared.validation.Verdict.TheVariants as verdict
use Rattle.descriptors.specs.Kinds.{is_accessor_descriptor, is_data_descriptor, is_without_fields}
use Rattle.descriptors.specs.Completion.{function_or, stored_or, accessor_or, completed}
use Rattle.descriptors.specs.Validation.{applied, is_refused, changes_nothing, verdict_of}
use Rattle.es_model.specs.declared.owned.OwnProperty.{OwnProperty}
use Rattle.es_model.specs.Objects.{same_key, find_property, add_property, replace_property}
use Rattle.es_model.specs.World.{Lists}
use Rattle.es_model.specs.Known.{IsObject, IfThere, IsKnown, IsKnownComplete, IsKnownProperty, IsKnownDescriptor}
use Rattle.es_model.specs.Sound.{AreDistinct}

pub all-append : {X : Type 0} (P : X → Type 0) (xs : List X) (a : X) → P a → AllByRecursion P xs → AllByRecursion P (xs ++ a ∷ [])
all-append P [] a p h = (p, tt)
all-append P (x ∷ xs) a p h = (h.0, all-append P xs a p h.1)

pub all-set : {X : Type 0} (P : X → Type 0) (xs : List X) (i : ℕ) (a : X) → P a → AllByRecursion P xs → AllByRecursion P (slice_set xs i a)
all-set P [] i a p h = tt
all-set P (x ∷ xs) zero a p h = (p, h.1)
all-set P (x ∷ xs) (suc i) a p h = (h.0, all-set P xs i a p h.1)

pub all-cond : {X : Type 0} (P : X → Type 0) (b : Bool) (xs ys : List X) → AllByRecursion P xs → AllByRecursion P ys → AllByRecursion P (cond b xs ys)
all-cond P true xs ys h h' = h
all-cond P false xs ys h h' = h'

pub all-filter : {X : Type 0} (P : X → Type 0) (f : X → Bool) (xs : List X) → AllByRecursion P xs → AllByRecursion P (filter f xs)
all-filter P f [] h = tt
all-filter P f (x ∷ xs) h = all-cond P (f x) (x ∷ filter f xs) (filter f xs) (h.0, all-filter P f xs h.1) (all-filter P f xs h.1)

-- ---- a property that is replaced

all-replaced : (P : OwnProperty → Type 0) (c : Complete) → ((p : OwnProperty) → P p → P (record { key = p.key; complete = c })) → (ps : List OwnProperty) (k : PropKey) → AllByRecursion P ps → AllByRecursion P (replace_property ps k c)
all-replaced P c f [] k h = tt
all-replaced P c f (p ∷ ps) k h =
    all-cond P (same_key p.key k) (record { key = p.key; complete = c } ∷ ps) (p ∷ replace_property ps k c) (f p h.0, h.1) (h.0, all-replaced P c f ps k h.1)

pub known-replaced : (l : Lists) (ps : List OwnProperty) (k : PropKey) (c : Complete) → IsKnownComplete l c → AllByRecursion (IsKnownProperty l) ps → AllByRecursion (IsKnownProperty l) (replace_property ps k c)
known-replaced l ps k c known h = all-replaced (IsKnownProperty l) c (λ p q. (q.0, known)) ps k h

distinct-cond : (b : Bool) (xs ys : List OwnProperty) → AreDistinct xs → AreDistinct ys → AreDistinct (cond b xs ys)
distinct-cond true xs ys h h' = h
distinct-cond false xs ys h h' = h'

pub distinct-replaced : (ps : List OwnProperty) (k : PropKey) (c : Complete) → AreDistinct ps → AreDistinct (replace_property ps k c)
distinct-replaced [] k c h = tt
distinct-replaced (p ∷ ps) k c h =
    distinct-cond (same_key p.key k) (record { key = p.key; complete = c } ∷ ps) (p ∷ replace_property ps k c) (h.0, h.1)
    (all-replaced (λ (q : OwnProperty). same_key p.key q.key ≡ false) c (λ q e. e) ps k h.0, distinct-replaced ps k c h.1)

pub distinct-filter : (f : OwnProperty → Bool) (ps : List OwnProperty) → AreDistinct ps → AreDistinct (filter f ps)
distinct-filter f [] h = tt
distinct-filter f (p ∷ ps) h =
    distinct-cond (f p) (p ∷ filter f ps) (filter f ps)
    (all-filter (λ (q : OwnProperty). same_key p.key q.key ≡ false) f ps h.0, distinct-filter f ps h.1) (distinct-filter f ps h.1)

-- ---- a new property

not-first : (b : Bool) (c : Complete) (rest : Option Complete) → cond b (Some c) rest ≡ None → (b ≡ false) × (rest ≡ None)
not-first true c rest h = absurd (let no : Some c ≡ None = h in cc)
not-first false c rest h = (refl, h)

pub distinct-added : (ps : List OwnProperty) (k : PropKey) (c : Complete) → find_property ps k ≡ None → AreDistinct ps → AreDistinct (add_property ps k c)
distinct-added [] k c e h = (tt, tt)
distinct-added (p ∷ ps) k c e h =
    let n = not-first (same_key p.key k) p.complete (find_property ps k) e in
    (all-append (λ (q : OwnProperty). same_key p.key q.key ≡ false) ps (record { key = k; complete = c }) n.0 h.0, distinct-added ps k c n.1 h.1)

-- ---- what a definition makes

unwrap-known : (l : Lists) (x : Option Value) (v : Value) → IfThere (IsKnown l) x → IsKnown l v → IsKnown l (unwrap_or x v)
unwrap-known l None v h h' = h'
unwrap-known l (Some x) v h h' = h

function-known : (l : Lists) (x : Option Value) (given : Option ObjectId) → IfThere (IsKnown l) x → IfThere (IsObject l) given → IfThere (IsObject l) (function_or x given)
function-known l None given h h' = h'
function-known l (Some value.Undefined) given h h' = tt
function-known l (Some value.Null) given h h' = tt
function-known l (Some (value.Bool b)) given h h' = tt
function-known l (Some (value.Whole n)) given h h' = tt
function-known l (Some (value.Text t)) given h h' = tt
function-known l (Some (value.Symbol s)) given h h' = tt
function-known l (Some (value.Object o)) given h h' = h

complete-cond : (l : Lists) (b : Bool) (c c' : Complete) → IsKnownComplete l c → IsKnownComplete l c' → IsKnownComplete l (cond b c c')
complete-cond l true c c' h h' = h
complete-cond l false c c' h h' = h'

accessor-known : (l : Lists) (d : Descriptor) (get set : Option ObjectId) (e c : Bool) → IsKnownDescriptor l d → IfThere (IsObject l) get → IfThere (IsObject l) set → IsKnownComplete l (accessor_or d get set e c)
accessor-known l d get set e c h g s = (function-known l d.get get h.get g, function-known l d.set set h.set s)

stored-known : (l : Lists) (d : Descriptor) (v : Value) (flags : Attributes) → IsKnownDescriptor l d → IsKnown l v → IsKnownComplete l (stored_or d v flags)
stored-known l d v flags h known = unwrap-known l d.value v h.value known

abbrev none_set : Attributes
none_set = record { writable = false; enumerable = false; configurable = false }

pub completed-known : (l : Lists) (d : Descriptor) → IsKnownDescriptor l d → IsKnownComplete l (completed d)
completed-known l d h =
    complete-cond l (is_accessor_descriptor d) (accessor_or d None None false false) (stored_or d value.Undefined none_set)
    (accessor-known l d None None false false h tt tt) (stored-known l d value.Undefined none_set h tt)

applied-known : (l : Lists) (d : Descriptor) (c : Complete) → IsKnownDescriptor l d → IsKnownComplete l c → IsKnownComplete l (applied d c)
applied-known l d (complete.Stored v flags) h known =
    complete-cond l (is_accessor_descriptor d) (accessor_or d None None flags.enumerable flags.configurable) (stored_or d v flags)
    (accessor-known l d None None flags.enumerable flags.configurable h tt tt) (stored-known l d v flags h known)
applied-known l d (complete.Accessor get set e c) h known =
    complete-cond l (is_data_descriptor d) (stored_or d value.Undefined (record { writable = false; enumerable = e; configurable = c })) (accessor_or d get set e c)
    (stored-known l d value.Undefined (record { writable = false; enumerable = e; configurable = c }) h tt) (accessor-known l d get set e c h known.0 known.1)

abbrev pub IsKnownVerdict : Lists → Verdict → Type 0
IsKnownVerdict l verdict.Refuse = ⊤
IsKnownVerdict l verdict.Keep = ⊤
IsKnownVerdict l (verdict.Apply c) = IsKnownComplete l c

verdict-cond : (l : Lists) (b : Bool) (v v' : Verdict) → IsKnownVerdict l v → IsKnownVerdict l v' → IsKnownVerdict l (cond b v v')
verdict-cond l true v v' h h' = h
verdict-cond l false v v' h h' = h'

pub verdict-known : (l : Lists) (extensible : Bool) (d : Descriptor) (now : Option Complete) → IsKnownDescriptor l d → IfThere (IsKnownComplete l) now → IsKnownVerdict l (verdict_of extensible d now)
verdict-known l extensible d None h known = verdict-cond l extensible (verdict.Apply (completed d)) verdict.Refuse (completed-known l d h) tt
verdict-known l extensible d (Some c) h known =
    verdict-cond l (is_without_fields d) verdict.Keep (cond (is_refused d c) verdict.Refuse (cond (changes_nothing d c) verdict.Keep (verdict.Apply (applied d c)))) tt
    (verdict-cond l (is_refused d c) verdict.Refuse (cond (changes_nothing d c) verdict.Keep (verdict.Apply (applied d c))) tt
    (verdict-cond l (changes_nothing d c) verdict.Keep (verdict.Apply (applied d c)) tt (applied-known l d c h known)))
