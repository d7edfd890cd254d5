-- An Array object keeps its `length`: lists of properties, definitions, and later lists.
use Rattle.std.proofs.Common.{◌≡◌, ◌&&◌, ◌||◌, Bool, true, false, cond, Option, Some, None, List, [], ◌∷◌, refl, sym, subst, ap, ◌∙◌, true≢false, eq-eqb, unwrap_or, IsTrue}
use Rattle.std.specs.Prelude.{not, ⊤}
use Rattle.std.proofs.lemmas.Bool.{eqb-true}
use Rattle.std.specs.List.{AllByRecursion}
use Rattle.property_keys.specs.declared.identifiers.ObjectId.{ObjectId}
use Rattle.property_keys.specs.declared.keys.Attributes.{Attributes}
use Rattle.property_keys.specs.declared.keys.PropKey.{PropKey}
use Rattle.property_keys.specs.declared.keys.PropKey.TheVariants.{Index, Name, Sym}
use Rattle.property_keys.specs.declared.values.Value.{Value}
use Rattle.property_keys.specs.Texts.{HasOneEach}
use Rattle.descriptors.specs.declared.fields.Descriptor.{Descriptor}
use Rattle.descriptors.specs.declared.property.Complete.{Complete}
use Rattle.descriptors.specs.declared.property.Complete.TheVariants as complete
use Rattle.descriptors.specs.declared.validation.Verdict.{Verdict}
use Rattle.descriptors.specs.declared.validation.Verdict.TheVariants as verdict
use Rattle.descriptors.specs.Kinds.{is_accessor_descriptor, is_without_fields}
use Rattle.descriptors.specs.Completion.{accessor_or, stored_or}
use Rattle.descriptors.specs.Validation.{applied, change_of, changes_nothing, is_configurable, is_refused, verdict_of}
use Rattle.es_model.specs.declared.kinds.ObjectKind.{ObjectKind}
use Rattle.es_model.specs.declared.kinds.ObjectKind.TheVariants as kind_of
use Rattle.es_model.specs.declared.owned.OwnProperty.{OwnProperty}
use Rattle.es_model.specs.declared.start_texts.StartText.TheVariants as start_text
use Rattle.es_model.specs.declared.intrinsics.Intrinsic.{Intrinsic}
use Rattle.es_model.specs.StartObjects.{object_of}
use Rattle.es_model.specs.StartTable.{start_kind}
use Rattle.es_model.specs.StartTexts.{units_of_start}
use Rattle.es_model.specs.Objects.{find_property, add_property, is_array, remove_property, replace_property, same_key}
use Rattle.es_model.specs.World.{Lists, kind, number_of, text_place}
use Rattle.es_model.specs.Grows.{Grows, fixed_kind}
use Rattle.es_model.specs.Known.{IfThere, IsObject, IsKnownKey, IsKnownProperty}
use Rattle.es_model.specs.Sound.{IsIntact, IsLength, IsLengthProperty, length_key}
use Rattle.es_model.proofs.KnownLater.{object-later, text-later, units-later}
use Rattle.es_model.proofs.TextPlaces.{place-alone, place-names}

-- ---- keys

pub same_key-eq : (a b : PropKey) → same_key a b ≡ true → a ≡ b
same_key-eq (Index i) (Index j) e = ap Index (eqb-true i j e)
same_key-eq (Name i) (Name j) e = λ t. Name (record { 0 = eqb-true i.0 j.0 e t })
same_key-eq (Sym i) (Sym j) e = λ t. Sym (record { 0 = eqb-true i.0 j.0 e t })
same_key-eq a b e = cc

pub same_key-itself : (k : PropKey) → same_key k k ≡ true
same_key-itself (Index i) = eq-eqb i i refl
same_key-itself (Name i) = eq-eqb i.0 i.0 refl
same_key-itself (Sym i) = eq-eqb i.0 i.0 refl

-- ---- lists of properties with a length under a key

abbrev pub LengthIn : PropKey → List OwnProperty → Type 0
LengthIn key ps = IsLengthProperty (find_property ps key)

length-cond : (b : Bool) (c : Complete) (x y : Option Complete) → (IsLengthProperty x → IsLengthProperty y) → IsLengthProperty (cond b (Some c) x) → IsLengthProperty (cond b (Some c) y)
length-cond true c x y f h = h
length-cond false c x y f h = f h

find-cond : (b : Bool) (ps qs : List OwnProperty) (key : PropKey) → IsLengthProperty (cond b (find_property ps key) (find_property qs key)) → LengthIn key (cond b ps qs)
find-cond true ps qs key h = h
find-cond false ps qs key h = h

-- a new property
pub length-added : (ps : List OwnProperty) (k : PropKey) (c : Complete) (key : PropKey) → LengthIn key ps → LengthIn key (add_property ps k c)
length-added [] k c key h = absurd h
length-added (p ∷ ps) k c key h =
    length-cond (same_key p.key key) p.complete (find_property ps key) (find_property (add_property ps k c) key) (length-added ps k c key) h

-- a property replaced by one that may stand there
replaced-at : (here there : Bool) (before c : Complete) (x y : Option Complete) → (here ≡ true → there ≡ true → IsLengthProperty (Some c)) → (IsLengthProperty x → IsLengthProperty y) →
    IsLengthProperty (cond there (Some before) x) → IsLengthProperty (cond here (cond there (Some c) x) (cond there (Some before) y))
replaced-at true true before c x y fits f h = fits refl refl
replaced-at true false before c x y fits f h = h
replaced-at false true before c x y fits f h = h
replaced-at false false before c x y fits f h = f h

pub length-replaced : (ps : List OwnProperty) (k : PropKey) (c : Complete) (key : PropKey) → (same_key k key ≡ true → IsLengthProperty (Some c)) → LengthIn key ps → LengthIn key (replace_property ps k c)
length-replaced [] k c key fits h = absurd h
length-replaced (p ∷ ps) k c key fits h =
    find-cond (same_key p.key k) (record { key = p.key; complete = c } ∷ ps) (p ∷ replace_property ps k c) key
    (replaced-at (same_key p.key k) (same_key p.key key) p.complete c (find_property ps key) (find_property (replace_property ps k c) key)
    (λ e e'. fits (subst (λ q. same_key q key ≡ true) (same_key-eq p.key k e) e')) (length-replaced ps k c key fits) h)

-- another property taken out
removed-at : (here there : Bool) (before : Complete) (x y : Option Complete) → (here ≡ true → there ≡ true → ⊥) → (IsLengthProperty x → IsLengthProperty y) →
    IsLengthProperty (cond there (Some before) x) → IsLengthProperty (cond (not here) (cond there (Some before) y) y)
removed-at true true before x y other f h = absurd (other refl refl)
removed-at true false before x y other f h = f h
removed-at false true before x y other f h = h
removed-at false false before x y other f h = f h

pub length-removed : (ps : List OwnProperty) (k key : PropKey) → (same_key k key ≡ true → ⊥) → LengthIn key ps → LengthIn key (remove_property ps k)
length-removed [] k key other h = absurd h
length-removed (p ∷ ps) k key other h =
    find-cond (not (same_key p.key k)) (p ∷ remove_property ps k) (remove_property ps k) key
    (removed-at (same_key p.key k) (same_key p.key key) p.complete (find_property ps key) (find_property (remove_property ps k) key)
    (λ e e'. other (subst (λ q. same_key q key ≡ true) (same_key-eq p.key k e) e')) (length-removed ps k key other) h)

-- a key under which there is one is known
found-known : (l : Lists) (b : Bool) (k key : PropKey) (c : Complete) (x : Option Complete) → same_key k key ≡ b → IsKnownKey l k → (IsLengthProperty x → IsKnownKey l key) → IsLengthProperty (cond b (Some c) x) → IsKnownKey l key
found-known l true k key c x e known f h = subst (IsKnownKey l) (same_key-eq k key e) known
found-known l false k key c x e known f h = f h

pub length-known : (l : Lists) (ps : List OwnProperty) (key : PropKey) → AllByRecursion (IsKnownProperty l) ps → LengthIn key ps → IsKnownKey l key
length-known l [] key h found = absurd found
length-known l (p ∷ ps) key h found = found-known l (same_key p.key key) p.key key p.complete (find_property ps key) refl h.0.0 (length-known l ps key h.1) found

-- ---- what a definition makes of a length

-- a definition leaves an Array object its length: the object is no Array, the key is another one, or no value or a length is wanted
abbrev pub LeavesLength : Lists → ObjectId → PropKey → Option Value → Type 0
LeavesLength l o k v = IsTrue (is_array (kind l o)) → IsTrue (same_key k (length_key l)) → IfThere IsLength v

abbrev pub IsLengthVerdict : Verdict → Type 0
IsLengthVerdict (verdict.Apply c) = IsLengthProperty (Some c)
IsLengthVerdict other = ⊤

keeps-cond : (b : Bool) (v : Verdict) → IsLengthVerdict v → IsLengthVerdict (cond b verdict.Keep v)
keeps-cond true v h = tt
keeps-cond false v h = h

refuses-cond : (b : Bool) (v : Verdict) → (b ≡ false → IsLengthVerdict v) → IsLengthVerdict (cond b verdict.Refuse v)
refuses-cond true v h = tt
refuses-cond false v h = h refl

none-refused : (configurable a b c d e f : Bool) → configurable ≡ false → (not configurable && (a || b || c || d || e || f)) ≡ false → (a ≡ false) × (c ≡ false)
none-refused false false false false false false false other e = (refl, refl)
none-refused configurable a b c d e f other h = cc

not_raised : (x : Option Bool) (b : Bool) → b ≡ false → unwrap_or x false ≡ false → unwrap_or x b ≡ false
not_raised None b other e = other
not_raised (Some y) b other e = e

length-or : (x : Option Value) (v : Value) → IsLength v → IfThere IsLength x → IsLength (unwrap_or x v)
length-or None v h wanted = h
length-or (Some y) v h wanted = wanted

stored-cond : (b : Bool) (c c' : Complete) → b ≡ false → IsLengthProperty (Some c') → IsLengthProperty (Some (cond b c c'))
stored-cond true c c' other h = absurd (true≢false other)
stored-cond false c c' other h = h

applied-length : (d : Descriptor) (v : Value) (flags : Attributes) → IsLength v → flags.configurable ≡ false → IfThere IsLength d.value → is_refused d (complete.Stored v flags) ≡ false → IsLengthProperty (Some (applied d (complete.Stored v flags)))
applied-length d v flags h other wanted allowed =
    let r = none-refused flags.configurable _ _ _ _ _ _ other allowed in
    stored-cond (is_accessor_descriptor d) (accessor_or d None None flags.enumerable flags.configurable) (stored_or d v flags) r.1
    (length-or d.value v h wanted, not_raised d.configurable flags.configurable other r.0)

length-defined : (d : Descriptor) (now : Complete) → IsLengthProperty (Some now) → IfThere IsLength d.value → IsLengthVerdict (change_of d now)
length-defined d (complete.Stored v flags) h wanted =
    let now : Complete = complete.Stored v flags in
    keeps-cond (is_without_fields d) (cond (is_refused d now) verdict.Refuse (cond (changes_nothing d now) verdict.Keep (verdict.Apply (applied d now))))
    (refuses-cond (is_refused d now) (cond (changes_nothing d now) verdict.Keep (verdict.Apply (applied d now)))
    (λ allowed. keeps-cond (changes_nothing d now) (verdict.Apply (applied d now)) (applied-length d v flags h.0 h.1 wanted allowed)))
length-defined d (complete.Accessor get set e c) h wanted = absurd h

pub length-verdict : (extensible : Bool) (d : Descriptor) (now : Option Complete) → IsLengthProperty now → IfThere IsLength d.value → IsLengthVerdict (verdict_of extensible d now)
length-verdict extensible d (Some now) h wanted = length-defined d now h wanted
length-verdict extensible d None h wanted = absurd h

-- a length is not configurable
fixed-stored : (c : Complete) → IsLengthProperty (Some c) → is_configurable c ≡ true → ⊥
fixed-stored (complete.Stored v flags) h free = true≢false (sym free ∙ h.1)
fixed-stored (complete.Accessor get set enumerable configurable) h free = absurd h

pub length-fixed : (now : Option Complete) (c : Complete) → IsLengthProperty now → now ≡ Some c → is_configurable c ≡ true → ⊥
length-fixed now c h e free = fixed-stored c (subst IsLengthProperty e h) free

-- ---- later lists

-- the key is that of the text's place
pub key-same : (l l' : Lists) → l'.texts ≡ l.texts → length_key l' ≡ length_key l
unfolding number_of
key-same l l' e = ap (λ ts. Name (record { 0 = text_place ts (units_of_start start_text.Length) })) e

-- where the text is there, the key stays
pub key-stays : (l l' : Lists) → Grows l l' → HasOneEach l'.texts → IsKnownKey l (length_key l) → length_key l' ≡ length_key l
unfolding number_of
key-stays l l' g one known =
    let units = units_of_start start_text.Length in
    let place = text_place l.texts units in
    ap (λ n. Name (record { 0 = n }))
    (place-alone l'.texts units place one (text-later l l' g (record { 0 = place }) known.0.0)
    (units-later l l' g place known.0.0 ∙ place-names l.texts units known.0.0))

pub length-later : (l l' : Lists) → Grows l l' → HasOneEach l'.texts → (ps : List OwnProperty) → AllByRecursion (IsKnownProperty l) ps → LengthIn (length_key l) ps → LengthIn (length_key l') ps
length-later l l' g one ps known h =
    subst (λ key. LengthIn key ps) (sym (key-stays l l' g one (length-known l ps (length_key l) known h))) h

-- ---- objects that are no Arrays

array-fixed : (k : ObjectKind) → is_array (fixed_kind k) ≡ is_array k
array-fixed kind_of.Ordinary = refl
array-fixed (kind_of.Function function constructor strict) = refl
array-fixed (kind_of.Builtin row constructor proxy) = refl
array-fixed kind_of.Array = refl
array-fixed (kind_of.Text t) = refl
array-fixed (kind_of.Wrapper v) = refl
array-fixed (kind_of.Arguments cells) = refl
array-fixed kind_of.Error = refl
array-fixed (kind_of.Proxy target handler callable constructor) = refl

-- an object that is there and is no Array
pub record IsNoArray (l : Lists) (o : ObjectId) : Type 0 where
  pub there : IsObject l o
  pub other : is_array (kind l o) ≡ false

pub no_array-later : (l l' : Lists) → Grows l l' → (o : ObjectId) → IsNoArray l o → IsNoArray l' o
no_array-later l l' g o h =
    record { there = object-later l l' g o h.there; other = sym (array-fixed (kind l' o)) ∙ ap is_array (g.kinds o h.there) ∙ array-fixed (kind l o) ∙ h.other }

pub no_array-leaves : (l : Lists) (o : ObjectId) (k : PropKey) (v : Option Value) → is_array (kind l o) ≡ false → LeavesLength l o k v
no_array-leaves l o k v other array same = absurd (true≢false (sym array ∙ other))

-- a start object of another kind
pub start-no_array : (l : Lists) → IsIntact l → (i : Intrinsic) → is_array (start_kind i) ≡ false → IsNoArray l (object_of i)
start-no_array l h i other =
    let k = h.start i in record { there = k.0; other = sym (array-fixed (kind l (object_of i))) ∙ ap is_array k.1 ∙ other }
