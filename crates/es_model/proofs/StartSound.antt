-- The start world is sound. What is a test of finitely many cases is computed; so a start table with more properties needs no line here.
use Rattle.std.proofs.Common.{◌≡◌, ◌<◌, ℕ, zero, suc, Bool, true, false, Option, Some, None, List, [], ◌∷◌, length, get_or, refl, sym, subst, ap, ◌∙◌, arith, true≢false, ◌&&◌, ◌||◌, IsTrue, is_none, option_and_then, nat_eq}
use Rattle.std.specs.Prelude.{ℤ, pos, negsuc, not, nat_lt, nat_le}
use Rattle.std.specs.Bool.{beq}
use Rattle.property_keys.specs.Numbers.{natural_of}
use Rattle.std.specs.List.{AllByRecursion, list_all}
use Rattle.std.proofs.lemmas.Bool.{eqb-true, ltb-true, leb-true}
use Rattle.std.proofs.Math.Facts.{yes_leb}
use Rattle.std.proofs.lemmas.Option.{slice_get_within, get_or_from_slice_get}
use Rattle.property_keys.specs.declared.identifiers.ObjectId.{ObjectId}
use Rattle.property_keys.specs.declared.identifiers.TextId.{TextId}
use Rattle.property_keys.specs.declared.keys.PropKey.{PropKey}
use Rattle.property_keys.specs.declared.keys.PropKey.TheVariants.{Index, Name, Sym}
use Rattle.property_keys.specs.declared.values.Value.{Value}
use Rattle.property_keys.specs.declared.values.Value.TheVariants as value
use Rattle.property_keys.proofs.ArrayIndices.{array_index_of-no_number}
use Rattle.property_keys.specs.Texts.{HasOneEach, text_at}
use Rattle.property_keys.specs.Wholes.{IsWhole, most_whole}
use Rattle.descriptors.specs.declared.property.Complete.{Complete}
use Rattle.descriptors.specs.declared.property.Complete.TheVariants as complete
use Rattle.es_model.specs.declared.kinds.ObjectKind.{ObjectKind}
use Rattle.es_model.specs.declared.kinds.ObjectKind.TheVariants as kind_of
use Rattle.es_model.specs.declared.owned.OwnProperty.{OwnProperty}
use Rattle.es_model.specs.declared.intrinsics.Class.{Class}
use Rattle.es_model.specs.declared.intrinsics.Class.TheVariants as class
use Rattle.es_model.specs.declared.intrinsics.Intrinsic.{Intrinsic}
use Rattle.es_model.specs.declared.intrinsics.Intrinsic.TheVariants as intrinsic
use Rattle.es_tree.specs.Tree.{Tree, empty_tree}
use Rattle.es_model.specs.Objects.{Object, object_at, is_array, no_object, same_key}
use Rattle.es_model.specs.World.{Lists, kind, number_of, own, text_place}
use Rattle.es_model.specs.Builtins.{BuiltinFacts, builtin_facts}
use Rattle.es_model.specs.StartObjects.{object_of, start_number}
use Rattle.es_model.specs.StartTexts.{start_texts, start_symbols}
use Rattle.es_model.specs.StartTable.{start_kind, prototype_kind}
use Rattle.es_model.specs.StartWorld.{start_lists, start_object}
use Rattle.es_model.specs.Grows.{fixed_kind}
use Rattle.es_model.specs.Known.{IsObject, IsText, IfThere, IsKnown, IsKnownKey, IsKnownComplete, IsKnownProperty}
use Rattle.property_keys.specs.Limits.{most_units}
use Rattle.es_model.specs.Sound.{IsKnownKind, AreDistinct, IsIntactObject, link, up, NeverReturns, IsShort, IsIntact, HasItsProxy, HasLength, HasRow, IsLength, IsLengthProperty, IsRightKind, length_key, most_length}
use Rattle.es_model.specs.StartLaws.{StartIsSound}
use Rattle.es_model.proofs.SoundNew.{split}
use Rattle.es_model.proofs.Starting.{objects-are-in-order}

-- ---- tests that compute

both : (a b : Bool) → (a && b) ≡ true → (a ≡ true) × (b ≡ true)
both true b e = (refl, e)
both false b e = absurd (true≢false (sym e))

abbrev all_below : (ℕ → Bool) → ℕ → Bool
all_below test zero = true
all_below test (suc n) = test n && all_below test n

below-at : (test : ℕ → Bool) (n : ℕ) → all_below test n ≡ true → (i : ℕ) → i < n → test i ≡ true
below-at test zero e i b = absurd (omega arith)
below-at test (suc n) e i b =
    let k = both (test n) (all_below test n) e in
    split (test i ≡ true) i n b (below-at test n k.1 i) (λ same. ap test same ∙ k.0)

all-tested : {X : Type 0} (test : X → Bool) (P : X → Type 0) → ((x : X) → test x ≡ true → P x) → (xs : List X) → list_all test xs ≡ true → AllByRecursion P xs
all-tested test P f [] e = tt
all-tested test P f (x ∷ xs) e = let k = both (test x) (list_all test xs) e in (f x k.0, all-tested test P f xs k.1)

abbrev is_there : {X : Type 0} → (X → Bool) → Option X → Bool
is_there test None = true
is_there test (Some x) = test x

there-tested : {X : Type 0} (test : X → Bool) (P : X → Type 0) → ((x : X) → test x ≡ true → P x) → (x : Option X) → is_there test x ≡ true → IfThere P x
there-tested test P f None e = tt
there-tested test P f (Some x) e = f x e

-- ---- what is known

abbrev is_object : Lists → ObjectId → Bool
is_object l o = nat_lt o.0 (length l.objects)

object-tested : (l : Lists) (o : ObjectId) → is_object l o ≡ true → IsObject l o
object-tested l o e = ltb-true o.0 (length l.objects) e

abbrev is_text : Lists → TextId → Bool
is_text l t = nat_lt t.0 (length l.texts)

text-tested : (l : Lists) (t : TextId) → is_text l t ≡ true → IsText l t
text-tested l t e = ltb-true t.0 (length l.texts) e

abbrev is_whole : ℤ → Bool
is_whole (pos n) = nat_le n most_whole
is_whole (negsuc n) = false

whole-tested : (n : ℤ) → is_whole n ≡ true → IsWhole n
whole-tested (pos n) e = let b = leb-true n most_whole e in (omega arith, record { le = yes_leb b })
whole-tested (negsuc n) e = absurd (true≢false (sym e))

abbrev is_known : Lists → Value → Bool
is_known l value.Undefined = true
is_known l value.Null = true
is_known l (value.Bool b) = true
is_known l (value.Whole n) = is_whole n
is_known l (value.Text t) = is_text l t
is_known l (value.Symbol s) = nat_lt s.0 (length l.symbols)
is_known l (value.Object o) = is_object l o

known-tested : (l : Lists) (v : Value) → is_known l v ≡ true → IsKnown l v
known-tested l value.Undefined e = tt
known-tested l value.Null e = tt
known-tested l (value.Bool b) e = tt
known-tested l (value.Whole n) e = whole-tested n e
known-tested l (value.Text t) e = text-tested l t e
known-tested l (value.Symbol s) e = ltb-true s.0 (length l.symbols) e
known-tested l (value.Object o) e = object-tested l o e

none-tested : (x : Option ℤ) → is_none x ≡ true → x ≡ None
none-tested None e = refl
none-tested (Some x) e = absurd (true≢false (sym e))

abbrev is_key : Lists → PropKey → Bool
is_key l (Index i) = false
is_key l (Name t) = is_text l t && is_none (natural_of 10 (text_at l.texts t.0))
is_key l (Sym s) = nat_lt s.0 (length l.symbols)

key-tested : (l : Lists) (k : PropKey) → is_key l k ≡ true → IsKnownKey l k
key-tested l (Index i) e = absurd (true≢false (sym e))
key-tested l (Name t) e =
    let k = both (is_text l t) (is_none (natural_of 10 (text_at l.texts t.0))) e in
    ((text-tested l t k.0, array_index_of-no_number (text_at l.texts t.0) (none-tested (natural_of 10 (text_at l.texts t.0)) k.1)), tt)
key-tested l (Sym s) e = (tt, ltb-true s.0 (length l.symbols) e)

abbrev is_complete : Lists → Complete → Bool
is_complete l (complete.Stored v flags) = is_known l v
is_complete l (complete.Accessor get set enumerable configurable) = is_there (is_object l) get && is_there (is_object l) set

complete-tested : (l : Lists) (c : Complete) → is_complete l c ≡ true → IsKnownComplete l c
complete-tested l (complete.Stored v flags) e = known-tested l v e
complete-tested l (complete.Accessor get set enumerable configurable) e =
    let k = both (is_there (is_object l) get) (is_there (is_object l) set) e in
    (there-tested (is_object l) (IsObject l) (object-tested l) get k.0, there-tested (is_object l) (IsObject l) (object-tested l) set k.1)

abbrev is_property : Lists → OwnProperty → Bool
is_property l p = is_key l p.key && is_complete l p.complete

property-tested : (l : Lists) (p : OwnProperty) → is_property l p ≡ true → IsKnownProperty l p
property-tested l p e = let k = both (is_key l p.key) (is_complete l p.complete) e in (key-tested l p.key k.0, complete-tested l p.complete k.1)

-- ---- kinds: no start object is a function of the script, an arguments object or a Proxy

abbrev is_row : Option BuiltinFacts → Bool → Option ObjectId → Bool
is_row (Some facts) constructor None = beq facts.constructs constructor && not facts.revokes
is_row facts constructor proxy = false

same-tested : (a b : Bool) → beq a b ≡ true → a ≡ b
same-tested true true e = refl
same-tested false false e = refl
same-tested true false e = absurd (true≢false (sym e))
same-tested false true e = absurd (true≢false (sym e))

row-plain : (l : Lists) (facts : BuiltinFacts) (constructor revokes : Bool) → facts.revokes ≡ revokes → facts.constructs ≡ constructor → not revokes ≡ true → HasRow l (Some facts) constructor None
row-plain l facts constructor true e same plain = absurd (true≢false (sym plain))
row-plain l facts constructor false e same plain = (same, subst (λ (revokes : Bool). HasItsProxy l revokes None) (sym e) tt)

row-tested : (l : Lists) (facts : Option BuiltinFacts) (constructor : Bool) (proxy : Option ObjectId) → is_row facts constructor proxy ≡ true → HasRow l facts constructor proxy
row-tested l None constructor proxy e = absurd (true≢false (sym e))
row-tested l (Some facts) constructor (Some p) e = absurd (true≢false (sym e))
row-tested l (Some facts) constructor None e =
    let k = both (beq facts.constructs constructor) (not facts.revokes) e in
    row-plain l facts constructor facts.revokes refl (same-tested facts.constructs constructor k.0) k.1

abbrev is_kind : Lists → ObjectKind → Bool
is_kind l kind_of.Ordinary = true
is_kind l (kind_of.Builtin row constructor proxy) = is_row (builtin_facts row) constructor proxy
is_kind l kind_of.Array = true
is_kind l (kind_of.Text t) = is_text l t
is_kind l (kind_of.Wrapper v) = is_known l v
is_kind l kind_of.Error = true
is_kind l other = false

no-proxy : (l : Lists) (facts : Option BuiltinFacts) (constructor : Bool) (proxy : Option ObjectId) → is_row facts constructor proxy ≡ true → IfThere (IsObject l) proxy
no-proxy l facts constructor None e = tt
no-proxy l None constructor (Some p) e = absurd (true≢false (sym e))
no-proxy l (Some facts) constructor (Some p) e = absurd (true≢false (sym e))

kind-tested : (script : Tree) (l : Lists) (o : ObjectId) (k : ObjectKind) → is_kind l k ≡ true → IsKnownKind l k × IsRightKind script l o k
kind-tested script l o kind_of.Ordinary e = (tt, tt)
kind-tested script l o (kind_of.Function function constructor strict) e = absurd (true≢false (sym e))
kind-tested script l o (kind_of.Builtin row constructor proxy) e = (no-proxy l (builtin_facts row) constructor proxy e, row-tested l (builtin_facts row) constructor proxy e)
kind-tested script l o kind_of.Array e = (tt, tt)
kind-tested script l o (kind_of.Text t) e = (text-tested l t e, tt)
kind-tested script l o (kind_of.Wrapper v) e = (known-tested l v e, tt)
kind-tested script l o (kind_of.Arguments cells) e = absurd (true≢false (sym e))
kind-tested script l o kind_of.Error e = (tt, tt)
kind-tested script l o (kind_of.Proxy target handler callable constructor) e = absurd (true≢false (sym e))

-- ---- objects

abbrev are_distinct : List OwnProperty → Bool
are_distinct [] = true
are_distinct (p ∷ ps) = list_all (λ (q : OwnProperty). not (same_key p.key q.key)) ps && are_distinct ps

not-tested : (b : Bool) → not b ≡ true → b ≡ false
not-tested true e = absurd (true≢false (sym e))
not-tested false e = refl

distinct-tested : (ps : List OwnProperty) → are_distinct ps ≡ true → AreDistinct ps
distinct-tested [] e = tt
distinct-tested (p ∷ ps) e =
    let k = both (list_all (λ (q : OwnProperty). not (same_key p.key q.key)) ps) (are_distinct ps) e in
    (all-tested (λ (q : OwnProperty). not (same_key p.key q.key)) (λ (q : OwnProperty). same_key p.key q.key ≡ false) (λ q. not-tested (same_key p.key q.key)) ps k.0, distinct-tested ps k.1)

abbrev is_intact : Lists → Object → Bool
is_intact l x = is_kind l x.kind && is_there (is_object l) x.proto && list_all (is_property l) x.properties && are_distinct x.properties

record IsTested (script : Tree) (l : Lists) (o : ObjectId) (x : Object) : Type 0 where
  intact : IsIntactObject l x
  right : IsRightKind script l o x.kind

object-sound : (script : Tree) (l : Lists) (o : ObjectId) (x : Object) → is_intact l x ≡ true → IsTested script l o x
object-sound script l o x e =
    let a = both (is_kind l x.kind && is_there (is_object l) x.proto && list_all (is_property l) x.properties) (are_distinct x.properties) e in
    let b = both (is_kind l x.kind && is_there (is_object l) x.proto) (list_all (is_property l) x.properties) a.0 in
    let c = both (is_kind l x.kind) (is_there (is_object l) x.proto) b.0 in
    let k = kind-tested script l o x.kind c.0 in
    record {
      intact = record {
        slots = k.0;
        proto = there-tested (is_object l) (IsObject l) (object-tested l) x.proto c.1;
        properties = all-tested (is_property l) (IsKnownProperty l) (property-tested l) x.properties b.1;
        distinct = distinct-tested x.properties a.1;
      };
      right = k.1;
    }

start-objects : (script : Tree) (o : ObjectId) → IsObject start_lists o → IsTested script start_lists o (object_at start_lists.objects o)
start-objects script o there =
    object-sound script start_lists o (object_at start_lists.objects o)
    (below-at (λ i. is_intact start_lists (get_or start_lists.objects i no_object)) (length start_lists.objects) refl o.0 there)

-- ---- chains: each link leads to an object of a lower height

abbrev height_above : (ObjectId → ℕ) → Option ObjectId → ℕ
height_above height None = 0
height_above height (Some p) = suc (height p)

abbrev height : ℕ → Lists → ObjectId → ℕ
height zero l o = 0
height (suc n) l o = height_above (height n l) (link l o)

IsLower : Lists → (ObjectId → ℕ) → ℕ → ObjectId → Type 0
IsLower l h n p = IsObject l p × (h p < n)

up-lower : (l : Lists) (h : ObjectId → ℕ) → ((o : ObjectId) → IsObject l o → IfThere (IsLower l h (h o)) (link l o)) → (n m : ℕ) (p : Option ObjectId) → IfThere (IsLower l h m) p → IfThere (IsLower l h m) (option_and_then (up l n) p)
unfolding IsLower
up-lower l h falls n m None b = tt
up-lower l h falls zero m (Some p) b = b
up-lower l h falls (suc n) m (Some p) b = up-lower l h falls n m (link l p) (weaken (link l p) (falls p b.0))
  where
    weaken : (x : Option ObjectId) → IfThere (IsLower l h (h p)) x → IfThere (IsLower l h m) x
    weaken None k = tt
    weaken (Some y) k = (k.0, (let a = k.1 in let c = b.1 in omega arith))

never-returns : (l : Lists) (h : ObjectId → ℕ) → ((o : ObjectId) → IsObject l o → IfThere (IsLower l h (h o)) (link l o)) → NeverReturns l
unfolding IsLower
never-returns l h falls o n there back =
    let k = subst (IfThere (IsLower l h (h o))) back (up-lower l h falls n (h o) (link l o) (falls o there)) in
    let low = k.1 in absurd (omega arith)

abbrev is_lower : Lists → (ObjectId → ℕ) → ℕ → ObjectId → Bool
is_lower l h n p = is_object l p && nat_lt (h p) n

lower-tested : (l : Lists) (h : ObjectId → ℕ) (n : ℕ) (p : ObjectId) → is_lower l h n p ≡ true → IsLower l h n p
unfolding IsLower
lower-tested l h n p e = let k = both (is_object l p) (nat_lt (h p) n) e in (object-tested l p k.0, ltb-true (h p) n k.1)

-- no chain of start objects has more than three links
start-height : ObjectId → ℕ
start-height o = height 4 start_lists o

start-chains : NeverReturns start_lists
unfolding start-height
start-chains =
    never-returns start_lists start-height (λ o there.
    there-tested (is_lower start_lists start-height (start-height o)) (IsLower start_lists start-height (start-height o)) (lower-tested start_lists start-height (start-height o)) (link start_lists o)
    (below-at (λ i. is_there (is_lower start_lists start-height (start-height (record { 0 = i }))) (link start_lists (record { 0 = i }))) (length start_lists.objects) refl o.0 there))

-- ---- texts

place-start : (i : ℕ) → i < length start_texts → text_place start_texts (text_at start_texts i) ≡ i
place-start i b =
    eqb-true (text_place start_texts (text_at start_texts i)) i (below-at (λ n. nat_eq (text_place start_texts (text_at start_texts n)) n) (length start_texts) refl i b)

start-texts : HasOneEach start_texts
start-texts i j bi bj e = sym (place-start i bi) ∙ ap (text_place start_texts) e ∙ place-start j bj

start-descriptions : AllByRecursion (IfThere (IsText start_lists)) start_symbols
start-descriptions =
    all-tested (is_there (is_text start_lists)) (IfThere (IsText start_lists)) (there-tested (is_text start_lists) (IsText start_lists) (text-tested start_lists)) start_symbols refl

-- ---- the start objects are there, each with its kind

fixed-prototype : (c : Class) → fixed_kind (prototype_kind c) ≡ prototype_kind c
fixed-prototype class.Object = refl
fixed-prototype class.Function = refl
fixed-prototype class.Array = refl
fixed-prototype class.String = refl
fixed-prototype class.Number = refl
fixed-prototype class.Boolean = refl
fixed-prototype class.Symbol = refl
fixed-prototype (class.Error e) = refl

fixed-start : (i : Intrinsic) → fixed_kind (start_kind i) ≡ start_kind i
fixed-start intrinsic.Global = refl
fixed-start (intrinsic.Constructor c) = refl
fixed-start (intrinsic.Prototype c) = fixed-prototype c
fixed-start intrinsic.Proxy = refl
fixed-start intrinsic.ThrowTypeError = refl
fixed-start intrinsic.Reflect = refl
fixed-start intrinsic.Print = refl
fixed-start (intrinsic.Function f) = refl

start-there : (i : Intrinsic) → IsObject start_lists (object_of i) × (fixed_kind (kind start_lists (object_of i)) ≡ start_kind i)
start-there i =
    let stands = objects-are-in-order.0 i in (
      slice_get_within start_lists.objects (start_number i) (start_object i) stands,
      ap (λ (x : Object). fixed_kind x.kind) (get_or_from_slice_get start_lists.objects (start_number i) (start_object i) no_object stands) ∙ fixed-start i,
    )

-- ---- %Array.prototype% has its length

abbrev is_length : Value → Bool
is_length (value.Whole (pos n)) = nat_le n most_length
is_length other = false

length-tested : (v : Value) → is_length v ≡ true → IsLength v
length-tested (value.Whole (pos n)) e = leb-true n most_length e
length-tested v e = absurd (true≢false (sym e))

abbrev is_length_property : Option Complete → Bool
is_length_property (Some (complete.Stored v flags)) = is_length v && not flags.configurable
is_length_property other = false

length_property-tested : (c : Option Complete) → is_length_property c ≡ true → IsLengthProperty c
length_property-tested (Some (complete.Stored v flags)) e =
    let k = both (is_length v) (not flags.configurable) e in (length-tested v k.0, not-tested flags.configurable k.1)
length_property-tested c e = absurd (true≢false (sym e))

implied : (a b : Bool) → (not a || b) ≡ true → a ≡ true → b ≡ true
implied true b e array = e
implied false b e array = absurd (true≢false (sym array))

start-arrays : (o : ObjectId) → IsObject start_lists o → IsTrue (is_array (kind start_lists o)) → HasLength start_lists o
unfolding number_of
start-arrays o there array =
    let property : Option Complete = own start_lists o (length_key start_lists) in
    length_property-tested property
    (implied (is_array (kind start_lists o)) (is_length_property property)
    (below-at (λ i. not (is_array (kind start_lists (record { 0 = i }))) || is_length_property (own start_lists (record { 0 = i }) (length_key start_lists))) (length start_lists.objects) refl o.0 there) array)

-- ---- the whole

start-intact : IsIntact start_lists
start-intact = record {
  objects = λ o there. (start-objects (empty_tree) o there).intact;
  cells = tt;
  descriptions = start-descriptions;
  texts = start-texts;
  lengths = all-tested (λ (units : List ℕ). nat_le (length units) most_units) IsShort (λ units. leb-true (length units) most_units) start_texts refl;
  symbols = omega arith;
  start = start-there;
  chains = start-chains;
}

pub start-sound : StartIsSound
start-sound script turns = record { intact = start-intact; kinds = λ o there. (start-objects script o there).right; arrays = start-arrays }
