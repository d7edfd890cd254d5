-- The own keys are known.
use Rattle.std.proofs.Common.{◌≤◌, ℕ, zero, suc, cond, List, [], ◌∷◌, ◌++◌, get_or, arith}
use Rattle.std.specs.Prelude.{map, filter, nat_lt, ◌==◌}
use Rattle.std.specs.List.{AllByRecursion}
use Rattle.property_keys.specs.declared.identifiers.ObjectId.{ObjectId}
use Rattle.property_keys.specs.declared.keys.PropKey.{PropKey}
use Rattle.property_keys.specs.declared.keys.PropKey.TheVariants.{Index, Name, Sym}
use Rattle.property_keys.specs.Keys.{most_index}
use Rattle.es_model.specs.declared.kinds.ObjectKind.{ObjectKind}
use Rattle.es_model.specs.declared.kinds.ObjectKind.TheVariants as kind_of
use Rattle.es_model.specs.declared.owned.OwnProperty.{OwnProperty}
use Rattle.es_model.specs.declared.requests.Request.TheVariants.{Keys}
use Rattle.es_model.specs.Objects.{Object, object_at}
use Rattle.es_model.specs.OwnKeys.{put_index, put_key, indices_in, with_indices_below, code_units, is_name, is_symbol, keys_in, keys_of, own_keys}
use Rattle.es_model.specs.World.{Lists, World}
use Rattle.es_model.specs.Program.{Of}
use Rattle.es_model.specs.Known.{IsObject, IsKnownKey, IsKnownProperty}
use Rattle.property_keys.specs.Limits.{most_units}
use Rattle.es_model.specs.Sound.{IsShort, IsSound}
use Rattle.es_model.specs.Kept.{FitsTask, IsKept}
use Rattle.ordinary_object.specs.Ordinary.{ordinary_own_property_keys}
use Rattle.es_model.proofs.SoundProperties.{all-cond, all-filter}

abbrev IsIndex : ℕ → Type 0
IsIndex i = i ≤ most_index

all-mapped : {X Y : Type 0} (P : X → Type 0) (Q : Y → Type 0) (f : X → Y) → ((x : X) → P x → Q (f x)) → (xs : List X) → AllByRecursion P xs → AllByRecursion Q (map f xs)
all-mapped P Q f g [] h = tt
all-mapped P Q f g (x ∷ xs) h = (g x h.0, all-mapped P Q f g xs h.1)

all-joined : {X : Type 0} (P : X → Type 0) (xs ys : List X) → AllByRecursion P xs → AllByRecursion P ys → AllByRecursion P (xs ++ ys)
all-joined P [] ys h h' = h'
all-joined P (x ∷ xs) ys h h' = (h.0, all-joined P xs ys h.1 h')

put-index : (i : ℕ) (is : List ℕ) → IsIndex i → AllByRecursion IsIndex is → AllByRecursion IsIndex (put_index i is)
put-index i [] b h = (b, tt)
put-index i (j ∷ js) b h =
    all-cond IsIndex (nat_lt i j) (i ∷ j ∷ js) (cond (i == j) (j ∷ js) (j ∷ put_index i js)) (b, h)
    (all-cond IsIndex (i == j) (j ∷ js) (j ∷ put_index i js) h (h.0, put-index i js b h.1))

put-key : (l : Lists) (k : PropKey) (is : List ℕ) → IsKnownKey l k → AllByRecursion IsIndex is → AllByRecursion IsIndex (put_key k is)
put-key l (Index i) is k h = put-index i is k.0 h
put-key l (Name t) is k h = h
put-key l (Sym s) is k h = h

indices-known : (l : Lists) (ps : List OwnProperty) → AllByRecursion (IsKnownProperty l) ps → AllByRecursion IsIndex (indices_in ps)
indices-known l [] h = tt
indices-known l (p ∷ ps) h = put-key l p.key (indices_in ps) h.0.0 (indices-known l ps h.1)

below-known : (n : ℕ) (is : List ℕ) → n ≤ most_units → AllByRecursion IsIndex is → AllByRecursion IsIndex (with_indices_below n is)
below-known zero is b h = h
below-known (suc n) is b h = below-known n (put_index n is) (omega arith) (put-index n is (omega arith) h)

short-got : (ts : List (List ℕ)) (i : ℕ) → AllByRecursion IsShort ts → IsShort (get_or ts i [])
short-got [] i h = omega arith
short-got (t ∷ ts) zero h = h.0
short-got (t ∷ ts) (suc i) h = short-got ts i h.1

units-few : (l : Lists) (k : ObjectKind) → AllByRecursion IsShort l.texts → code_units l k ≤ most_units
units-few l kind_of.Ordinary h = omega arith
units-few l (kind_of.Function function constructor strict) h = omega arith
units-few l (kind_of.Builtin row constructor proxy) h = omega arith
units-few l kind_of.Array h = omega arith
units-few l (kind_of.Text t) h = short-got l.texts t.0 h
units-few l (kind_of.Wrapper v) h = omega arith
units-few l (kind_of.Arguments cells) h = omega arith
units-few l kind_of.Error h = omega arith
units-few l (kind_of.Proxy target handler callable constructor) h = omega arith

keys-known : (l : Lists) (x : Object) → AllByRecursion IsShort l.texts → AllByRecursion (IsKnownProperty l) x.properties → AllByRecursion (IsKnownKey l) (keys_of l x)
keys-known l x short h =
    let keys = all-mapped (IsKnownProperty l) (IsKnownKey l) (λ (p : OwnProperty). p.key) (λ p k. k.0) x.properties h in
    let is : List ℕ = with_indices_below (code_units l x.kind) (indices_in x.properties) in
    all-joined (IsKnownKey l) (map Index is ++ filter is_name (keys_in x.properties)) (filter is_symbol (keys_in x.properties))
    (all-joined (IsKnownKey l) (map Index is) (filter is_name (keys_in x.properties))
    (all-mapped IsIndex (IsKnownKey l) Index (λ i b. (b, tt)) is (below-known (code_units l x.kind) (indices_in x.properties) (units-few l x.kind short) (indices-known l x.properties h)))
    (all-filter (IsKnownKey l) is_name (keys_in x.properties) keys))
    (all-filter (IsKnownKey l) is_symbol (keys_in x.properties) keys)

pub keys-kept : (w : World) (o : ObjectId) → IsSound w → IsObject w.lists o → IsKept (FitsTask (Of (Keys o))) (ordinary_own_property_keys o) w
unfolding own_keys
keys-kept w o s there = (s, (tt, keys-known w.lists (object_at w.lists.objects o) s.intact.lengths (s.intact.objects o there).properties))
