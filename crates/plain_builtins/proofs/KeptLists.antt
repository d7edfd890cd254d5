-- CreateListFromArrayLike and the function that prints a line keep worlds sound.
use Rattle.std.proofs.Common.{◌≡◌, ◌<◌, ℕ, zero, suc, ◌-◌, Bool, true, false, cond, Option, Some, None, List, [], ◌∷◌, ◌++◌, refl, ap, subst, ◌∙◌, arith}
use Rattle.std.specs.Prelude.{codes, min, nat_le, pos}
use Rattle.std.specs.List.{AllByRecursion}
use Rattle.std.proofs.lemmas.Bool.{leb-true, leb-false}
use Rattle.property_keys.specs.declared.identifiers.ObjectId.{ObjectId}
use Rattle.property_keys.specs.declared.keys.PropKey.{PropKey}
use Rattle.property_keys.specs.declared.keys.PropKey.TheVariants.{Index, Name, Sym}
use Rattle.property_keys.specs.declared.values.Value.{Value}
use Rattle.property_keys.specs.declared.values.Value.TheVariants as value
use Rattle.property_keys.specs.Decimals.{whole_units}
use Rattle.property_keys.specs.Keys.{array_index_of, key_of, most_index}
use Rattle.property_keys.proofs.ArrayIndices.{array_index_of-great}
use Rattle.std.proofs.lemmas.Fmt.{decimal_is_IsNumeral}
use Rattle.property_keys.specs.Wholes.{most_whole}
use Rattle.es_model.specs.declared.answers.Reply.{Reply}
use Rattle.es_model.specs.declared.answers.Reply.TheVariants as reply
use Rattle.es_model.specs.declared.kinds.ErrorKind.TheVariants as error
use Rattle.es_model.specs.declared.requests.Operation.TheVariants as operation
use Rattle.es_model.specs.declared.requests.Request.{Request}
use Rattle.es_model.specs.declared.requests.Request.TheVariants.{Call, Print, Read, Work}
use Rattle.es_model.specs.Completions.{Completion, Normal}
use Rattle.es_model.specs.World.{Lists, World, units_of, number_of}
use Rattle.es_model.specs.Changes.{Interning, changed, charged}
use Rattle.es_model.specs.Program.{Program, Task, Of, done, intern}
use Rattle.es_model.specs.programs.Errors.{undefined}
use Rattle.es_model.specs.Known.{IsObject, IfThere, IsKnown, IsKnownKey, AreKnown}
use Rattle.es_model.specs.Fits.{Fits, HasValue, IsKnownReply, IsTextValue}
use Rattle.es_model.specs.Sound.{IsSound}
use Rattle.es_model.specs.Kept.{FitsTask, IsKept, IsLater}
use Rattle.es_model.specs.programs.Abrupt.{value_in}
use Rattle.es_model.specs.programs.Converting.{length_got, length_given, to_length}
use Rattle.es_model.specs.programs.Methods.{get}
use Rattle.es_model.specs.programs.Testing.{as_object}
use Rattle.es_model.proofs.Abrupt.{answer-kept, value-there}
use Rattle.es_model.proofs.Belonging.{reply-later}
use Rattle.es_model.proofs.Growing.{grows-changed}
use Rattle.es_model.proofs.Keeping.{later_then}
use Rattle.es_model.proofs.KnownLater.{all-map, object-later, known-later}
use Rattle.es_model.proofs.SharedKept.{get_named-kept, later-changed, length_got-kept, not_object-kept, then_whole-kept, value-kept, whole-of}
use Rattle.es_model.proofs.SoundChanges.{sound-interning}
use Rattle.es_model.proofs.SoundErrors.{error-kept, interned-known, interned-names}
use Rattle.es_model.proofs.SoundReads.{sound-charged}
use Rattle.plain_builtins.specs.ArrayLikes.{wrong_value, gives_all, key_put, element_put, element_given, get_element, elements_left, elements_of, list_by}
use Rattle.plain_builtins.specs.Names.{collected_reply}
use Rattle.plain_builtins.specs.Printing.{print_left}
use Rattle.plain_builtins.specs.declared.words.Collected.{Collected}
use Rattle.plain_builtins.specs.declared.words.Collected.TheVariants as collected
use Rattle.plain_builtins.proofs.KeptConversions.{text-key, whole-short}
use Rattle.plain_builtins.proofs.KeptInstances.{object-known}

pub all-last : {X : Type 0} (P : X → Type 0) (xs : List X) (x : X) → AllByRecursion P xs → P x → AllByRecursion P (xs ++ x ∷ [])
all-last P [] x h k = (k, tt)
all-last P (y ∷ xs) x h k = (h.0, all-last P xs x h.1 k)

-- ---- CreateListFromArrayLike, where the task takes what was collected

abbrev TakesAll : Task → Collected → Type 0
TakesAll t (collected.Values vs) = (l : Lists) (us : List Value) → AreKnown l us → FitsTask t l (Normal (reply.List us))
TakesAll t (collected.Keys ks) = (l : Lists) (us : List PropKey) → AllByRecursion (IsKnownKey l) us → FitsTask t l (Normal (reply.Keys us))

abbrev AreCollected : Lists → Collected → Type 0
AreCollected l all = IsKnownReply l (collected_reply all)

gives_all-kept : (t : Task) (w : World) (all : Collected) → TakesAll t all → IsSound w → AreCollected w.lists all → IsKept (FitsTask t) (gives_all all) w
gives_all-kept t w (collected.Values vs) fits s known = (s, fits w.lists vs known)
gives_all-kept t w (collected.Keys ks) fits s known = (s, fits w.lists ks known)

wrong-kept : (t : Task) (w : World) → IsSound w → IsKept (FitsTask t) wrong_value w
wrong-kept t w s = error-kept t w error.TypeError (codes "wrong value") s (omega arith)

-- what goes on with one element more
abbrev OnCollected : Task → World → (Collected → Program) → Type 0
OnCollected t w next = (all : Collected) → TakesAll t all → AreCollected w.lists all → IsKept (FitsTask t) (next all) w

key_put-kept : (t : Task) (w : World) (next : Collected → Program) (ks : List PropKey) (v : Value) → TakesAll t (collected.Keys ks) → IsSound w → AllByRecursion (IsKnownKey w.lists) ks → IsKnown w.lists v → OnCollected t w next → IsKept (FitsTask t) (key_put next ks v) w
key_put-kept t w next ks value.Undefined fits s known k h = wrong-kept t w s
key_put-kept t w next ks value.Null fits s known k h = wrong-kept t w s
key_put-kept t w next ks (value.Bool b) fits s known k h = wrong-kept t w s
key_put-kept t w next ks (value.Whole n) fits s known k h = wrong-kept t w s
key_put-kept t w next ks (value.Text x) fits s known k h = h (collected.Keys (ks ++ key_of (units_of w.lists x) x ∷ [])) fits (all-last (IsKnownKey w.lists) ks (key_of (units_of w.lists x) x) known (text-key w.lists x k))
key_put-kept t w next ks (value.Symbol x) fits s known k h = h (collected.Keys (ks ++ Sym x ∷ [])) fits (all-last (IsKnownKey w.lists) ks (Sym x) known (tt, k))
key_put-kept t w next ks (value.Object o) fits s known k h = wrong-kept t w s

element_put-kept : (t : Task) (w : World) (next : Collected → Program) (all : Collected) (v : Value) → TakesAll t all → IsSound w → AreCollected w.lists all → IsKnown w.lists v → OnCollected t w next → IsKept (FitsTask t) (element_put next all v) w
element_put-kept t w next (collected.Values vs) v fits s known k h = h (collected.Values (vs ++ v ∷ [])) fits (all-last (IsKnown w.lists) vs v known k)
element_put-kept t w next (collected.Keys ks) v fits s known k h = key_put-kept t w next ks v fits s known k h

-- the key of an element past the array indices
great-key : (w : World) (i : ℕ) → most_index < i → IsKnownKey (changed (Interning (whole_units (pos (min i most_whole)))) w).lists (Name (number_of w.lists (whole_units (pos (min i most_whole)))))
great-key w i great =
    let units : List ℕ = whole_units (pos (min i most_whole)) in
    let digits = (decimal_is_IsNumeral (min i most_whole) (omega arith)).1 in
    ((interned-known w units, ap array_index_of (interned-names w units) ∙ array_index_of-great units (omega (arith, digits))), tt)

abbrev OnElement : Task → World → (Completion → Program) → Type 0
OnElement t w next = (q : Request) (c : Completion) (u : World) → IsSound u → IsLater w u → Fits u.lists q c → IsKept (FitsTask t) (next c) u

element-cond : (t : Task) (w : World) (o : ObjectId) (i : ℕ) (next : Completion → Program) (b : Bool) → nat_le i most_index ≡ b → IsSound w → IsObject w.lists o → OnElement t w next →
    IsKept (FitsTask t) (cond b (get o (Index i) next) (intern (whole_units (pos (min i most_whole))) (λ x. get o (Name x) next))) w
element-cond t w o i next true e s there h = (s, (there, (leb-true i most_index e, tt), there), λ c u su l fit. h (Read o (Index i) (value.Object o) None) c u su l fit)
element-cond t w o i next false e s there h =
    let units : List ℕ = whole_units (pos (min i most_whole)) in
    let v : World = changed (Interning units) w in
    let o-known = object-later w.lists v.lists (grows-changed (Interning units) w) o there in (
      sound-interning w units s (whole-short (pos (min i most_whole)) (whole-of (min i most_whole) (omega arith))),
      (o-known, great-key w i (leb-false i most_index e), o-known),
      λ c u su l fit. h (Read o (Name (number_of w.lists units)) (value.Object o) None) c u su (later_then w v u (later-changed (Interning units) w) l) fit,
    )

get_element-kept : (t : Task) (w : World) (o : ObjectId) (i : ℕ) (next : Completion → Program) → IsSound w → IsObject w.lists o → OnElement t w next → IsKept (FitsTask t) (get_element o i next) w
get_element-kept t w o i next s there h = element-cond t w o i next (nat_le i most_index) refl s there h

elements-kept : (t : Task) (left n : ℕ) (w : World) (o : ObjectId) (all : Collected) → TakesAll t all → IsSound w → IsObject w.lists o → AreCollected w.lists all → IsKept (FitsTask t) (elements_left left n o all) w
unfolding charged
elements-kept t zero n w o all fits s there known = gives_all-kept t w all fits s known
elements-kept t (suc left) n w o all fits s there known = (
  s.intact,
  get_element-kept t (charged w 1) o (n - suc left) (element_given (elements_left left n o) all) (sound-charged w 1 s) there (λ q c u su l fit.
      value-kept t q u (element_put (elements_left left n o) all) c su fit (λ v k.
      element_put-kept t u (elements_left left n o) all v fits su (reply-later w.lists u.lists l.lists (collected_reply all) known) k (λ a f g.
      elements-kept t left n u o a f su (object-later w.lists u.lists l.lists o there) g))),
)

length-kept : (t : Task) (w : World) (o : ObjectId) (all : Collected) (c : Completion) → TakesAll t all → IsSound w → IsObject w.lists o → AreCollected w.lists all → Fits w.lists (Work operation.ToWhole []) c → IsKept (FitsTask t) (length_given (elements_of o all) c) w
length-kept t w o all c fits s there known fit = then_whole-kept t w (λ n. elements_of o all (to_length n)) c s fit (λ n whole. elements-kept t (to_length n) (to_length n) w o all fits s there known)

by-kept : (t : Task) (w : World) (o : Option ObjectId) (all : Collected) → TakesAll t all → IsSound w → IfThere (IsObject w.lists) o → AreCollected w.lists all → IsKept (FitsTask t) (list_by o all) w
by-kept t w None all fits s there known = not_object-kept t w s
by-kept t w (Some o) all fits s there known =
    get_named-kept (FitsTask t) w o (codes "length") (length_got (length_given (elements_of o all))) s there (omega arith) refl (λ c u su l fit.
    length_got-kept t (Read o (Name (number_of w.lists (codes "length"))) (value.Object o) None) u (length_given (elements_of o all)) c su fit (λ d v sv k f.
    let far = later_then w u v l k in
    length-kept t v o all d fits sv (object-later w.lists v.lists far.lists o there) (reply-later w.lists v.lists far.lists (collected_reply all) known) f))

pub list-kept : (operands : List Value) (w : World) (v : Value) → IsSound w → IsKnown w.lists v → IsKept (FitsTask (Of (Work operation.ListFromArrayLike operands))) (list_by (as_object v) (collected.Values [])) w
list-kept operands w v s known = by-kept (Of (Work operation.ListFromArrayLike operands)) w (as_object v) (collected.Values []) (λ l us k. (tt, k)) s (object-known w.lists v known) tt

pub keys-kept : (operands : List Value) (w : World) (v : Value) → IsSound w → IsKnown w.lists v → IsKept (FitsTask (Of (Work operation.KeysFromArrayLike operands))) (list_by (as_object v) (collected.Keys [])) w
keys-kept operands w v s known = by-kept (Of (Work operation.KeysFromArrayLike operands)) w (as_object v) (collected.Keys []) (λ l us k. (tt, k)) s (object-known w.lists v known) tt

-- ---- the function that prints a line

-- the value in a reply of this kind
fit-value : (P : Value → Type 0) (r : Reply) (v : Value) → value_in r ≡ Some v → HasValue P r → P v
fit-value P (reply.Value x) v e h = subst (IfThere P) e h
fit-value P (reply.Flag b) v e h = absurd h
fit-value P (reply.Property c) v e h = absurd h
fit-value P (reply.Keys ks) v e h = absurd h
fit-value P (reply.Key k) v e h = absurd h
fit-value P (reply.Proto p) v e h = absurd h
fit-value P (reply.List vs) v e h = absurd h
fit-value P (reply.Wanted d) v e h = absurd h

print_left-kept : (f this : Value) (arguments vs line : List Value) (w : World) → IsSound w → AreKnown w.lists vs → AllByRecursion IsTextValue line → AreKnown w.lists line → IsKept (FitsTask (Of (Call f this arguments))) (print_left vs line) w
unfolding charged
print_left-kept f this arguments [] line w s known texts there =
    (s, (texts, there), λ c u su l fit. value-kept (Of (Call f this arguments)) (Print line) u (λ v. done undefined) c su fit (λ v k. (su, (tt, tt))))
print_left-kept f this arguments (v ∷ vs) line w s known texts there = (
  s.intact,
  (
    sound-charged w 1 s,
    (refl, (known.0, tt)),
    λ c u su l fit.
        answer-kept (Of (Call f this arguments)) (Work operation.ToText (v ∷ [])) u value_in (λ x. print_left vs (line ++ x ∷ [])) c su fit (λ r x e k.
        print_left-kept f this arguments vs (line ++ x ∷ []) u su (all-map (IsKnown w.lists) (IsKnown u.lists) (known-later w.lists u.lists l.lists) vs known.1)
        (all-last IsTextValue line x texts (fit-value IsTextValue r x e k.0))
        (all-last (IsKnown u.lists) line x (all-map (IsKnown w.lists) (IsKnown u.lists) (known-later w.lists u.lists l.lists) line there) (subst (IfThere (IsKnown u.lists)) e (value-there u.lists r k.1)))),
  ),
)

pub print-kept : (f this : Value) (arguments vs : List Value) (w : World) → IsSound w → AreKnown w.lists vs → IsKept (FitsTask (Of (Call f this arguments))) (print_left vs []) w
print-kept f this arguments vs w s known = print_left-kept f this arguments vs [] w s known tt tt
