-- A construction before and behind its body: what its programs come to, and that worlds stay sound.
use Rattle.std.proofs.Common.{◌≡◌, ◌<◌, ◌+◌, ℕ, true, false, cond, Some, None, [], ◌∷◌, ◌++◌, refl, sym, ap, subst, arith, Result, Ok, Err}
use Rattle.std.specs.Prelude.{Bool, Option, codes}
use Rattle.std.proofs.lemmas.List.{length-append}
use Rattle.property_keys.specs.declared.identifiers.ObjectId.{ObjectId}
use Rattle.property_keys.specs.declared.keys.PropKey.TheVariants.{Name}
use Rattle.property_keys.specs.declared.values.Value.{Value}
use Rattle.property_keys.specs.declared.values.Value.TheVariants as value
use Rattle.es_tree.specs.declared.facts.FunctionFacts.{FunctionFacts}
use Rattle.es_tree.specs.Tree.{Tree}
use Rattle.es_model.specs.declared.intrinsics.Class.{Class}
use Rattle.es_model.specs.declared.intrinsics.Intrinsic.TheVariants as intrinsic
use Rattle.es_model.specs.declared.kinds.ErrorKind.TheVariants as error
use Rattle.es_model.specs.declared.kinds.ObjectKind.TheVariants as kind_of
use Rattle.es_model.specs.declared.requests.Request.{Request}
use Rattle.es_model.specs.declared.requests.Request.TheVariants.{Proto, Read}
use Rattle.es_model.specs.Changes.{Constructing, Interning, Making, changed, made, with_objects}
use Rattle.es_model.specs.Completions.{Completion, Normal, Break, Continue, Return, Throw}
use Rattle.es_model.specs.Events.{Origin, OfConstructor}
use Rattle.es_model.specs.Fits.{Fits}
use Rattle.es_model.specs.Kept.{IsKept, IsLater}
use Rattle.es_model.specs.Known.{IfThere, IsKnown, IsObject}
use Rattle.es_model.specs.Objects.{new_object_of}
use Rattle.es_model.specs.Program.{Of, Program}
use Rattle.es_model.specs.Sound.{IsSound}
use Rattle.es_model.specs.Stages.{stage_of}
use Rattle.es_model.specs.Weights.{IsWithin}
use Rattle.es_model.specs.World.{Lists, World, new_object, number_of}
use Rattle.es_model.specs.programs.Abrupt.{fitting, taken, value_in}
use Rattle.es_model.proofs.Abrupt.{value-there}
use Rattle.es_model.proofs.Keeping.{later_none, later_then}
use Rattle.es_model.proofs.SharedKept.{get_named-kept, later-changed}
use Rattle.es_model.proofs.SoundChanges.{sound-constructing, sound-making}
use Rattle.es_model.proofs.SoundErrors.{error-kept, noted-objects}
use Rattle.es_model.proofs.SharedWithin.{get_named-within}
use Rattle.es_model.proofs.Within.{within-cond}
use Rattle.object_heap.specs.Errors.{error_put, name_known}
use Rattle.function_objects.specs.Constructing.{constructed_world, constructor_number, get_prototype, has_realm, make_constructed, note_construction, noted_world, prototype_given, prototype_of, prototype_result, prototype_taken, prototype_valued, prototype_world, result_by_realm, result_by_taken, result_by_value, revoked_text, revoked_world, text_known, throw_revoked, with_prototype, world_by_realm, world_by_taken, world_by_value}

-- ---- what GetPrototypeFromConstructor comes to

realm-stage : (default : Class) (next : ObjectId → Program) (failed : Completion → Program) (w : World) (b : Bool) →
    stage_of (cond b (next (prototype_of default)) (throw_revoked failed)) w ≡ stage_of (with_prototype next failed (result_by_realm default b w)) (world_by_realm b w)
realm-stage default next failed w true = refl
realm-stage default next failed w false = refl

value-stage : (default : Class) (target : ObjectId) (next : ObjectId → Program) (failed : Completion → Program) (w : World) (v : Value) →
    stage_of (prototype_valued default target next failed v) w ≡ stage_of (with_prototype next failed (result_by_value default target v w)) (world_by_value target v w)
value-stage default target next failed w value.Undefined = realm-stage default next failed w (has_realm w.lists target)
value-stage default target next failed w value.Null = realm-stage default next failed w (has_realm w.lists target)
value-stage default target next failed w (value.Bool b) = realm-stage default next failed w (has_realm w.lists target)
value-stage default target next failed w (value.Whole n) = realm-stage default next failed w (has_realm w.lists target)
value-stage default target next failed w (value.Text t) = realm-stage default next failed w (has_realm w.lists target)
value-stage default target next failed w (value.Symbol s) = realm-stage default next failed w (has_realm w.lists target)
value-stage default target next failed w (value.Object o) = refl

taken-stage : (default : Class) (target : ObjectId) (next : ObjectId → Program) (failed : Completion → Program) (w : World) (r : Result Value Completion) →
    stage_of (prototype_taken default target next failed r) w ≡ stage_of (with_prototype next failed (result_by_taken default target r w)) (world_by_taken target r w)
taken-stage default target next failed w (Ok v) = value-stage default target next failed w v
taken-stage default target next failed w (Err c) = refl

pub prototype_stage : (default : Class) (target : ObjectId) (next : ObjectId → Program) (failed : Completion → Program) (c : Completion) (w : World) →
    stage_of (prototype_given default target next failed c) w ≡ stage_of (with_prototype next failed (prototype_result default target c w)) (prototype_world target c w)
unfolding prototype_world prototype_result
prototype_stage default target next failed c w = taken-stage default target next failed w (taken value_in c)

-- ---- what an answer to the question comes to: the world after it is a later one and sound, and what is given is there

-- the prototype is there, or what is thrown
abbrev pub IsKnownResult : Lists → Result ObjectId Completion → Type 0
IsKnownResult l (Ok p) = IsObject l p
IsKnownResult l (Err c) = (v : Value) × (c ≡ Throw v) × IsKnown l v

pub record ComesTo (w u : World) (r : Result ObjectId Completion) : Type 0 where
  pub sound : IsSound u
  pub later : IsLater w u
  pub known : IsKnownResult u.lists r

revoked-later : (w : World) → IsLater w (revoked_world w)
revoked-later w =
    let a : World = text_known w in
    let b : World = name_known a in
    let c : World = error_put a error.TypeError in
    later_then w a (revoked_world w) (later-changed (Interning revoked_text) w) (later_then a b (revoked_world w) (later-changed _ a) (later_then b c (revoked_world w) (later-changed _ b) (later-changed _ c)))

realm-later : (w : World) (b : Bool) → IsLater w (world_by_realm b w)
realm-later w true = later_none w
realm-later w false = revoked-later w

value-later : (w : World) (target : ObjectId) (v : Value) → IsLater w (world_by_value target v w)
value-later w target value.Undefined = realm-later w (has_realm w.lists target)
value-later w target value.Null = realm-later w (has_realm w.lists target)
value-later w target (value.Bool b) = realm-later w (has_realm w.lists target)
value-later w target (value.Whole n) = realm-later w (has_realm w.lists target)
value-later w target (value.Text t) = realm-later w (has_realm w.lists target)
value-later w target (value.Symbol s) = realm-later w (has_realm w.lists target)
value-later w target (value.Object o) = later_none w

taken-later : (w : World) (target : ObjectId) (r : Result Value Completion) → IsLater w (world_by_taken target r w)
taken-later w target (Ok v) = value-later w target v
taken-later w target (Err c) = later_none w

pub prototype_later : (target : ObjectId) (c : Completion) (w : World) → IsLater w (prototype_world target c w)
unfolding prototype_world
prototype_later target c w = taken-later w target (taken value_in c)

revoked-comes : (w : World) (default : Class) → IsSound w → ComesTo w (revoked_world w) (result_by_realm default false w)
revoked-comes w default s =
    let both = error-kept (Of (Proto (prototype_of default))) w error.TypeError revoked_text s (omega arith) in
    record { sound = both.0; later = revoked-later w; known = (_, refl, both.1) }

realm-comes : (w : World) (default : Class) (b : Bool) → IsSound w → ComesTo w (world_by_realm b w) (result_by_realm default b w)
realm-comes w default true s = record { sound = s; later = later_none w; known = (s.intact.start (intrinsic.Prototype default)).0 }
realm-comes w default false s = revoked-comes w default s

value-comes : (w : World) (default : Class) (target : ObjectId) (v : Value) → IsSound w → IsKnown w.lists v → ComesTo w (world_by_value target v w) (result_by_value default target v w)
value-comes w default target value.Undefined s k = realm-comes w default (has_realm w.lists target) s
value-comes w default target value.Null s k = realm-comes w default (has_realm w.lists target) s
value-comes w default target (value.Bool b) s k = realm-comes w default (has_realm w.lists target) s
value-comes w default target (value.Whole n) s k = realm-comes w default (has_realm w.lists target) s
value-comes w default target (value.Text t) s k = realm-comes w default (has_realm w.lists target) s
value-comes w default target (value.Symbol x) s k = realm-comes w default (has_realm w.lists target) s
value-comes w default target (value.Object o) s k = record { sound = s; later = later_none w; known = k }

fitting-comes : (w : World) (default : Class) (target : ObjectId) (v : Option Value) → IsSound w → IfThere (IsKnown w.lists) v →
    ComesTo w (world_by_taken target (fitting v) w) (result_by_taken default target (fitting v) w)
fitting-comes w default target None s k = record { sound = s; later = later_none w; known = (value.Undefined, refl, tt) }
fitting-comes w default target (Some v) s k = value-comes w default target v s k

-- whatever was asked: an answer that fits is a reply or a throw
pub prototype_comes : (w : World) (q : Request) (default : Class) (target : ObjectId) (c : Completion) → IsSound w → Fits w.lists q c → ComesTo w (prototype_world target c w) (prototype_result default target c w)
unfolding prototype_world prototype_result
prototype_comes w q default target (Normal r) s fit = fitting-comes w default target (value_in r) s (value-there w.lists r fit.1)
prototype_comes w q default target Break s fit = absurd fit
prototype_comes w q default target Continue s fit = absurd fit
prototype_comes w q default target (Return v) s fit = absurd fit
prototype_comes w q default target (Throw v) s fit = record { sound = s; later = later_none w; known = (v, refl, fit) }

-- ---- sound worlds

realm-same : (P : Lists → Completion → Type 0) (default : Class) (next : ObjectId → Program) (failed : Completion → Program) (w : World) (b : Bool) →
    IsKept P (with_prototype next failed (result_by_realm default b w)) (world_by_realm b w) → IsKept P (cond b (next (prototype_of default)) (throw_revoked failed)) w
realm-same P default next failed w true h = h
realm-same P default next failed w false h = h

value-same : (P : Lists → Completion → Type 0) (default : Class) (target : ObjectId) (next : ObjectId → Program) (failed : Completion → Program) (w : World) (v : Value) →
    IsKept P (with_prototype next failed (result_by_value default target v w)) (world_by_value target v w) → IsKept P (prototype_valued default target next failed v) w
value-same P default target next failed w value.Undefined h = realm-same P default next failed w (has_realm w.lists target) h
value-same P default target next failed w value.Null h = realm-same P default next failed w (has_realm w.lists target) h
value-same P default target next failed w (value.Bool b) h = realm-same P default next failed w (has_realm w.lists target) h
value-same P default target next failed w (value.Whole n) h = realm-same P default next failed w (has_realm w.lists target) h
value-same P default target next failed w (value.Text t) h = realm-same P default next failed w (has_realm w.lists target) h
value-same P default target next failed w (value.Symbol s) h = realm-same P default next failed w (has_realm w.lists target) h
value-same P default target next failed w (value.Object o) h = h

taken-same : (P : Lists → Completion → Type 0) (default : Class) (target : ObjectId) (next : ObjectId → Program) (failed : Completion → Program) (w : World) (r : Result Value Completion) →
    IsKept P (with_prototype next failed (result_by_taken default target r w)) (world_by_taken target r w) → IsKept P (prototype_taken default target next failed r) w
taken-same P default target next failed w (Ok v) h = value-same P default target next failed w v h
taken-same P default target next failed w (Err c) h = h

given-same : (P : Lists → Completion → Type 0) (default : Class) (target : ObjectId) (next : ObjectId → Program) (failed : Completion → Program) (w : World) (c : Completion) →
    IsKept P (with_prototype next failed (prototype_result default target c w)) (prototype_world target c w) → IsKept P (prototype_given default target next failed c) w
unfolding prototype_world prototype_result
given-same P default target next failed w c h = taken-same P default target next failed w (taken value_in c) h

-- what follows, with the prototype or what is thrown
abbrev pub OnPrototype : (Lists → Completion → Type 0) → World → (ObjectId → Program) → Type 0
OnPrototype P w next = (p : ObjectId) (u : World) → IsSound u → IsLater w u → IsObject u.lists p → IsKept P (next p) u

abbrev pub OnThrow : (Lists → Completion → Type 0) → World → (Completion → Program) → Type 0
OnThrow P w failed = (v : Value) (u : World) → IsSound u → IsLater w u → IsKnown u.lists v → IsKept P (failed (Throw v)) u

onward : (P : Lists → Completion → Type 0) (w u : World) (next : ObjectId → Program) (failed : Completion → Program) (r : Result ObjectId Completion) → ComesTo w u r → OnPrototype P w next → OnThrow P w failed →
    IsKept P (with_prototype next failed r) u
onward P w u next failed (Ok p) c h k = h p u c.sound c.later c.known
onward P w u next failed (Err e) c h k = let (v, is, known) = c.known in subst (λ x. IsKept P (failed x) u) (sym is) (k v u c.sound c.later known)

pub prototype_kept : (P : Lists → Completion → Type 0) (w : World) (q : Request) (default : Class) (target : ObjectId) (next : ObjectId → Program) (failed : Completion → Program) (c : Completion) →
    IsSound w → Fits w.lists q c → OnPrototype P w next → OnThrow P w failed → IsKept P (prototype_given default target next failed c) w
prototype_kept P w q default target next failed c s fit h k =
    given-same P default target next failed w c (onward P w (prototype_world target c w) next failed (prototype_result default target c w) (prototype_comes w q default target c s fit) h k)

pub get_prototype_kept : (P : Lists → Completion → Type 0) (w : World) (default : Class) (target : ObjectId) (next : ObjectId → Program) (failed : Completion → Program) →
    IsSound w → IsObject w.lists target → OnPrototype P w next → OnThrow P w failed → IsKept P (get_prototype default target next failed) w
get_prototype_kept P w default target next failed s there h k =
    get_named-kept P w target (codes "prototype") (prototype_given default target next failed) s there (omega arith) refl
    (λ c v sv l fit. prototype_kept P v (Read target (Name (number_of w.lists (codes "prototype"))) (value.Object target) None) default target next failed c sv fit
    (λ p u su m there. h p u su (later_then w v u l m) there) (λ x u su m known. k x u su (later_then w v u l m) known))

-- ---- budgets

valued-within : (r b : ℕ) (default : Class) (target : ObjectId) (next : ObjectId → Program) (failed : Completion → Program) → ((p : ObjectId) → IsWithin r b (next p)) → ((c : Completion) → IsWithin r b (failed c)) →
    (l : Lists) → IsWithin r b (cond (has_realm l target) (next (prototype_of default)) (throw_revoked failed))
valued-within r b default target next failed h k l = within-cond r b (has_realm l target) (next (prototype_of default)) (throw_revoked failed) (h (prototype_of default)) (λ l m n o. k _)

value-within : (r b : ℕ) (default : Class) (target : ObjectId) (next : ObjectId → Program) (failed : Completion → Program) → ((p : ObjectId) → IsWithin r b (next p)) → ((c : Completion) → IsWithin r b (failed c)) →
    (v : Value) → IsWithin r b (prototype_valued default target next failed v)
value-within r b default target next failed h k value.Undefined = valued-within r b default target next failed h k
value-within r b default target next failed h k value.Null = valued-within r b default target next failed h k
value-within r b default target next failed h k (value.Bool x) = valued-within r b default target next failed h k
value-within r b default target next failed h k (value.Whole n) = valued-within r b default target next failed h k
value-within r b default target next failed h k (value.Text t) = valued-within r b default target next failed h k
value-within r b default target next failed h k (value.Symbol s) = valued-within r b default target next failed h k
value-within r b default target next failed h k (value.Object o) = h o

taken-within : (r b : ℕ) (default : Class) (target : ObjectId) (next : ObjectId → Program) (failed : Completion → Program) → ((p : ObjectId) → IsWithin r b (next p)) → ((c : Completion) → IsWithin r b (failed c)) →
    (t : Result Value Completion) → IsWithin r b (prototype_taken default target next failed t)
taken-within r b default target next failed h k (Ok v) = value-within r b default target next failed h k v
taken-within r b default target next failed h k (Err c) = k c

pub prototype_within : (r b : ℕ) (default : Class) (target : ObjectId) (next : ObjectId → Program) (failed : Completion → Program) (c : Completion) →
    ((p : ObjectId) → IsWithin r b (next p)) → ((d : Completion) → IsWithin r b (failed d)) → IsWithin r b (prototype_given default target next failed c)
prototype_within r b default target next failed c h k = taken-within r b default target next failed h k (taken value_in c)

-- one read is asked for
pub get_prototype_within : (r b left : ℕ) (default : Class) (target : ObjectId) (next : ObjectId → Program) (failed : Completion → Program) → 1 + left < b →
    ((p : ObjectId) → IsWithin r left (next p)) → ((d : Completion) → IsWithin r left (failed d)) → IsWithin r b (get_prototype default target next failed)
get_prototype_within r b left default target next failed less h k =
    get_named-within r b left target (codes "prototype") (prototype_given default target next failed) less (λ c. prototype_within r left default target next failed c h k)

-- ---- the new object

pub constructed_stage : (script : Tree) (facts : FunctionFacts) (proto : ObjectId) (next : ObjectId → Program) (w : World) → w.script ≡ script →
    stage_of (make_constructed script facts proto next) w ≡ stage_of (next (new_object w.lists)) (constructed_world facts proto w)
unfolding constructed_world
constructed_stage script facts proto next w same =
    ap (λ s. stage_of (next (new_object w.lists)) (changed (Making kind_of.Ordinary (OfConstructor (constructor_number s facts)) (Some proto)) w)) (sym same)

made-there : (w : World) (origin : Origin) (p : Option ObjectId) → IsObject (changed (Making kind_of.Ordinary origin p) w).lists (new_object w.lists)
unfolding changed made
made-there w origin p =
    let n = length-append w.lists.objects (new_object_of kind_of.Ordinary p ∷ []) in
    let same = noted-objects (with_objects w (w.lists.objects ++ new_object_of kind_of.Ordinary p ∷ [])) p in omega arith

pub constructed_later : (facts : FunctionFacts) (proto : ObjectId) (w : World) → IsLater w (constructed_world facts proto w)
unfolding constructed_world
constructed_later facts proto w = later-changed _ w

pub constructed_sound : (facts : FunctionFacts) (proto : ObjectId) (w : World) → IsSound w → IsObject w.lists proto → IsSound (constructed_world facts proto w)
unfolding constructed_world
constructed_sound facts proto w s there = sound-making w kind_of.Ordinary (OfConstructor (constructor_number w.script facts)) (Some proto) s tt tt there refl

pub constructed_there : (facts : FunctionFacts) (proto : ObjectId) (w : World) → IsObject (constructed_world facts proto w).lists (new_object w.lists)
unfolding constructed_world
constructed_there facts proto w = made-there w (OfConstructor (constructor_number w.script facts)) (Some proto)

-- what follows, with the new object
pub constructed_kept : (P : Lists → Completion → Type 0) (script : Tree) (facts : FunctionFacts) (proto : ObjectId) (next : ObjectId → Program) (w : World) → IsSound w → IsObject w.lists proto →
    ((o : ObjectId) (u : World) → IsSound u → IsLater w u → IsObject u.lists o → IsKept P (next o) u) → IsKept P (make_constructed script facts proto next) w
constructed_kept P script facts proto next w s there h =
    let origin : Origin = OfConstructor (constructor_number script facts) in
    h (new_object w.lists) (changed (Making kind_of.Ordinary origin (Some proto)) w) (sound-making w kind_of.Ordinary origin (Some proto) s tt tt there refl)
    (later-changed (Making kind_of.Ordinary origin (Some proto)) w) (made-there w origin (Some proto))

pub constructed_within : (r b : ℕ) (script : Tree) (facts : FunctionFacts) (proto : ObjectId) (next : ObjectId → Program) → ((o : ObjectId) → IsWithin r b (next o)) → IsWithin r b (make_constructed script facts proto next)
constructed_within r b script facts proto next h = λ l. h (new_object l)

-- ---- the event

pub noted_stage : (script : Tree) (facts : FunctionFacts) (next : Program) (w : World) → w.script ≡ script → stage_of (note_construction script facts next) w ≡ stage_of next (noted_world facts w)
unfolding noted_world
noted_stage script facts next w same = ap (λ s. stage_of next (changed (Constructing (constructor_number s facts)) w)) (sym same)

pub noted_later : (facts : FunctionFacts) (w : World) → IsLater w (noted_world facts w)
unfolding noted_world
noted_later facts w = later-changed _ w

pub noted_sound : (facts : FunctionFacts) (w : World) → IsSound w → IsSound (noted_world facts w)
unfolding noted_world
noted_sound facts w s = sound-constructing w (constructor_number w.script facts) s

pub noted_kept : (P : Lists → Completion → Type 0) (script : Tree) (facts : FunctionFacts) (next : Program) (w : World) → IsSound w →
    ((u : World) → IsSound u → IsLater w u → IsKept P next u) → IsKept P (note_construction script facts next) w
noted_kept P script facts next w s h =
    let f = constructor_number script facts in h (changed (Constructing f) w) (sound-constructing w f s) (later-changed (Constructing f) w)

pub noted_within : (r b : ℕ) (script : Tree) (facts : FunctionFacts) (next : Program) → IsWithin r b next → IsWithin r b (note_construction script facts next)
noted_within r b script facts next h = h
