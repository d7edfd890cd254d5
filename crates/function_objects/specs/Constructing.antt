-- The parts of [[Construct]] (ECMA-262, 10.2.2) before and behind the body: the prototype of the new object (10.1.13, 10.1.14), the object, and the event.
use Rattle.std.specs.Prelude.{ℕ, zero, suc, Bool, true, false, if◌then◌else◌, Option, Some, None, Result, Ok, Err, List, [], ◌∷◌, codes, length}
use Rattle.property_keys.specs.declared.identifiers.ObjectId.{ObjectId}
use Rattle.property_keys.specs.declared.values.Value.{Value}
use Rattle.property_keys.specs.declared.values.Value.TheVariants as value
use Rattle.es_source.specs.Places.{same_place}
use Rattle.es_tree.specs.declared.facts.FunctionFacts.{FunctionFacts}
use Rattle.es_tree.specs.declared.numbers.FunctionNo.{FunctionNo}
use Rattle.es_tree.specs.Tree.{Tree}
use Rattle.es_model.specs.declared.intrinsics.Class.{Class}
use Rattle.es_model.specs.declared.intrinsics.Intrinsic.TheVariants as intrinsic
use Rattle.es_model.specs.declared.kinds.ErrorKind.TheVariants as error
use Rattle.es_model.specs.declared.kinds.ObjectKind.{ObjectKind}
use Rattle.es_model.specs.declared.kinds.ObjectKind.TheVariants as kind_of
use Rattle.es_model.specs.StartObjects.{object_of}
use Rattle.es_model.specs.Completions.{Completion, Throw}
use Rattle.es_model.specs.Events.{OfConstructor}
use Rattle.es_model.specs.World.{Lists, World, kind, number_of}
use Rattle.es_model.specs.Changes.{Constructing, Interning, Making, changed}
use Rattle.es_model.specs.Program.{Program, look, change, intern, make}
use Rattle.es_model.specs.programs.Abrupt.{taken, value_in}
use Rattle.es_model.specs.programs.Errors.{make_error}
use Rattle.es_model.specs.programs.Methods.{get_named}
use Rattle.object_heap.specs.Errors.{error_made, error_number}

-- ---- which function constructs

-- The origin of what a function constructs is the function at its place, which is the first one there: no two functions of a script begin at one place
abbrev pub first_function_at : List FunctionFacts → FunctionFacts → ℕ
first_function_at [] facts = 0
first_function_at (g ∷ gs) facts = if same_place g.place facts.place then 0 else suc (first_function_at gs facts)

abbrev pub constructor_number : Tree → FunctionFacts → FunctionNo
constructor_number script facts = record { 0 = first_function_at script.functions facts }

-- ---- GetFunctionRealm (7.3.25): there is one realm, and a Proxy that is revoked has none

-- the target of a Proxy, which is none where it is revoked
abbrev pub proxy_target : ObjectKind → Option (Option ObjectId)
proxy_target (kind_of.Proxy target handler callable constructor) = Some target
proxy_target other = None

abbrev pub realm_behind : Option (Option ObjectId) → (ObjectId → Bool) → Bool
realm_behind None onward = true
realm_behind (Some None) onward = false
realm_behind (Some (Some target)) onward = onward target

-- up to so many links from a Proxy to its target
abbrev pub has_realm_within : ℕ → Lists → ObjectId → Bool
has_realm_within zero l o = true
has_realm_within (suc n) l o = realm_behind (proxy_target (kind l o)) (has_realm_within n l)

-- a Proxy's target is older than the Proxy, so there are links enough
abbrev pub has_realm : Lists → ObjectId → Bool
has_realm l o = has_realm_within (length l.objects) l o

-- ---- GetPrototypeFromConstructor (10.1.14)

-- the realm's own prototype of a class
abbrev pub prototype_of : Class → ObjectId
prototype_of default = object_of (intrinsic.Prototype default)

abbrev pub revoked_text : List ℕ
revoked_text = codes "proxy is revoked"

-- a Proxy that is revoked
abbrev pub throw_revoked : (Completion → Program) → Program
throw_revoked failed = intern revoked_text (λ t. make_error error.TypeError t (λ e. failed (Throw (value.Object e))))

-- step 3: what is no Object gives the realm's own prototype of the class
abbrev pub prototype_valued : Class → ObjectId → (ObjectId → Program) → (Completion → Program) → Value → Program
prototype_valued default target next failed (value.Object p) = next p
prototype_valued default target next failed other = look (λ l. if has_realm l target then next (prototype_of default) else throw_revoked failed)

abbrev pub prototype_taken : Class → ObjectId → (ObjectId → Program) → (Completion → Program) → Result Value Completion → Program
prototype_taken default target next failed (Ok v) = prototype_valued default target next failed v
prototype_taken default target next failed (Err c) = failed c

-- step 2 has been answered
abbrev pub prototype_given : Class → ObjectId → (ObjectId → Program) → (Completion → Program) → Completion → Program
prototype_given default target next failed c = prototype_taken default target next failed (taken value_in c)

abbrev pub get_prototype : Class → ObjectId → (ObjectId → Program) → (Completion → Program) → Program
get_prototype default target next failed = get_named target (codes "prototype") (prototype_given default target next failed)

-- ---- the new object (10.1.13), and the event of the construction, which stands behind its last step, also where that throws

abbrev pub make_constructed : Tree → FunctionFacts → ObjectId → (ObjectId → Program) → Program
make_constructed script facts proto next = make kind_of.Ordinary (OfConstructor (constructor_number script facts)) (Some proto) next

abbrev pub note_construction : Tree → FunctionFacts → Program → Program
note_construction script facts next = change (Constructing (constructor_number script facts)) next

-- ---- what step 2 has given comes to: the prototype or how the algorithm ends, and the world after

abbrev pub text_known : World → World
text_known w = changed (Interning revoked_text) w

abbrev pub revoked_world : World → World
revoked_world w = error_made (text_known w) error.TypeError (number_of w.lists revoked_text)

abbrev pub revoked_error : World → Value
revoked_error w = value.Object (error_number (text_known w))

abbrev pub world_by_realm : Bool → World → World
world_by_realm true w = w
world_by_realm false w = revoked_world w

abbrev pub result_by_realm : Class → Bool → World → Result ObjectId Completion
result_by_realm default true w = Ok (prototype_of default)
result_by_realm default false w = Err (Throw (revoked_error w))

abbrev pub world_by_value : ObjectId → Value → World → World
world_by_value target (value.Object p) w = w
world_by_value target other w = world_by_realm (has_realm w.lists target) w

abbrev pub result_by_value : Class → ObjectId → Value → World → Result ObjectId Completion
result_by_value default target (value.Object p) w = Ok p
result_by_value default target other w = result_by_realm default (has_realm w.lists target) w

abbrev pub world_by_taken : ObjectId → Result Value Completion → World → World
world_by_taken target (Ok v) w = world_by_value target v w
world_by_taken target (Err c) w = w

abbrev pub result_by_taken : Class → ObjectId → Result Value Completion → World → Result ObjectId Completion
result_by_taken default target (Ok v) w = result_by_value default target v w
result_by_taken default target (Err c) w = Err c

unfoldable pub prototype_world : ObjectId → Completion → World → World
prototype_world target c w = world_by_taken target (taken value_in c) w

unfoldable pub prototype_result : Class → ObjectId → Completion → World → Result ObjectId Completion
prototype_result default target c w = result_by_taken default target (taken value_in c) w

-- what follows
abbrev pub with_prototype : (ObjectId → Program) → (Completion → Program) → Result ObjectId Completion → Program
with_prototype next failed (Ok p) = next p
with_prototype next failed (Err c) = failed c

-- ---- the worlds after the new object is made, and after the event

unfoldable pub constructed_world : FunctionFacts → ObjectId → World → World
constructed_world facts proto w = changed (Making kind_of.Ordinary (OfConstructor (constructor_number w.script facts)) (Some proto)) w

unfoldable pub noted_world : FunctionFacts → World → World
noted_world facts w = changed (Constructing (constructor_number w.script facts)) w
