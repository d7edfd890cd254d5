-- The ordinary methods keep within the weights of their requests, where a charge gives r, which is enough for what any request weighs.
use Rattle.std.proofs.Common.{ℕ, zero, suc, ◌≤◌, true, false, cond, Option, Some, None, length, lit<, arith}
use Rattle.property_keys.specs.declared.identifiers.ObjectId.{ObjectId}
use Rattle.property_keys.specs.declared.keys.PropKey.{PropKey}
use Rattle.property_keys.specs.declared.values.Value.{Value}
use Rattle.property_keys.specs.declared.values.Value.TheVariants as value
use Rattle.descriptors.specs.declared.property.Complete.{Complete}
use Rattle.descriptors.specs.declared.property.Complete.TheVariants.{Stored, Accessor}
use Rattle.es_model.specs.declared.requests.Request.{Request}
use Rattle.es_model.specs.declared.requests.Request.TheVariants.{GetOwn, Define, Has, Read, Write, Delete, Keys, Proto, SetProto, Extensible, Prevent, Call, Construct, Work, Print}
use Rattle.es_model.specs.declared.intrinsics.Class.TheVariants as class
use Rattle.es_model.specs.declared.intrinsics.Intrinsic.TheVariants as intrinsic
use Rattle.es_model.specs.Completions.{Completion}
use Rattle.es_model.specs.StartObjects.{object_of}
use Rattle.es_model.specs.Objects.{is_proxy}
use Rattle.es_model.specs.World.{own, proto, kind, extensible}
use Rattle.es_model.specs.Changes.{same_proto}
use Rattle.es_model.specs.Program.{Program, done, look, ask}
use Rattle.es_model.specs.Weights.{request_weight, IsWithin}
use Rattle.es_model.specs.programs.Abrupt.{value_in, property_in, taken}
use Rattle.es_model.specs.programs.Errors.{flag}
use Rattle.es_model.proofs.Within.{within-cond, go_on-within}
use Rattle.ordinary_object.specs.Ordinary.{set_prototype_round, set_prototype_of, ordinary_set_prototype_of, set_immutable_prototype, prototype_is_set, same_object, has_property_found, get_found, set_existing, set_had, set_receiver, set_called, ordinary_set_with_own_descriptor, ordinary_program, value_alone}

-- each round is a charge
round-within : (r b n : ℕ) (o : ObjectId) (v p : Option ObjectId) → IsWithin r b (set_prototype_round n o v p)
round-within r b zero o v p = tt
round-within r b (suc n) o v None = tt
round-within r b (suc n) o v (Some p) =
    within-cond r r (same_object p o) (done (flag false)) (look (λ l. cond (is_proxy (kind l p)) (prototype_is_set o v) (set_prototype_round n o v (proto l p)))) tt
    (λ l. within-cond r r (is_proxy (kind l p)) (prototype_is_set o v) (set_prototype_round n o v (proto l p)) tt (round-within r r n o v (proto l p)))

set_proto-within : (r : ℕ) (o : ObjectId) (v : Option ObjectId) → IsWithin r 0 (set_prototype_of o v)
set_proto-within r o v =
    within-cond r 0 (same_object o (object_of (intrinsic.Prototype class.Object))) (set_immutable_prototype o v) (ordinary_set_prototype_of o v)
    (λ l. tt)
    (λ l.
    let rounds : Program = set_prototype_round (suc (length l.objects)) o v v in
    within-cond r 0 (same_proto (proto l o) v) (done (flag true)) (cond (extensible l o) rounds (done (flag false))) tt
    (within-cond r 0 (extensible l o) rounds (done (flag false)) (round-within r 0 (suc (length l.objects)) o v v) tt))

has-within : (r : ℕ) → 200 ≤ r → (c : Option Complete) (up : Option ObjectId) (k : PropKey) → IsWithin r 1 (has_property_found c up k)
has-within r enough (Some c) up k = tt
has-within r enough None (Some parent) k = (0, omega arith, λ c. tt)
has-within r enough None None k = tt

get-within : (r : ℕ) → 200 ≤ r → (c : Option Complete) (up : Option ObjectId) (k : PropKey) (receiver : Value) → IsWithin r 1 (get_found c up k receiver)
get-within r enough None None k receiver = tt
get-within r enough None (Some parent) k receiver = (0, omega arith, λ c. tt)
get-within r enough (Some (Stored v flags)) up k receiver = tt
get-within r enough (Some (Accessor None set e c)) up k receiver = tt
get-within r enough (Some (Accessor (Some getter) set e c)) up k receiver = (0, lit< tt, λ c. tt)

existing-within : (r : ℕ) (k : PropKey) (v : Value) (receiver : ObjectId) (c : Option Complete) → IsWithin r 31 (set_existing k v receiver c)
existing-within r k v receiver (Some (Accessor get set e c)) = tt
existing-within r k v receiver (Some (Stored x flags)) =
    within-cond r 31 flags.writable (ask (Define receiver k (value_alone v)) done) (done (flag false)) (0, lit< tt, λ c. tt) tt
existing-within r k v receiver None = (0, lit< tt, λ c. tt)

had-within : (r : ℕ) (k : PropKey) (v : Value) (receiver : ObjectId) (c : Completion) → IsWithin r 31 (set_had k v receiver c)
had-within r k v receiver c = go_on-within r 31 (set_existing k v receiver) (taken property_in c) (existing-within r k v receiver)

receiver-within : (r : ℕ) (k : PropKey) (v receiver : Value) → IsWithin r 32 (set_receiver k v receiver)
receiver-within r k v (value.Object receiver) = (31, lit< tt, had-within r k v receiver)
receiver-within r k v value.Undefined = tt
receiver-within r k v value.Null = tt
receiver-within r k v (value.Bool b) = tt
receiver-within r k v (value.Whole n) = tt
receiver-within r k v (value.Text t) = tt
receiver-within r k v (value.Symbol s) = tt

called-within : (r : ℕ) (c : Completion) → IsWithin r 0 (set_called c)
called-within r c = go_on-within r 0 (λ v. done (flag true)) (taken value_in c) (λ v. tt)

set-within : (r : ℕ) → 200 ≤ r → (c : Option Complete) (up : Option ObjectId) (k : PropKey) (v receiver : Value) → IsWithin r 32 (ordinary_set_with_own_descriptor c up k v receiver)
set-within r enough None (Some parent) k v receiver = (0, omega arith, λ c. tt)
set-within r enough None None k v receiver = receiver-within r k v receiver
set-within r enough (Some (Stored x flags)) up k v receiver =
    within-cond r 32 flags.writable (set_receiver k v receiver) (done (flag false)) (receiver-within r k v receiver) tt
set-within r enough (Some (Accessor get None e c)) up k v receiver = tt
set-within r enough (Some (Accessor get (Some setter) e c)) up k v receiver = (0, lit< tt, called-within r)

pub ordinary-within : (r : ℕ) → 200 ≤ r → (q : Request) → IsWithin r (request_weight q) (ordinary_program q)
ordinary-within r enough (GetOwn o k) = λ l. tt
ordinary-within r enough (Define o k wanted) = λ l. tt
ordinary-within r enough (Has o k) = λ l. has-within r enough (own l o k) (proto l o) k
ordinary-within r enough (Read o k receiver site) = λ l. get-within r enough (own l o k) (proto l o) k receiver
ordinary-within r enough (Write o k v receiver site) = λ l. set-within r enough (own l o k) (proto l o) k v receiver
ordinary-within r enough (Delete o k) = λ l. tt
ordinary-within r enough (Keys o) = λ l. tt
ordinary-within r enough (Proto o) = λ l. tt
ordinary-within r enough (SetProto o p) = set_proto-within r o p
ordinary-within r enough (Extensible o) = λ l. tt
ordinary-within r enough (Prevent o) = tt
ordinary-within r enough (Call f this arguments) = tt
ordinary-within r enough (Construct f arguments target) = tt
ordinary-within r enough (Work op operands) = tt
ordinary-within r enough (Print line) = tt
