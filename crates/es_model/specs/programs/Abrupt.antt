-- ReturnIfAbrupt (ECMA-262, 5.2.3.3), the standard's `?`: an algorithm goes on with the reply, and an abrupt completion is passed on.
use Rattle.std.specs.Prelude.{Bool, Option, Some, None, Result, Ok, Err, List}
use Rattle.property_keys.specs.declared.identifiers.ObjectId.{ObjectId}
use Rattle.property_keys.specs.declared.keys.PropKey.{PropKey}
use Rattle.property_keys.specs.declared.values.Value.{Value}
use Rattle.property_keys.specs.declared.values.Value.TheVariants as value
use Rattle.descriptors.specs.declared.fields.Descriptor.{Descriptor}
use Rattle.descriptors.specs.declared.property.Complete.{Complete}
use Rattle.es_model.specs.declared.answers.Reply.{Reply}
use Rattle.es_model.specs.declared.answers.Reply.TheVariants as reply
use Rattle.es_model.specs.Completions.{Completion, Normal, Throw}
use Rattle.es_model.specs.Program.{Program, done}

-- ---- the replies of a kind

abbrev pub value_in : Reply → Option Value
value_in (reply.Value v) = Some v
value_in other = None

abbrev pub flag_in : Reply → Option Bool
flag_in (reply.Flag b) = Some b
flag_in other = None

abbrev pub property_in : Reply → Option (Option Complete)
property_in (reply.Property p) = Some p
property_in other = None

abbrev pub keys_in : Reply → Option (List PropKey)
keys_in (reply.Keys ks) = Some ks
keys_in other = None

abbrev pub key_in : Reply → Option PropKey
key_in (reply.Key k) = Some k
key_in other = None

abbrev pub proto_in : Reply → Option (Option ObjectId)
proto_in (reply.Proto p) = Some p
proto_in other = None

abbrev pub list_in : Reply → Option (List Value)
list_in (reply.List vs) = Some vs
list_in other = None

abbrev pub wanted_in : Reply → Option Descriptor
wanted_in (reply.Wanted d) = Some d
wanted_in other = None

-- ---- what is taken from a completion, or the completion with which the algorithm ends

-- No server gives a reply of another kind than its request has. The definitions are total all the same.
abbrev pub fitting : {A : Type 0} → Option A → Result A Completion
fitting (Some x) = Ok x
fitting None = Err (Throw value.Undefined)

abbrev pub taken : {A : Type 0} → (Reply → Option A) → Completion → Result A Completion
taken kind (Normal r) = fitting (kind r)
taken kind abrupt = Err abrupt

-- the code takes from an answer, which is abrupt only by a throw
abbrev pub or_throw : {A : Type 0} → Result A Value → Result A Completion
or_throw (Ok x) = Ok x
or_throw (Err v) = Err (Throw v)

abbrev pub go_on : {A : Type 0} → (A → Program) → Result A Completion → Program
go_on next (Ok x) = next x
go_on next (Err c) = done c

-- ---- one word for each kind

abbrev pub then_value : (Value → Program) → Completion → Program
then_value next c = go_on next (taken value_in c)

abbrev pub then_flag : (Bool → Program) → Completion → Program
then_flag next c = go_on next (taken flag_in c)

abbrev pub then_property : (Option Complete → Program) → Completion → Program
then_property next c = go_on next (taken property_in c)

abbrev pub then_keys : (List PropKey → Program) → Completion → Program
then_keys next c = go_on next (taken keys_in c)

abbrev pub then_key : (PropKey → Program) → Completion → Program
then_key next c = go_on next (taken key_in c)

abbrev pub then_proto : (Option ObjectId → Program) → Completion → Program
then_proto next c = go_on next (taken proto_in c)

abbrev pub then_list : (List Value → Program) → Completion → Program
then_list next c = go_on next (taken list_in c)

abbrev pub then_wanted : (Descriptor → Program) → Completion → Program
then_wanted next c = go_on next (taken wanted_in c)
