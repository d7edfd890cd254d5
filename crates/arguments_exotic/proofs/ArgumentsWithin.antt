-- The methods of arguments objects keep within the weights of their requests.
use Rattle.std.proofs.Common.{ℕ, ◌≤◌, true, false, Option, Some, None, sym, subst}
use Rattle.property_keys.specs.declared.identifiers.ObjectId.{ObjectId}
use Rattle.property_keys.specs.declared.keys.PropKey.{PropKey}
use Rattle.property_keys.specs.declared.values.Value.{Value}
use Rattle.descriptors.specs.declared.fields.Descriptor.{Descriptor}
use Rattle.descriptors.specs.Kinds.{is_accessor_descriptor}
use Rattle.es_model.specs.declared.requests.Request.{Request}
use Rattle.es_model.specs.declared.requests.Request.TheVariants.{GetOwn, Define, Has, Read, Write, Delete, Keys, Proto, SetProto, Extensible, Prevent, Call, Construct, Work, Print}
use Rattle.es_model.specs.Program.{done}
use Rattle.es_model.specs.Weights.{IsWithin, request_weight}
use Rattle.es_model.specs.World.{allows, deletes, own, proto}
use Rattle.es_model.specs.programs.Errors.{flag}
use Rattle.es_model.proofs.Within.{within-cond}
use Rattle.ordinary_object.proofs.OrdinaryWithin.{ordinary-within}
use Rattle.arguments_exotic.specs.Arguments.{arguments_program, define_by, delete_by, forbids_writing, get_by, mapped, mapped_for, new_arg_desc, parameter_defined, set_by, set_ordinary, unmap, unmap_unwritable, value_defined}
use Rattle.arguments_exotic.proofs.SetAlike.{same_descriptor}
use Rattle.arguments_exotic.specs.declared.parameter.Parameter.{Parameter}

unwritable-within : (r b : ℕ) (args : ObjectId) (p : Parameter) (wanted : Descriptor) → IsWithin r b (unmap_unwritable args p wanted)
unwritable-within r b args p wanted = within-cond r b (forbids_writing wanted) (unmap args p) (done (flag true)) tt tt

value-within : (r b : ℕ) (args : ObjectId) (p : Parameter) (wanted : Descriptor) (v : Option Value) → IsWithin r b (value_defined args p wanted v)
value-within r b args p wanted None = unwritable-within r b args p wanted
value-within r b args p wanted (Some v) = unwritable-within r b args p wanted

defined-within : (r b : ℕ) (args : ObjectId) (p : Parameter) (wanted : Descriptor) → IsWithin r b (parameter_defined args p wanted)
defined-within r b args p wanted = within-cond r b (is_accessor_descriptor wanted) (unmap args p) (value_defined args p wanted wanted.value) tt (value-within r b args p wanted wanted.value)

define-within : (r b : ℕ) (args : ObjectId) (k : PropKey) (wanted : Descriptor) (p : Option Parameter) → IsWithin r b (define_by args k wanted p)
define-within r b args k wanted None = λ l. tt
define-within r b args k wanted (Some p) = λ l m.
    within-cond r b (allows m args k (new_arg_desc l p wanted)) (parameter_defined args p wanted) (done (flag false)) (defined-within r b args p wanted) tt

get-within : (r : ℕ) → 200 ≤ r → (args : ObjectId) (k : PropKey) (receiver : Value) (p : Option Parameter) → IsWithin r 1 (get_by args k receiver p)
get-within r enough args k receiver None = ordinary-within r enough (Read args k receiver None)
get-within r enough args k receiver (Some p) = λ l. tt

ordinary_set-within : (r : ℕ) → 200 ≤ r → (args : ObjectId) (k : PropKey) (v receiver : Value) → IsWithin r 32 (set_ordinary args k v receiver)
ordinary_set-within r enough args k v receiver = λ l.
    subst (IsWithin r 32) (sym (same_descriptor l (mapped l args k) (own l args k) (proto l args) k v receiver)) (ordinary-within r enough (Write args k v receiver None) l)

set_by-within : (r : ℕ) → 200 ≤ r → (args : ObjectId) (k : PropKey) (v receiver : Value) (p : Option Parameter) → IsWithin r 32 (set_by args k v receiver p)
set_by-within r enough args k v receiver None = ordinary_set-within r enough args k v receiver
set_by-within r enough args k v receiver (Some p) = ordinary_set-within r enough args k v receiver

delete-within : (r b : ℕ) (args : ObjectId) (k : PropKey) (p : Option Parameter) → IsWithin r b (delete_by args k p)
delete-within r b args k None = λ l. tt
delete-within r b args k (Some p) = λ l. within-cond r b (deletes l args k) (unmap args p) (done (flag false)) tt tt

pub arguments-within : (r : ℕ) → 200 ≤ r → (q : Request) → IsWithin r (request_weight q) (arguments_program q)
arguments-within r enough (GetOwn o k) = λ l. tt
arguments-within r enough (Define o k wanted) = λ l. define-within r 30 o k wanted (mapped l o k)
arguments-within r enough (Has o k) = ordinary-within r enough (Has o k)
arguments-within r enough (Read o k receiver site) = λ l. get-within r enough o k receiver (mapped l o k)
arguments-within r enough (Write o k v receiver site) = λ l. set_by-within r enough o k v receiver (mapped_for l o k receiver)
arguments-within r enough (Delete o k) = λ l. delete-within r 0 o k (mapped l o k)
arguments-within r enough (Keys o) = ordinary-within r enough (Keys o)
arguments-within r enough (Proto o) = ordinary-within r enough (Proto o)
arguments-within r enough (SetProto o p) = ordinary-within r enough (SetProto o p)
arguments-within r enough (Extensible o) = ordinary-within r enough (Extensible o)
arguments-within r enough (Prevent o) = ordinary-within r enough (Prevent o)
arguments-within r enough (Call f this arguments) = ordinary-within r enough (Call f this arguments)
arguments-within r enough (Construct f arguments target) = ordinary-within r enough (Construct f arguments target)
arguments-within r enough (Work op operands) = ordinary-within r enough (Work op operands)
arguments-within r enough (Print line) = ordinary-within r enough (Print line)
