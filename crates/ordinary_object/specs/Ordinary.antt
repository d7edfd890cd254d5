-- The internal methods of ordinary objects and functions (ECMA-262, 10.1). A charge of one turn stands before each step on to a prototype's own method.
-- A continuation that a frame stands for has a name of its own.
use Rattle.std.specs.Prelude.{ℕ, zero, suc, Bool, true, false, if◌then◌else◌, Option, Some, None, [], ◌∷◌, length, nat_eq}
use Rattle.property_keys.specs.declared.identifiers.ObjectId.{ObjectId}
use Rattle.property_keys.specs.declared.keys.PropKey.{PropKey}
use Rattle.property_keys.specs.declared.values.Value.{Value}
use Rattle.property_keys.specs.declared.values.Value.TheVariants as value
use Rattle.descriptors.specs.declared.fields.Descriptor.{Descriptor}
use Rattle.descriptors.specs.declared.property.Complete.{Complete}
use Rattle.descriptors.specs.declared.property.Complete.TheVariants.{Stored, Accessor}
use Rattle.es_model.specs.declared.requests.Request.{Request}
use Rattle.es_model.specs.declared.requests.Request.TheVariants.{GetOwn, Define, Has, Read, Write, Delete, Keys, Proto}
use Rattle.es_model.specs.declared.requests.Request.TheVariants.{SetProto, Extensible, Prevent, Call, Construct, Work, Print}
use Rattle.es_model.specs.Completions.{Completion, Normal}
use Rattle.es_model.specs.declared.answers.Reply.TheVariants as reply
use Rattle.es_model.specs.declared.intrinsics.Class.TheVariants as class
use Rattle.es_model.specs.declared.intrinsics.Intrinsic.TheVariants as intrinsic
use Rattle.es_model.specs.StartObjects.{object_of}
use Rattle.es_model.specs.Objects.{is_proxy}
use Rattle.es_model.specs.World.{own, proto, kind, extensible}
use Rattle.es_model.specs.OwnKeys.{own_keys}
use Rattle.es_model.specs.Changes.{SettingProto, Preventing, same_proto}
use Rattle.es_model.specs.Program.{Program, done, look, change, charge, ask, define, delete}
use Rattle.es_model.specs.programs.Abrupt.{then_property, then_value}
use Rattle.es_model.specs.programs.Errors.{flag, undefined, unfit}

-- ---- OrdinaryGetPrototypeOf (10.1.1.1), which is [[GetPrototypeOf]] (10.1.1)

abbrev pub ordinary_get_prototype_of : ObjectId → Program
ordinary_get_prototype_of o = look (λ l. done (Normal (reply.Proto (proto l o))))

-- ---- [[SetPrototypeOf]] (10.1.2)

abbrev pub same_object : ObjectId → ObjectId → Bool
same_object a b = nat_eq a.0 b.0

-- steps 8 and 9
abbrev pub prototype_is_set : ObjectId → Option ObjectId → Program
prototype_is_set o v = change (SettingProto o v) (done (flag true))

-- Step 7, a turn for each round, the last one too. `left` rounds are enough where no chain of prototypes comes back to an object without passing a
-- Proxy: no chain then has more objects than there are.
abbrev pub set_prototype_round : ℕ → ObjectId → Option ObjectId → Option ObjectId → Program
set_prototype_round zero o v p = done (flag false)
set_prototype_round (suc left) o v None = charge 1 (prototype_is_set o v)
set_prototype_round (suc left) o v (Some p) = charge 1 (
    if same_object p o then done (flag false)
    else look (λ l. if is_proxy (kind l p) then prototype_is_set o v else set_prototype_round left o v (proto l p)))

-- OrdinarySetPrototypeOf (10.1.2.1)
abbrev pub ordinary_set_prototype_of : ObjectId → Option ObjectId → Program
ordinary_set_prototype_of o v = look (λ l.
    if same_proto (proto l o) v then done (flag true)
    else (if extensible l o then set_prototype_round (suc (length l.objects)) o v v
    else done (flag false)))

-- SetImmutablePrototype (10.4.7.2), which is [[SetPrototypeOf]] of %Object.prototype% (10.4.7.1)
abbrev pub set_immutable_prototype : ObjectId → Option ObjectId → Program
set_immutable_prototype o v = look (λ l. done (flag (same_proto (proto l o) v)))

abbrev pub set_prototype_of : ObjectId → Option ObjectId → Program
set_prototype_of o v =
    if same_object o (object_of (intrinsic.Prototype class.Object)) then set_immutable_prototype o v else ordinary_set_prototype_of o v

-- ---- OrdinaryIsExtensible (10.1.3.1), which is [[IsExtensible]] (10.1.3)

abbrev pub ordinary_is_extensible : ObjectId → Program
ordinary_is_extensible o = look (λ l. done (flag (extensible l o)))

-- ---- OrdinaryPreventExtensions (10.1.4.1), which is [[PreventExtensions]] (10.1.4)

abbrev pub ordinary_prevent_extensions : ObjectId → Program
ordinary_prevent_extensions o = change (Preventing o) (done (flag true))

-- ---- OrdinaryGetOwnProperty (10.1.5.1), which is [[GetOwnProperty]] (10.1.5)

abbrev pub ordinary_get_own_property : ObjectId → PropKey → Program
ordinary_get_own_property o k = look (λ l. done (Normal (reply.Property (own l o k))))

-- ---- OrdinaryDefineOwnProperty (10.1.6.1), which is [[DefineOwnProperty]] (10.1.6)

abbrev pub ordinary_define_own_property : ObjectId → PropKey → Descriptor → Program
ordinary_define_own_property o k wanted = define o k wanted (λ b. done (flag b))

-- ---- OrdinaryHasProperty (10.1.7.1), which is [[HasProperty]] (10.1.7)

abbrev pub has_property_found : Option Complete → Option ObjectId → PropKey → Program
has_property_found (Some c) up k = done (flag true)
has_property_found None (Some parent) k = charge 1 (ask (Has parent k) done)
has_property_found None None k = done (flag false)

abbrev pub ordinary_has_property : ObjectId → PropKey → Program
ordinary_has_property o k = look (λ l. has_property_found (own l o k) (proto l o) k)

-- ---- OrdinaryGet (10.1.8.1), which is [[Get]] (10.1.8)

abbrev pub get_found : Option Complete → Option ObjectId → PropKey → Value → Program
get_found None None k receiver = done undefined
get_found None (Some parent) k receiver = charge 1 (ask (Read parent k receiver None) done)
get_found (Some (Stored v flags)) up k receiver = done (Normal (reply.Value v))
get_found (Some (Accessor None set e c)) up k receiver = done undefined
get_found (Some (Accessor (Some getter) set e c)) up k receiver = ask (Call (value.Object getter) receiver []) done

abbrev pub ordinary_get : ObjectId → PropKey → Value → Program
ordinary_get o k receiver = look (λ l. get_found (own l o k) (proto l o) k receiver)

-- ---- OrdinarySet (10.1.9.1), which is [[Set]] (10.1.9)

-- the descriptor of a value alone (10.1.9.2, step 2.d.iii)
abbrev pub value_alone : Value → Descriptor
value_alone v = record { value = Some v; writable = None; get = None; set = None; enumerable = None; configurable = None }

-- the descriptor of CreateDataProperty (7.3.5)
abbrev pub with_three_true : Value → Descriptor
with_three_true v = record { value = Some v; writable = Some true; get = None; set = None; enumerable = Some true; configurable = Some true }

-- steps 2.d and 2.e of 10.1.9.2
abbrev pub set_existing : PropKey → Value → ObjectId → Option Complete → Program
set_existing k v receiver (Some (Accessor get set e c)) = done (flag false)
set_existing k v receiver (Some (Stored x flags)) =
    if flags.writable then ask (Define receiver k (value_alone v)) done else done (flag false)
set_existing k v receiver None = ask (Define receiver k (with_three_true v)) done

-- after the receiver's own property was asked for
abbrev pub set_had : PropKey → Value → ObjectId → Completion → Program
set_had k v receiver c = then_property (set_existing k v receiver) c

-- steps 2.b and 2.c
abbrev pub set_receiver : PropKey → Value → Value → Program
set_receiver k v (value.Object receiver) = ask (GetOwn receiver k) (set_had k v receiver)
set_receiver k v value.Undefined = done (flag false)
set_receiver k v value.Null = done (flag false)
set_receiver k v (value.Bool b) = done (flag false)
set_receiver k v (value.Whole n) = done (flag false)
set_receiver k v (value.Text t) = done (flag false)
set_receiver k v (value.Symbol s) = done (flag false)

-- step 7, after the setter was called
abbrev pub set_called : Completion → Program
set_called c = then_value (λ v. done (flag true)) c

-- OrdinarySetWithOwnDescriptor (10.1.9.2)
abbrev pub ordinary_set_with_own_descriptor : Option Complete → Option ObjectId → PropKey → Value → Value → Program
ordinary_set_with_own_descriptor None (Some parent) k v receiver = charge 1 (ask (Write parent k v receiver None) done)
ordinary_set_with_own_descriptor None None k v receiver = set_receiver k v receiver
ordinary_set_with_own_descriptor (Some (Stored x flags)) up k v receiver = if flags.writable then set_receiver k v receiver else done (flag false)
ordinary_set_with_own_descriptor (Some (Accessor get None e c)) up k v receiver = done (flag false)
ordinary_set_with_own_descriptor (Some (Accessor get (Some setter) e c)) up k v receiver = ask (Call (value.Object setter) receiver (v ∷ [])) set_called

abbrev pub ordinary_set : ObjectId → PropKey → Value → Value → Program
ordinary_set o k v receiver = look (λ l. ordinary_set_with_own_descriptor (own l o k) (proto l o) k v receiver)

-- ---- OrdinaryDelete (10.1.10.1), which is [[Delete]] (10.1.10)

abbrev pub ordinary_delete : ObjectId → PropKey → Program
ordinary_delete o k = delete o k (λ b. done (flag b))

-- ---- OrdinaryOwnPropertyKeys (10.1.11.1), which is [[OwnPropertyKeys]] (10.1.11)

abbrev pub ordinary_own_property_keys : ObjectId → Program
ordinary_own_property_keys o = look (λ l. done (Normal (reply.Keys (own_keys l o))))

-- ---- the requests that go to ordinary objects. The dispatcher sends no other there

abbrev pub ordinary_program : Request → Program
ordinary_program (GetOwn o k) = ordinary_get_own_property o k
ordinary_program (Define o k wanted) = ordinary_define_own_property o k wanted
ordinary_program (Has o k) = ordinary_has_property o k
ordinary_program (Read o k receiver site) = ordinary_get o k receiver
ordinary_program (Write o k v receiver site) = ordinary_set o k v receiver
ordinary_program (Delete o k) = ordinary_delete o k
ordinary_program (Keys o) = ordinary_own_property_keys o
ordinary_program (Proto o) = ordinary_get_prototype_of o
ordinary_program (SetProto o p) = set_prototype_of o p
ordinary_program (Extensible o) = ordinary_is_extensible o
ordinary_program (Prevent o) = ordinary_prevent_extensions o
ordinary_program (Call f this arguments) = unfit
ordinary_program (Construct f arguments target) = unfit
ordinary_program (Work operation operands) = unfit
ordinary_program (Print line) = unfit
