-- Arguments exotic objects (ECMA-262, 10.4.4): the five internal methods of their own, and those of 10.1 for the rest. None of the steps takes a turn but those
-- of the ordinary methods, a charge before each step on to a prototype's own method.
use Rattle.std.specs.Prelude.{ℕ, Bool, true, false, not, ◌&&◌, if◌then◌else◌, Option, Some, None, is_none, List, slice_get, unwrap_or}
use Rattle.property_keys.specs.declared.identifiers.ObjectId.{ObjectId}
use Rattle.property_keys.specs.declared.keys.PropKey.{PropKey}
use Rattle.property_keys.specs.declared.keys.PropKey.TheVariants.{Index, Name, Sym}
use Rattle.property_keys.specs.declared.values.Value.{Value}
use Rattle.property_keys.specs.declared.values.Value.TheVariants as value
use Rattle.property_keys.specs.Values.{same_value}
use Rattle.descriptors.specs.declared.fields.Descriptor.{Descriptor}
use Rattle.descriptors.specs.declared.property.Complete.{Complete}
use Rattle.descriptors.specs.declared.property.Complete.TheVariants.{Stored, Accessor}
use Rattle.descriptors.specs.Kinds.{is_accessor_descriptor, is_data_descriptor}
use Rattle.es_model.specs.declared.answers.Reply.TheVariants as reply
use Rattle.es_model.specs.declared.kinds.CellNo.{CellNo}
use Rattle.es_model.specs.declared.kinds.ObjectKind.{ObjectKind}
use Rattle.es_model.specs.declared.kinds.ObjectKind.TheVariants as kind_of
use Rattle.es_model.specs.declared.requests.Request.{Request}
use Rattle.es_model.specs.declared.requests.Request.TheVariants.{GetOwn, Define, Read, Write, Delete}
use Rattle.es_model.specs.Changes.{SettingCell, Unmapping}
use Rattle.es_model.specs.Completions.{Normal}
use Rattle.es_model.specs.Program.{Program, change, define, delete, done, look}
use Rattle.es_model.specs.World.{Lists, cell, kind, own, proto}
use Rattle.es_model.specs.programs.Errors.{flag}
use Rattle.ordinary_object.specs.Ordinary.{ordinary_define_own_property, ordinary_delete, ordinary_get, ordinary_program, ordinary_set_with_own_descriptor}
use Rattle.arguments_exotic.specs.declared.parameter.Parameter.{Parameter}

-- ---- args.[[ParameterMap]], which is the list of cells of the object: HasOwnProperty(map, P) says that a cell stands at P, Get and Set of the map read and
-- write that cell, and map.[[Delete]](P) takes it out of the list. An unmapped object has no cells

abbrev pub parameter_in : ℕ → Option (Option CellNo) → Option Parameter
parameter_in i None = None
parameter_in i (Some None) = None
parameter_in i (Some (Some c)) = Some (record { index = i; cell = c })

abbrev pub parameter_at : List (Option CellNo) → PropKey → Option Parameter
parameter_at cells (Index i) = parameter_in i (slice_get cells i)
parameter_at cells (Name t) = None
parameter_at cells (Sym s) = None

abbrev pub parameter_of : ObjectKind → PropKey → Option Parameter
parameter_of (kind_of.Arguments cells) k = parameter_at cells k
parameter_of other k = None

-- isMapped: the parameter that an index shares, and none where it is not mapped
abbrev pub mapped : Lists → ObjectId → PropKey → Option Parameter
mapped l args k = parameter_of (kind l args) k

-- Get(map, P). A parameter has a value from the start of its function on
abbrev pub parameter_value : Lists → Parameter → Value
parameter_value l p = unwrap_or (cell l p.cell) value.Undefined

-- ---- [[GetOwnProperty]] (10.4.4.1)

-- Steps 2, 5 and 6, from the property of OrdinaryGetOwnProperty. An accessor is never mapped
abbrev pub with_parameter : Lists → Option Parameter → Option Complete → Option Complete
with_parameter l None desc = desc
with_parameter l (Some p) None = None
with_parameter l (Some p) (Some (Stored v flags)) = Some (Stored (parameter_value l p) flags)
with_parameter l (Some p) (Some (Accessor get set enumerable configurable)) = Some (Accessor get set enumerable configurable)

-- steps 1, 3 and 4
abbrev pub own_property : Lists → ObjectId → PropKey → Option Complete
own_property l args k = with_parameter l (mapped l args k) (own l args k)

abbrev pub arguments_get_own_property : ObjectId → PropKey → Program
arguments_get_own_property args k = look (λ l. done (Normal (reply.Property (own_property l args k))))

-- ---- [[DefineOwnProperty]] (10.4.4.2)

-- the descriptor has a field [[Writable]], and that is false
abbrev pub forbids_writing : Descriptor → Bool
forbids_writing wanted = not (unwrap_or wanted.writable true)

-- steps 3 and 4, where P is mapped: newArgDesc
abbrev pub new_arg_desc : Lists → Parameter → Descriptor → Descriptor
new_arg_desc l p wanted =
    if is_data_descriptor wanted && (is_none wanted.value && forbids_writing wanted)
    then record wanted { value = Some (parameter_value l p) } else wanted

-- map.[[Delete]](P), and step 7
abbrev pub unmap : ObjectId → Parameter → Program
unmap args p = change (Unmapping args p.index) (done (flag true))

-- step 6.b.ii
abbrev pub unmap_unwritable : ObjectId → Parameter → Descriptor → Program
unmap_unwritable args p wanted = if forbids_writing wanted then unmap args p else done (flag true)

-- step 6.b.i: the value is written to the parameter, and an unmapping comes after that
abbrev pub value_defined : ObjectId → Parameter → Descriptor → Option Value → Program
value_defined args p wanted None = unmap_unwritable args p wanted
value_defined args p wanted (Some v) = change (SettingCell p.cell v) (unmap_unwritable args p wanted)

-- step 6
abbrev pub parameter_defined : ObjectId → Parameter → Descriptor → Program
parameter_defined args p wanted = if is_accessor_descriptor wanted then unmap args p else value_defined args p wanted wanted.value

-- Step 5. OrdinaryDefineOwnProperty compares with what [[GetOwnProperty]] gives, and looks at the value of that only where it is not writable. A mapped index
-- is writable, so the value in the list does not tell
abbrev pub define_parameter : ObjectId → PropKey → Descriptor → Parameter → Program
define_parameter args k wanted p = look (λ l.
    define args k (new_arg_desc l p wanted) (λ succeeded. if succeeded then parameter_defined args p wanted else done (flag false)))

abbrev pub define_by : ObjectId → PropKey → Descriptor → Option Parameter → Program
define_by args k wanted None = ordinary_define_own_property args k wanted
define_by args k wanted (Some p) = define_parameter args k wanted p

-- steps 1 and 2
abbrev pub arguments_define_own_property : ObjectId → PropKey → Descriptor → Program
arguments_define_own_property args k wanted = look (λ l. define_by args k wanted (mapped l args k))

-- ---- [[Get]] (10.4.4.3)

-- Steps 3 and 4. What is not mapped has the property of OrdinaryGetOwnProperty, with which OrdinaryGet goes on
abbrev pub get_by : ObjectId → PropKey → Value → Option Parameter → Program
get_by args k receiver None = ordinary_get args k receiver
get_by args k receiver (Some p) = look (λ l. done (Normal (reply.Value (parameter_value l p))))

-- steps 1 and 2
abbrev pub arguments_get : ObjectId → PropKey → Value → Program
arguments_get args k receiver = look (λ l. get_by args k receiver (mapped l args k))

-- ---- [[Set]] (10.4.4.4)

-- step 4: OrdinarySet (10.1.9.1), with this [[GetOwnProperty]]
abbrev pub set_ordinary : ObjectId → PropKey → Value → Value → Program
set_ordinary args k v receiver = look (λ l. ordinary_set_with_own_descriptor (own_property l args k) (proto l args) k v receiver)

-- step 3
abbrev pub set_by : ObjectId → PropKey → Value → Value → Option Parameter → Program
set_by args k v receiver None = set_ordinary args k v receiver
set_by args k v receiver (Some p) = change (SettingCell p.cell v) (set_ordinary args k v receiver)

-- steps 1 and 2: nothing is mapped for another receiver
abbrev pub mapped_for : Lists → ObjectId → PropKey → Value → Option Parameter
mapped_for l args k receiver = if same_value (value.Object args) receiver then mapped l args k else None

abbrev pub arguments_set : ObjectId → PropKey → Value → Value → Program
arguments_set args k v receiver = look (λ l. set_by args k v receiver (mapped_for l args k receiver))

-- ---- [[Delete]] (10.4.4.5)

-- steps 3 to 5. OrdinaryDelete (10.1.10.1) asks of the property only whether it is there and configurable
abbrev pub delete_by : ObjectId → PropKey → Option Parameter → Program
delete_by args k None = ordinary_delete args k
delete_by args k (Some p) = delete args k (λ deleted. if deleted then unmap args p else done (flag false))

-- steps 1 and 2
abbrev pub arguments_delete : ObjectId → PropKey → Program
arguments_delete args k = look (λ l. delete_by args k (mapped l args k))

-- ---- the requests that go to arguments objects. The methods that 10.4.4 does not have are those of 10.1. The dispatcher sends no other request here

abbrev pub arguments_program : Request → Program
arguments_program (GetOwn o k) = arguments_get_own_property o k
arguments_program (Define o k wanted) = arguments_define_own_property o k wanted
arguments_program (Read o k receiver site) = arguments_get o k receiver
arguments_program (Write o k v receiver site) = arguments_set o k v receiver
arguments_program (Delete o k) = arguments_delete o k
arguments_program other = ordinary_program other
