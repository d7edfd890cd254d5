-- How arguments objects are made (ECMA-262, 10.4.4.6, 10.4.4.7), and the world after one is made. It takes no turn and asks for nothing.
use Rattle.std.specs.Prelude.{ℕ, suc, pos, min, nat_le, false, if◌then◌else◌, Some, None, List, [], ◌∷◌, Option, codes, length}
use Rattle.property_keys.specs.declared.identifiers.ObjectId.{ObjectId}
use Rattle.property_keys.specs.declared.keys.PropKey.TheVariants.{Index, Name}
use Rattle.property_keys.specs.declared.values.Value.{Value}
use Rattle.property_keys.specs.declared.values.Value.TheVariants as value
use Rattle.property_keys.specs.Decimals.{whole_units}
use Rattle.property_keys.specs.Keys.{most_index}
use Rattle.property_keys.specs.Wholes.{most_whole}
use Rattle.descriptors.specs.declared.fields.Descriptor.{Descriptor}
use Rattle.es_model.specs.declared.intrinsics.Class.TheVariants as class
use Rattle.es_model.specs.declared.intrinsics.Intrinsic.TheVariants as intrinsic
use Rattle.es_model.specs.declared.kinds.CellNo.{CellNo}
use Rattle.es_model.specs.declared.kinds.ObjectKind.TheVariants as kind_of
use Rattle.es_model.specs.Changes.{Change, Defining, Interning, Making, changed}
use Rattle.es_model.specs.Events.{OfArguments}
use Rattle.es_model.specs.Program.{Program, define, intern, make}
use Rattle.es_model.specs.StartObjects.{object_of}
use Rattle.es_model.specs.World.{World, new_object, number_of}
use Rattle.es_model.specs.programs.Converting.{proto_of_class}
use Rattle.es_model.specs.programs.Errors.{hidden}
use Rattle.ordinary_object.specs.Ordinary.{with_three_true}

-- ---- the properties, each defined on the new object, which refuses nothing. No step finds an index mapped, so each definition is the ordinary one

-- DefinePropertyOrThrow (7.3.8) of a name
abbrev pub define_named : ObjectId → List ℕ → Descriptor → Program → Program
define_named o name d next = intern name (λ k. define o (Name k) d (λ succeeded. next))

-- CreateDataPropertyOrThrow (7.3.6) of an argument. The key of a number past the array indices is a name
abbrev pub define_argument : ObjectId → ℕ → Value → Program → Program
define_argument o i v next =
    if nat_le i most_index then define o (Index i) (with_three_true v) (λ succeeded. next)
    else define_named o (whole_units (pos (min i most_whole))) (with_three_true v) next

-- steps 5 and 6 of 10.4.4.6, and steps 14 and 15 of 10.4.4.7: the arguments from a number on
abbrev pub define_arguments : ObjectId → ℕ → List Value → Program → Program
define_arguments o i [] next = next
define_arguments o i (v ∷ vs) next = define_argument o i v (define_arguments o (suc i) vs next)

-- step 4 of 10.4.4.6, and step 16 of 10.4.4.7: how many arguments there are
unfoldable pub argument_count : List Value → Value
argument_count vs = value.Whole (pos (min (length vs) most_whole))

abbrev pub define_length : ObjectId → List Value → Program → Program
define_length o vs next = define_named o (codes "length") (hidden (argument_count vs)) next

abbrev pub define_callee : ObjectId → Descriptor → Program → Program
define_callee o d next = define_named o (codes "callee") d next

-- ---- CreateUnmappedArgumentsObject (10.4.4.6)

-- the descriptor of step 8
abbrev pub throwing : Descriptor
throwing =
    let thrower : Value = value.Object (object_of intrinsic.ThrowTypeError) in
    record { value = None; writable = None; get = Some thrower; set = Some thrower; enumerable = Some false; configurable = Some false }

abbrev pub create_unmapped_arguments : List Value → (ObjectId → Program) → Program
create_unmapped_arguments vs next =
    make (kind_of.Arguments []) OfArguments (proto_of_class class.Object) (λ o.
    define_length o vs (define_arguments o 0 vs (define_callee o throwing (next o))))

-- ---- CreateMappedArgumentsObject (10.4.4.7): the function, the cells of its parameters in their order, and the arguments

-- Steps 17 to 19: an index that is below both the number of parameters and that of the arguments shares the parameter of that number. No two parameters have
-- one name, so no name is passed over. The list is there from the making on: nothing reads it before the end
abbrev pub mapped_cells : List CellNo → List Value → List (Option CellNo)
mapped_cells [] vs = []
mapped_cells (c ∷ cs) [] = []
mapped_cells (c ∷ cs) (v ∷ vs) = Some c ∷ mapped_cells cs vs

abbrev pub create_mapped_arguments : ObjectId → List CellNo → List Value → (ObjectId → Program) → Program
create_mapped_arguments f cells vs next =
    make (kind_of.Arguments (mapped_cells cells vs)) OfArguments (proto_of_class class.Object) (λ o.
    define_arguments o 0 vs (define_length o vs (define_callee o (hidden (value.Object f)) (next o))))

-- ---- the worlds after these steps

abbrev pub named_defined : ObjectId → List ℕ → Descriptor → World → World
named_defined o name d w = changed (Defining o (Name (number_of w.lists name)) d) (changed (Interning name) w)

unfoldable pub argument_defined : ObjectId → ℕ → Value → World → World
argument_defined o i v w =
    if nat_le i most_index then changed (Defining o (Index i) (with_three_true v)) w
    else named_defined o (whole_units (pos (min i most_whole))) (with_three_true v) w

abbrev pub arguments_defined : ObjectId → ℕ → List Value → World → World
arguments_defined o i [] w = w
arguments_defined o i (v ∷ vs) w = arguments_defined o (suc i) vs (argument_defined o i v w)

abbrev pub length_defined : ObjectId → List Value → World → World
length_defined o vs w = named_defined o (codes "length") (hidden (argument_count vs)) w

abbrev pub callee_defined : ObjectId → Descriptor → World → World
callee_defined o d w = named_defined o (codes "callee") d w

abbrev pub making : List (Option CellNo) → Change
making cells = Making (kind_of.Arguments cells) OfArguments (proto_of_class class.Object)

unfoldable pub unmapped_world : List Value → World → World
unmapped_world vs w =
    let o = new_object w.lists in callee_defined o throwing (arguments_defined o 0 vs (length_defined o vs (changed (making []) w)))

unfoldable pub mapped_world : ObjectId → List (Option CellNo) → List Value → World → World
mapped_world f cells vs w =
    let o = new_object w.lists in
    callee_defined o (hidden (value.Object f)) (length_defined o vs (arguments_defined o 0 vs (changed (making cells) w)))
