-- How functions of the script are made (ECMA-262, 10.2, 15.2), and the world after one is made.
use Rattle.std.specs.Prelude.{ℕ, pos, min, true, false, if◌then◌else◌, Some, None, List, codes}
use Rattle.property_keys.specs.declared.identifiers.ObjectId.{ObjectId}
use Rattle.property_keys.specs.declared.identifiers.TextId.{TextId}
use Rattle.property_keys.specs.declared.keys.PropKey.TheVariants.{Name}
use Rattle.property_keys.specs.declared.values.Value.{Value}
use Rattle.property_keys.specs.declared.values.Value.TheVariants as value
use Rattle.property_keys.specs.Wholes.{most_whole}
use Rattle.descriptors.specs.declared.fields.Descriptor.{Descriptor}
use Rattle.es_tree.specs.declared.facts.FunctionFacts.{FunctionFacts}
use Rattle.es_tree.specs.declared.numbers.FunctionNo.{FunctionNo}
use Rattle.es_model.specs.declared.intrinsics.Class.TheVariants as class
use Rattle.es_model.specs.declared.kinds.ObjectKind.{ObjectKind}
use Rattle.es_model.specs.declared.kinds.ObjectKind.TheVariants as kind_of
use Rattle.es_model.specs.Changes.{Change, Defining, Interning, Making, changed}
use Rattle.es_model.specs.Events.{OfFunction, OfPlain}
use Rattle.es_model.specs.World.{World, new_object, number_of}
use Rattle.es_model.specs.Program.{Program, intern, define, make}
use Rattle.es_model.specs.programs.Converting.{proto_of_class}
use Rattle.es_model.specs.programs.Errors.{hidden}

-- ---- the properties of a function, none of which is enumerable. One that is writable and configurable is `hidden` of the model

-- configurable only
abbrev pub readable : Value → Descriptor
readable v = record { value = Some v; writable = Some false; get = None; set = None; enumerable = Some false; configurable = Some true }

-- writable only
abbrev pub kept : Value → Descriptor
kept v = record { value = Some v; writable = Some true; get = None; set = None; enumerable = Some false; configurable = Some false }

-- ExpectedArgumentCount (15.1.5) as a value: each parameter is a name. A tree has fewer than 2 ^ 32 at each function, so that the number is whole
unfoldable pub parameter_count : FunctionFacts → Value
parameter_count facts = value.Whole (pos (min facts.parameters most_whole))

-- what a function of the script is
abbrev pub function_kind : FunctionNo → FunctionFacts → ObjectKind
function_kind f facts = kind_of.Function f facts.constructor facts.strict

-- ---- how a function is made

-- DefinePropertyOrThrow (7.3.8) of a name of the standard's own on a new object, which refuses nothing
abbrev pub define_named : ObjectId → List ℕ → Descriptor → Program → Program
define_named o name d next = intern name (λ k. define o (Name k) d (λ succeeded. next))

-- OrdinaryFunctionCreate (10.2.3), whose last step is SetFunctionLength (10.2.10)
abbrev pub create_function : FunctionNo → FunctionFacts → (ObjectId → Program) → Program
create_function f facts next =
    make (function_kind f facts) OfFunction (proto_of_class class.Function) (λ o.
    define_named o (codes "length") (readable (parameter_count facts)) (next o))

-- MakeConstructor (10.2.5): the prototype object with its `constructor`, and then the function's own property
abbrev pub make_constructor : ObjectId → Program → Program
make_constructor o next =
    make kind_of.Ordinary OfPlain (proto_of_class class.Object) (λ p.
    define_named p (codes "constructor") (hidden (value.Object o)) (
    define_named o (codes "prototype") (kept (value.Object p)) next))

-- SetFunctionName (10.2.9), and then MakeConstructor where the function constructs: a method does not
abbrev pub name_function : ObjectId → FunctionFacts → TextId → Program → Program
name_function o facts name next =
    define_named o (codes "name") (readable (value.Text name)) (if facts.constructor then make_constructor o next else next)

-- a function with its name (15.2.4, 15.2.5, 15.4.4)
abbrev pub function_made : FunctionNo → FunctionFacts → TextId → (ObjectId → Program) → Program
function_made f facts name next = create_function f facts (λ o. name_function o facts name (next o))

-- ---- the world after each of them

abbrev pub named_defined : ObjectId → List ℕ → Descriptor → World → World
named_defined o name d w = changed (Defining o (Name (number_of w.lists name)) d) (changed (Interning name) w)

abbrev pub making_function : FunctionNo → FunctionFacts → Change
making_function f facts = Making (function_kind f facts) OfFunction (proto_of_class class.Function)

abbrev pub making_prototype : Change
making_prototype = Making kind_of.Ordinary OfPlain (proto_of_class class.Object)

unfoldable pub created_world : FunctionNo → FunctionFacts → World → World
created_world f facts w = named_defined (new_object w.lists) (codes "length") (readable (parameter_count facts)) (changed (making_function f facts) w)

unfoldable pub prototype_made : ObjectId → World → World
prototype_made o w = named_defined (new_object w.lists) (codes "constructor") (hidden (value.Object o)) (changed making_prototype w)

unfoldable pub constructor_world : ObjectId → World → World
constructor_world o w = named_defined o (codes "prototype") (kept (value.Object (new_object w.lists))) (prototype_made o w)

unfoldable pub named_world : ObjectId → FunctionFacts → TextId → World → World
named_world o facts name w =
    let named = named_defined o (codes "name") (readable (value.Text name)) w in if facts.constructor then constructor_world o named else named

unfoldable pub function_world : FunctionNo → FunctionFacts → TextId → World → World
function_world f facts name w = named_world (new_object w.lists) facts name (created_world f facts w)
