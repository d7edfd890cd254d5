-- OrdinaryCreateFromConstructor (ECMA-262, 10.1.13) of a Number or Boolean object, and properties of an object that was made just before.
use Rattle.std.specs.Prelude.{ℕ, Some, List, codes}
use Rattle.property_keys.specs.declared.identifiers.ObjectId.{ObjectId}
use Rattle.property_keys.specs.declared.keys.PropKey.TheVariants.{Name}
use Rattle.property_keys.specs.declared.values.Value.{Value}
use Rattle.property_keys.specs.declared.values.Value.TheVariants as value
use Rattle.es_model.specs.declared.intrinsics.Class.{Class}
use Rattle.es_model.specs.declared.kinds.ObjectKind.TheVariants as kind_of
use Rattle.es_model.specs.Completions.{Completion}
use Rattle.es_model.specs.Events.{OfWrapper}
use Rattle.es_model.specs.Program.{Program, define, done, intern, make}
use Rattle.es_model.specs.programs.Errors.{hidden}
use Rattle.es_model.specs.programs.Methods.{get_named}
use Rattle.function_objects.specs.Constructing.{prototype_given}
use Rattle.core_builtins.specs.Answers.{gives}

-- step 3, with the value in the inner slot
abbrev pub wrapper_made : Value → ObjectId → Program
wrapper_made v p = make (kind_of.Wrapper v) OfWrapper (Some p) (λ o. gives (value.Object o))

-- the value under "prototype" was asked for (10.1.14, step 2)
abbrev pub wrapper_given : Class → Value → ObjectId → Completion → Program
wrapper_given default v target c = prototype_given default target (wrapper_made v) done c

-- step 2. Opaque: what calls it does not look into it
unfoldable pub create_wrapper : Class → Value → ObjectId → Program
create_wrapper default v target = get_named target (codes "prototype") (wrapper_given default v target)

-- CreateNonEnumerableDataPropertyOrThrow (7.3.7). What was made just before is extensible and has no such property, so it is not refused.
abbrev pub put_named : ObjectId → List ℕ → Value → Program → Program
put_named o name v next = intern name (λ n. define o (Name n) (hidden v) (λ b. next))
