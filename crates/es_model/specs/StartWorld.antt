-- The world in which a run begins.
use Rattle.std.specs.Prelude.{ℕ, option_map, List, [], ◌∷◌, ◌++◌, map}
use Rattle.es_model.specs.declared.kinds.ErrorKind.TheVariants as error
use Rattle.es_model.specs.declared.intrinsics.Class.TheVariants as class
use Rattle.es_model.specs.declared.intrinsics.Intrinsic.{Intrinsic}
use Rattle.es_model.specs.declared.intrinsics.Intrinsic.TheVariants.{Global, Constructor, Prototype, Proxy, ThrowTypeError, Reflect, Print, Function}
use Rattle.es_tree.specs.Tree.{Tree}
use Rattle.es_model.specs.Objects.{Object}
use Rattle.es_model.specs.World.{Lists, World}
use Rattle.es_model.specs.BuiltinFunctions.{all_builtin_functions}
use Rattle.es_model.specs.StartObjects.{object_of}
use Rattle.es_model.specs.StartTexts.{start_texts, start_symbols}
use Rattle.es_model.specs.StartTable.{start_kind, start_parent, start_extensible, start_properties}

-- the start objects in the order of their numbers
abbrev pub all_intrinsics : List Intrinsic
all_intrinsics =
    Global
    ∷ Constructor class.Object ∷ Prototype class.Object
    ∷ Constructor class.Function ∷ Prototype class.Function
    ∷ Constructor class.Array ∷ Prototype class.Array
    ∷ Constructor class.String ∷ Prototype class.String
    ∷ Constructor class.Number ∷ Prototype class.Number
    ∷ Constructor class.Boolean ∷ Prototype class.Boolean
    ∷ Constructor class.Symbol ∷ Prototype class.Symbol
    ∷ Constructor (class.Error error.Error) ∷ Prototype (class.Error error.Error)
    ∷ Constructor (class.Error error.TypeError) ∷ Prototype (class.Error error.TypeError)
    ∷ Constructor (class.Error error.RangeError) ∷ Prototype (class.Error error.RangeError)
    ∷ Constructor (class.Error error.ReferenceError) ∷ Prototype (class.Error error.ReferenceError)
    ∷ Constructor (class.Error error.SyntaxError) ∷ Prototype (class.Error error.SyntaxError)
    ∷ Proxy ∷ ThrowTypeError ∷ Reflect ∷ Print ∷ map Function all_builtin_functions

abbrev pub start_object : Intrinsic → Object
start_object i = record {
  kind = start_kind i;
  proto = option_map object_of (start_parent i);
  extensible = start_extensible i;
  properties = start_properties i;
}

abbrev pub start_lists : Lists
start_lists = record {
  objects = map start_object all_intrinsics;
  texts = start_texts;
  symbols = start_symbols;
  cells = [];
}

abbrev pub start_world : Tree → ℕ → World
start_world script turns = record { script = script; lists = start_lists; turns = turns; trace = []; printed = [] }
