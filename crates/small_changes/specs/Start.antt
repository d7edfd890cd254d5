-- The world in which a run begins, as a table worked out by hand: each start object with its kind, its prototype and all of its properties in their order
-- (ECMA-262, 18 to 28), each text and each Symbol. Texts are written out, a Symbol is its description, and an object its name. A property whose value, getter
-- or setter is a built-in function is in no row until that function is built.
use Rattle.std.specs.Prelude.{◌≡◌, ℕ, ℤ, pos, Bool, true, false, Option, Some, None, option_map, List, [], ◌∷◌, length, map, codes, slice_index_or}
use Rattle.property_keys.specs.declared.identifiers.ObjectId.{ObjectId}
use Rattle.property_keys.specs.declared.identifiers.TextId.{TextId}
use Rattle.property_keys.specs.declared.keys.PropKey.{PropKey}
use Rattle.property_keys.specs.declared.keys.PropKey.TheVariants.{Index, Name, Sym}
use Rattle.property_keys.specs.declared.keys.Attributes.{Attributes}
use Rattle.property_keys.specs.declared.values.Value.{Value}
use Rattle.property_keys.specs.declared.values.Value.TheVariants as value
use Rattle.descriptors.specs.declared.property.Complete.{Complete}
use Rattle.descriptors.specs.declared.property.Complete.TheVariants as complete
use Rattle.es_tree.specs.Tree.{empty_tree}
use Rattle.es_model.specs.declared.kinds.ObjectKind.{ObjectKind}
use Rattle.es_model.specs.declared.kinds.ObjectKind.TheVariants as kind_of
use Rattle.es_model.specs.declared.owned.OwnProperty.{OwnProperty}
use Rattle.es_model.specs.Builtins.{BuiltinFacts, builtin_facts, builtin_rows}
use Rattle.es_model.specs.Objects.{Object, object_at}
use Rattle.es_model.specs.StartWorld.{start_lists, start_world}
use Rattle.es_model.specs.World.{Lists, description, units_of}
use Rattle.small_changes.specs.Worlds.{at, with_flags}

-- ---- what is seen of a start object

pub data Seen : Type 0 where
  SeenUndefined : Seen
  SeenNull : Seen
  SeenTruth : Bool → Seen
  SeenNumber : ℤ → Seen
  SeenText : List ℕ → Seen
  SeenSymbol : List ℕ → Seen
  SeenObject : List ℕ → Seen

pub data SeenProperty : Type 0 where
  Has : (key held : Seen) → Attributes → SeenProperty
  -- an accessor with its getter and setter, enumerable, configurable
  HasFunctions : Seen → (get set : Option (List ℕ)) → (enumerable configurable : Bool) → SeenProperty

pub data SeenKind : Type 0 where
  IsPlain : SeenKind
  -- a built-in function of this row, and whether it constructs
  IsFunction : ℕ → Bool → SeenKind
  IsList : SeenKind
  -- a String object, and a Number or Boolean object
  HasUnits : List ℕ → SeenKind
  HasDatum : Seen → SeenKind
  IsNoneOfThese : SeenKind

pub record Row : Type 0 where
  pub kind : SeenKind
  pub proto : Option (List ℕ)
  pub extensible : Bool
  pub properties : List SeenProperty

-- the names of the start objects in the order of their numbers
abbrev pub names : List (List ℕ)
names =
    codes "global" ∷ codes "Object" ∷ codes "Object.prototype" ∷ codes "Function" ∷ codes "Function.prototype"
    ∷ codes "Array" ∷ codes "Array.prototype" ∷ codes "String" ∷ codes "String.prototype" ∷ codes "Number" ∷ codes "Number.prototype"
    ∷ codes "Boolean" ∷ codes "Boolean.prototype" ∷ codes "Symbol" ∷ codes "Symbol.prototype" ∷ codes "Error" ∷ codes "Error.prototype"
    ∷ codes "TypeError" ∷ codes "TypeError.prototype" ∷ codes "RangeError" ∷ codes "RangeError.prototype"
    ∷ codes "ReferenceError" ∷ codes "ReferenceError.prototype" ∷ codes "SyntaxError" ∷ codes "SyntaxError.prototype"
    ∷ codes "Proxy" ∷ codes "ThrowTypeError" ∷ codes "Reflect" ∷ codes "print"
    ∷ codes "Function.prototype.call" ∷ codes "Function.prototype.apply" ∷ codes "Function.prototype[hasInstance]"
    ∷ codes "Number.prototype.toString" ∷ codes "Number.prototype.valueOf"
    ∷ codes "Boolean.prototype.toString" ∷ codes "Boolean.prototype.valueOf"
    ∷ codes "Symbol.prototype.toString" ∷ codes "Symbol.prototype.valueOf" ∷ codes "get Symbol.prototype.description"
    ∷ codes "Symbol.prototype[toPrimitive]" ∷ codes "Error.prototype.toString" ∷ []

abbrev pub name_of : ObjectId → List ℕ
name_of o = slice_index_or names o.0 (codes "none")

abbrev pub words_of : Lists → Option TextId → List ℕ
words_of l None = codes "none"
words_of l (Some t) = units_of l t

abbrev pub seen_value : Lists → Value → Seen
seen_value l value.Undefined = SeenUndefined
seen_value l value.Null = SeenNull
seen_value l (value.Bool b) = SeenTruth b
seen_value l (value.Whole n) = SeenNumber n
seen_value l (value.Text t) = SeenText (units_of l t)
seen_value l (value.Symbol s) = SeenSymbol (words_of l (description l s))
seen_value l (value.Object o) = SeenObject (name_of o)

abbrev pub seen_key : Lists → PropKey → Seen
seen_key l (Index i) = SeenNumber (pos i)
seen_key l (Name t) = SeenText (units_of l t)
seen_key l (Sym s) = SeenSymbol (words_of l (description l s))

abbrev pub seen_property : Lists → Seen → Complete → SeenProperty
seen_property l key (complete.Stored v flags) = Has key (seen_value l v) flags
seen_property l key (complete.Accessor get set e c) = HasFunctions key (option_map name_of get) (option_map name_of set) e c

abbrev pub seen_kind : Lists → ObjectKind → SeenKind
seen_kind l kind_of.Ordinary = IsPlain
seen_kind l (kind_of.Builtin row constructor None) = IsFunction row constructor
seen_kind l kind_of.Array = IsList
seen_kind l (kind_of.Text t) = HasUnits (units_of l t)
seen_kind l (kind_of.Wrapper v) = HasDatum (seen_value l v)
seen_kind l other = IsNoneOfThese

abbrev pub seen_object : Lists → Object → Row
seen_object l x = record {
  kind = seen_kind l x.kind;
  proto = option_map name_of x.proto;
  extensible = x.extensible;
  properties = map (λ (p : OwnProperty). seen_property l (seen_key l p.key) p.complete) x.properties;
}

-- the start objects of these numbers
abbrev pub seen : List ℕ → List Row
seen ns = map (λ (n : ℕ). seen_object start_lists (object_at start_lists.objects (at n))) ns

-- ---- the forms of rows

abbrev pub word : List ℕ → Seen
word units = SeenText units

abbrev pub thing : List ℕ → Seen
thing name = SeenObject name

abbrev pub count_of : ℕ → Seen
count_of n = SeenNumber (pos n)

-- writable and configurable; three false flags; configurable only
abbrev pub hidden : List ℕ → Seen → SeenProperty
hidden key v = Has (word key) v (with_flags true false true)

abbrev pub fixed : List ℕ → Seen → SeenProperty
fixed key v = Has (word key) v (with_flags false false false)

abbrev pub readable : List ℕ → Seen → SeenProperty
readable key v = Has (word key) v (with_flags false false true)

-- @@toStringTag, configurable only
abbrev pub tagged : List ℕ → SeenProperty
tagged name = Has (SeenSymbol (codes "Symbol.toStringTag")) (word name) (with_flags false false true)

abbrev pub a_row : SeenKind → List ℕ → List SeenProperty → Row
a_row kind up ps = record { kind = kind; proto = Some up; extensible = true; properties = ps }

-- a built-in function: length and name stand first
abbrev pub function_row : ℕ → Bool → List ℕ → ℕ → List ℕ → List SeenProperty → Row
function_row number constructs up parameters name rest =
    a_row (IsFunction number constructs) up (readable (codes "length") (count_of parameters) ∷ readable (codes "name") (word name) ∷ rest)

-- a constructor: its prototype object stands third
abbrev pub constructor_row : ℕ → List ℕ → ℕ → List ℕ → List ℕ → List SeenProperty → Row
constructor_row number up parameters name prototype rest =
    function_row number true up parameters name (fixed (codes "prototype") (thing prototype) ∷ rest)

-- ---- the global object (19)

abbrev pub GlobalObject : Type 0
GlobalObject = seen (0 ∷ []) ≡
    a_row IsPlain (codes "Object.prototype") (
    hidden (codes "globalThis") (thing (codes "global"))
    ∷ fixed (codes "undefined") SeenUndefined
    ∷ hidden (codes "print") (thing (codes "print"))
    ∷ hidden (codes "Function") (thing (codes "Function"))
    ∷ hidden (codes "Number") (thing (codes "Number"))
    ∷ hidden (codes "Boolean") (thing (codes "Boolean"))
    ∷ hidden (codes "Symbol") (thing (codes "Symbol"))
    ∷ hidden (codes "Error") (thing (codes "Error"))
    ∷ hidden (codes "TypeError") (thing (codes "TypeError"))
    ∷ hidden (codes "RangeError") (thing (codes "RangeError"))
    ∷ hidden (codes "ReferenceError") (thing (codes "ReferenceError"))
    ∷ hidden (codes "SyntaxError") (thing (codes "SyntaxError"))
    ∷ hidden (codes "Reflect") (thing (codes "Reflect"))
    ∷ []) ∷ []

-- ---- constructors and their prototype objects

-- 20.1: %Object.prototype% alone has no prototype
abbrev pub ObjectObjects : Type 0
ObjectObjects = seen (1 ∷ 2 ∷ []) ≡
    constructor_row 1 (codes "Function.prototype") 1 (codes "Object") (codes "Object.prototype") []
    ∷ record { kind = IsPlain; proto = None; extensible = true; properties = [] }
    ∷ []

-- 20.2: %Function.prototype% is a function itself, without a name, and constructs nothing
abbrev pub FunctionObjects : Type 0
FunctionObjects = seen (3 ∷ 4 ∷ []) ≡
    constructor_row 3 (codes "Function.prototype") 1 (codes "Function") (codes "Function.prototype") []
    ∷ function_row 4 false (codes "Object.prototype") 0 [] (
    hidden (codes "constructor") (thing (codes "Function"))
    ∷ hidden (codes "call") (thing (codes "Function.prototype.call"))
    ∷ hidden (codes "apply") (thing (codes "Function.prototype.apply"))
    ∷ Has (SeenSymbol (codes "Symbol.hasInstance")) (thing (codes "Function.prototype[hasInstance]")) (with_flags false false false)
    ∷ [])
    ∷ []

-- 23.1: %Array.prototype% is an Array, whose length is writable only
abbrev pub ArrayObjects : Type 0
ArrayObjects = seen (5 ∷ 6 ∷ []) ≡
    constructor_row 5 (codes "Function.prototype") 1 (codes "Array") (codes "Array.prototype") []
    ∷ a_row IsList (codes "Object.prototype") (
    Has (word (codes "length")) (count_of 0) (with_flags true false false) ∷ [])
    ∷ []

-- 22.1: String's prototype is a String object of the empty text
abbrev pub StringObjects : Type 0
StringObjects = seen (7 ∷ 8 ∷ []) ≡
    constructor_row 7 (codes "Function.prototype") 1 (codes "String") (codes "String.prototype") []
    ∷ a_row (HasUnits []) (codes "Object.prototype") (fixed (codes "length") (count_of 0) ∷ [])
    ∷ []

-- 21.1: Number's prototype is a Number object of 0
abbrev pub NumberObjects : Type 0
NumberObjects = seen (9 ∷ 10 ∷ []) ≡
    constructor_row 9 (codes "Function.prototype") 1 (codes "Number") (codes "Number.prototype") []
    ∷ a_row (HasDatum (count_of 0)) (codes "Object.prototype") (
    hidden (codes "constructor") (thing (codes "Number"))
    ∷ hidden (codes "toString") (thing (codes "Number.prototype.toString"))
    ∷ hidden (codes "valueOf") (thing (codes "Number.prototype.valueOf"))
    ∷ [])
    ∷ []

-- 20.3: Boolean's prototype is a Boolean object of false
abbrev pub BooleanObjects : Type 0
BooleanObjects = seen (11 ∷ 12 ∷ []) ≡
    constructor_row 11 (codes "Function.prototype") 1 (codes "Boolean") (codes "Boolean.prototype") []
    ∷ a_row (HasDatum (SeenTruth false)) (codes "Object.prototype") (
    hidden (codes "constructor") (thing (codes "Boolean"))
    ∷ hidden (codes "toString") (thing (codes "Boolean.prototype.toString"))
    ∷ hidden (codes "valueOf") (thing (codes "Boolean.prototype.valueOf"))
    ∷ [])
    ∷ []

-- 20.4: the constructor of Symbols takes none, and has the well-known ones; Symbol's prototype is no Symbol object
abbrev pub SymbolObjects : Type 0
SymbolObjects = seen (13 ∷ 14 ∷ []) ≡
    constructor_row 13 (codes "Function.prototype") 0 (codes "Symbol") (codes "Symbol.prototype") (
    fixed (codes "hasInstance") (SeenSymbol (codes "Symbol.hasInstance"))
    ∷ fixed (codes "toPrimitive") (SeenSymbol (codes "Symbol.toPrimitive"))
    ∷ fixed (codes "toStringTag") (SeenSymbol (codes "Symbol.toStringTag")) ∷ [])
    ∷ a_row IsPlain (codes "Object.prototype") (
    hidden (codes "constructor") (thing (codes "Symbol"))
    ∷ hidden (codes "toString") (thing (codes "Symbol.prototype.toString"))
    ∷ hidden (codes "valueOf") (thing (codes "Symbol.prototype.valueOf"))
    ∷ HasFunctions (word (codes "description")) (Some (codes "get Symbol.prototype.description")) None false true
    ∷ Has (SeenSymbol (codes "Symbol.toPrimitive")) (thing (codes "Symbol.prototype[toPrimitive]")) (with_flags false false true)
    ∷ tagged (codes "Symbol")
    ∷ [])
    ∷ []

-- ---- errors (20.5): an error's prototype is no error object, and has a name and an empty message

abbrev pub error_prototype : List ℕ → List ℕ → List SeenProperty → Row
error_prototype up name rest =
    a_row IsPlain up (
    hidden (codes "constructor") (thing name) ∷ hidden (codes "name") (word name) ∷ hidden (codes "message") (word []) ∷ rest)

abbrev pub ErrorObjects : Type 0
ErrorObjects = seen (15 ∷ 16 ∷ []) ≡
    constructor_row 15 (codes "Function.prototype") 1 (codes "Error") (codes "Error.prototype") []
    ∷ error_prototype (codes "Object.prototype") (codes "Error") (hidden (codes "toString") (thing (codes "Error.prototype.toString")) ∷ [])
    ∷ []

-- the four kinds stand on %Error% and %Error.prototype%
abbrev pub TypeErrorObjects : Type 0
TypeErrorObjects = seen (17 ∷ 18 ∷ []) ≡
    constructor_row 17 (codes "Error") 1 (codes "TypeError") (codes "TypeError.prototype") []
    ∷ error_prototype (codes "Error.prototype") (codes "TypeError") []
    ∷ []

abbrev pub RangeErrorObjects : Type 0
RangeErrorObjects = seen (19 ∷ 20 ∷ []) ≡
    constructor_row 19 (codes "Error") 1 (codes "RangeError") (codes "RangeError.prototype") []
    ∷ error_prototype (codes "Error.prototype") (codes "RangeError") []
    ∷ []

abbrev pub ReferenceErrorObjects : Type 0
ReferenceErrorObjects = seen (21 ∷ 22 ∷ []) ≡
    constructor_row 21 (codes "Error") 1 (codes "ReferenceError") (codes "ReferenceError.prototype") []
    ∷ error_prototype (codes "Error.prototype") (codes "ReferenceError") []
    ∷ []

abbrev pub SyntaxErrorObjects : Type 0
SyntaxErrorObjects = seen (23 ∷ 24 ∷ []) ≡
    constructor_row 23 (codes "Error") 1 (codes "SyntaxError") (codes "SyntaxError.prototype") []
    ∷ error_prototype (codes "Error.prototype") (codes "SyntaxError") []
    ∷ []

-- ---- the others

-- 28.2: the constructor of Proxies has no prototype object
abbrev pub ProxyObject : Type 0
ProxyObject = seen (25 ∷ []) ≡ function_row 25 true (codes "Function.prototype") 2 (codes "Proxy") [] ∷ []

-- 10.2.4.1: it takes no properties, and those that it has are fixed
abbrev pub ThrowTypeErrorObject : Type 0
ThrowTypeErrorObject = seen (26 ∷ []) ≡
    record {
      kind = IsFunction 26 false;
      proto = Some (codes "Function.prototype");
      extensible = false;
      properties = fixed (codes "length") (count_of 0) ∷ fixed (codes "name") (word []) ∷ [];
    } ∷ []

-- 28.1
abbrev pub ReflectObject : Type 0
ReflectObject = seen (27 ∷ []) ≡ a_row IsPlain (codes "Object.prototype") (tagged (codes "Reflect") ∷ []) ∷ []

abbrev pub PrintFunction : Type 0
PrintFunction = seen (28 ∷ []) ≡ function_row 28 false (codes "Function.prototype") 0 (codes "print") [] ∷ []

-- ---- methods of prototype objects

-- a method: its number, how many parameters it takes, and its name
abbrev pub method_row : ℕ → ℕ → List ℕ → Row
method_row number parameters name = function_row number false (codes "Function.prototype") parameters name []

-- 20.2.3
abbrev pub MethodsOfFunctions : Type 0
MethodsOfFunctions = seen (29 ∷ 30 ∷ 31 ∷ []) ≡
    method_row 29 1 (codes "call") ∷ method_row 30 2 (codes "apply") ∷ method_row 31 1 (codes "[Symbol.hasInstance]") ∷ []

-- 21.1.3, 20.3.3
abbrev pub MethodsOfNumbersAndBooleans : Type 0
MethodsOfNumbersAndBooleans = seen (32 ∷ 33 ∷ 34 ∷ 35 ∷ []) ≡
    method_row 32 1 (codes "toString") ∷ method_row 33 0 (codes "valueOf") ∷ method_row 34 0 (codes "toString") ∷ method_row 35 0 (codes "valueOf") ∷ []

-- 20.4.3
abbrev pub MethodsOfSymbols : Type 0
MethodsOfSymbols = seen (36 ∷ 37 ∷ 38 ∷ 39 ∷ []) ≡
    method_row 36 0 (codes "toString") ∷ method_row 37 0 (codes "valueOf")
    ∷ method_row 38 0 (codes "get description") ∷ method_row 39 1 (codes "[Symbol.toPrimitive]") ∷ []

-- 20.5.3.4
abbrev pub MethodOfErrors : Type 0
MethodOfErrors = seen (40 ∷ []) ≡ method_row 40 0 (codes "toString") ∷ []

-- ---- what is there besides

abbrev pub NoMoreObjects : Type 0
NoMoreObjects = length start_lists.objects ≡ 41

-- each text, in the order of the numbers
abbrev pub AllTexts : Type 0
AllTexts = start_lists.texts ≡
    codes "length" ∷ codes "name" ∷ codes "prototype" ∷ codes "constructor" ∷ codes "message" ∷ [] ∷ codes "globalThis" ∷ codes "undefined"
    ∷ codes "Proxy" ∷ codes "Reflect" ∷ codes "hasInstance" ∷ codes "toPrimitive" ∷ codes "toStringTag"
    ∷ codes "Symbol.hasInstance" ∷ codes "Symbol.toPrimitive" ∷ codes "Symbol.toStringTag"
    ∷ codes "Object" ∷ codes "Function" ∷ codes "Array" ∷ codes "String" ∷ codes "Number" ∷ codes "Boolean" ∷ codes "Symbol"
    ∷ codes "Error" ∷ codes "TypeError" ∷ codes "RangeError" ∷ codes "ReferenceError" ∷ codes "SyntaxError" ∷ codes "print"
    ∷ codes "call" ∷ codes "apply" ∷ codes "toString" ∷ codes "valueOf" ∷ codes "description" ∷ codes "get description"
    ∷ codes "[Symbol.hasInstance]" ∷ codes "[Symbol.toPrimitive]" ∷ []

-- each well-known Symbol with its description (6.1.5.1)
abbrev pub AllSymbols : Type 0
AllSymbols = map (words_of start_lists) start_lists.symbols ≡ codes "Symbol.hasInstance" ∷ codes "Symbol.toPrimitive" ∷ codes "Symbol.toStringTag" ∷ []

-- no cell, no event and no printed byte is there before a script runs, and all turns are left
abbrev pub NothingHasRun : Type 0
NothingHasRun =
    start_world empty_tree 7 ≡ record {
      script = empty_tree;
      lists = record { objects = start_lists.objects; texts = start_lists.texts; symbols = start_lists.symbols; cells = [] };
      turns = 7;
      trace = [];
      printed = [];
    }

-- the functions of the start objects by their rows: none where the object is no function, and no row behind the last
abbrev pub facts : Bool → Option BuiltinFacts
facts constructs = Some (record { constructs = constructs; revokes = false })

abbrev pub AllRows : Type 0
AllRows = builtin_rows ≡
    None
    ∷ facts true ∷ None ∷ facts true ∷ facts false ∷ facts true ∷ None ∷ facts true ∷ None ∷ facts true ∷ None ∷ facts true ∷ None
    ∷ facts true ∷ None ∷ facts true ∷ None ∷ facts true ∷ None ∷ facts true ∷ None ∷ facts true ∷ None ∷ facts true ∷ None
    ∷ facts true ∷ facts false ∷ None ∷ facts false
    ∷ facts false ∷ facts false ∷ facts false ∷ facts false ∷ facts false ∷ facts false
    ∷ facts false ∷ facts false ∷ facts false ∷ facts false ∷ facts false ∷ facts false ∷ []

abbrev pub NoMoreRows : Type 0
NoMoreRows = builtin_facts 41 ≡ None
