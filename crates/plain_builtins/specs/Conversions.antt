-- ToPrimitive, ToString, ToNumber and ToPropertyKey (ECMA-262, 7.1.1, 7.1.4, 7.1.17, 7.1.19). What is of the wanted type already asks nothing.
-- A continuation that a frame stands for has a name of its own.
use Rattle.std.specs.Prelude.{ℕ, ℤ, pos, negsuc, Bool, true, false, if◌then◌else◌, nat_le, Option, Some, None, Result, Ok, Err, List, [], ◌∷◌, codes}
use Rattle.property_keys.specs.declared.identifiers.ObjectId.{ObjectId}
use Rattle.property_keys.specs.declared.identifiers.TextId.{TextId}
use Rattle.property_keys.specs.declared.keys.PropKey.{PropKey}
use Rattle.property_keys.specs.declared.keys.PropKey.TheVariants.{Index, Sym}
use Rattle.property_keys.specs.declared.values.Value.{Value}
use Rattle.property_keys.specs.declared.values.Value.TheVariants as value
use Rattle.property_keys.specs.Decimals.{whole_units}
use Rattle.property_keys.specs.Keys.{key_of, most_index}
use Rattle.property_keys.specs.Numbers.{number_of}
use Rattle.es_model.specs.declared.answers.Reply.TheVariants as reply
use Rattle.es_model.specs.declared.kinds.ErrorKind.TheVariants as error
use Rattle.es_model.specs.declared.requests.Operation.TheVariants as operation
use Rattle.es_model.specs.declared.requests.Request.TheVariants.{Call, Work}
use Rattle.es_model.specs.declared.start_texts.WellKnown.TheVariants as symbol
use Rattle.es_model.specs.Completions.{Completion, Normal}
use Rattle.es_model.specs.StartTexts.{symbol_of}
use Rattle.es_model.specs.World.{Lists, units_of}
use Rattle.es_model.specs.Program.{Program, done, look, charge, ask, intern}
use Rattle.es_model.specs.programs.Abrupt.{then_value}
use Rattle.es_model.specs.programs.Errors.{throw_error}
use Rattle.es_model.specs.programs.Methods.{get, get_named, then_method}
use Rattle.es_model.specs.programs.Testing.{as_object, is_callable}
use Rattle.plain_builtins.specs.declared.words.Hint.{Hint}
use Rattle.plain_builtins.specs.declared.words.Hint.TheVariants as hint
use Rattle.plain_builtins.specs.declared.words.NoNumber.{NoNumber}
use Rattle.plain_builtins.specs.declared.words.NoNumber.TheVariants.{Outside, Inconvertible}

abbrev pub gives : Value → Program
gives v = done (Normal (reply.Value v))

-- a Symbol that is to be a number or a text, and a conversion that comes to an Object
abbrev pub cannot_convert : Program
cannot_convert = throw_error error.TypeError (codes "cannot convert")

-- ---- ToPrimitive (7.1.1) and OrdinaryToPrimitive (7.1.1.1)

-- what a method under @@toPrimitive is told (7.1.1, step 1.b)
abbrev pub hint_text : Hint → List ℕ
hint_text hint.Default = codes "default"
hint_text hint.Number = codes "number"
hint_text hint.Text = codes "string"

-- the names of the methods in the order in which they are tried (7.1.1.1, steps 1 and 2)
abbrev pub first_name : Hint → List ℕ
first_name hint.Default = codes "valueOf"
first_name hint.Number = codes "valueOf"
first_name hint.Text = codes "toString"

abbrev pub second_name : Hint → List ℕ
second_name hint.Default = codes "toString"
second_name hint.Number = codes "toString"
second_name hint.Text = codes "valueOf"

-- a method is tried, for a turn
abbrev pub tried : ObjectId → List ℕ → (Completion → Program) → Program
tried o name next = charge 1 (get_named o name next)

abbrev pub primitive_by : Option ObjectId → Value → Program → Program
primitive_by (Some o) v otherwise = otherwise
primitive_by None v otherwise = gives v

-- what a method gave, where it is no Object
abbrev pub primitive_or : Program → Value → Program
primitive_or otherwise v = primitive_by (as_object v) v otherwise

-- the last method was called
abbrev pub last_called : Completion → Program
last_called c = then_value (primitive_or cannot_convert) c

abbrev pub second_found : ObjectId → Value → Program
second_found o v = look (λ l. if is_callable l v then ask (Call v (value.Object o) []) last_called else cannot_convert)

abbrev pub second_given : ObjectId → Completion → Program
second_given o c = then_value (second_found o) c

abbrev pub second_tried : Hint → ObjectId → Program
second_tried h o = tried o (second_name h) (second_given o)

abbrev pub first_called : Hint → ObjectId → Completion → Program
first_called h o c = then_value (primitive_or (second_tried h o)) c

abbrev pub first_found : Hint → ObjectId → Value → Program
first_found h o v = look (λ l. if is_callable l v then ask (Call v (value.Object o) []) (first_called h o) else second_tried h o)

abbrev pub first_given : Hint → ObjectId → Completion → Program
first_given h o c = then_value (first_found h o) c

abbrev pub ordinary_to_primitive : Hint → ObjectId → Program
ordinary_to_primitive h o = tried o (first_name h) (first_given h o)

-- steps 1.b to 1.d: the method under @@toPrimitive is called with its hint, if there is one
abbrev pub exotic_found : Hint → ObjectId → Option ObjectId → Program
exotic_found h o (Some f) = intern (hint_text h) (λ t. ask (Call (value.Object f) (value.Object o) (value.Text t ∷ [])) last_called)
exotic_found h o None = ordinary_to_primitive h o

abbrev pub exotic_given : Hint → ObjectId → Completion → Program
exotic_given h o c = then_method (exotic_found h o) c

abbrev pub to_primitive_by : Hint → Option ObjectId → Value → Program
to_primitive_by h (Some o) v = get o (Sym (symbol_of symbol.ToPrimitive)) (exotic_given h o)
to_primitive_by h None v = gives v

abbrev pub to_primitive : Hint → Value → Program
to_primitive h v = to_primitive_by h (as_object v) v

-- ---- ToString (7.1.17)

abbrev pub gives_text : List ℕ → Program
gives_text units = intern units (λ t. gives (value.Text t))

abbrev pub truth_text : Bool → List ℕ
truth_text true = codes "true"
truth_text false = codes "false"

-- of a value that is no Object
abbrev pub text_of : Value → Program
text_of value.Undefined = gives_text (codes "undefined")
text_of value.Null = gives_text (codes "null")
text_of (value.Bool b) = gives_text (truth_text b)
text_of (value.Whole n) = gives_text (whole_units n)
text_of (value.Text t) = gives (value.Text t)
text_of (value.Symbol s) = cannot_convert
text_of (value.Object o) = cannot_convert

-- steps 10 to 12: the object was converted
abbrev pub text_given : Completion → Program
text_given c = then_value text_of c

abbrev pub to_text_by : Option ObjectId → Value → Program
to_text_by (Some o) v = ask (Work operation.ToPrimitiveText (v ∷ [])) text_given
to_text_by None v = text_of v

abbrev pub to_text : Value → Program
to_text v = to_text_by (as_object v) v

-- ---- ToNumber (7.1.4), where every number is whole

abbrev pub or_outside : Option ℤ → Result ℤ NoNumber
or_outside (Some n) = Ok n
or_outside None = Err Outside

abbrev pub truth_number : Bool → ℤ
truth_number true = pos 1
truth_number false = pos 0

-- of a value that is no Object
abbrev pub number_in : Lists → Value → Result ℤ NoNumber
number_in l value.Undefined = Err Outside
number_in l value.Null = Ok (pos 0)
number_in l (value.Bool b) = Ok (truth_number b)
number_in l (value.Whole n) = Ok n
number_in l (value.Text t) = or_outside (number_of (units_of l t))
number_in l (value.Symbol s) = Err Inconvertible
number_in l (value.Object o) = Err Inconvertible

abbrev pub no_number : NoNumber → Program
no_number Outside = throw_error error.RangeError (codes "number outside the profile")
no_number Inconvertible = cannot_convert

abbrev pub with_number : (ℤ → Program) → Result ℤ NoNumber → Program
with_number next (Ok n) = next n
with_number next (Err e) = no_number e

abbrev pub gives_number : ℤ → Program
gives_number n = gives (value.Whole n)

abbrev pub whole_of : Value → Program
whole_of v = look (λ l. with_number gives_number (number_in l v))

-- steps 8 to 10: the object was converted
abbrev pub whole_given : Completion → Program
whole_given c = then_value whole_of c

abbrev pub to_whole_by : Option ObjectId → Value → Program
to_whole_by (Some o) v = ask (Work operation.ToPrimitiveNumber (v ∷ [])) whole_given
to_whole_by None v = whole_of v

abbrev pub to_whole : Value → Program
to_whole v = to_whole_by (as_object v) v

-- ---- ToPropertyKey (7.1.19)

abbrev pub gives_key : PropKey → Program
gives_key k = done (Normal (reply.Key k))

-- the key of a text that is there
abbrev pub key_of_text : TextId → Program
key_of_text t = look (λ l. gives_key (key_of (units_of l t) t))

abbrev pub key_of_units : List ℕ → Program
key_of_units units = intern units key_of_text

-- the array index that a number is, of which no text is made
abbrev pub index_of : ℤ → Option ℕ
index_of (pos n) = if nat_le n most_index then Some n else None
index_of (negsuc n) = None

abbrev pub key_of_number : ℤ → Option ℕ → Program
key_of_number n (Some i) = gives_key (Index i)
key_of_number n None = key_of_units (whole_units n)

-- of a value that is no Object
abbrev pub key_in : Value → Program
key_in value.Undefined = key_of_units (codes "undefined")
key_in value.Null = key_of_units (codes "null")
key_in (value.Bool b) = key_of_units (truth_text b)
key_in (value.Whole n) = key_of_number n (index_of n)
key_in (value.Text t) = key_of_text t
key_in (value.Symbol s) = gives_key (Sym s)
key_in (value.Object o) = cannot_convert

-- step 1: the object was converted
abbrev pub key_given : Completion → Program
key_given c = then_value key_in c

abbrev pub to_key_by : Option ObjectId → Value → Program
to_key_by (Some o) v = ask (Work operation.ToPrimitiveText (v ∷ [])) key_given
to_key_by None v = key_in v

abbrev pub to_key : Value → Program
to_key v = to_key_by (as_object v) v
