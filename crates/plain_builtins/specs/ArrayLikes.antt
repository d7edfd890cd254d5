-- CreateListFromArrayLike (ECMA-262, 7.3.19), of all types or of property keys.
use Rattle.std.specs.Prelude.{ℕ, zero, suc, ◌-◌, pos, min, nat_le, if◌then◌else◌, Option, Some, None, List, [], ◌∷◌, ◌++◌, codes}
use Rattle.property_keys.specs.declared.identifiers.ObjectId.{ObjectId}
use Rattle.property_keys.specs.declared.keys.PropKey.{PropKey}
use Rattle.property_keys.specs.declared.keys.PropKey.TheVariants.{Index, Name, Sym}
use Rattle.property_keys.specs.declared.values.Value.{Value}
use Rattle.property_keys.specs.declared.values.Value.TheVariants as value
use Rattle.property_keys.specs.Decimals.{whole_units}
use Rattle.property_keys.specs.Keys.{key_of, most_index}
use Rattle.property_keys.specs.Wholes.{most_whole}
use Rattle.es_model.specs.declared.answers.Reply.TheVariants as reply
use Rattle.es_model.specs.declared.kinds.ErrorKind.TheVariants as error
use Rattle.es_model.specs.Completions.{Completion, Normal}
use Rattle.es_model.specs.World.{units_of}
use Rattle.es_model.specs.Program.{Program, done, look, charge, intern}
use Rattle.es_model.specs.programs.Abrupt.{then_value}
use Rattle.es_model.specs.programs.Converting.{not_an_object, length_of_array_like}
use Rattle.es_model.specs.programs.Errors.{throw_error}
use Rattle.es_model.specs.programs.Methods.{get}
use Rattle.es_model.specs.programs.Testing.{as_object}
use Rattle.plain_builtins.specs.declared.words.Collected.{Collected}
use Rattle.plain_builtins.specs.declared.words.Collected.TheVariants.{Values, Keys}

-- a property key that is no Text and no Symbol
abbrev pub wrong_value : Program
wrong_value = throw_error error.TypeError (codes "wrong value")

abbrev pub gives_all : Collected → Program
gives_all (Values vs) = done (Normal (reply.List vs))
gives_all (Keys ks) = done (Normal (reply.Keys ks))

-- step 6.c and 6.d for property keys
abbrev pub key_put : (Collected → Program) → List PropKey → Value → Program
key_put next ks (value.Text t) = look (λ l. next (Keys (ks ++ key_of (units_of l t) t ∷ [])))
key_put next ks (value.Symbol s) = next (Keys (ks ++ Sym s ∷ []))
key_put next ks other = wrong_value

-- steps 6.c and 6.d
abbrev pub element_put : (Collected → Program) → Collected → Value → Program
element_put next (Values vs) v = next (Values (vs ++ v ∷ []))
element_put next (Keys ks) v = key_put next ks v

-- the element was asked for
abbrev pub element_given : (Collected → Program) → Collected → Completion → Program
element_given next all c = then_value (element_put next all) c

-- the element at an index, which is below a length and so a whole number
abbrev pub get_element : ObjectId → ℕ → (Completion → Program) → Program
get_element o i next =
    if nat_le i most_index then get o (Index i) next else intern (whole_units (pos (min i most_whole))) (λ t. get o (Name t) next)

-- Step 6, a turn for each round: so many elements are left of so many.
abbrev pub elements_left : ℕ → ℕ → ObjectId → Collected → Program
elements_left zero n o all = gives_all all
elements_left (suc left) n o all = charge 1 (get_element o (n - suc left) (element_given (elements_left left n o) all))

-- step 3
abbrev pub elements_of : ObjectId → Collected → ℕ → Program
elements_of o all n = elements_left n n o all

abbrev pub list_by : Option ObjectId → Collected → Program
list_by (Some o) all = length_of_array_like o (elements_of o all)
list_by None all = not_an_object

-- from a list without elements
abbrev pub list_of : Value → Collected → Program
list_of v all = list_by (as_object v) all
