-- The errors that evaluation throws.
use Rattle.std.specs.Prelude.{ℕ, List, ◌+◌, ◌++◌, codes, length, nat_le, if◌then◌else◌}
use Rattle.property_keys.specs.declared.identifiers.TextId.{TextId}
use Rattle.property_keys.specs.declared.values.Value.TheVariants as value
use Rattle.es_model.specs.declared.kinds.ErrorKind.{ErrorKind}
use Rattle.es_model.specs.declared.kinds.ErrorKind.TheVariants as error
use Rattle.es_model.specs.Completions.{Throw}
use Rattle.es_model.specs.World.{units_of}
use Rattle.es_model.specs.Program.{Program, done, look, intern}
use Rattle.property_keys.specs.Limits.{most_units}
use Rattle.es_model.specs.programs.Errors.{make_error, throw_error}

-- where no whole number of the profile can be given
abbrev pub out_of_profile : Program
out_of_profile = throw_error error.RangeError (codes "number outside the profile")

-- where a text would have too many code units
abbrev pub text_too_long : Program
text_too_long = throw_error error.RangeError (codes "text too long")

-- an Object, or a value other than undefined and null, is wanted
abbrev pub not_an_object : Program
not_an_object = throw_error error.TypeError (codes "not an object")

-- an internal method answered false where that must throw
abbrev pub refused : Program
refused = throw_error error.TypeError (codes "refused")

-- ---- texts (6.1.4)

-- these code units as a Text
abbrev pub make_text : List ℕ → (TextId → Program) → Program
make_text units next = if nat_le (length units) most_units then intern units next else text_too_long

-- one text after another
abbrev pub join : TextId → TextId → (TextId → Program) → Program
join a b next =
    look (λ l. if nat_le (length (units_of l a) + length (units_of l b)) most_units then intern (units_of l a ++ units_of l b) next else text_too_long)

-- ---- errors that tell a name

abbrev pub throw_joined : ErrorKind → TextId → TextId → Program
throw_joined kind a b = join a b (λ text. make_error kind text (λ o. done (Throw (value.Object o))))

abbrev pub throw_named : ErrorKind → List ℕ → TextId → Program
throw_named kind ending name = intern ending (λ e. throw_joined kind name e)

abbrev pub not_defined : TextId → Program
not_defined name = throw_named error.ReferenceError (codes " is not defined") name

abbrev pub not_initialised : TextId → Program
not_initialised name = throw_named error.ReferenceError (codes " is not initialised") name

abbrev pub is_constant : TextId → Program
is_constant name = throw_named error.TypeError (codes " is constant") name
