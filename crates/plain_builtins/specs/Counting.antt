-- What is left of a count, of rounds, of the fields of a descriptor and of a list of arguments.
use Rattle.std.specs.Prelude.{◌≡◌, ℕ, suc, Option, Some, None, List, [], ◌∷◌}
use Rattle.property_keys.specs.declared.values.Value.{Value}
use Rattle.plain_builtins.specs.Instances.{most_rounds}
use Rattle.plain_builtins.specs.WantedFields.{fields_after}
use Rattle.plain_builtins.specs.declared.words.Field.{Field}

-- the count of which so many are left after one was taken
abbrev pub one_more_than : Option ℕ → ℕ
one_more_than None = 0
one_more_than (Some left) = suc left

-- so many rounds of OrdinaryHasInstance are left behind the first one
unfoldable pub IsAfterFirst : ℕ → Type 0
IsAfterFirst left = most_rounds ≡ suc left

-- the fields of which the first is this one
abbrev pub fields_from : Option Field → List Field
fields_from None = []
fields_from (Some f) = f ∷ fields_after f

-- the list of which this was taken
abbrev pub before_taking : Option Value → List Value → List Value
before_taking None rest = []
before_taking (Some v) rest = v ∷ rest
