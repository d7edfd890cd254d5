-- What the built-in functions answer, and the arguments and receivers that they take.
use Rattle.std.specs.Prelude.{ℕ, Option, Some, None, List, [], ◌∷◌, codes}
use Rattle.property_keys.specs.declared.identifiers.TextId.{TextId}
use Rattle.property_keys.specs.declared.values.Value.{Value}
use Rattle.property_keys.specs.declared.values.Value.TheVariants as value
use Rattle.es_model.specs.declared.answers.Reply.TheVariants as reply
use Rattle.es_model.specs.declared.kinds.ErrorKind.TheVariants as error
use Rattle.es_model.specs.declared.kinds.ObjectKind.{ObjectKind}
use Rattle.es_model.specs.declared.kinds.ObjectKind.TheVariants as kind_of
use Rattle.es_model.specs.Completions.{Normal}
use Rattle.es_model.specs.World.{Lists, kind}
use Rattle.es_model.specs.Program.{Program, done, intern}
use Rattle.es_model.specs.programs.Errors.{throw_error}
use Rattle.es_model.specs.programs.Texts.{join}

abbrev pub gives : Value → Program
gives v = done (Normal (reply.Value v))

abbrev pub gives_text : List ℕ → Program
gives_text units = intern units (λ t. gives (value.Text t))

-- two texts, one after the other, and three
abbrev pub gives_joined : TextId → TextId → Program
gives_joined a b = join a b (λ t. gives (value.Text t))

abbrev pub three_joined : TextId → TextId → TextId → Program
three_joined a b c = join a b (λ start. gives_joined start c)

abbrev pub wrong_value : Program
wrong_value = throw_error error.TypeError (codes "wrong value")

-- ---- arguments: one that is not given is undefined (18)

abbrev pub first_of : List Value → Value
first_of [] = value.Undefined
first_of (v ∷ vs) = v

abbrev pub first_given : List Value → Option Value
first_given [] = None
first_given (v ∷ vs) = Some v

abbrev pub rest_of : List Value → List Value
rest_of [] = []
rest_of (v ∷ vs) = vs

abbrev pub second_of : List Value → Value
second_of [] = value.Undefined
second_of (v ∷ vs) = first_of vs

-- ---- the value that a receiver is, or the one in the inner slot of a Number, Boolean or Symbol object (20.3.3.3.1, 20.4.3.4.1, 21.1.3.7.1)

abbrev pub inner_of : ObjectKind → Value → Value
inner_of (kind_of.Wrapper v) this = v
inner_of other this = this

abbrev pub inner_value : Lists → Value → Value
inner_value l (value.Object o) = inner_of (kind l o) (value.Object o)
inner_value l other = other
