-- Programs of four changes.
use Rattle.std.specs.Prelude.{ℕ, Option, None}
use Rattle.property_keys.specs.declared.identifiers.ObjectId.{ObjectId}
use Rattle.property_keys.specs.declared.keys.PropKey.{PropKey}
use Rattle.property_keys.specs.declared.values.Value.TheVariants as value
use Rattle.descriptors.specs.declared.fields.Descriptor.{Descriptor}
use Rattle.es_model.specs.Completions.{Completion, Normal}
use Rattle.es_model.specs.declared.answers.Reply.TheVariants as reply
use Rattle.es_model.specs.declared.kinds.ObjectKind.TheVariants as kind_of
use Rattle.es_model.specs.Events.{OfPlain}
use Rattle.es_model.specs.Changes.{SettingProto, Preventing}
use Rattle.es_model.specs.Program.{Program, done, change, charge, make, define, delete}

-- no program of these asks anything, so no frame waits
abbrev pub no_rest : ℕ → Completion → Program
no_rest frame c = done c

-- a turn, and an object with one property
abbrev pub put_program : PropKey → Descriptor → Program
put_program key wanted =
    charge 1 (make kind_of.Ordinary OfPlain None (λ o. define o key wanted (λ b. done (Normal (reply.Value (value.Object o))))))

-- a turn, and an object without a property and a prototype that takes no more
abbrev pub strip_program : ObjectId → PropKey → Program
strip_program o key =
    charge 1 (delete o key (λ b. change (SettingProto o None) (change (Preventing o) (done (Normal (reply.Flag b))))))
