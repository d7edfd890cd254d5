-- The text of an uncaught value. No code of the script runs for it.
use Rattle.std.specs.Prelude.{ℕ, Bool, true, false, if◌then◌else◌, List, [], ◌∷◌, ◌++◌, Option, Some, None, codes}
use Rattle.property_keys.specs.declared.identifiers.ObjectId.{ObjectId}
use Rattle.property_keys.specs.declared.identifiers.TextId.{TextId}
use Rattle.property_keys.specs.declared.keys.PropKey.{PropKey}
use Rattle.property_keys.specs.declared.keys.PropKey.TheVariants.{Name}
use Rattle.property_keys.specs.declared.values.Value.{Value}
use Rattle.property_keys.specs.declared.values.Value.TheVariants as value
use Rattle.property_keys.specs.Decimals.{whole_units}
use Rattle.descriptors.specs.declared.property.Complete.{Complete}
use Rattle.descriptors.specs.declared.property.Complete.TheVariants.{Stored}
use Rattle.es_model.specs.declared.kinds.ObjectKind.{ObjectKind}
use Rattle.es_model.specs.declared.kinds.ObjectKind.TheVariants as kind_of
use Rattle.es_model.specs.declared.start_texts.StartText.{StartText}
use Rattle.es_model.specs.declared.start_texts.StartText.TheVariants as start_text
use Rattle.es_model.specs.Events.{WalkEnd, AtProperty}
use Rattle.es_model.specs.StartTexts.{text_of}
use Rattle.es_model.specs.World.{Lists, description, kind, walk}
use Rattle.es_serve.specs.Lines.{text_bytes}

-- ---- a plain look

abbrev pub is_text : Value → Bool
is_text (value.Text t) = true
is_text other = false

-- the value of a property that stores a Text
abbrev pub text_stored : Complete → Option Value
text_stored (Stored v attributes) = if is_text v then Some v else None
text_stored other = None

abbrev pub found_text : WalkEnd → Option Value
found_text (AtProperty c) = text_stored c
found_text other = None

-- the first own property along the chain of objects that are no Proxies: its value if that is a Text
abbrev pub look_at : Lists → ObjectId → PropKey → Option Value
look_at l o key = found_text (walk l o key).ending

abbrev pub plain_look : Lists → ObjectId → StartText → Option Value
plain_look l o name = look_at l o (Name (text_of name))

-- what is not found, or is no Text, is the empty text
abbrev pub looked_up : Lists → Option Value → List ℕ
looked_up l None = []
looked_up l (Some v) = text_bytes l v

-- ---- objects

-- a name, and a message that is not empty behind it
abbrev pub error_text : List ℕ → List ℕ → List ℕ
error_text name [] = name
error_text name (c ∷ cs) = name ++ codes ": " ++ c ∷ cs

abbrev pub object_text : Lists → ObjectId → ObjectKind → List ℕ
object_text l o kind_of.Error = error_text (looked_up l (plain_look l o start_text.Name)) (looked_up l (plain_look l o start_text.Message))
object_text l o other = codes "an object"

-- ---- each value, in UTF-8

abbrev pub described : Lists → Option TextId → List ℕ
described l None = []
described l (Some t) = text_bytes l (value.Text t)

abbrev pub uncaught_text : Lists → Value → List ℕ
uncaught_text l value.Undefined = codes "undefined"
uncaught_text l value.Null = codes "null"
uncaught_text l (value.Bool true) = codes "true"
uncaught_text l (value.Bool false) = codes "false"
uncaught_text l (value.Whole n) = whole_units n
uncaught_text l (value.Text t) = text_bytes l (value.Text t)
uncaught_text l (value.Symbol s) = codes "Symbol(" ++ described l (description l s) ++ codes ")"
uncaught_text l (value.Object o) = object_text l o (kind l o)

abbrev pub uncaught_note : Lists → Value → List ℕ
uncaught_note l v = codes "hcjs: uncaught " ++ uncaught_text l v ++ codes "\n"
