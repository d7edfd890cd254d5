-- What a frame keeps.
use Rattle.std.specs.Prelude.{⊤, Option, Some, None, List, [], ◌∷◌}
use Rattle.property_keys.specs.declared.values.Value.{Value}
use Rattle.property_keys.specs.declared.values.Value.TheVariants as value
use Rattle.es_model.specs.declared.answers.Reply.{Reply}
use Rattle.es_model.specs.declared.answers.Reply.TheVariants as reply
use Rattle.es_model.specs.Completions.{Normal}
use Rattle.es_model.specs.Belongs.{FrameName, NamesObject, NamesValue, NamesCompletion}
use Rattle.es_model.specs.Known.{IsKnown}
use Rattle.es_model.specs.World.{Lists}
use Rattle.plain_builtins.specs.declared.words.Operands.{Operands}
use Rattle.plain_builtins.specs.declared.words.Operands.TheVariants.{One, Two, Three, OtherCount}
use Rattle.plain_builtins.specs.declared.words.Collected.{Collected}
use Rattle.plain_builtins.specs.declared.words.Collected.TheVariants.{Values, Keys}
use Rattle.plain_builtins.specs.declared.frame.PlainFrame.{PlainFrame}
use Rattle.plain_builtins.specs.declared.frame.PlainFrame.TheVariants.{Primitive, Converted, Compared, Instance, Wanted, Listed, Printed}
use Rattle.plain_builtins.specs.declared.frame.PrimitiveFrame.{PrimitiveFrame}
use Rattle.plain_builtins.specs.declared.frame.PrimitiveFrame.TheVariants.{ExoticGiven, FirstGiven, FirstCalled, SecondGiven, LastCalled}
use Rattle.plain_builtins.specs.declared.frame.ComparedFrame.{ComparedFrame}
use Rattle.plain_builtins.specs.declared.frame.ComparedFrame.TheVariants.{EqualLeft, EqualRight, LeftFirst, RightAfter, RightFirst, LeftAfter}
use Rattle.plain_builtins.specs.declared.frame.InstanceFrame.{InstanceFrame}
use Rattle.plain_builtins.specs.declared.frame.InstanceFrame.TheVariants.{HandlerGiven, HandlerCalled, PrototypeGiven, ParentGiven}
use Rattle.plain_builtins.specs.declared.frame.Reading.{Reading}
use Rattle.plain_builtins.specs.declared.frame.WantedFrame.{WantedFrame}
use Rattle.plain_builtins.specs.declared.frame.WantedFrame.TheVariants.{FieldHad, FieldGiven}
use Rattle.plain_builtins.specs.declared.frame.ListedFrame.{ListedFrame}
use Rattle.plain_builtins.specs.declared.frame.ListedFrame.TheVariants.{LengthGot, LengthGiven, ElementGiven}
use Rattle.plain_builtins.specs.declared.frame.PrintedFrame.{PrintedFrame}
use Rattle.plain_builtins.specs.declared.frame.PrintedFrame.TheVariants.{ArgumentGiven, LinePrinted}

abbrev pub names_of_primitive : PrimitiveFrame → List FrameName
names_of_primitive (ExoticGiven f) = NamesObject f.object ∷ []
names_of_primitive (FirstGiven f) = NamesObject f.object ∷ []
names_of_primitive (FirstCalled f) = NamesObject f.object ∷ []
names_of_primitive (SecondGiven o) = NamesObject o ∷ []
names_of_primitive LastCalled = []

abbrev pub names_of_compared : ComparedFrame → List FrameName
names_of_compared (EqualLeft b) = NamesValue b ∷ []
names_of_compared (EqualRight a) = NamesValue a ∷ []
names_of_compared (LeftFirst b) = NamesValue b ∷ []
names_of_compared (RightAfter p) = NamesValue p ∷ []
names_of_compared (RightFirst a) = NamesValue a ∷ []
names_of_compared (LeftAfter q) = NamesValue q ∷ []

abbrev pub names_of_instance : InstanceFrame → List FrameName
names_of_instance (HandlerGiven f) = NamesValue f.value ∷ NamesObject f.target ∷ []
names_of_instance HandlerCalled = []
names_of_instance (PrototypeGiven x) = NamesObject x ∷ []
names_of_instance (ParentGiven f) = NamesObject f.wanted ∷ []

-- the value of a field that may be absent
abbrev pub field_value : Option Value → Value
field_value None = value.Undefined
field_value (Some v) = v

-- A descriptor that is not read to its end may be of both kinds, so its fields are named one by one
abbrev pub names_of_reading : Reading → List FrameName
names_of_reading f =
    NamesObject f.object ∷ NamesValue (field_value f.descriptor.value) ∷ NamesValue (field_value f.descriptor.get)
    ∷ NamesValue (field_value f.descriptor.set) ∷ []

abbrev pub names_of_wanted : WantedFrame → List FrameName
names_of_wanted (FieldHad f) = names_of_reading f
names_of_wanted (FieldGiven f) = names_of_reading f

abbrev pub collected_reply : Collected → Reply
collected_reply (Values vs) = reply.List vs
collected_reply (Keys ks) = reply.Keys ks

abbrev pub names_of_collected : Collected → FrameName
names_of_collected all = NamesCompletion (Normal (collected_reply all))

abbrev pub names_of_listed : ListedFrame → List FrameName
names_of_listed (LengthGot f) = NamesObject f.object ∷ names_of_collected f.collected ∷ []
names_of_listed (LengthGiven f) = NamesObject f.object ∷ names_of_collected f.collected ∷ []
names_of_listed (ElementGiven f) = NamesObject f.object ∷ names_of_collected f.collected ∷ []

abbrev pub names_of_list : List Value → FrameName
names_of_list vs = NamesCompletion (Normal (reply.List vs))

abbrev pub names_of_printed : PrintedFrame → List FrameName
names_of_printed (ArgumentGiven f) = names_of_list f.left ∷ names_of_list f.texts ∷ []
names_of_printed LinePrinted = []

abbrev pub names_of : PlainFrame → List FrameName
names_of (Primitive f) = names_of_primitive f
names_of (Converted f) = []
names_of (Compared f) = names_of_compared f
names_of (Instance f) = names_of_instance f
names_of (Wanted f) = names_of_wanted f
names_of (Listed f) = names_of_listed f
names_of (Printed f) = names_of_printed f

-- the operands that were found are there
abbrev pub AreKnownOperands : Lists → Operands → Type 0
AreKnownOperands l (One a) = IsKnown l a
AreKnownOperands l (Two a b) = IsKnown l a × IsKnown l b
AreKnownOperands l (Three a b c) = IsKnown l a × IsKnown l b × IsKnown l c
AreKnownOperands l OtherCount = ⊤
