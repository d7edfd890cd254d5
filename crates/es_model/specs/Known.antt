-- What is there: each object, cell, Symbol and text that is named, with good keys and whole numbers in their range.
use Rattle.std.specs.Prelude.{◌<◌, ⊤, IsTrue, Option, Some, None, List, length}
use Rattle.std.specs.List.{AllByRecursion}
use Rattle.property_keys.specs.declared.identifiers.ObjectId.{ObjectId}
use Rattle.property_keys.specs.declared.identifiers.SymbolId.{SymbolId}
use Rattle.property_keys.specs.declared.identifiers.TextId.{TextId}
use Rattle.property_keys.specs.declared.keys.PropKey.{PropKey}
use Rattle.property_keys.specs.declared.keys.PropKey.TheVariants.{Index, Name, Sym}
use Rattle.property_keys.specs.declared.values.Value.{Value}
use Rattle.property_keys.specs.declared.values.Value.TheVariants as value
use Rattle.property_keys.specs.Keys.{IsGoodKey}
use Rattle.property_keys.specs.Wholes.{IsWhole}
use Rattle.descriptors.specs.declared.fields.Descriptor.{Descriptor}
use Rattle.descriptors.specs.declared.property.Complete.{Complete}
use Rattle.descriptors.specs.declared.property.Complete.TheVariants as complete
use Rattle.descriptors.specs.Kinds.{is_sound}
use Rattle.es_model.specs.declared.kinds.CellNo.{CellNo}
use Rattle.es_model.specs.declared.owned.OwnProperty.{OwnProperty}
use Rattle.es_model.specs.World.{Lists}

abbrev pub IsObject : Lists → ObjectId → Type 0
IsObject l o = o.0 < length l.objects

abbrev pub IsText : Lists → TextId → Type 0
IsText l t = t.0 < length l.texts

abbrev pub IsSymbol : Lists → SymbolId → Type 0
IsSymbol l s = s.0 < length l.symbols

abbrev pub IsCell : Lists → CellNo → Type 0
IsCell l c = c.0 < length l.cells

-- what is there, where something is
abbrev pub IfThere : {X : Type 0} → (X → Type 0) → Option X → Type 0
IfThere P None = ⊤
IfThere P (Some x) = P x

abbrev pub IsKnown : Lists → Value → Type 0
IsKnown l value.Undefined = ⊤
IsKnown l value.Null = ⊤
IsKnown l (value.Bool b) = ⊤
IsKnown l (value.Whole n) = IsWhole n
IsKnown l (value.Text t) = IsText l t
IsKnown l (value.Symbol s) = IsSymbol l s
IsKnown l (value.Object o) = IsObject l o

abbrev pub IsSymbolKey : Lists → PropKey → Type 0
IsSymbolKey l (Index i) = ⊤
IsSymbolKey l (Name t) = ⊤
IsSymbolKey l (Sym s) = IsSymbol l s

abbrev pub IsKnownKey : Lists → PropKey → Type 0
IsKnownKey l k = IsGoodKey l.texts k × IsSymbolKey l k

abbrev pub IsKnownComplete : Lists → Complete → Type 0
IsKnownComplete l (complete.Stored v flags) = IsKnown l v
IsKnownComplete l (complete.Accessor get set enumerable configurable) = IfThere (IsObject l) get × IfThere (IsObject l) set

abbrev pub IsKnownProperty : Lists → OwnProperty → Type 0
IsKnownProperty l p = IsKnownKey l p.key × IsKnownComplete l p.complete

-- a descriptor is sound too: its functions are undefined or objects, and it is not of both kinds
pub record IsKnownDescriptor (l : Lists) (d : Descriptor) : Type 0 where
  pub value : IfThere (IsKnown l) d.value
  pub get : IfThere (IsKnown l) d.get
  pub set : IfThere (IsKnown l) d.set
  pub sound : IsTrue (is_sound d)

abbrev pub AreKnown : Lists → List Value → Type 0
AreKnown l vs = AllByRecursion (IsKnown l) vs
