-- What is seen of each form of elements.
use Rattle.std.specs.Prelude.{⊤}
use Rattle.elements_kinds.specs.declared.form.Form.{Form}
use Rattle.elements_kinds.specs.declared.form.Form.TheVariants as form
use Rattle.elements_kinds.specs.declared.kinds.ElementsKind.TheVariants as kind
use Rattle.elements_kinds.specs.Maps.{properties_in}
use Rattle.elements_kinds.specs.Rules.{View, start}

abbrev pub view_of : Form → View
view_of form.Empty = start
view_of (form.Store store) = store
view_of (form.Dictionary map) = record { properties = properties_in map; kind = kind.Dictionary; capacity = 0 }

-- there is a store or a dictionary
abbrev pub IsBegun : Form → Type 0
IsBegun form.Empty = ⊥
IsBegun other = ⊤
