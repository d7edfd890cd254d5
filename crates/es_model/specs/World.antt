-- A world: the script that runs, all that algorithms read, the turns that are left, the trace of what happened to shapes, and the bytes that were printed.
use Rattle.std.specs.Prelude.{ℕ, zero, suc, Bool, true, if◌then◌else◌, Option, Some, None, List, [], ◌∷◌, length, slice_get}
use Rattle.std.specs.Str.{bytes_eq}
use Rattle.property_keys.specs.declared.identifiers.ObjectId.{ObjectId}
use Rattle.property_keys.specs.declared.identifiers.SymbolId.{SymbolId}
use Rattle.property_keys.specs.declared.identifiers.TextId.{TextId}
use Rattle.property_keys.specs.declared.keys.PropKey.{PropKey}
use Rattle.property_keys.specs.declared.values.Value.{Value}
use Rattle.property_keys.specs.Texts.{text_at}
use Rattle.descriptors.specs.declared.property.Complete.{Complete}
use Rattle.descriptors.specs.declared.fields.Descriptor.{Descriptor}
use Rattle.descriptors.specs.declared.validation.Verdict.{Verdict}
use Rattle.descriptors.specs.Validation.{verdict_of, is_allowed, is_configurable}
use Rattle.es_model.specs.declared.kinds.CellNo.{CellNo}
use Rattle.es_model.specs.declared.kinds.ObjectKind.{ObjectKind}
use Rattle.es_tree.specs.Tree.{Tree}
use Rattle.es_model.specs.Objects.{Object, object_at, find_property, is_proxy}
use Rattle.es_model.specs.Events.{Event, Walk, AtProperty, AtNull, AtProxy}

-- All that an algorithm can read. An object, a text, a Symbol and a cell is named by its place. The texts differ from one another. A Symbol has a
-- description or none, and a cell is empty before its initialisation.
pub record Lists : Type 0 where
  pub objects : List Object
  pub texts : List (List ℕ)
  pub symbols : List (Option TextId)
  pub cells : List (Option Value)

pub record World : Type 0 where
  pub script : Tree
  pub lists : Lists
  pub turns : ℕ
  pub trace : List Event
  pub printed : List ℕ

-- the same world with so many turns left
abbrev pub with_turns : World → ℕ → World
with_turns w left = record w { turns = left }

-- ---- what is read

-- the own property of an object, as its list has it
abbrev pub own : Lists → ObjectId → PropKey → Option Complete
own l object key = find_property (object_at l.objects object).properties key

abbrev pub proto : Lists → ObjectId → Option ObjectId
proto l object = (object_at l.objects object).proto

abbrev pub kind : Lists → ObjectId → ObjectKind
kind l object = (object_at l.objects object).kind

abbrev pub extensible : Lists → ObjectId → Bool
extensible l object = (object_at l.objects object).extensible

abbrev pub cell_in : Option (Option Value) → Option Value
cell_in None = None
cell_in (Some v) = v

abbrev pub cell : Lists → CellNo → Option Value
cell l c = cell_in (slice_get l.cells c.0)

-- the code units of a text
abbrev pub units_of : Lists → TextId → List ℕ
units_of l t = text_at l.texts t.0

-- the description of a Symbol, if it has one
abbrev pub description_in : Option (Option TextId) → Option TextId
description_in None = None
description_in (Some d) = d

abbrev pub description : Lists → SymbolId → Option TextId
description l s = description_in (slice_get l.symbols s.0)

-- what a definition comes to (10.1.6.3)
abbrev pub definition : Lists → ObjectId → PropKey → Descriptor → Verdict
definition l object key wanted = verdict_of (extensible l object) wanted (own l object key)

-- whether a definition is allowed
unfoldable pub allows : Lists → ObjectId → PropKey → Descriptor → Bool
allows l object key wanted = is_allowed (definition l object key wanted)

-- whether a property may be deleted: it is absent or configurable (10.1.10)
abbrev pub can_delete : Option Complete → Bool
can_delete None = true
can_delete (Some c) = is_configurable c

unfoldable pub deletes : Lists → ObjectId → PropKey → Bool
deletes l object key = can_delete (own l object key)

-- the place of a text in the table, or the table's length where it is not there
abbrev pub text_place : List (List ℕ) → List ℕ → ℕ
text_place [] text = 0
text_place (t ∷ ts) text = if bytes_eq text t then 0 else suc (text_place ts text)

-- the number that a text has or gets
unfoldable pub number_of : Lists → List ℕ → TextId
number_of l text = record { 0 = text_place l.texts text }

-- the numbers of the next object, cell and Symbol
abbrev pub new_object : Lists → ObjectId
new_object l = record { 0 = length l.objects }

abbrev pub new_cell : Lists → CellNo
new_cell l = record { 0 = length l.cells }

abbrev pub new_symbol : Lists → SymbolId
new_symbol l = record { 0 = length l.symbols }

-- ---- the plain walk

-- after an object without the property: on to the prototype, which `onward` walks
abbrev pub walk_on : Option ObjectId → (ObjectId → Walk) → Walk
walk_on None onward = record { links = []; ending = AtNull }
walk_on (Some up) onward = let rest = onward up in record { links = up ∷ rest.links; ending = rest.ending }

abbrev pub walk_at : Option Complete → Option ObjectId → (ObjectId → Walk) → Walk
walk_at (Some c) up onward = record { links = []; ending = AtProperty c }
walk_at None up onward = walk_on up onward

-- the walk from an object up to the holder of a property. No chain is longer than there are objects, where none comes back to itself
abbrev pub walk_within : ℕ → Lists → PropKey → ObjectId → Walk
walk_within zero l key o = record { links = []; ending = AtNull }
walk_within (suc n) l key o =
    if is_proxy (kind l o) then record { links = []; ending = AtProxy } else walk_at (own l o key) (proto l o) (walk_within n l key)

abbrev pub walk : Lists → ObjectId → PropKey → Walk
walk l o key = walk_within (suc (length l.objects)) l key o
