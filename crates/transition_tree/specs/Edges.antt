-- What leads to a place of the tree.
use Rattle.std.specs.Prelude.{◌≡◌, ◌≢◌, ◌<◌, ℕ, Bool, false, Option, None, Some, List, length, slice_index_or, if◌then◌else◌}
use Rattle.property_keys.specs.declared.identifiers.ObjectId.{ObjectId}
use Rattle.property_keys.specs.declared.keys.Attributes.{Attributes}
use Rattle.map_store.specs.declared.OriginId.{OriginId}
use Rattle.map_store.specs.declared.entries.Kind.{Kind}
use Rattle.map_store.specs.declared.entries.Kind.TheVariants as kind
use Rattle.transition_tree.specs.declared.edges.Edge.{Edge}
use Rattle.transition_tree.specs.declared.edges.Edge.TheVariants as edge
use Rattle.transition_tree.specs.declared.edges.Flags.{Flags}
use Rattle.transition_tree.specs.declared.paths.Step.{Step}
use Rattle.transition_tree.specs.declared.paths.Step.TheVariants as step
use Rattle.transition_tree.specs.Paths.{is_accessor}

abbrev pub flags_of : Kind → Attributes → Flags
flags_of k a = record { accessor = is_accessor k; writable = a.writable; enumerable = a.enumerable; configurable = a.configurable }

abbrev pub kind_in : Flags → Kind
kind_in f = if f.accessor then kind.Accessor else kind.Stored

abbrev pub attributes_in : Flags → Attributes
attributes_in f = record { writable = f.writable; enumerable = f.enumerable; configurable = f.configurable }

-- what leads from a place by a step
abbrev pub edge_of : ℕ → Step → Edge
edge_of place (step.Add key k a) = edge.Add place key (flags_of k a)
edge_of place (step.Redefine key k a) = edge.Redefine place key (flags_of k a)
edge_of place step.Close = edge.Close place

abbrev pub root_edge : OriginId → Option ObjectId → Edge
root_edge origin None = edge.Root origin.0
root_edge origin (Some proto) = edge.RootOn origin.0 proto

-- the place before an edge and its step
abbrev pub step_before : Edge → Option (ℕ × Step)
step_before (edge.Root origin) = None
step_before (edge.RootOn origin proto) = None
step_before (edge.Add place key f) = Some (place, step.Add key (kind_in f) (attributes_in f))
step_before (edge.Redefine place key f) = Some (place, step.Redefine key (kind_in f) (attributes_in f))
step_before (edge.Close place) = Some (place, step.Close)

-- whether an edge's step is one of kind Accessor
abbrev pub by_accessor : Edge → Bool
by_accessor (edge.Add place key f) = f.accessor
by_accessor (edge.Redefine place key f) = f.accessor
by_accessor other = false

-- ---- the table of places: a list in which a place is the number of what leads to it

abbrev pub no_edge : Edge
no_edge = edge.Close 0

abbrev pub edge_at : List Edge → ℕ → Edge
edge_at table n = slice_index_or table n no_edge

pub record IsPlaceOf (table : List Edge) (e : Edge) (n : ℕ) : Type 0 where
  pub known : n < length table
  pub here : edge_at table n ≡ e

abbrev pub HasNoPlace : List Edge → Edge → Type 0
HasNoPlace table e = (n : ℕ) → n < length table → edge_at table n ≢ e

-- one place for each
abbrev pub HasOneEach : List Edge → Type 0
HasOneEach table = (i j : ℕ) → i < length table → j < length table → edge_at table i ≡ edge_at table j → i ≡ j
