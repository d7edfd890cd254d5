-- The origins of objects: for each number what makes its objects, and its slack.
use Rattle.std.specs.Prelude.{ℕ, suc, ◌+◌, ◌<◌, Bool, true, false, ◌&&◌, if◌then◌else◌, List, []}
use Rattle.std.specs.Prelude.{◌∷◌, length, nat_eq, nat_lt, min, max, slice_index_or, slice_set}
use Rattle.map_store.specs.declared.OriginId.{OriginId}
use Rattle.es_source.specs.Places.{same_place}
use Rattle.slack_tracking.specs.declared.OriginKind.{OriginKind}
use Rattle.slack_tracking.specs.declared.OriginKind.TheVariants as origin
use Rattle.slack_tracking.specs.declared.origins.Slack.{Slack}

abbrev pub same_origin : OriginKind → OriginKind → Bool
same_origin origin.Plain origin.Plain = true
same_origin origin.Function origin.Function = true
same_origin origin.Array origin.Array = true
same_origin origin.Arguments origin.Arguments = true
same_origin origin.Wrapper origin.Wrapper = true
same_origin origin.Error origin.Error = true
same_origin (origin.Literal a) (origin.Literal b) = same_place a b
same_origin (origin.Constructor a) (origin.Constructor b) = same_place a b
same_origin a b = false

-- ---- numbers

abbrev pub IsKnown : List Slack → OriginId → Type 0
IsKnown os id = id.0 < length os

-- an origin at its start
abbrev pub begun : OriginKind → ℕ → Slack
begun kind places = record { kind = kind; places = places; fields = 0; constructions = 0 }

abbrev pub origin_at : List Slack → OriginId → Slack
origin_at os id = slice_index_or os id.0 (begun origin.Plain 0)

-- the number of the origin of a kind, or how many origins there are where it is not there
abbrev pub origin_place : List Slack → OriginKind → ℕ
origin_place [] kind = 0
origin_place (o ∷ os) kind = if same_origin o.kind kind then 0 else suc (origin_place os kind)

-- the origins once there is one of a kind: a new one stands last, and one that is there stays as it is
abbrev pub with_origin : List Slack → OriginKind → ℕ → List Slack
with_origin [] kind places = begun kind places ∷ []
with_origin (o ∷ os) kind places = if same_origin o.kind kind then o ∷ os else o ∷ with_origin os kind places

-- ---- slack

-- a map of the origin has so many fields
abbrev pub using_fields : Slack → ℕ → Slack
using_fields o fields = record o { fields = max o.fields fields }

abbrev pub with_fields : List Slack → OriginId → ℕ → List Slack
with_fields os id fields = slice_set os id.0 (using_fields (origin_at os id) fields)

-- the eighth construction ends, and no map uses all places
abbrev pub falls : Slack → Bool
falls o = nat_eq o.constructions 7 && nat_lt o.fields o.places

-- a construction ends: it counts up to the eighth, at whose end the places fall to the most that a map uses
abbrev pub constructing : Slack → Slack
constructing o = record o {
  places = if nat_eq o.constructions 7 then min o.places o.fields else o.places;
  constructions = if nat_lt o.constructions 8 then o.constructions + 1 else o.constructions;
}

abbrev pub with_construction : List Slack → OriginId → List Slack
with_construction os id = slice_set os id.0 (constructing (origin_at os id))
