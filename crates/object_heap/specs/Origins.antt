-- The origins of a heap: for each number what makes its objects, what that is in a script, and how many fields its objects begin with.
use Rattle.std.specs.Prelude.{ℕ, suc, ◌+◌, min, max, if◌then◌else◌}
use Rattle.std.specs.Prelude.{◌≡◌, Some, List, [], ◌∷◌, slice_get, slice_index_or}
use Rattle.map_store.specs.declared.OriginId.{OriginId}
use Rattle.es_source.specs.Places.{same_place}
use Rattle.es_source.specs.declared.place.Place.{Place}
use Rattle.slack_tracking.specs.declared.OriginKind.{OriginKind}
use Rattle.slack_tracking.specs.declared.OriginKind.TheVariants as origin
use Rattle.slack_tracking.specs.Slack.{same_origin}
use Rattle.es_tree.specs.declared.facts.FunctionFacts.{FunctionFacts}
use Rattle.es_tree.specs.declared.facts.LiteralFacts.{LiteralFacts}
use Rattle.es_tree.specs.Tree.{Tree}
use Rattle.es_model.specs.Events.{Origin, OfPlain, OfFunction, OfArray, OfArguments, OfWrapper, OfError, OfLiteral, OfConstructor}
use Rattle.es_model.specs.World.{World}
use Rattle.es_model.specs.Changes.{Constructing, changed}
use Rattle.object_heap.specs.Stands.{HeapView}

-- ---- numbers

-- what makes the objects of a number. At a number that was not given out it is an operation that makes plain objects
abbrev pub origin_at : HeapView → OriginId → OriginKind
origin_at heap id = slice_index_or heap.origins id.0 origin.Plain

-- the place of a kind, or how many there are where it is not there
abbrev pub origin_place : List OriginKind → OriginKind → ℕ
origin_place [] kind = 0
origin_place (k ∷ ks) kind = if same_origin k kind then 0 else suc (origin_place ks kind)

-- the number that a kind has or gets
unfoldable pub origin_number : HeapView → OriginKind → OriginId
origin_number heap kind = record { 0 = origin_place heap.origins kind }

-- the kinds once a kind has a number: a new one stands last
abbrev pub with_origin : List OriginKind → OriginKind → List OriginKind
with_origin [] kind = kind ∷ []
with_origin (k ∷ ks) kind = if same_origin k kind then k ∷ ks else k ∷ with_origin ks kind

-- ---- what they are in a script

-- the number of the object literal at a place, or how many there are where none is there
abbrev pub literal_at : List LiteralFacts → Place → ℕ
literal_at [] place = 0
literal_at (l ∷ ls) place = if same_place l.place place then 0 else suc (literal_at ls place)

-- the number of the function at a place
abbrev pub function_at : List FunctionFacts → Place → ℕ
function_at [] place = 0
function_at (f ∷ fs) place = if same_place f.place place then 0 else suc (function_at fs place)

abbrev pub origin_in : Tree → OriginKind → Origin
origin_in script origin.Plain = OfPlain
origin_in script origin.Function = OfFunction
origin_in script origin.Array = OfArray
origin_in script origin.Arguments = OfArguments
origin_in script origin.Wrapper = OfWrapper
origin_in script origin.Error = OfError
origin_in script (origin.Literal place) = OfLiteral (record { 0 = literal_at script.literals place })
origin_in script (origin.Constructor place) = OfConstructor (record { 0 = function_at script.functions place })

-- the world after a construction has ended. Only functions of the script construct
abbrev pub constructed_by : World → OriginKind → World
constructed_by w (origin.Constructor place) = changed (Constructing (record { 0 = function_at w.script.functions place })) w
constructed_by w other = w

-- ---- places: the fields of an object that lie in the object itself

-- an object literal has as many as property definitions, at least 4, at most 32
abbrev pub literal_places : ℕ → ℕ
literal_places definitions = min (max definitions 4) 32

-- a function that constructs has 8 beside the distinct names N of the assignments `this.N = e` of its own body, at most 32 together
abbrev pub constructor_places : ℕ → ℕ
constructor_places this_names = min (this_names + 8) 32

-- the places with which an origin of a script begins: those of a literal that begins at its place, or of a function, of which a script has one at most
abbrev pub BeginsWith : Tree → OriginKind → ℕ → Type 0
BeginsWith script (origin.Literal place) places =
    (number : ℕ) × (literal : LiteralFacts)
    × (slice_get script.literals number ≡ Some literal) × (literal.place ≡ place) × (places ≡ literal_places literal.definitions)
BeginsWith script (origin.Constructor place) places =
    (number : ℕ) × (function : FunctionFacts)
    × (slice_get script.functions number ≡ Some function) × (function.place ≡ place) × (places ≡ constructor_places function.this_names)
BeginsWith script other places = places ≡ 4
