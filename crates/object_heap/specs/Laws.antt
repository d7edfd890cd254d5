-- Laws over the relation between heaps and worlds, and over the changes that calls of the heap make.
use Rattle.std.specs.Prelude.{◌≡◌, ◌++◌, ℕ, Bool, true, false, List, [], ◌∷◌, ◌&&◌, nat_lt, Result}
use Rattle.property_keys.specs.declared.identifiers.ObjectId.{ObjectId}
use Rattle.property_keys.specs.declared.keys.PropKey.{PropKey}
use Rattle.descriptors.specs.declared.fields.Descriptor.{Descriptor}
use Rattle.es_model.specs.Completions.{Completion}
use Rattle.es_model.specs.declared.answers.Stop.{Stop}
use Rattle.es_model.specs.declared.answers.Turn.{Turn}
use Rattle.es_model.specs.declared.owned.OwnProperty.{OwnProperty}
use Rattle.es_model.specs.Events.{Event}
use Rattle.es_model.specs.Frames.{program_rest}
use Rattle.es_model.specs.OwnKeys.{indices_in, with_indices_below}
use Rattle.es_model.specs.Program.{Program, Server, run}
use Rattle.es_model.specs.Stages.{stage_of}
use Rattle.es_model.specs.World.{World, allows, deletes}
use Rattle.es_model.specs.Changes.{Defining, Deleting, changed}
use Rattle.object_heap.specs.Retains.{Retains}
use Rattle.object_heap.specs.Stands.{HeapView, Follows}
use Rattle.object_heap.specs.Stops.{Stops}
use Rattle.object_heap.specs.Turns.{IsTurnOf}

-- a heap follows itself by no events, and what follows one that follows a first follows the first by both lists in order
abbrev pub FollowsInTurn : Type 0
FollowsInTurn =
    ((heap : HeapView) → Follows heap heap [])
    × ((a b c : HeapView) (ds es : List Event) → Follows a b ds → Follows b c es → Follows a c (ds ++ es))

-- what no call takes away, no run of calls does
abbrev pub RetainsInTurn : Type 0
RetainsInTurn = ((heap : HeapView) → Retains heap heap) × ((a b c : HeapView) → Retains a b → Retains b c → Retains a c)

-- What the call of a frame gives at the stage at which its program stops is the turn of that program, whoever answers. (For each type of frames; here
-- for frames that are numbers.)
abbrev pub StopsAreTurns : Type 0
StopsAreTurns =
    (rest : ℕ → Completion → Program) (p : Program) (old new : HeapView) (w : World) (r : Result (Turn ℕ) Stop) →
    Stops rest old new w (stage_of p w) r → (S : Server) (n : ℕ) → IsTurnOf (program_rest rest) old new w S n (run S p n w) r

-- a definition or a deletion that is refused changes nothing
abbrev pub RefusalsChangeNothing : Type 0
RefusalsChangeNothing =
    ((w : World) (o : ObjectId) (k : PropKey) (d : Descriptor) → allows w.lists o k d ≡ false → changed (Defining o k d) w ≡ w)
    × ((w : World) (o : ObjectId) (k : PropKey) → deletes w.lists o k ≡ false → changed (Deleting o k) w ≡ w)

-- each number is above those before it
abbrev pub is_ascending : List ℕ → Bool
is_ascending [] = true
is_ascending (i ∷ []) = true
is_ascending (i ∷ j ∷ is) = nat_lt i j && is_ascending (j ∷ is)

-- the indices among the own keys of an object ascend, so each stands once
abbrev pub IndicesAscend : Type 0
IndicesAscend = (count : ℕ) (ps : List OwnProperty) → is_ascending (with_indices_below count (indices_in ps)) ≡ true
