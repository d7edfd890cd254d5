-- What a frame keeps that was made in the turn is there in the world after the turn, over plain variables.
use Rattle.std.proofs.Common.{Result, Ok, Err, List, [], ◌∷◌, sym, subst}
use Rattle.es_model.specs.declared.answers.Stop.{Stop}
use Rattle.es_model.specs.declared.answers.Turn.{Turn}
use Rattle.es_model.specs.declared.answers.Turn.TheVariants.{Ask, Done}
use Rattle.es_model.specs.Belongs.{Belongs, FrameName, HasNames, NamesCompletion}
use Rattle.es_model.specs.Completions.{Completion}
use Rattle.es_model.specs.Fits.{IsKnownCompletion}
use Rattle.es_model.specs.Kept.{IsLater}
use Rattle.es_model.specs.Program.{Program}
use Rattle.es_model.specs.Stages.{stage_of}
use Rattle.es_model.specs.World.{World}
use Rattle.es_model.proofs.Belonging.{names-stay}
use Rattle.object_heap.specs.Stands.{HeapView, StandsFor}
use Rattle.object_heap.specs.Stops.{Stops}
use Rattle.object_heap.specs.Turns.{KeepsNamed, world_after}
use Rattle.object_heap.proofs.Turns.{later_stage, named_done, named_stop, turn_of}

-- what is kept of a world is kept of a later one
belongs_later : {F : Type 0} (names_of : F → List FrameName) (w v : World) (frame : F) → IsLater w v → Belongs names_of w frame → Belongs names_of v frame
belongs_later names_of w v frame l h = subst (λ s. HasNames s v.lists (names_of frame)) (sym l.script) (names-stay w.script (names_of frame) w.lists v.lists l.lists h)

known_later : (w v : World) (c : Completion) → IsLater w v → IsKnownCompletion w.lists c → IsKnownCompletion v.lists c
known_later w v c l h = (names-stay w.script (NamesCompletion c ∷ []) w.lists v.lists l.lists (h, tt)).0

-- a call that keeps what belongs to each world that the heap after it stands for
abbrev pub NamesAfter : {F : Type 0} → (F → List FrameName) → HeapView → HeapView → F → Completion → Result (Turn F) Stop → Type 0
NamesAfter names_of old new frame c r =
    (w v : World) → StandsFor old w → StandsFor new v → Belongs names_of v frame → IsKnownCompletion v.lists c → KeepsNamed names_of v r

pub named_after : {F : Type 0} (names_of : F → List FrameName) (rest : F → Completion → Program) (old new : HeapView) (p : Program) (frame : F) (c : Completion) (w : World) (r : Result (Turn F) Stop) →
    NamesAfter names_of old new frame c r → Stops rest old new w (stage_of p w) r → StandsFor old w → Belongs names_of w frame → IsKnownCompletion w.lists c → KeepsNamed names_of (world_after p w) r
named_after names_of rest old new p frame c w (Err stop) n s h b k = named_stop names_of (world_after p w) stop
named_after names_of rest old new p frame c w (Ok (Done d)) n s h b k = named_done names_of (world_after p w) d
named_after names_of rest old new p frame c w (Ok (Ask q f)) n s h b k =
    let v : World = world_after p w in
    let turn = turn_of rest old new p w (Ok (Ask q f)) s in
    n w v h turn.goes.stands (belongs_later names_of w v frame (later_stage p w) b) (known_later w v c (later_stage p w) k)
