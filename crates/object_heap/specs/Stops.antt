-- What the call of a frame has to give over a heap.
use Rattle.std.specs.Prelude.{Result}
use Rattle.es_model.specs.Completions.{Completion}
use Rattle.es_model.specs.declared.answers.Stop.{Stop}
use Rattle.es_model.specs.declared.answers.Turn.{Turn}
use Rattle.es_model.specs.World.{World}
use Rattle.es_model.specs.Program.{Program}
use Rattle.es_model.specs.Stages.{Stage}
use Rattle.es_model.specs.Frames.{StopsBy}
use Rattle.es_model.proofs.Turning.{stops_then_by}
use Rattle.object_heap.specs.Stands.{HeapView, Goes, Halts, goes_then, halts_then}

-- The turn is where the program stops, the heap goes to the world of that stop, and the frame stands for the rest of the program. Want of memory is free.
abbrev pub Stops : {F : Type 0} → (F → Completion → Program) → HeapView → HeapView → World → Stage → Result (Turn F) Stop → Type 0
Stops rest old new w stage r = StopsBy Goes Halts rest old new w stage r

-- a call that begins where another one left the heap
pub stops_then : {F : Type 0} (rest : F → Completion → Program) (a b c : HeapView) (w v : World) (stage : Stage) (r : Result (Turn F) Stop) →
    Goes a b w v → Stops rest b c v stage r → Stops rest a c w stage r
stops_then rest a b c w v stage r g s = stops_then_by Goes Halts goes_then halts_then rest a b c w v stage r g s
