-- What each call of the crate gives: over any heap that stands for a world it stops where its program does. A method that asks is an ordinary one, and its
-- frame is that of the ordinary method.
use Rattle.std.specs.Prelude.{Result}
use Rattle.es_model.specs.declared.answers.Stop.{Stop}
use Rattle.es_model.specs.declared.answers.Turn.{Turn}
use Rattle.es_model.specs.Program.{Program}
use Rattle.es_model.specs.Stages.{stage_of}
use Rattle.es_model.specs.World.{World}
use Rattle.object_heap.specs.Stands.{HeapView, StandsFor}
use Rattle.object_heap.specs.Stops.{Stops}
use Rattle.ordinary_object.specs.Rests.{program_after}
use Rattle.ordinary_object.specs.declared.frame.OrdinaryFrame.{OrdinaryFrame}

abbrev pub StopsAt : HeapView → HeapView → Program → Result (Turn OrdinaryFrame) Stop → Type 0
StopsAt old new p result = (w : World) → StandsFor old w → Stops program_after old new w (stage_of p w) result
