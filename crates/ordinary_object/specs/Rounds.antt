-- A round of the walk up the prototypes (ECMA-262, 10.1.2.1, step 7).
use Rattle.std.specs.Prelude.{◌≡◌, ℕ, Bool, Option, Result, Ok, Err}
use Rattle.property_keys.specs.declared.identifiers.ObjectId.{ObjectId}
use Rattle.es_model.specs.declared.answers.Completion.{Completion as Answer}
use Rattle.es_model.specs.declared.answers.Completion.TheVariants.{Normal}
use Rattle.es_model.specs.declared.answers.Reply.TheVariants as reply
use Rattle.es_model.specs.declared.answers.Stop.{Stop}
use Rattle.es_model.specs.declared.answers.Turn.TheVariants.{Done}
use Rattle.es_model.specs.World.{World}
use Rattle.es_model.specs.Changes.{charged}
use Rattle.es_model.specs.Stages.{Stage, stage_of}
use Rattle.ordinary_object.specs.Ordinary.{set_prototype_round}
use Rattle.object_heap.specs.Stands.{HeapView, Goes}
use Rattle.object_heap.specs.Stops.{Stops}
use Rattle.ordinary_object.specs.declared.rounds.Round.{Round}
use Rattle.ordinary_object.specs.declared.rounds.Round.TheVariants.{On, Over}
use Rattle.ordinary_object.specs.Rests.{program_after}

abbrev pub flag_answer : Bool → Answer
flag_answer b = Normal (reply.Flag b)

-- a round goes on with a turn less, or the walk ends as its program does
abbrev pub IsRound : HeapView → HeapView → World → ℕ → ObjectId → Option ObjectId → Stage → Result Round Stop → Type 0
IsRound old new w left object wanted stage (Ok (On up)) =
    Goes old new w (charged w 1)
    × (stage ≡ stage_of (set_prototype_round left object wanted up) (charged w 1))
IsRound old new w left object wanted stage (Ok (Over is_set)) = Stops program_after old new w stage (Ok (Done (flag_answer is_set)))
IsRound old new w left object wanted stage (Err stop) = Stops program_after old new w stage (Err stop)
