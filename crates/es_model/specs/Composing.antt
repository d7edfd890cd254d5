-- How outcomes compose.
use Rattle.std.specs.Prelude.{◌≡◌}
use Rattle.es_model.specs.Completions.{Completion}
use Rattle.es_model.specs.World.{World}
use Rattle.es_model.specs.Program.{Outcome, Ended, after}

abbrev pub ComposesAfter : Type 0
ComposesAfter = (o : Outcome) (f g : Completion → World → Outcome) → after (after o f) g ≡ after o (λ c w. after (f c w) g)

abbrev pub EndsAfter : Type 0
EndsAfter = (o : Outcome) → after o (λ c w. Ended c w 0) ≡ o
