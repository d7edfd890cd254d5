use Rattle.std.proofs.Common.{◌∙◌, [], chars, ap}
use Rattle.script_syntax.specs.Positions.{position_after}
use Rattle.script_syntax.proofs.Phases.{fault_here}
use Rattle.script_syntax.proofs.reading.ill_formed.Goals as goal

pub returns : goal.returns
returns c =
    fault_here c.past-position.result (chars c.args.front.now)
    (c.past-position.ensures.place [] c.start.ensures
    ∙ ap position_after (c.deref.ensures.value ∙ c.in_ok-characters.ensures.characters ∙ ap chars c.in-Ok.ensures.cases.0))
