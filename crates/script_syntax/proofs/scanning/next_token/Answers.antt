use Rattle.std.proofs.Common.{◌∙◌, ◌++◌, ap}
use Rattle.script_syntax.specs.Positions.{position_after}
use Rattle.script_syntax.proofs.Cuts.{gap_and_token}
use Rattle.script_syntax.proofs.scanning.next_token.Goals as goal

pub returns-clause-place : goal.returns-clause-place
returns-clause-place c = λ before at.
    c.past-position.ensures.place (before ++ c.split_at-2.result.0.now) (c.past-start.ensures.place before at)
    ∙ ap position_after (gap_and_token before _ _ _ _ c.in-Ok.length c.in-Ok-token_at.form.1 c.split_at-2.ensures.front c.split_at-2.ensures.back c.split_at-3.ensures.front)
