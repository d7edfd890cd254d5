use Rattle.small_changes.proofs.Storing.{outlines-kept}
use Rattle.small_changes.proofs.laws.storing_keeps_outlines.Goals as goal

pub returns : goal.returns
returns c = outlines-kept
