use Rattle.descriptors.proofs.laws.applied_is_kept.Goals as goal
use Rattle.descriptors.proofs.Changes.{kept_again}

pub returns : goal.returns
returns c = kept_again
