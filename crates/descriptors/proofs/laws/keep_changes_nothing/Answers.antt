use Rattle.descriptors.proofs.laws.keep_changes_nothing.Goals as goal
use Rattle.descriptors.proofs.Standing.{applied-stands}
use Rattle.descriptors.proofs.Changes.{keep_from_same, kept_same}

pub returns : goal.returns
returns c = λ extensible wanted current sound.
    (λ kept. applied-stands wanted current (kept_same wanted current kept), keep_from_same wanted current sound)
