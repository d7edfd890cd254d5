use Rattle.descriptors.proofs.laws.fixed_property_stays.Goals as goal
use Rattle.descriptors.proofs.Changes.{fixed_step}

pub returns : goal.returns
returns c = λ extensible wanted current property. fixed_step wanted current property
