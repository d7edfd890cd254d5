use Rattle.property_keys.proofs.RoundTrip.{number_of-whole_units}
use Rattle.property_keys.proofs.laws.numbers_come_back.Goals as goal

pub returns : goal.returns
returns c = number_of-whole_units
