use Rattle.es_source.proofs.Longest.{punctuators_are_longest}
use Rattle.es_source.proofs.laws.punctuators_are_longest.Goals as goal

pub returns : goal.returns
returns c = punctuators_are_longest
