use Rattle.es_source.proofs.Longest.{gaps_are_longest}
use Rattle.es_source.proofs.laws.gaps_are_longest.Goals as goal

pub returns : goal.returns
returns c = gaps_are_longest
