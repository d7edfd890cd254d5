use Rattle.map_deprecation.proofs.ComeBack.{words_back}
use Rattle.map_deprecation.proofs.laws.words_come_back.Goals as goal

pub returns : goal.returns
returns c = words_back
