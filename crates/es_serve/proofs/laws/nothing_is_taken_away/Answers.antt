use Rattle.es_serve.proofs.Models.{keeps-lists, keeps-script, keeps-printed}
use Rattle.es_serve.proofs.laws.nothing_is_taken_away.Goals as goal

pub returns : goal.returns
returns c = record { lists = keeps-lists; script = keeps-script; printed = keeps-printed }
