use Rattle.es_serve.proofs.Models.{keeps-sound}
use Rattle.es_serve.proofs.KeptAll.{each-kept}
use Rattle.es_serve.proofs.laws.sound_worlds_are_kept.Goals as goal

pub returns : goal.returns
returns c = record { each = each-kept; ends = keeps-sound }
