use Rattle.es_serve.proofs.Models.{depth-free}
use Rattle.es_serve.proofs.laws.depth_is_free.Goals as goal

pub returns : goal.returns
returns c = depth-free
