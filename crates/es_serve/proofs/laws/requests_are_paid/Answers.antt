use Rattle.es_serve.proofs.Models.{thrifty}
use Rattle.es_serve.proofs.laws.requests_are_paid.Goals as goal

pub returns : goal.returns
returns c = thrifty
