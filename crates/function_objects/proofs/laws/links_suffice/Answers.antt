use Rattle.function_objects.proofs.Links.{links-suffice}
use Rattle.function_objects.proofs.laws.links_suffice.Goals as goal

pub returns : goal.returns
returns c = links-suffice
