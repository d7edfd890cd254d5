use Rattle.std.proofs.Common.{sym}
use Rattle.elements_kinds.proofs.Trees.{greatest-in, none-in}
use Rattle.elements_kinds.proofs.maps.greatest_in.Goals as goal

pub returns-in-Some : goal.returns-in-Some
returns-in-Some c = sym (greatest-in c.args.map.now c.in-Some.index.now c.in-Some.field-0-1.now c.in-Some.ensures.value c.in-Some.ensures.greatest)

pub returns-in-None : goal.returns-in-None
returns-in-None c = sym (none-in c.args.map.now c.in-None.ensures.variant)
