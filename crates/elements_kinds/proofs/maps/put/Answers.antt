use Rattle.elements_kinds.proofs.Trees.{in-insert, in-same}
use Rattle.elements_kinds.proofs.maps.put.Goals as goal

pub returns-in-Ok-clause-ok : goal.returns-in-Ok-clause-ok
returns-in-Ok-clause-ok c = in-insert c.args.map.now c.insert.new.self c.args.index c.args.property c.in-Ok.ensures.updates.0

pub returns-in-Err-clause-err : goal.returns-in-Err-clause-err
returns-in-Err-clause-err c = in-same c.args.map.now c.insert.new.self c.in-Err.ensures.err
