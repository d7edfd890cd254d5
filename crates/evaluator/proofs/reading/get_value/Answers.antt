use Rattle.evaluator.proofs.Belonging.{cell_there, read_site}
use Rattle.evaluator.proofs.reading.get_value.Goals as goal

pub returns-in-Some-clause-named : goal.returns-in-Some-clause-named
returns-in-Some-clause-named g c = λ w v hw sound hv known reading.
    let there = cell_there c.args.heap.now c.reading_valued.new.heap w v c.in-Cell.cell c.cell.result c.in-Some.value (c.cell.ensures w hw) c.in-Some.is sound hw c.reading_valued.ensures.retains hv in
    c.reading_valued.ensures.named w v hw hv reading there

pub returns-in-Property-clause-named : goal.returns-in-Property-clause-named
returns-in-Property-clause-named g c = λ w v hw sound hv known reading.
    let k = rw c.in-Property.is at known in c.get_of.ensures.named w v hw hv reading (read_site c.args.script.now v.lists c.in-Property.read _ k.1.1)
