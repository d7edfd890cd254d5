use Rattle.std.proofs.Common.{◌+◌}
use Rattle.evaluator.specs.Contexts.{context}
use Rattle.evaluator.specs.Elements.{elements_after}
use Rattle.evaluator.proofs.ElementsDefined.{left_out_done}
use Rattle.evaluator.proofs.elements.element_then.Goals as goal

pub returns-in_ok-raise_length-in-Some-index_of-clause-defines :
    goal.returns-in_ok-raise_length-in-Some-index_of-clause-defines
returns-in_ok-raise_length-in-Some-index_of-clause-defines g c = λ w h.
    let here = context c.args.script.now c.args.body c.args.cells.now in
    left_out_done here c.args.array c.args.at c.in-Some-index_of.index c.args.found (elements_after here c.args.node (c.args.at + 1) c.args.array) c.args.heap.now c.raise_length.new.heap w c.in-None.is
    c.in-Some-index_of.ensures.0 c.in-Some-index_of.ensures.1 (c.in_ok-raise_length-in-Some-index_of.ensures.goes w h)
