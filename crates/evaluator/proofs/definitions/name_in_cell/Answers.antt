use Rattle.std.proofs.Common.{sym, ◌∙◌, ap}
use Rattle.es_model.specs.Program.{define, look}
use Rattle.es_model.specs.Stages.{stage_of}
use Rattle.es_model.specs.World.{cell as cell_of}
use Rattle.object_heap.specs.Stands.{goes_none}
use Rattle.evaluator.specs.Contexts.{context}
use Rattle.evaluator.specs.Literals.{plain, property_valued}
use Rattle.evaluator.specs.Plans.{definitions_from}
use Rattle.evaluator.specs.References.{cell_value}
use Rattle.evaluator.proofs.Defining.{defines_same}
use Rattle.evaluator.proofs.definitions.name_in_cell.Goals as goal

pub returns-in-Some-clause-defines : goal.returns-in-Some-clause-defines
returns-in-Some-clause-defines g c = λ w h.
    let here = context c.args.script.now c.args.body c.args.cells.now in
    let o = c.args.place.object in
    let a = c.args.heap.now in
    let rest = definitions_from here c.args.place.node c.args.place.next o in
    let next = property_valued o c.args.key plain rest in
    defines_same here a a c.name_valued.new.heap w w (look (λ l. cell_value c.args.name next (cell_of l c.args.cell))) (define o c.args.key (plain c.in-Some.value) (λ succeeded. rest)) rest c.name_valued.result
    (goes_none a w h) (ap (λ v. stage_of (cell_value c.args.name next v) w) (sym (c.cell.ensures w h) ∙ c.in-Some.is)) (c.name_valued.ensures.defines here rest w h)
