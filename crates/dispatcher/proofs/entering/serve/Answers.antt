use Rattle.std.proofs.Common.{Ok, ◌+◌, ◌∙◌, length}
use Rattle.es_model.specs.Program.{run}
use Rattle.dispatcher.specs.declared.table.Service.TheVariants.{Begins, Enters, Prints}
use Rattle.dispatcher.specs.Table.{begin_program, noted_for}
use Rattle.dispatcher.proofs.Entered.{serve_leads}
use Rattle.dispatcher.proofs.Served.{stays_noted}
use Rattle.dispatcher.proofs.entering.serve.Goals as goal

pub returns-in-Prints : goal.returns-in-Prints
returns-in-Prints g c = λ S w is same h.
    let noted = c.in_ok-note.ensures w h in
    let v = noted_for c.args.request w in
    serve_leads c.args.script.now S (length c.args.stack.now.items + 2) c.args.stack.now.items c.args.stack.now.items Prints c.args.request c.args.nested c.args.heap.now c.note.new.heap c.note.new.heap w (Ok c.printed.result)
    is same noted (c.in-Prints.ensures v noted.stands)
    (c.printed.ensures c.args.script.now S c.args.nested c.args.stack.now.items c.note.new.heap v noted.stands)

pub returns-in-Enters : goal.returns-in-Enters
returns-in-Enters g c = λ S w is same h.
    let noted = c.in_ok-note.ensures w h in
    let v = noted_for c.args.request w in
    serve_leads c.args.script.now S (length c.args.stack.now.items + 2) c.args.stack.now.items c.enter.new.stack.items (Enters c.in-Enters.provider) c.args.request c.args.nested c.args.heap.now c.note.new.heap c.enter.new.heap w c.enter.result
    is same noted (c.in-Enters.ensures v noted.stands)
    (c.enter.ensures S v is ((stays_noted c.args.request w).script ∙ same) noted.stands)

pub returns-in-Begins : goal.returns-in-Begins
returns-in-Begins g c = λ S w is same h.
    let noted = c.in_ok-note.ensures w h in
    let v = noted_for c.args.request w in
    serve_leads c.args.script.now S (length c.args.stack.now.items + 2) c.args.stack.now.items c.take.new.stack.items (Begins c.in-Begins.provider) c.args.request c.args.nested c.args.heap.now c.note.new.heap c.begin-turn.new.heap w c.take.result
    is same noted (c.in-Begins.ensures v noted.stands)
    (c.take.ensures c.args.script.now S (run S (begin_program c.args.script.now c.in-Begins.provider c.args.request) c.args.nested v) c.note.new.heap c.begin-turn.new.heap v
    (c.begin-turn.ensures S c.args.nested v is ((stays_noted c.args.request w).script ∙ same) noted.stands))
