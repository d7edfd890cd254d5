use Rattle.std.proofs.Common.{rules}
use Rattle.evaluator.specs.Contexts.{context}
use Rattle.evaluator.proofs.Beginning.{items_none, no_items, part_kept, turn_begins}
use Rattle.evaluator.proofs.Belonging.{begins_named}
use Rattle.evaluator.proofs.turns.begin.Goals as goal

pub returns-clause-turn : goal.returns-clause-turn
returns-clause-turn g c = λ S n w is same h.
    turn_begins c.args.script.now c.args.body c.args.cells c.args.list S n c.args.heap.now c.go.new.heap w c.go.result h
    (no_items c.args.script.now c.args.body c.args.cells c.args.list c.new-pending.result.items S n c.args.heap.now c.go.new.heap w c.go.result (search (rules, c.new-pending.ensures)) (c.go.ensures.turn S n w is same h))

pub returns-clause-sound : goal.returns-clause-sound
returns-clause-sound g c = λ w same h kept.
    let here = context c.args.script.now c.args.body c.args.cells in
    let current = part_kept here c.args.list w kept in
    c.go.ensures.sound w same h current (items_none here c.args.list w c.new-pending.result.items (search (rules, c.new-pending.ensures)) current)

pub returns-clause-belongs : goal.returns-clause-belongs
returns-clause-belongs g c = λ w v same h kept hv.
    let here = context c.args.script.now c.args.body c.args.cells in
    let current = part_kept here c.args.list w kept in
    c.go.ensures.belongs w v same h current (items_none here c.args.list w c.new-pending.result.items (search (rules, c.new-pending.ensures)) current)
    (begins_named c.args.script.now w c.args.body c.args.cells c.args.list c.new-pending.result.items same current (search (rules, c.new-pending.ensures))) hv
