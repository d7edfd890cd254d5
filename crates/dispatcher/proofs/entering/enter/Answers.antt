use Rattle.std.proofs.Common.{◌≡◌, ◌+◌, ◌∙◌, length, arith, nat_lt, false}
use Rattle.std.proofs.lemmas.Bool.Decides.{nat_tests}
use Rattle.es_model.specs.Changes.{charged}
use Rattle.es_model.specs.Program.{run}
use Rattle.es_model.specs.programs.Errors.{too_many_calls}
use Rattle.es_model.proofs.Rests.{charged-script}
use Rattle.object_heap.proofs.Turns.{stops_turn_of}
use Rattle.ordinary_object.specs.Rests as ordinary
use Rattle.dispatcher.specs.Table.{begin_program}
use Rattle.dispatcher.proofs.Entered.{enter_halts, enter_leads, full_leads}
use Rattle.dispatcher.proofs.entering.enter.Goals as goal

pub returns-in-Err : goal.returns-in-Err
returns-in-Err g c = λ S w is same h.
    enter_halts c.args.script.now S (length c.args.stack.now.items + 2) c.args.stack.now.items c.args.stack.now.items (begin_program c.args.script.now c.args.provider c.args.request) c.args.heap.now c.charge.new.self w c.args.nested
    (c.in-Err.ensures.halted w h)

pub returns-then-nested-lt-NESTED_LIMIT : goal.returns-then-nested-lt-NESTED_LIMIT
returns-then-nested-lt-NESTED_LIMIT g c = λ S w is same h.
    let ok = c.in-Ok.ensures.ok w h in
    enter_leads c.args.script.now S (length c.args.stack.now.items + 2) c.args.stack.now.items c.take.new.stack.items (begin_program c.args.script.now c.args.provider c.args.request) c.args.heap.now c.charge.new.self c.begin-turn.new.heap w
    c.args.nested (c.args.nested + 1) c.take.result c.if-nested-lt-NESTED_LIMIT.true (omega arith) ok
    (c.take.ensures c.args.script.now S (run S (begin_program c.args.script.now c.args.provider c.args.request) (c.args.nested + 1) (charged w 1)) c.charge.new.self c.begin-turn.new.heap (charged w 1)
    (c.begin-turn.ensures S (c.args.nested + 1) (charged w 1) is (charged-script w 1 ∙ same) (ok.1).stands))

pub returns-else-nested-lt-NESTED_LIMIT : goal.returns-else-nested-lt-NESTED_LIMIT
returns-else-nested-lt-NESTED_LIMIT g c = λ S w is same h.
    let ok = c.in-Ok.ensures.ok w h in
    let full : nat_lt c.args.nested 2000 ≡ false = grind (arith, nat_tests, c.if-nested-lt-NESTED_LIMIT.false) in
    full_leads c.args.script.now S (length c.args.stack.now.items + 2) c.args.stack.now.items c.take-else-nested-lt-NESTED_LIMIT.new.stack.items (begin_program c.args.script.now c.args.provider c.args.request) c.args.heap.now c.charge.new.self
    c.too_many_calls.new.heap w c.args.nested c.take-else-nested-lt-NESTED_LIMIT.result full ok
    (c.take-else-nested-lt-NESTED_LIMIT.ensures c.args.script.now S (run S too_many_calls c.args.nested (charged w 1)) c.charge.new.self c.too_many_calls.new.heap (charged w 1)
    (c.of_ordinary-turn.ensures c.args.script.now c.charge.new.self c.too_many_calls.new.heap (charged w 1) S c.args.nested (run S too_many_calls c.args.nested (charged w 1))
    (stops_turn_of ordinary.program_after too_many_calls c.charge.new.self c.too_many_calls.new.heap (charged w 1) c.too_many_calls.result (c.too_many_calls.ensures (charged w 1) (ok.1).stands) S c.args.nested)))
