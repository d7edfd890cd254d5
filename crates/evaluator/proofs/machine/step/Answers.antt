use Rattle.std.proofs.Common.{◌≡◌, ◌∙◌, length, arith, sym}
use Rattle.std.proofs.lemmas.List.{append-nil}
use Rattle.evaluator.specs.Contexts.{context}
use Rattle.evaluator.proofs.Driven.{end_step, pop_step, popped_stack, stacked_none}
use Rattle.evaluator.proofs.Sounding.{body_sound, items_popped}
use Rattle.evaluator.proofs.Belonging.{items_apart}
use Rattle.evaluator.proofs.machine.step.Goals as goal

pub returns-in-At-clause-next : goal.returns-in-At-clause-next
returns-in-At-clause-next g c = λ S n w is same h. rw c.in-At.is (c.advance.ensures.next S n w is same h)

pub returns-in_ok-answer-in-None-clause-next : goal.returns-in_ok-answer-in-None-clause-next
returns-in_ok-answer-in-None-clause-next g c = λ S n w is same h.
    let here = context c.args.script.now c.args.body c.args.cells.now in
    let none : length c.args.pending.now.items ≡ 0 = omega (arith, c.args.pending.now.ok.0, c.in-None.ensures.cases.0) in
    rw c.in-EndedBy.is
    (end_step here S n c.args.heap.now c.end_of_body.new.heap w c.args.pending.now.items c.pop.new.self.items c.in-EndedBy.end c.in_ok-answer-in-None.answer none (c.in_ok-answer-in-None.ensures.answers c.args.cells.now w same h))

pub returns-in_ok-answer-in-None-clause-stacked : goal.returns-in_ok-answer-in-None-clause-stacked
returns-in_ok-answer-in-None-clause-stacked g c =
    stacked_none c.args.pending.now.items c.pop.new.self.items _ c.requires (sym (append-nil c.pop.new.self.items) ∙ sym c.in-None.ensures.items)

pub wake-requires : goal.wake-requires
wake-requires g c =
    let stack = popped_stack c.args.pending.now.items c.pop.new.self.items c.in-Some.entry (length c.args.cells.now) c.in-Some.ensures.items c.requires in record { high = stack.1; stacked = stack.0 }

pub returns-in-Some-clause-next : goal.returns-in-Some-clause-next
returns-in-Some-clause-next g c = λ S n w is same h.
    let here = context c.args.script.now c.args.body c.args.cells.now in
    let inner = context c.args.script.now c.args.body c.wake.new.cells in
    rw c.in-EndedBy.is
    (pop_step here inner S n c.args.heap.now c.wake.new.heap w c.args.pending.now.items c.pop.new.self.items c.wake.new.pending.items c.in-Some.entry c.in-EndedBy.end c.wake.result c.in-Some.ensures.items
    (c.wake.ensures.next S n w same h))

pub returns-in-At-clause-sound : goal.returns-in-At-clause-sound
returns-in-At-clause-sound g c = λ w same h current items. let job = rw c.in-At.is at current in c.advance.ensures.sound w same h job items

pub returns-in_ok-answer-in-None-clause-sound : goal.returns-in_ok-answer-in-None-clause-sound
returns-in_ok-answer-in-None-clause-sound g c = λ w same h current items.
    let here = context c.args.script.now c.args.body c.args.cells.now in
    let end = rw c.in-EndedBy.is at current in
    body_sound here c.args.heap.now c.end_of_body.new.heap w c.args.pending.now.items c.pop.new.self.items c.in-EndedBy.end c.in_ok-answer-in-None.answer (c.in_ok-answer-in-None.ensures.answers c.args.cells.now w same h) end items

pub returns-in-Some-clause-sound : goal.returns-in-Some-clause-sound
returns-in-Some-clause-sound g c = λ w same h current items.
    let here = context c.args.script.now c.args.body c.args.cells.now in
    let end = rw c.in-EndedBy.is at current in
    let popped = items_popped here w c.args.pending.now.items c.pop.new.self.items c.in-Some.entry c.in-Some.ensures.items items in c.wake.ensures.sound w h end popped.1 popped.0

pub returns-in-At-clause-named : goal.returns-in-At-clause-named
returns-in-At-clause-named g c = λ w v same hw sound hv running current items. c.advance.ensures.named w v same hw sound hv running items

pub returns-in-Some-clause-named : goal.returns-in-Some-clause-named
returns-in-Some-clause-named g c = λ w v same hw sound hv running current items.
    let end = rw c.in-EndedBy.is at current in
    let popped = items_apart c.args.script.now v.lists c.args.pending.now.items c.pop.new.self.items c.in-Some.entry c.in-Some.ensures.items items in
    c.wake.ensures.named w v hw sound hv popped.1 end popped.0
