use Rattle.std.proofs.Common.{◌≡◌, ◌+◌, length, arith}
use Rattle.dispatcher.proofs.Steps.{none_ends, give_leads}
use Rattle.dispatcher.proofs.stack.give.Goals as goal

pub returns-in-None : goal.returns-in-None
returns-in-None g c = λ S w is same h.
    let none : length c.args.stack.now.items ≡ 0 = omega (arith, c.args.stack.now.ok.0, c.in-None.ensures.cases.0) in
    none_ends c.args.script.now S (length c.args.stack.now.items + 1) c.args.stack.now.items c.pop.new.self.items c.args.heap.now c.args.answer w none h

pub returns-in-Some : goal.returns-in-Some
returns-in-Some g c = λ S w is same h.
    give_leads c.args.script.now S c.args.stack.now.items c.pop.new.self.items c.wake.new.stack.items c.in-Some.entry c.args.answer c.args.heap.now c.wake.new.heap w c.wake.result c.in-Some.ensures.items (c.wake.ensures S w is same h)
