use Rattle.object_heap.proofs.Retaining.{retains_none}
use Rattle.evaluator.proofs.Belonging.{named_key, sites_named}
use Rattle.evaluator.proofs.PlansNamed.{keeps_wait}
use Rattle.evaluator.proofs.accesses.member.Goals as goal

pub returns-clause-named : goal.returns-clause-named
returns-clause-named g c = λ w v hw hv read write.
    let b = c.intern.new.heap in
    let key = named_key c.args.name.now c.args.heap.now b b w v c.in_ok-text.text c.key_of-key.result (c.in_ok-text.ensures.number w hw) (c.in_ok-text.ensures.ok w hw) (λ u hu. c.key_of-key.ensures u hu) (retains_none b) hv in
    keeps_wait c.args.script.now v.lists _ _ (key, sites_named c.args.script.now v.lists c.args.read c.args.write read write)
