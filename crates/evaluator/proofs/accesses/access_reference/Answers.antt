use Rattle.std.proofs.Common.{refl}
use Rattle.object_heap.specs.Stands.{goes_none}
use Rattle.evaluator.proofs.Belonging.{sites_named}
use Rattle.evaluator.proofs.PlansNamed.{keeps_wait}
use Rattle.evaluator.proofs.accesses.access_reference.Goals as goal

pub returns-in-Member-clause-plans : goal.returns-in-Member-clause-plans
returns-in-Member-clause-plans g c = λ w h. rw c.in-Member.is (c.member.ensures.plans w h)

pub returns-in-Index-clause-plans : goal.returns-in-Index-clause-plans
returns-in-Index-clause-plans g c = λ w h. rw c.in-Index.is (refl, refl, goes_none c.args.heap.now w h)

pub returns-in-Member-clause-named : goal.returns-in-Member-clause-named
returns-in-Member-clause-named g c = λ w v hw hv sites. let s = rw c.in-Member.is at sites in c.member.ensures.named w v hw hv s.0 s.1

pub returns-in-Index-clause-named : goal.returns-in-Index-clause-named
returns-in-Index-clause-named g c = λ w v hw hv sites. let s = rw c.in-Index.is at sites in keeps_wait c.args.script.now v.lists _ _ (sites_named c.args.script.now v.lists c.in-Index.read c.in-Index.write s.0 s.1)
