use Rattle.script_rules.proofs.Whole.{ends, falls, goes_on, is_task, ready_next}
use Rattle.script_rules.proofs.faults.first.static_fault.Goals as goal

pub visit-requires-clause-ready : goal.visit-requires-clause-ready
visit-requires-clause-ready c =
    ready_next c.args.script.now.leaves c.args.script.now.nodes c.args.script.now.root c.parts.walk c.pop.new.self c.in-Some.task c.in-Some.ensures c.parts.invariant

pub visit-requires-clause-known : goal.visit-requires-clause-known
visit-requires-clause-known c =
    (is_task c.args.script.now.leaves c.args.script.now.nodes c.args.script.now.root c.parts.walk c.pop.new.self c.in-Some.task c.in-Some.ensures c.parts.invariant).scope

pub visit-requires-clause-part : goal.visit-requires-clause-part
visit-requires-clause-part c =
    (is_task c.args.script.now.leaves c.args.script.now.nodes c.args.script.now.root c.parts.walk c.pop.new.self c.in-Some.task c.in-Some.ensures c.parts.invariant).part

pub parts-smaller : goal.parts-smaller
parts-smaller c =
    falls c.args.script.now.leaves c.args.script.now.nodes c.args.script.now.root c.parts.walk c.pop.new.self c.in-Some.task c.in-Some.ensures c.parts.invariant c.visit.new.walk c.in_ok-visit.ensures

pub parts-preserved : goal.parts-preserved
parts-preserved c =
    goes_on c.args.script.now.leaves c.args.script.now.nodes c.args.script.now.root c.parts.walk c.pop.new.self c.in-Some.task c.in-Some.ensures c.parts.invariant c.visit.new.walk _ c.in_ok-visit.ensures

pub returns : goal.returns
returns c = ends c.args.script.now.leaves c.args.script.now.nodes c.args.script.now.root c.parts.walk c.pop.new.self c.in_default.ensures c.parts.invariant
