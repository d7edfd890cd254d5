use Rattle.script_rules.proofs.Walks.{reported, ready_reported}
use Rattle.script_rules.proofs.faults.steps.note.Goals as goal

pub returns-clause-found : goal.returns-clause-found
returns-clause-found c = λ found is. reported c.args._script.now.leaves c.args._script.now.nodes c.args.walk.now c.report.new.self c.args.fault found c.report.ensures c.requires is

pub returns-clause-ready : goal.returns-clause-ready
returns-clause-ready c = ready_reported c.args._script.now.nodes c.args.walk.now c.report.new.self c.args.fault c.report.ensures c.requires
