use Rattle.std.proofs.Common.{◌≡◌}
use Rattle.script_checker.specs.Driving.{AreTasks, end_of, left_of}
use Rattle.script_checker.proofs.machine.Machine.run.Given as goal

abbrev pub invariant-tasks : goal.invariant-tasks
invariant-tasks l = AreTasks l.script.nodes l.self.scopes l.self.tasks × (end_of l.script l.self ≡ end_of l.script l.initial.self)

abbrev pub decreases-tasks : goal.decreases-tasks
decreases-tasks l = left_of l.script l.self
