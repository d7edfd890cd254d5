use Rattle.std.proofs.Common.{◌≡◌, ◌≤◌}
use Rattle.es_model.specs.World.{World}
use Rattle.es_serve.specs.Serve.{model}
use Rattle.object_heap.specs.Stands.{StandsFor}
use Rattle.dispatcher.specs.Dispatching.{HasStepsLeft, outcome_left}
use Rattle.dispatcher.specs.Stack.{StandsAt}
use Rattle.dispatcher.proofs.dispatching.Dispatcher.go_on.Given as goal

-- what is in hand is all that is left of what was at the start, and steps enough are left, no more than at the start
abbrev pub invariant-requests : goal.invariant-requests
invariant-requests g l = record {
  stands : (w : World) → w.script ≡ l.fn.script → StandsFor l.fn.heap w → HasStepsLeft l.fn.script l.fn.self w →
      StandsAt l.fn.script model (outcome_left l.fn.script l.fn.self w) l.fn.heap l.heap w l.stack.items l.state l.left;
  most : l.left ≤ l.fn.self.left;
}

abbrev pub decreases-requests : goal.decreases-requests
decreases-requests g l = l.left
