use Rattle.std.proofs.Common.{◌≡◌, ℕ, ◌+◌, ◌*◌, Ok, length}
use Rattle.es_model.specs.Program.{Server}
use Rattle.es_model.specs.Weights.{renewed}
use Rattle.es_model.specs.World.{World}
use Rattle.object_heap.specs.Retains.{Retains}
use Rattle.object_heap.specs.Stands.{StandsFor}
use Rattle.evaluator.specs.declared.frames.Next.TheVariants.{GoOn}
use Rattle.evaluator.specs.Contexts.{context}
use Rattle.evaluator.specs.Frames.{IsStacked}
use Rattle.evaluator.specs.Machine.{IsServer}
use Rattle.evaluator.specs.Names.{IsHereNamed}
use Rattle.evaluator.specs.Soundness.{KeepsCurrent, KeepsItems, StaysSoundNext}
use Rattle.evaluator.proofs.Looped.{Stood}
use Rattle.evaluator.proofs.machine.go.Given as goal

abbrev pub invariant-steps : goal.invariant-steps
invariant-steps g l = record {
  stacked : IsStacked 0 l.pending.items (length l.cells);
  stood : (S : Server) (n : ℕ) (w : World) → IsServer S → w.script ≡ l.script → StandsFor l.fn.heap w →
      Stood (l.left + 3) (2 * (renewed l.script + (2 * renewed l.script) * w.turns + renewed l.script * length l.fn.pending.items) + 3) l.script l.body S n l.fn.heap l.heap w l.fn.cells l.fn.pending.items l.fn.current l.cells l.pending.items l.current;
  sound : (w : World) → w.script ≡ l.script → StandsFor l.fn.heap w → KeepsCurrent (context l.script l.body l.fn.cells) w l.fn.current → KeepsItems (context l.script l.body l.fn.cells) w l.fn.pending.items →
      StaysSoundNext (context l.script l.body l.cells) l.fn.heap l.heap w l.pending.items (Ok (GoOn l.current));
  named : (w x : World) → StandsFor l.fn.heap w → StandsFor l.heap x → w.script ≡ l.script → KeepsCurrent (context l.script l.body l.fn.cells) w l.fn.current → KeepsItems (context l.script l.body l.fn.cells) w l.fn.pending.items →
      IsHereNamed l.script w.lists l.body l.fn.cells l.fn.pending.items → IsHereNamed l.script x.lists l.body l.cells l.pending.items;
  retains : Retains l.fn.heap l.heap;
}

abbrev pub decreases-steps : goal.decreases-steps
decreases-steps g l = l.left
