use Rattle.std.proofs.Common.{◌≡◌}
use Rattle.prototype_validity.proofs.Standing.{Dropped}
use Rattle.prototype_validity.proofs.validity.Validity.changed.Given as goal

abbrev pub invariant-loop-place : goal.invariant-loop-place
invariant-loop-place l = record {
  registry : l.self-inside.registry ≡ l.initial.self-inside.registry;
  newest : l.self-inside.newest ≡ l.initial.self-inside.newest;
  dropped : Dropped l.initial.self-inside.registry l.initial.self-inside.cells.items l.self-inside.cells.items l.object l.place;
}
