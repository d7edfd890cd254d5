use Rattle.std.proofs.Common.{◌≡◌, bytes_eq, drop, length}
use Rattle.script_parser.proofs.kinds.spells.Given as goal

abbrev pub invariant-loop-i : goal.invariant-loop-i
invariant-loop-i l = record {
  rest : bytes_eq (drop l.i l.text) (drop l.i l.units) ≡ bytes_eq l.text l.units;
  same : length l.text ≡ length l.units;
}
