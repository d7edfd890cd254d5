use Rattle.std.proofs.Common.{◌≡◌, take}
use Rattle.script_checker.proofs.tokens.text_units.Given as goal

abbrev pub invariant-loop-byte : goal.invariant-loop-byte
invariant-loop-byte l = l.units ≡ take l.byte-index l.bytes
