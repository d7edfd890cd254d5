use Rattle.std.proofs.Common.{◌≡◌, ◌≤◌, ◌-◌, length, drop}
use Rattle.es_source.specs.Gaps.{gap_from, gap_of}
use Rattle.script_syntax.proofs.Separators.{shifted}
use Rattle.script_syntax.proofs.gaps.gap_of.Given as goal

abbrev pub invariant-separators : goal.invariant-separators
invariant-separators l = record {
  within : l.passed ≤ length l.rest;
  found : shifted l.passed (gap_from 0 (drop l.passed l.rest)) ≡ gap_of l.rest;
}

abbrev pub decreases-separators : goal.decreases-separators
decreases-separators l = length l.rest - l.passed
