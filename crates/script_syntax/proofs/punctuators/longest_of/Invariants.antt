use Rattle.std.proofs.Common.{◌≡◌, ◌≤◌, [], length, map, drop}
use Rattle.std.specs.Prelude.{fold}
use Rattle.es_source.specs.Forms.{longer_at}
use Rattle.script_syntax.proofs.punctuators.longest_of.Given as goal

abbrev pub invariant-loop-next : goal.invariant-loop-next
invariant-loop-next l = record {
  found : fold (longer_at l.rest) l.best (drop l.next-index (map (λ p. p.now) l.table)) ≡ fold (longer_at l.rest) [] (map (λ p. p.now) l.table);
  within : length l.best ≤ length l.rest;
}
