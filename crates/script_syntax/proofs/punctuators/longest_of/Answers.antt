use Rattle.std.proofs.Common.{◌∙◌, ◌+◌, List, ℕ, drop, map, ap}
use Rattle.std.specs.Prelude.{fold}
use Rattle.es_source.specs.Forms.{longer_at}
use Rattle.script_syntax.proofs.Tables.{fold_next}
use Rattle.script_syntax.proofs.punctuators.longest_of.Goals as goal

pub loop-next-preserved : goal.loop-next-preserved
loop-next-preserved c = record {
  found =
      ap (λ (best : List ℕ). fold (longer_at c.args.rest.now) best (drop (c.loop-next.next-index + 1) (map (λ p. p.now) c.args.table.now))) c.longer_at-best.ensures.value
      ∙ fold_next (longer_at c.args.rest.now) (λ p. p.now) c.args.table.now c.loop-next.best.now c.loop-next.next-index _ c.loop-next-test.true
      ∙ c.loop-next.invariant.found;
  within = c.longer_at-best.ensures.bound c.loop-next.invariant.within;
}
