use Rattle.std.proofs.Common.{◌<◌, ◌≤◌, ◌+◌, ◌*◌, length, get_or, length-set, ◌∙◌, arith}
use Rattle.dictionary_mode.specs.Counts.{room_of}
use Rattle.dictionary_mode.proofs.Mending.{sums-mended, small-mended, leaves-mended}
use Rattle.dictionary_mode.proofs.numbers.mend.Goals as goal

pub loop-node-preserved : goal.loop-node-preserved
loop-node-preserved c =
    let old = c.loop-node.counts in
    let node = c.loop-node.node in
    let room = room_of c.args.counts.now in
    let sum = get_or old (2 * node) 0 + get_or old (2 * node + 1) 0 in
    let inv = c.loop-node.invariant in
    let first : 1 ≤ node = omega arith in
    let inside : node < length old = omega (arith, inv.size, inv.inner, c.requires.even) in
    record {
      size = length-set old node sum ∙ inv.size;
      inner = omega (arith, inv.inner);
      sums = sums-mended old room node sum first inv.inner inside (λ t. sum) inv.sums;
      small = λ i ne. small-mended old room node sum first inv.inner inside (λ t. sum) (length c.args.counts.now) inv.small i;
      leaves = λ i le. leaves-mended old room node sum first inv.inner inside (λ t. sum) i le ∙ inv.leaves i le;
    }
