use Rattle.std.proofs.Common.{sym, take-append-drop, drop, length, ◌/◌}
use Rattle.hc_outside.proofs.memory_sink.part_of.Goals as goal

pub returns-then-fails-clause-front : goal.returns-then-fails-clause-front
returns-then-fails-clause-front c =
    let half = length c.args.bytes.now / 2 in
    (drop half c.args.bytes.now, sym (take-append-drop half c.args.bytes.now))
