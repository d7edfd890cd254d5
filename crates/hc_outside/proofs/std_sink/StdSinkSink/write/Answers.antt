use Rattle.std.proofs.Common.{◌++◌, take}
use Rattle.hc_outside.proofs.Fronts.{whole_after, cut_rest}
use Rattle.hc_outside.proofs.std_sink.StdSinkSink.write.Goals as goal

pub loop-rest-preserved : goal.loop-rest-preserved
loop-rest-preserved g c =
    let sent = c.loop-rest.invariant.sent in
    let n = c.in-Ok.n in
    let rest = c.loop-rest.rest.now in
    record {
      sent = (sent.0 ++ take n rest, rw c.split_at.ensures.back (cut_rest _ sent.0 rest n sent.1), whole_after _ _ _ _ _ sent.2 c.in-Ok.ensures.bytes);
      count = c.loop-rest.invariant.count;
      writes = c.loop-rest.invariant.writes;
      flushes = c.loop-rest.invariant.flushes;
    }
