use Rattle.std.proofs.Common.{◌≤◌, length, arith}
use Rattle.script_host.proofs.Written.{line_whole, text_more}
use Rattle.script_host.proofs.lines.line_bytes.Goals as goal

pub loop-i-preserved : goal.loop-i-preserved
loop-i-preserved c = λ w h.
    text_more w.lists c.args.line.now c.loop-i.i c.at.result.now c.loop-i.bytes.items c.push_next.new.bytes.items c.at.ensures (c.loop-i.invariant w h) (c.in_ok-push_next.ensures w h)

pub returns : goal.returns
returns c = λ w h.
    let past : length c.args.line.now ≤ c.loop-i.i = omega (arith, c.len-i-end.ensures) in
    line_whole w.lists c.args.line.now c.loop-i.i c.loop-i.bytes.items c.push.new.bytes.items past (c.loop-i.invariant w h) c.in_ok-push.ensures
