use Rattle.std.proofs.Common.{◌≡◌, take}
use Rattle.es_model.specs.World.{World}
use Rattle.es_serve.specs.Lines.{texts_bytes}
use Rattle.object_heap.specs.Stands.{StandsFor}
use Rattle.script_host.proofs.lines.line_bytes.Given as goal

abbrev pub invariant-loop-i : goal.invariant-loop-i
invariant-loop-i l = (w : World) → StandsFor l.heap w → l.bytes.items ≡ texts_bytes w.lists (take l.i l.line)
