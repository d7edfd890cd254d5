use Rattle.std.proofs.Common.{ap, sym, ◌∙◌}
use Rattle.object_heap.specs.Seen.{find_seen}
use Rattle.object_heap.proofs.Standing.{find-none}
use Rattle.object_heap.proofs.objects.Objects.own.Goals as goal

pub returns-in-None : goal.returns-in-None
returns-in-None c = sym (ap (λ s. find_seen s c.args.key) c.in-None.ensures ∙ find-none c.args.key)
