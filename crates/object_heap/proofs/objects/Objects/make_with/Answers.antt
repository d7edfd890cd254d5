use Rattle.std.proofs.Common.{ap, ◌∙◌}
use Rattle.object_heap.specs.Seen.{find_seen}
use Rattle.object_heap.proofs.Standing.{find-new}
use Rattle.object_heap.proofs.objects.Objects.make_with.Goals as goal

pub add-requires : goal.add-requires
add-requires c = ap (λ s. find_seen s c.args.key) c.new-held.ensures ∙ find-new c.args.kind c.args.proto c.args.key
