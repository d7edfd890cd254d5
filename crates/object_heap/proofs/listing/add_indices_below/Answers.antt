use Rattle.std.proofs.Common.{ap, ◌∙◌}
use Rattle.es_model.specs.OwnKeys.{put_index}
use Rattle.object_heap.proofs.KeyLists.{below-more}
use Rattle.object_heap.proofs.listing.add_indices_below.Goals as goal

pub loop-index-preserved : goal.loop-index-preserved
loop-index-preserved c = c.in_ok-add_index.ensures ∙ ap (put_index c.loop-index.index) c.loop-index.invariant ∙ below-more c.loop-index.index _
