use Rattle.std.proofs.Common.{◌∙◌}
use Rattle.object_heap.proofs.KeyLists.{insert_key-is}
use Rattle.object_heap.proofs.listing.add_index.Goals as goal

pub returns-in-Ok : goal.returns-in-Ok
returns-in-Ok c = c.in-Ok.ensures.keys ∙ insert_key-is _ c.args.index
