use Rattle.std.proofs.Common.{[], ◌∷◌}
use Rattle.map_store.proofs.Grow.{lists-set, lists-stay}
use Rattle.map_store.proofs.arrays.push_entry.Goals as goal

pub returns-in-Ok-clause-ok : goal.returns-in-Ok-clause-ok
returns-in-Ok-clause-ok c = lists-set c.args.arrays.now.items c.args.array c.index_mut-entries.result.now c.push.new.self (c.args.entry ∷ []) c.requires c.index_mut-entries.ensures.value c.in-Ok.ensures.items

pub returns-in-Err-clause-err : goal.returns-in-Err-clause-err
returns-in-Err-clause-err c = lists-stay c.args.arrays.now.items c.args.array c.index_mut-entries.result.now c.push.new.self c.requires c.index_mut-entries.ensures.value c.in-Err.ensures.items
