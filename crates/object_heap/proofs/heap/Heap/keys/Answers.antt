use Rattle.std.proofs.Common.{◌≡◌, ◌∙◌, ap}
use Rattle.std.proofs.lemmas.Result.{IfOk-weaker}
use Rattle.es_model.specs.OwnKeys.{own_keys}
use Rattle.es_model.specs.World.{World}
use Rattle.object_heap.specs.Keys.{seen_keys, units_in}
use Rattle.object_heap.specs.Seen.{seen_at}
use Rattle.object_heap.specs.Stands.{HeapView, StandsFor}
use Rattle.object_heap.proofs.KeyLists.{keys-stand}
use Rattle.object_heap.proofs.heap.Heap.keys.Goals as goal

pub returns : goal.returns
returns g c =
    let o = c.args.object in
    let e = ap (λ n. seen_keys n (seen_at c.self.inside.objects o)) c.code_units-count.ensures ∙ ap (λ (v : HeapView). seen_keys (units_in (c.args.self.now).texts (seen_at (c.args.self.now).objects o).kind) (seen_at v.objects o)) c.self.view_is in
    IfOk-weaker c.keys.result (λ keys. keys ≡ seen_keys c.code_units-count.result (seen_at c.self.inside.objects o)) (λ keys. (w : World) → StandsFor c.args.self.now w → keys ≡ own_keys w.lists o)
    (λ keys p w h. p ∙ e ∙ keys-stand _ w o h) c.keys.ensures
