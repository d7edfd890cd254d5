use Rattle.std.proofs.Common.{◌≡◌, ◌∙◌, ap}
use Rattle.std.proofs.lemmas.Result.{IfOk-weaker}
use Rattle.es_model.specs.Objects.{Object}
use Rattle.object_heap.specs.Keys.{listed_keys, seen_keys}
use Rattle.object_heap.proofs.KeyLists.{listed-seen}
use Rattle.object_heap.proofs.held.Held.keys.Goals as goal

pub returns : goal.returns
returns c =
    let h = c.self.inside in
    let o : Object = record { kind = h.kind; proto = h.proto; extensible = h.extensible; properties = h.properties.items } in
    let e = ap (listed_keys c.args.count) c.deref.ensures.value ∙ listed-seen c.args.count o ∙ ap (seen_keys c.args.count) c.self.view_is in
    IfOk-weaker c.keys_of.result (λ keys. keys ≡ listed_keys c.args.count c.deref.result.now) (λ keys. keys ≡ seen_keys c.args.count c.args.self.now) (λ keys p. p ∙ e) c.keys_of.ensures
