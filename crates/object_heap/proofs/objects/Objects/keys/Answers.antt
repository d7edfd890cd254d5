use Rattle.std.proofs.Common.{◌≡◌, ◌∙◌, [], ap, sym}
use Rattle.std.proofs.lemmas.Result.{IfOk-weaker}
use Rattle.es_model.specs.Objects.{no_object}
use Rattle.object_heap.specs.Keys.{listed_keys, seen_keys}
use Rattle.object_heap.specs.Seen.{seen_at}
use Rattle.object_heap.proofs.KeyLists.{listed-seen}
use Rattle.object_heap.proofs.objects.Objects.keys.Goals as goal

pub returns-in-None : goal.returns-in-None
returns-in-None c =
    let e = listed-seen c.args.count no_object ∙ sym (ap (seen_keys c.args.count) c.in-None.ensures) in
    IfOk-weaker c.keys_of.result (λ keys. keys ≡ listed_keys c.args.count []) (λ keys. keys ≡ seen_keys c.args.count (seen_at c.args.self.now c.args.object)) (λ keys p. p ∙ e) c.keys_of.ensures
