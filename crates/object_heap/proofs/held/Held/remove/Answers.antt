use Rattle.std.proofs.Common.{ap, ◌∙◌}
use Rattle.es_model.specs.Objects.{Object, with_properties}
use Rattle.object_heap.specs.Seen.{seen, seen_removed}
use Rattle.object_heap.proofs.SeenFacts.{seen-removed}
use Rattle.object_heap.proofs.held.Held.remove.Goals as goal

pub returns : goal.returns
returns c =
    let h = c.self.inside in
    let o : Object = record { kind = h.kind; proto = h.proto; extensible = h.extensible; properties = h.properties.items } in
    ap (λ ps. seen (with_properties o ps)) c.take_out.ensures ∙ seen-removed o c.args.key ∙ ap (λ s. seen_removed s c.args.key) c.self.view_is
