use Rattle.std.proofs.Common.{ap, sym, ◌∙◌}
use Rattle.es_model.specs.Objects.{Object, with_properties}
use Rattle.object_heap.specs.Seen.{seen, find_seen, seen_added}
use Rattle.object_heap.proofs.SeenFacts.{find-seen, seen-added}
use Rattle.object_heap.proofs.held.Held.add.Goals.{in-Ok, in-Err}
use Rattle.object_heap.proofs.held.Held.add.Goals as goal

pub returns-clause-ok : goal.returns-clause-ok
returns-clause-ok c =
    let h = c.self.inside in
    let o : Object = record { kind = h.kind; proto = h.proto; extensible = h.extensible; properties = h.properties.items } in
    let absent = sym (find-seen o c.args.key) ∙ ap (λ s. find_seen s c.args.key) c.self.view_is ∙ c.requires in
    elim c.match-push.branch [
      | in-Ok w ↦ rw w.result-is (ap (λ ps. seen (with_properties o ps)) w.in-Ok.ensures.items ∙ seen-added o c.args.key c.args.complete absent ∙ ap (λ s. seen_added s c.args.key c.args.complete) c.self.view_is)
      | in-Err w ↦ rw w.result-is tt
    ]
