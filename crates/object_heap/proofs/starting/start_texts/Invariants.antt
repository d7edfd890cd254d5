use Rattle.std.proofs.Common.{◌≡◌, ◌≤◌, ◌-◌, drop}
use Rattle.es_model.specs.StartTexts.{start_texts}
use Rattle.object_heap.proofs.StartLists.{interned_all}
use Rattle.object_heap.proofs.starting.start_texts.Given as goal

abbrev pub invariant-loop-text : goal.invariant-loop-text
invariant-loop-text l = (l.n ≤ 37) × (interned_all l.texts (drop l.n start_texts) ≡ start_texts)

abbrev pub decreases-loop-text : goal.decreases-loop-text
decreases-loop-text l = 37 - l.n
