use Rattle.std.proofs.Common.{ap, ◌∙◌}
use Rattle.property_keys.specs.Texts.{interned}
use Rattle.object_heap.specs.Stands.{HeapView}
use Rattle.object_heap.proofs.Standing.{texts-stand}
use Rattle.object_heap.proofs.Change.{goes-interned}
use Rattle.object_heap.proofs.Retaining.{retains-interned, retains-same}
use Rattle.object_heap.proofs.TextNumbers.{number-stands, table-numbered, table-same}
use Rattle.object_heap.proofs.Views.{by_texts}
use Rattle.object_heap.proofs.heap.Heap.intern.Goals as goal

pub invariant_of-self : goal.invariant_of-self
invariant_of-self c = table-same _ _ c.in_err-id.ensures c.self.invariant

pub invariant_of-self-2 : goal.invariant_of-self-2
invariant_of-self-2 c = table-numbered _ _ _ _ c.in_ok-id.ensures c.self.invariant

pub returns-clause-number : goal.returns-clause-number
returns-clause-number c = λ w h. number-stands _ _ (c.args.units) _ w.lists c.in_ok-id.ensures (c.self.invariant).one (ap (λ (v : HeapView). v.texts) c.self.view_is ∙ texts-stand _ w h)

pub returns-clause-ok : goal.returns-clause-ok
returns-clause-ok c = goes-interned _ _ (c.args.units) (by_texts (λ ts. interned ts (c.args.units)) c.self.view_is (c.in_ok-id.ensures).table)

pub returns-clause-retains : goal.returns-clause-retains
returns-clause-retains c = retains-interned _ _ (c.args.units) (by_texts (λ ts. interned ts (c.args.units)) c.self.view_is (c.in_ok-id.ensures).table)

pub returns-in_err-id-clause-retains : goal.returns-in_err-id-clause-retains
returns-in_err-id-clause-retains c = retains-same _ _ (by_texts (λ ts. ts) c.self.view_is c.in_err-id.ensures)
