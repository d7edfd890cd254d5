use Rattle.std.proofs.Common.{ap, ◌∙◌, length, ◌++◌, ◌∷◌, []}
use Rattle.object_heap.specs.Stands.{HeapView}
use Rattle.object_heap.proofs.Standing.{symbols-stand}
use Rattle.object_heap.proofs.Change.{goes-symbol}
use Rattle.object_heap.proofs.Retaining.{retains-symbol, retains-same}
use Rattle.object_heap.proofs.Views.{by_symbols}
use Rattle.object_heap.proofs.heap.Heap.make_symbol.Goals as goal

pub returns-clause-symbol : goal.returns-clause-symbol
returns-clause-symbol c = λ w h. ap (λ n. record { 0 = n }) (c.in_ok-symbol.ensures.0 ∙ ap (λ (v : HeapView). length v.symbols) c.self.view_is ∙ ap length (symbols-stand _ w h))

pub returns-clause-ok : goal.returns-clause-ok
returns-clause-ok c = goes-symbol _ _ c.args.description (by_symbols (λ ss. ss ++ c.args.description ∷ []) c.self.view_is c.in_ok-symbol.ensures.1)

pub returns-clause-retains : goal.returns-clause-retains
returns-clause-retains c = retains-symbol _ _ c.args.description (by_symbols (λ ss. ss ++ c.args.description ∷ []) c.self.view_is c.in_ok-symbol.ensures.1)

pub returns-in_err-symbol-clause-retains : goal.returns-in_err-symbol-clause-retains
returns-in_err-symbol-clause-retains c = retains-same _ _ (by_symbols (λ ss. ss) c.self.view_is c.in_err-symbol.ensures)
