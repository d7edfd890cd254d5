use Rattle.std.proofs.Common.{◌-◌, ◌∙◌, ap, arith, refl}
use Rattle.std.proofs.lemmas.Bool.Decides.{nat_tests}
use Rattle.object_heap.specs.Stands.{HeapView, beside}
use Rattle.object_heap.proofs.Standing.{turns-stand}
use Rattle.object_heap.proofs.Change.{goes-charged, goes-same, on_err-always}
use Rattle.object_heap.proofs.Retaining.{retains-turns}
use Rattle.object_heap.proofs.Views.{by_turns}
use Rattle.object_heap.proofs.heap.Heap.charge.Goals as goal

pub returns-clause-ok : goal.returns-clause-ok
returns-clause-ok c = λ w h.
    let e = ap (λ (v : HeapView). v.turns) c.self.view_is ∙ turns-stand _ w h in
    let t = c.in_ok-charge.ensures.ok in
    (grind (arith, nat_tests), goes-charged c.args.self.now _ c.args.n (by_turns (λ t. t - c.args.n) c.self.view_is (omega arith)) w h)

pub returns-clause-retains : goal.returns-clause-retains
returns-clause-retains c = retains-turns _ _ c.charge.new.self (by_turns (λ t. c.charge.new.self) c.self.view_is refl)

pub returns-in_err-charge-clause-halted : goal.returns-in_err-charge-clause-halted
returns-in_err-charge-clause-halted c = on_err-always c.from_residual.result (λ w h.
    let e = ap (λ (v : HeapView). v.turns) c.self.view_is ∙ turns-stand _ w h in
    let t = c.in_err-charge.ensures.halted in
    (grind (arith, nat_tests), goes-same c.args.self.now _ (ap (λ (v : HeapView). v.objects) c.self.view_is) (ap beside (by_turns (λ t. t) c.self.view_is c.in_err-charge.ensures.err)) w h))

pub returns-in_err-charge-clause-retains : goal.returns-in_err-charge-clause-retains
returns-in_err-charge-clause-retains c = retains-turns _ _ c.charge.new.self (by_turns (λ t. c.charge.new.self) c.self.view_is refl)
