use Rattle.std.proofs.Common.{false, ◌∙◌}
use Rattle.elements_kinds.proofs.Stores.{store_view, empty_view}
use Rattle.elements_kinds.proofs.store.Store.empty.Goals as goal

pub returns : goal.returns
returns c = (λ t. store_view (c.in_ok-slots.ensures.values t) (c.in_ok-slots.ensures.class t) false) ∙ empty_view
