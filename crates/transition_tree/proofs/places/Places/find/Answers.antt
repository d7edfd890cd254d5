use Rattle.std.proofs.Common.{rules, sym, true≢false}
use Rattle.transition_tree.proofs.Lookups.{found_at, unknown}
use Rattle.transition_tree.specs.Edges.{IsPlaceOf}
use Rattle.transition_tree.proofs.places.Places.find.Goals as goal

pub returns-in-Some-clause-found : goal.returns-in-Some-clause-found
returns-in-Some-clause-found c = rw (← c.self.view_is) (found_at _ _ _ (sym c.in-Some.ensures.index))

pub returns-in-Some-clause-none : goal.returns-in-Some-clause-none
returns-in-Some-clause-none c =
    let here : IsPlaceOf c.args.self.now c.args.edge c.in-Some.index = rw (← c.self.view_is) (found_at _ _ _ (sym c.in-Some.ensures.index)) in
    (λ e. absurd (true≢false e), λ none. absurd (none c.in-Some.index here.known here.here))

pub returns-in-None-clause-none : goal.returns-in-None-clause-none
returns-in-None-clause-none c =
    (λ e. rw (← c.self.view_is) (unknown c.self.inside.edges.keys c.args.edge (sym c.in-None.ensures.found)), λ none. search rules)
