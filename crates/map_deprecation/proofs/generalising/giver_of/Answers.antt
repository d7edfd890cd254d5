use Rattle.std.proofs.Common.{sym, subst, ◌∙◌}
use Rattle.std.proofs.lemmas.Bool.{false≢true}
use Rattle.map_store.specs.declared.entries.Entry.{Entry}
use Rattle.map_deprecation.specs.Generalising.{Names}
use Rattle.map_deprecation.proofs.Givers.{goes-back, is-giver}
use Rattle.map_deprecation.proofs.generalising.giver_of.Goals as goal

pub returns-then-is_named-clause-giver : goal.returns-then-is_named-clause-giver
returns-then-is_named-clause-giver g c =
    is-giver c.args.tree.now c.args.maps.now c.requires.together c.args.map c.loop-parent.at c.in-Some.parent c.in-Some.step c.args.i c.loop-parent.invariant c.in-Some.ensures
    (subst (λ (e : Entry). Names c.in-Some.step e.key) c.entry-key.ensures.value (c.is_named.ensures.0 c.if-is_named.true))

pub loop-parent-preserved : goal.loop-parent-preserved
loop-parent-preserved g c =
    goes-back c.args.tree.now c.args.maps.now c.requires.together c.args.map c.loop-parent.at c.in-Some.parent c.in-Some.step c.args.i c.loop-parent.invariant c.in-Some.ensures
    (λ named. false≢true (sym c.if-is_named.false ∙ c.is_named.ensures.1 (subst (λ (e : Entry). Names c.in-Some.step e.key) (sym c.entry-key.ensures.value) named)))
