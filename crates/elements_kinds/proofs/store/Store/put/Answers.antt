use Rattle.std.proofs.Common.{◌≡◌, ◌||◌, nat_lt, false, subst, sym, ap, ◌∙◌, arith}
use Rattle.std.proofs.lemmas.Bool.Decides.{nat_tests}
use Rattle.elements_kinds.specs.Properties.{plain}
use Rattle.elements_kinds.specs.Rules.{View, defined, is_dictionary_after}
use Rattle.elements_kinds.specs.Sound.{IsSoundStore}
use Rattle.elements_kinds.proofs.Stores.{store_view, sound-put, view-put, stays_store}
use Rattle.elements_kinds.proofs.store.Store.put.Goals as goal
use Rattle.elements_kinds.proofs.store.Store.put.Goals.{then-self, else-self}

pub invariant_of-self-2 : goal.invariant_of-self-2
invariant_of-self-2 g c =
    subst (λ n. IsSoundStore c.put_in.new.slots.values n) (sym c.max-self-inside.ensures)
    (sound-put c.self.inside.slots.values c.self.inside.end c.self.invariant c.put_in.new.slots.values c.args.i c.args.value c.in_ok-put_in.ensures.ok (stays_store c.args.self.now c.args.i c.args.value c.requires.stays))

pub returns-clause-ok : goal.returns-clause-ok
returns-clause-ok g c =
    let vs = c.self.inside.slots.values in
    let stays : is_dictionary_after (store_view vs c.self.inside.slots.class c.self.inside.holey) c.args.i (plain c.args.value) ≡ false =
    ap (λ (v : View). is_dictionary_after v c.args.i (plain c.args.value)) c.self.view_is ∙ c.requires.stays in
    let holes : c.if-self.self ≡ (c.self.inside.holey || nat_lt c.self.inside.end c.args.i) =
    elim c.if-self.branch [ then-self w ↦ grind (arith, nat_tests, w.self-is) | else-self w ↦ grind (arith, nat_tests, w.self-is) ] in
    view-put vs c.self.inside.end c.self.invariant c.put_in.new.slots.values c.args.i c.args.value c.in_ok-put_in.ensures.ok
    c.self.inside.slots.class c.put_in.new.slots.class c.self.inside.holey c.if-self.self stays c.in_ok-put_in.ensures.class holes
    ∙ ap (λ (v : View). defined v c.args.i (plain c.args.value)) c.self.view_is
