use Rattle.std.proofs.Common.{◌≡◌, ◌<◌, ◌≤◌, ◌+◌, ◌++◌, cond, is_some, length, take, sym, ap, ◌∙◌, arith}
use Rattle.std.specs.FinMap as map_of
use Rattle.property_keys.specs.Counts.{counted}
use Rattle.slot_storage.specs.Steps.{counted_times}
use Rattle.elements_kinds.specs.Properties.{properties_of}
use Rattle.elements_kinds.specs.Rules.{View, end_of}
use Rattle.elements_kinds.specs.Steps.{steps_to_list}
use Rattle.elements_kinds.proofs.Stores.{store_view, is_dictionary-kind_of}
use Rattle.elements_kinds.proofs.Listed.{end_sound, end_within, keys_more, keys_none, listed_front, where_present}
use Rattle.elements_kinds.proofs.Steps.{always, none_counted, one_more, front_counted}
use Rattle.elements_kinds.proofs.store.Store.indices.Goals as goal

pub loop-i-init : goal.loop-i-init
loop-i-init g c = record {
  list = c.new-list.ensures ∙ sym keys_none;
  steps = sym (none_counted (g.L.Ledger.ticks c.args.steps.now));
}

pub loop-i-preserved : goal.loop-i-preserved
loop-i-preserved g c =
    let vs = c.self.inside.slots.values in
    let end : c.self.inside.end ≤ length vs = end_within vs c.self.inside.end c.self.invariant in
    let inside : c.loop-i.i < length vs = omega arith in
    record {
      list =
          c.in_ok-push_present.ensures
          ∙ (λ t. c.loop-i.invariant.list t ++ where_present ((c.is_some.ensures ∙ ap is_some c.get.ensures.value) t) c.loop-i.i)
          ∙ keys_more vs c.loop-i.i inside;
      steps = c.get.ensures.steps ∙ ap counted c.loop-i.invariant.steps ∙ one_more c.loop-i.i (g.L.Ledger.ticks c.args.steps.now);
    }

pub returns-in_err-push_present-clause-err_steps : goal.returns-in_err-push_present-clause-err_steps
returns-in_err-push_present-clause-err_steps g c =
    let vs = c.self.inside.slots.values in
    let end : end_of c.args.self.now.properties ≡ c.self.inside.end = ap (λ (v : View). end_of v.properties) (sym c.self.view_is) ∙ end_sound vs c.self.inside.end c.self.invariant in
    let counts = c.get.ensures.steps ∙ ap counted c.loop-i.invariant.steps ∙ one_more c.loop-i.i (g.L.Ledger.ticks c.args.steps.now) in
    always c.from_residual.result
    (front_counted (c.loop-i.i + 1) (end_of c.args.self.now.properties) (g.L.Ledger.ticks c.args.steps.now) (g.L.Ledger.ticks c.get.new.steps) counts (omega arith))

pub returns-clause-ok : goal.returns-clause-ok
returns-clause-ok g c =
    let vs = c.self.inside.slots.values in
    let all : c.loop-i.i ≡ c.self.inside.end = omega arith in
    c.loop-i.invariant.list ∙ ap (λ n. map_of.keys (properties_of (take n vs))) all ∙ ap map_of.keys (listed_front vs c.self.inside.end c.self.invariant.past)
    ∙ ap (λ (v : View). map_of.keys v.properties) c.self.view_is

pub returns-clause-ok_steps : goal.returns-clause-ok_steps
returns-clause-ok_steps g c =
    let vs = c.self.inside.slots.values in
    let all : c.loop-i.i ≡ c.self.inside.end = omega arith in
    let listed : steps_to_list (store_view vs c.self.inside.slots.class c.self.inside.holey) ≡ end_of (properties_of vs) =
    ap (λ b. cond b 0 (end_of (properties_of vs))) (is_dictionary-kind_of c.self.inside.slots.class c.self.inside.holey) in
    c.loop-i.invariant.steps
    ∙ ap (λ n. counted_times n (g.L.Ledger.ticks c.args.steps.now)) (all ∙ sym (end_sound vs c.self.inside.end c.self.invariant) ∙ sym listed ∙ ap steps_to_list c.self.view_is)
