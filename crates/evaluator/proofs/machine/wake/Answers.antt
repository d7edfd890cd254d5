use Rattle.std.proofs.Common.{◌+◌, length, take, sym, subst, refl, arith, Ok, Err}
use Rattle.std.proofs.lemmas.List.{length-take-le}
use Rattle.es_model.specs.Stages.{stage_of}
use Rattle.evaluator.specs.Contexts.{context}
use Rattle.evaluator.specs.Machine.{IsInner, within}
use Rattle.evaluator.specs.Plans.{Plans, ended, item_program}
use Rattle.evaluator.proofs.Driven.{grown-length, item_step, item_stops}
use Rattle.evaluator.proofs.Sounding.{item_kept, items_cut, stop_sound}
use Rattle.evaluator.proofs.Belonging.{cut_there, on_ok}
use Rattle.evaluator.proofs.machine.wake.Goals as goal

pub returns-in-Err-clause-next : goal.returns-in-Err-clause-next
returns-in-Err-clause-next g c = λ S n w same h.
    let here = context c.args.script.now c.args.body c.args.cells.now in
    let inner = context c.args.script.now c.args.body c.item_plan.new.cells in
    let plans = subst (λ x. Plans (context c.args.script.now c.args.body x) inner c.args.heap.now c.item_plan.new.heap w (stage_of (item_program (context c.args.script.now c.args.body x) c.args.entry.item (ended c.args.end)) w) (Err c.in-Err.stop))
    c.truncate.ensures (rw c.in-Err.is at (c.item_plan.ensures.plans w h)) in
    item_stops (length c.args.pending.now.items + 2) here inner S n w c.args.pending.now.items c.args.pending.now.items c.args.entry c.args.end c.args.heap.now c.item_plan.new.heap c.in-Err.stop c.requires.stacked c.requires.high plans

pub follow-requires-clause-fewer : goal.follow-requires-clause-fewer
follow-requires-clause-fewer g c =
    let front = rw c.truncate.ensures at c.in-Ok.ensures.front in
    let longer = grown-length (take c.args.entry.depth c.args.cells.now) c.item_plan.new.cells front in
    let cut = length-take-le c.args.entry.depth c.args.cells.now c.requires.high in omega (arith, longer, cut, c.len.ensures)

pub returns-in-Ok-clause-next : goal.returns-in-Ok-clause-next
returns-in-Ok-clause-next g c = λ S n w same h.
    let here = context c.args.script.now c.args.body c.args.cells.now in
    let cut = within here c.args.entry.depth in
    let inner = context c.args.script.now c.args.body c.item_plan.new.cells in
    let plans = subst (λ x. Plans (context c.args.script.now c.args.body x) inner c.args.heap.now c.item_plan.new.heap w (stage_of (item_program (context c.args.script.now c.args.body x) c.args.entry.item (ended c.args.end)) w) (Ok c.in-Ok.plan))
    c.truncate.ensures (rw c.in-Ok.is at (c.item_plan.ensures.plans w h)) in
    let front = rw c.truncate.ensures at c.in-Ok.ensures.front in
    let scope : IsInner cut inner = record { same = refl; front = front } in
    item_step (length c.args.pending.now.items + 2) here inner S n w c.args.pending.now.items c.follow.new.pending.items c.args.entry c.args.end c.args.heap.now c.item_plan.new.heap c.follow.result c.requires.stacked c.requires.high scope
    (λ st. c.follow.ensures.next cut inner S n c.args.heap.now c.item_plan.new.heap w (stage_of (item_program cut c.args.entry.item (ended c.args.end)) w) scope (sym (length-take-le c.args.entry.depth c.args.cells.now c.requires.high)) c.len.ensures st plans)

pub returns-in-Err-clause-sound : goal.returns-in-Err-clause-sound
returns-in-Err-clause-sound g c = λ w h current keeps items.
    let here = context c.args.script.now c.args.body c.args.cells.now in
    let cut = within here c.args.entry.depth in
    let inner = context c.args.script.now c.args.body c.item_plan.new.cells in
    let kept = item_kept here w c.args.entry c.args.end keeps current in
    let plans = subst (λ x. Plans (context c.args.script.now c.args.body x) inner c.args.heap.now c.item_plan.new.heap w (stage_of (item_program (context c.args.script.now c.args.body x) c.args.entry.item (ended c.args.end)) w) (Err c.in-Err.stop))
    c.truncate.ensures (rw c.in-Err.is at (c.item_plan.ensures.plans w h)) in
    stop_sound cut inner inner (item_program cut c.args.entry.item (ended c.args.end)) c.args.heap.now c.item_plan.new.heap w c.args.pending.now.items c.in-Err.stop kept plans

pub returns-in-Ok-clause-sound : goal.returns-in-Ok-clause-sound
returns-in-Ok-clause-sound g c = λ w h current keeps items.
    let here = context c.args.script.now c.args.body c.args.cells.now in
    let cut = within here c.args.entry.depth in
    let inner = context c.args.script.now c.args.body c.item_plan.new.cells in
    let kept = item_kept here w c.args.entry c.args.end keeps current in
    let plans = subst (λ x. Plans (context c.args.script.now c.args.body x) inner c.args.heap.now c.item_plan.new.heap w (stage_of (item_program (context c.args.script.now c.args.body x) c.args.entry.item (ended c.args.end)) w) (Ok c.in-Ok.plan))
    c.truncate.ensures (rw c.in-Ok.is at (c.item_plan.ensures.plans w h)) in
    let front = rw c.truncate.ensures at c.in-Ok.ensures.front in
    let scope : IsInner cut inner = record { same = refl; front = front } in
    c.follow.ensures.sound cut inner (item_program cut c.args.entry.item (ended c.args.end)) c.args.heap.now c.item_plan.new.heap w scope (sym (length-take-le c.args.entry.depth c.args.cells.now c.requires.high)) c.len.ensures kept
    (items_cut here c.args.entry.depth w c.args.pending.now.items c.requires.high c.requires.stacked items) plans

pub returns-in-Ok-clause-named : goal.returns-in-Ok-clause-named
returns-in-Ok-clause-named g c = λ w v hw sound hv names end items.
    let plan = rw c.in-Ok.is at (c.item_plan.ensures.named w v hw sound hv names end) in c.follow.ensures.named c.args.script.now v.lists items plan

pub returns-in-Ok-clause-known : goal.returns-in-Ok-clause-known
returns-in-Ok-clause-known g c = λ w v hw hv cells.
    on_ok c.follow.result _ (c.in-Ok.ensures.known w v hw hv (cut_there v.lists c.args.cells.now c.truncate.new.self c.args.entry.depth c.truncate.ensures cells))
