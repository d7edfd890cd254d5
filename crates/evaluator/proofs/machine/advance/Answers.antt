use Rattle.std.proofs.Common.{◌+◌, length, refl, subst, sym, arith}
use Rattle.es_model.specs.Stages.{stage_of}
use Rattle.evaluator.specs.Contexts.{context}
use Rattle.evaluator.specs.Frames.{IsStacked}
use Rattle.evaluator.specs.Machine.{IsInner}
use Rattle.evaluator.specs.Plans.{job_program}
use Rattle.evaluator.proofs.Driven.{grown-length, job_step, job_stops}
use Rattle.evaluator.proofs.Sounding.{job_kept, stop_sound}
use Rattle.evaluator.proofs.Belonging.{on_ok}
use Rattle.evaluator.proofs.machine.advance.Goals as goal

pub returns-in-Err-clause-next : goal.returns-in-Err-clause-next
returns-in-Err-clause-next g c = λ S n w is same h.
    let outer = context c.args.script.now c.args.body c.args.cells.now in
    let inner = context c.args.script.now c.args.body c.job_plan.new.cells in
    let plans = rw c.in-Err.is at (c.job_plan.ensures.plans w same h) in
    job_stops (length c.args.pending.now.items + 2) outer inner S n w c.args.pending.now.items c.args.pending.now.items c.args.job c.args.heap.now c.job_plan.new.heap c.in-Err.stop is same plans

pub follow-requires-clause-fewer : goal.follow-requires-clause-fewer
follow-requires-clause-fewer g c = omega (arith, c.len-before.ensures, c.len.ensures, grown-length c.args.cells.now c.job_plan.new.cells c.in-Ok.ensures.front)

pub follow-requires-clause-stacked : goal.follow-requires-clause-stacked
follow-requires-clause-stacked g c = subst (λ d. IsStacked 0 c.args.pending.now.items d) (sym c.len-before.ensures) c.requires

pub returns-in-Ok-clause-next : goal.returns-in-Ok-clause-next
returns-in-Ok-clause-next g c = λ S n w is same h.
    let outer = context c.args.script.now c.args.body c.args.cells.now in
    let inner = context c.args.script.now c.args.body c.job_plan.new.cells in
    let plans = rw c.in-Ok.is at (c.job_plan.ensures.plans w same h) in
    let scope : IsInner outer inner = record { same = refl; front = c.in-Ok.ensures.front } in
    job_step (length c.args.pending.now.items + 2) outer inner S n w c.args.pending.now.items c.follow.new.pending.items c.args.job c.args.heap.now c.job_plan.new.heap c.follow.result is same c.requires scope
    (λ st. c.follow.ensures.next outer inner S n c.args.heap.now c.job_plan.new.heap w (stage_of (job_program outer c.args.job) w) scope c.len-before.ensures c.len.ensures st plans)

pub returns-in-Err-clause-sound : goal.returns-in-Err-clause-sound
returns-in-Err-clause-sound g c = λ w same h current items.
    let outer = context c.args.script.now c.args.body c.args.cells.now in
    let inner = context c.args.script.now c.args.body c.job_plan.new.cells in
    let plans = rw c.in-Err.is at (c.job_plan.ensures.plans w same h) in
    stop_sound outer inner inner (job_program outer c.args.job) c.args.heap.now c.job_plan.new.heap w c.args.pending.now.items c.in-Err.stop (job_kept outer w c.args.job same current) plans

pub returns-in-Ok-clause-sound : goal.returns-in-Ok-clause-sound
returns-in-Ok-clause-sound g c = λ w same h current items.
    let outer = context c.args.script.now c.args.body c.args.cells.now in
    let inner = context c.args.script.now c.args.body c.job_plan.new.cells in
    let plans = rw c.in-Ok.is at (c.job_plan.ensures.plans w same h) in
    let scope : IsInner outer inner = record { same = refl; front = c.in-Ok.ensures.front } in
    c.follow.ensures.sound outer inner (job_program outer c.args.job) c.args.heap.now c.job_plan.new.heap w scope c.len-before.ensures c.len.ensures (job_kept outer w c.args.job same current) items plans

pub returns-in-Ok-clause-named : goal.returns-in-Ok-clause-named
returns-in-Ok-clause-named g c = λ w v same hw sound hv running items.
    let plan = rw c.in-Ok.is at (c.job_plan.ensures.named w v same hw sound hv running) in c.follow.ensures.named c.args.script.now v.lists items plan

pub returns-in-Ok-clause-known : goal.returns-in-Ok-clause-known
returns-in-Ok-clause-known g c = λ w v hw hv cells. on_ok c.follow.result _ (c.in-Ok.ensures.known w v hw hv cells)
