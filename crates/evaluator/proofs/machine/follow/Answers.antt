use Rattle.std.proofs.Common.{refl, arith}
use Rattle.es_model.specs.Stages.{stage_of}
use Rattle.evaluator.specs.declared.items.Item.TheVariants as item
use Rattle.evaluator.proofs.Driven.{ask_next, end_next, enter_next, last_next, stacked_more, stacked_wait, wait_next}
use Rattle.evaluator.proofs.Sounding.{ask_sound, end_sound, enter_sound, last_sound, stopped, wait_sound}
use Rattle.evaluator.proofs.Belonging.{items_more}
use Rattle.evaluator.proofs.PlansNamed.{ask_keeps, enter_keeps, wait_keeps}
use Rattle.evaluator.proofs.machine.follow.Goals as goal

pub returns-in_ok-wait-in-Wait-clause-next : goal.returns-in_ok-wait-in-Wait-clause-next
returns-in_ok-wait-in-Wait-clause-next c = λ outer inner S n old new w stage is before long st h.
    let plans = rw c.in-Wait.is at h in
    wait_next outer inner S n old new w stage c.args.pending.now.items c.wait.new.pending.items c.in-Wait.job c.in-Wait.item c.args.depth long plans st c.in_ok-wait-in-Wait.ensures

pub returns-in_ok-wait-in-Wait-clause-sound : goal.returns-in_ok-wait-in-Wait-clause-sound
returns-in_ok-wait-in-Wait-clause-sound c = λ outer inner p old new w is before long kept items h.
    let plans = rw c.in-Wait.is at h in
    wait_sound outer inner old new w (stage_of p w) c.args.pending.now.items c.wait.new.pending.items c.in-Wait.job c.in-Wait.item c.args.depth long (stopped outer inner p w c.args.pending.now.items c.args.before is before c.requires.stacked kept items) plans c.in_ok-wait-in-Wait.ensures

pub returns-in_ok-wait-in-Wait-clause-stacked : goal.returns-in_ok-wait-in-Wait-clause-stacked
returns-in_ok-wait-in-Wait-clause-stacked c =
    let ps = c.args.pending.now.items in
    stacked_wait ps c.wait.new.pending.items c.in-Wait.item c.args.depth c.args.depth (omega arith) (stacked_more 0 ps c.args.before c.args.depth c.requires.stacked c.requires.fewer) c.in_ok-wait-in-Wait.ensures

pub returns-in_ok-wait-in-Enter-clause-next : goal.returns-in_ok-wait-in-Enter-clause-next
returns-in_ok-wait-in-Enter-clause-next c = λ outer inner S n old new w stage is before long st h.
    let plans = rw c.in-Enter.is at h in
    enter_next outer inner S n old new w stage c.args.pending.now.items c.wait-in-Enter.new.pending.items c.in-Enter.job c.in-Enter.statement c.args.before _ is before plans st c.in_ok-wait-in-Enter.ensures

pub returns-in_ok-wait-in-Enter-clause-sound : goal.returns-in_ok-wait-in-Enter-clause-sound
returns-in_ok-wait-in-Enter-clause-sound c = λ outer inner p old new w is before long kept items h.
    let plans = rw c.in-Enter.is at h in
    enter_sound outer inner old new w (stage_of p w) c.args.pending.now.items c.wait-in-Enter.new.pending.items c.in-Enter.job c.in-Enter.statement c.args.before _ is before (stopped outer inner p w c.args.pending.now.items c.args.before is before c.requires.stacked kept items) plans c.in_ok-wait-in-Enter.ensures

pub returns-in_ok-wait-in-Enter-clause-stacked : goal.returns-in_ok-wait-in-Enter-clause-stacked
returns-in_ok-wait-in-Enter-clause-stacked c =
    stacked_wait c.args.pending.now.items c.wait-in-Enter.new.pending.items (item.Statement c.in-Enter.statement) c.args.before c.args.depth c.requires.fewer c.requires.stacked c.in_ok-wait-in-Enter.ensures

pub returns-in-Last : goal.returns-in-Last
returns-in-Last c = record {
  next = λ outer inner S n old new w stage is before long st h.
      let plans = rw c.in-Last.is at h in
      last_next outer inner S n old new w stage c.args.pending.now.items c.args.pending.now.items c.in-Last.job refl plans st;
  sound = λ outer inner p old new w is before long kept items h.
      let plans = rw c.in-Last.is at h in
      last_sound outer inner old new w (stage_of p w) c.args.pending.now.items c.in-Last.job (stopped outer inner p w c.args.pending.now.items c.args.before is before c.requires.stacked kept items) plans;
  named = λ script l items h. items;
  stacked = stacked_more 0 c.args.pending.now.items c.args.before c.args.depth c.requires.stacked c.requires.fewer;
}

pub returns-in-Ask : goal.returns-in-Ask
returns-in-Ask c = record {
  next = λ outer inner S n old new w stage is before long st h.
      let plans = rw c.in-Ask.is at h in ask_next outer inner S n old new w stage c.args.pending.now.items c.in-Ask.request c.in-Ask.asked plans st;
  sound = λ outer inner p old new w is before long kept items h.
      let plans = rw c.in-Ask.is at h in
      ask_sound outer inner old new w (stage_of p w) c.args.pending.now.items c.in-Ask.request c.in-Ask.asked (stopped outer inner p w c.args.pending.now.items c.args.before is before c.requires.stacked kept items) plans;
  named = λ script l items h. let k = ask_keeps script l _ _ (rw c.in-Ask.is at h) in (k.0, k.1, items);
  stacked = stacked_more 0 c.args.pending.now.items c.args.before c.args.depth c.requires.stacked c.requires.fewer;
}

pub returns-in-Ends : goal.returns-in-Ends
returns-in-Ends c = record {
  next = λ outer inner S n old new w stage is before long st h.
      let plans = rw c.in-Ends.is at h in end_next outer inner S n old new w stage c.args.pending.now.items c.in-Ends.end plans st;
  sound = λ outer inner p old new w is before long kept items h.
      let plans = rw c.in-Ends.is at h in
      end_sound outer inner old new w (stage_of p w) c.args.pending.now.items c.in-Ends.end (stopped outer inner p w c.args.pending.now.items c.args.before is before c.requires.stacked kept items) plans;
  named = λ script l items h. items;
  stacked = stacked_more 0 c.args.pending.now.items c.args.before c.args.depth c.requires.stacked c.requires.fewer;
}

pub returns-in_ok-wait-in-Wait-clause-named : goal.returns-in_ok-wait-in-Wait-clause-named
returns-in_ok-wait-in-Wait-clause-named c = λ script l items h.
    let k = rw c.in-Wait.is at h in
    items_more script l c.args.pending.now.items c.wait.new.pending.items (record { item = c.in-Wait.item; depth = c.args.depth }) c.in_ok-wait-in-Wait.ensures items (wait_keeps script l _ _ k)

pub returns-in_ok-wait-in-Enter-clause-named : goal.returns-in_ok-wait-in-Enter-clause-named
returns-in_ok-wait-in-Enter-clause-named c = λ script l items h.
    let k = rw c.in-Enter.is at h in
    items_more script l c.args.pending.now.items c.wait-in-Enter.new.pending.items (record { item = item.Statement c.in-Enter.statement; depth = c.args.before }) c.in_ok-wait-in-Enter.ensures items (enter_keeps script l _ _ _ k)
