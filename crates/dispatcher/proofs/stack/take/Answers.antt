use Rattle.std.proofs.Common.{◌+◌, length}
use Rattle.dispatcher.proofs.Steps.{ask_leads, done_leads, stop_leads}
use Rattle.dispatcher.proofs.stack.take.Goals as goal

pub returns-in_ok-wait-in-Ok-Ask : goal.returns-in_ok-wait-in-Ok-Ask
returns-in_ok-wait-in-Ok-Ask c = λ script S o old new w turn.
    let asks = rw (c.in-Ok-Ask.is, c.in-Ok-Ask.field-0-is) at turn in
    ask_leads script S c.args.stack.now.items c.wait.new.stack.items o old new w c.in-Ok-Ask.request c.in-Ok-Ask.frame c.args.nested asks c.in_ok-wait-in-Ok-Ask.ensures

pub returns-in-Err : goal.returns-in-Err
returns-in-Err c = λ script S o old new w turn.
    let stops = rw c.in-Err.is at turn in
    stop_leads script S (length c.args.stack.now.items + 2) c.args.stack.now.items c.args.stack.now.items o old new w c.in-Err.stop c.args.nested stops

pub returns-in-Ok-Done : goal.returns-in-Ok-Done
returns-in-Ok-Done c = λ script S o old new w turn.
    let ends = rw (c.in-Ok-Done.is, c.in-Ok-Done.field-0-is) at turn in
    done_leads script S c.args.stack.now.items o old new w c.in-Ok-Done.answer c.args.nested ends
