use Rattle.std.proofs.Common.{Some, None, sym}
use Rattle.script_parser.proofs.Ends.{end_whole, end_cut, end_around, end_smaller, shift_tried}
use Rattle.script_parser.proofs.parser.Parser.end.Goals as goal

pub returns-in-Some : goal.returns-in-Some
returns-in-Some c =
    end_whole c.args.self.now c.loop-self.self c.settle.new.self c.in-Some.root c.loop-self.invariant c.in_ok-settle.ensures.settled (sym c.in-Some.ensures)

pub returns-in-None-2 : goal.returns-in-None-2
returns-in-None-2 c =
    end_cut c.args.self.now c.loop-self.self c.settle.new.self c.shift.new.self c.loop-self.invariant c.in_ok-settle.ensures.settled c.in_ok-settle.ensures.firm
    (sym c.in-None.ensures)
    (shift_tried c.loop-self.self c.settle.new.self c.shift.new.self c.in_ok-shift.field-0 None c.in-None-2.is c.in_ok-settle.ensures.settled c.in_ok-shift.ensures)

pub loop-self-smaller : goal.loop-self-smaller
loop-self-smaller c =
    end_smaller c.loop-self.self c.shift.new.self c.in-Some-2.field-0
    (shift_tried c.loop-self.self c.settle.new.self c.shift.new.self c.in_ok-shift.field-0 (Some c.in-Some-2.field-0) c.in-Some-2.is c.in_ok-settle.ensures.settled c.in_ok-shift.ensures)

pub loop-self-preserved : goal.loop-self-preserved
loop-self-preserved c =
    end_around c.args.self.now c.loop-self.self c.settle.new.self c.shift.new.self c.in-Some-2.field-0 c.loop-self.invariant c.in_ok-settle.ensures.settled c.in_ok-settle.ensures.firm
    (sym c.in-None.ensures)
    (shift_tried c.loop-self.self c.settle.new.self c.shift.new.self c.in_ok-shift.field-0 (Some c.in-Some-2.field-0) c.in-Some-2.is c.in_ok-settle.ensures.settled c.in_ok-shift.ensures)
