use Rattle.std.proofs.Common.{◌≡◌, ◌&&◌, ◌==◌, ◌∙◌, sym, false}
use Rattle.std.proofs.lemmas.Bool.{and_left, and_right, ne_eqb}
use Rattle.script_syntax.proofs.Lines.{held_other, held_feed, held_line}
use Rattle.script_syntax.proofs.positions.Position.past_one.Goals as goal
use Rattle.script_syntax.proofs.positions.Position.past_one.Goals.{else-self-via-then-self+else-character-eq10, else-self-via-else-self}

pub returns-then-not-is_line_terminator-clause-place : goal.returns-then-not-is_line_terminator-clause-place
returns-then-not-is_line_terminator-clause-place c = λ before at.
    held_other _ before _ _ at (sym c.is_line_terminator.ensures ∙ c.if-not-is_line_terminator.true) c.len_utf8.ensures.value

pub returns-then-character-eq10-clause-place : goal.returns-then-character-eq10-clause-place
returns-then-character-eq10-clause-place c = λ before at.
    held_feed _ before _ at c.if-self.true c.if-character-eq10.true

pub returns-clause-place : goal.returns-clause-place
returns-clause-place c = λ before at.
    let alone : (c.args.self.after_return && (c.args.character == 0xA)) ≡ false =
    elim c.else-self.branch [
      | else-self-via-then-self+else-character-eq10 w ↦ and_right _ _ (ne_eqb _ 0xA w.if-character-eq10.false)
      | else-self-via-else-self w ↦ and_left _ _ w.if-self.false
    ] in
    held_line _ before _ at (sym c.is_line_terminator.ensures ∙ c.if-not-is_line_terminator.false) alone
