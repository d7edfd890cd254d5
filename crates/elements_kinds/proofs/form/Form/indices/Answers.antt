use Rattle.std.proofs.Common.{sym, ap, ◌∙◌}
use Rattle.std.specs.FinMap as map_of
use Rattle.slot_storage.specs.Steps.{counted_times}
use Rattle.elements_kinds.specs.Forms.{view_of}
use Rattle.elements_kinds.specs.Steps.{steps_to_list}
use Rattle.elements_kinds.specs.declared.form.Form.{Form}
use Rattle.elements_kinds.proofs.Listed.{keys_empty, end_empty}
use Rattle.elements_kinds.proofs.Steps.{none_counted}
use Rattle.elements_kinds.proofs.form.Form.indices.Goals as goal

pub returns-in-Empty-clause-ok : goal.returns-in-Empty-clause-ok
returns-in-Empty-clause-ok g c = c.new.ensures ∙ sym keys_empty ∙ ap (λ (f : Form). map_of.keys (view_of f).properties) (sym c.in-Empty.is)

pub returns-in-Empty-clause-ok_steps : goal.returns-in-Empty-clause-ok_steps
returns-in-Empty-clause-ok_steps g c =
    sym (none_counted (g.L.Ledger.ticks c.args.steps.now))
    ∙ ap (λ n. counted_times n (g.L.Ledger.ticks c.args.steps.now)) (sym end_empty)
    ∙ ap (λ f. counted_times (steps_to_list (view_of f)) (g.L.Ledger.ticks c.args.steps.now)) (sym c.in-Empty.is)
