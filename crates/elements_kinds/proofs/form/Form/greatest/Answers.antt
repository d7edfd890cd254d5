use Rattle.std.proofs.Common.{sym, ap, ◌∙◌}
use Rattle.std.specs.FinMap as map_of
use Rattle.elements_kinds.specs.Forms.{view_of}
use Rattle.elements_kinds.specs.Rules.{greatest_of}
use Rattle.elements_kinds.specs.declared.form.Form.{Form}
use Rattle.elements_kinds.proofs.FiniteMaps.{greatest_none}
use Rattle.elements_kinds.proofs.Listed.{end_empty}
use Rattle.elements_kinds.proofs.form.Form.greatest.Goals as goal

pub returns-in-Empty : goal.returns-in-Empty
returns-in-Empty c = sym (greatest_none map_of.empty end_empty) ∙ ap (λ (f : Form). greatest_of (view_of f).properties) (sym c.in-Empty.is)
