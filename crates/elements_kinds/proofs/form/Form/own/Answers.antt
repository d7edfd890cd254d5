use Rattle.std.proofs.Common.{sym, ap, ◌∙◌, nat_cmp}
use Rattle.std.specs.FinMap as map_of
use Rattle.std.specs.FinMap.{get-empty}
use Rattle.elements_kinds.specs.Forms.{view_of}
use Rattle.elements_kinds.specs.declared.form.Form.{Form}
use Rattle.elements_kinds.proofs.form.Form.own.Goals as goal

pub returns-in-Empty-clause-property : goal.returns-in-Empty-clause-property
returns-in-Empty-clause-property g c = sym (get-empty nat_cmp c.args.i) ∙ ap (λ (f : Form). map_of.get (view_of f).properties c.args.i) (sym c.in-Empty.is)
