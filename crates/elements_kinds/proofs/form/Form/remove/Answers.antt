use Rattle.std.proofs.Common.{sym, ap, ◌∙◌}
use Rattle.elements_kinds.specs.Forms.{view_of}
use Rattle.elements_kinds.specs.Rules.{removed}
use Rattle.elements_kinds.proofs.Stores.{start_removed}
use Rattle.elements_kinds.proofs.form.Form.remove.Goals as goal

pub returns-in-Empty-clause-view : goal.returns-in-Empty-clause-view
returns-in-Empty-clause-view g c = ap view_of c.in-Empty.is ∙ start_removed c.args.i ∙ ap (λ f. removed (view_of f) c.args.i) (sym c.in-Empty.is)
