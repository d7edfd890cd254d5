use Rattle.std.proofs.Common.{◌∙◌, sym, ap, length}
use Rattle.script_rules.proofs.NameTables.{length-bounds_of}
use Rattle.script_rules.proofs.scope_names.ScopeNames.len.Goals as goal

pub returns : goal.returns
returns c = c.len.ensures.len ∙ sym (length-bounds_of c.self.inside.table.entries) ∙ ap length c.self.view_is
