use Rattle.std.proofs.Common.{◌∙◌, append_assoc}
use Rattle.script_host.proofs.notes.not_built.Goals as goal

pub returns-in-Ok : goal.returns-in-Ok
returns-in-Ok c = c.in-Ok.ensures.ok ∙ simp append_assoc
