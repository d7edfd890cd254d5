use Rattle.std.proofs.Common.{◌≡◌, ◌++◌, ◌∙◌, OnOk, append_assoc, subst}
use Rattle.script_generator.specs.Generated.{declaration}
use Rattle.script_generator.proofs.generating.push_declaration.Goals as goal

pub returns-in-Ok : goal.returns-in-Ok
returns-in-Ok c =
    let line : c.as_bytes.result.now ≡ declaration c.args.k = c.as_bytes.ensures.value ∙ c.in-Ok.ensures.ok ∙ simp append_assoc in
    subst (λ x. OnOk c.push.result (c.push.new.script.items ≡ c.args.script.now.items ++ x)) line c.push.ensures
