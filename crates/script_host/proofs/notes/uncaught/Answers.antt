use Rattle.std.proofs.Common.{◌≡◌, ◌++◌, ◌∙◌, List, ℕ, ap, codes}
use Rattle.script_host.specs.Uncaught.{uncaught_text}
use Rattle.script_host.proofs.notes.uncaught.Goals as goal

pub returns : goal.returns
returns g c = λ w h.
    let said : List ℕ = codes "hcjs: uncaught " in
    let first : c.push.new.bytes.items ≡ said = c.in_ok-push.ensures ∙ ap (λ x. x ++ said) c.new-note.ensures.items in
    let next : c.push_uncaught.new.bytes.items ≡ said ++ uncaught_text w.lists c.args.value = c.in_ok-push_uncaught.ensures w h ∙ ap (λ x. x ++ uncaught_text w.lists c.args.value) first in
    c.in_ok-push-2.ensures ∙ ap (λ x. x ++ codes "\n") next
