use Rattle.std.proofs.Common.{◌∙◌, ap, refl}
use Rattle.script_rules.specs.declared.role.Role.TheVariants as role
use Rattle.script_rules.specs.Arena.{tree_at}
use Rattle.script_rules.specs.Scopes.{script_scope}
use Rattle.script_checker.specs.declared.tasks.Setting.{Setting}
use Rattle.script_checker.specs.Machine.{around_of}
use Rattle.script_checker.proofs.Checked.{around_entered, good}
use Rattle.script_checker.proofs.checking.checked_tree.Goals as goal

pub finished-requires : goal.finished-requires
finished-requires c =
    let s = c.args.script.now in
    let x = tree_at s.nodes c.root-root.result in
    let empty = c.new-machine.ensures in
    let set : Setting = record { scope = c.in_ok-enter.field-0; strict = c.in_ok-strict.strict; role = role.Plain } in
    let names = c.in_ok-scope.ensures ∙ ap (script_scope s.leaves) (c.deref.ensures.value ∙ c.in_ok-declared.ensures) in
    let is = around_entered s.leaves x c.new-machine.result.scopes c.enter.new.self c.in_ok-scope.scope set empty.scopes c.in_ok-enter.ensures names c.in_ok-strict.ensures refl in
    good s.leaves x c.run.new.self (around_of c.enter.new.self set) c.names-names.result c.in_ok-strict.strict is
    (c.in_ok-run.ensures ∙ rw (c.in_ok-push.ensures, empty.tasks, empty.values, empty.maker) refl) c.names-names.ensures refl
