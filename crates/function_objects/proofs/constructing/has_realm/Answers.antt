use Rattle.std.proofs.Common.{◌≡◌, suc, ◌-◌, Some, None, ap, sym, ◌∙◌, arith}
use Rattle.std.proofs.lemmas.Bool.Decides.{nat_tests}
use Rattle.es_model.specs.World.{kind}
use Rattle.function_objects.specs.Constructing.{proxy_target}
use Rattle.function_objects.proofs.Links.{realm_at}
use Rattle.function_objects.proofs.constructing.has_realm.Goals as goal

pub returns-in-None : goal.returns-in-None
returns-in-None c = λ w h.
    let more : c.targets.left ≡ suc (c.targets.left - 1) = grind (arith, nat_tests, c.targets-test.true) in
    let is : proxy_target (kind w.lists c.targets.object) ≡ None = ap proxy_target (sym (c.kind.ensures w h)) ∙ sym c.proxy_target.ensures ∙ c.in-None.is in
    sym (c.targets.invariant w h ∙ realm_at w.lists c.targets.left (c.targets.left - 1) c.targets.object None more is)

pub returns-in-Some-None : goal.returns-in-Some-None
returns-in-Some-None c = λ w h.
    let more : c.targets.left ≡ suc (c.targets.left - 1) = grind (arith, nat_tests, c.targets-test.true) in
    let is : proxy_target (kind w.lists c.targets.object) ≡ Some None =
    ap proxy_target (sym (c.kind.ensures w h)) ∙ sym c.proxy_target.ensures ∙ c.in-Some-None.is ∙ ap (λ x. Some x) c.in-Some-None.field-0-is in
    sym (c.targets.invariant w h ∙ realm_at w.lists c.targets.left (c.targets.left - 1) c.targets.object (Some None) more is)

pub targets-preserved : goal.targets-preserved
targets-preserved c = λ w h.
    let more : c.targets.left ≡ suc (c.targets.left - 1) = grind (arith, nat_tests, c.targets-test.true) in
    let is : proxy_target (kind w.lists c.targets.object) ≡ Some (Some c.in-Some-Some.next) =
    ap proxy_target (sym (c.kind.ensures w h)) ∙ sym c.proxy_target.ensures ∙ c.in-Some-Some.is ∙ ap (λ x. Some x) c.in-Some-Some.field-0-is in
    c.targets.invariant w h ∙ realm_at w.lists c.targets.left (c.targets.left - 1) c.targets.object (Some (Some c.in-Some-Some.next)) more is
