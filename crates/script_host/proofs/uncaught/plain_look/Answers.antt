use Rattle.std.proofs.Common.{◌≡◌, ◌+◌, ◌-◌, ◌∙◌, sym, arith}
use Rattle.std.proofs.lemmas.Bool.Decides.{nat_tests}
use Rattle.script_host.proofs.Looks.{look_starts, at_proxy, at_property, at_null, at_link, at_end}
use Rattle.script_host.proofs.uncaught.plain_look.Goals as goal

pub links-init : goal.links-init
links-init g c = λ w h. look_starts _ c.objects.result w.lists c.args.key c.args.object (omega arith) (c.objects.ensures w h)

pub returns-then-is_proxy : goal.returns-then-is_proxy
returns-then-is_proxy g c = λ w h.
    let one : c.links.left ≡ c.links.left - 1 + 1 = grind (arith, nat_tests, c.links-test.true) in
    sym (at_proxy c.links.left (c.links.left - 1) w.lists c.args.key c.links.at one (sym (c.if-is_proxy.ensures w h))) ∙ c.links.invariant w h

pub returns-in-Some : goal.returns-in-Some
returns-in-Some g c = λ w h.
    let one : c.links.left ≡ c.links.left - 1 + 1 = grind (arith, nat_tests, c.links-test.true) in
    c.text_stored.ensures ∙ sym (at_property c.links.left (c.links.left - 1) w.lists c.args.key c.links.at c.in-Some.found one (sym (c.is_proxy.ensures w h) ∙ c.if-is_proxy.false) (sym (c.in-Some.ensures w h))) ∙ c.links.invariant w h

pub returns-in-None : goal.returns-in-None
returns-in-None g c = λ w h.
    let one : c.links.left ≡ c.links.left - 1 + 1 = grind (arith, nat_tests, c.links-test.true) in
    sym (at_null c.links.left (c.links.left - 1) w.lists c.args.key c.links.at one (sym (c.is_proxy.ensures w h) ∙ c.if-is_proxy.false) (sym (c.in_default.ensures w h)) (sym (c.in-None.ensures w h))) ∙ c.links.invariant w h

pub links-preserved : goal.links-preserved
links-preserved g c = λ w h.
    let one : c.links.left ≡ c.links.left - 1 + 1 = grind (arith, nat_tests, c.links-test.true) in
    sym (at_link c.links.left (c.links.left - 1) w.lists c.args.key c.links.at c.in-Some-proto.up one (sym (c.is_proxy.ensures w h) ∙ c.if-is_proxy.false) (sym (c.in_default.ensures w h)) (sym (c.in-Some-proto.ensures w h))) ∙ c.links.invariant w h

pub returns : goal.returns
returns g c = λ w h.
    sym (at_end c.links.left w.lists c.args.key c.links.at (grind (arith, nat_tests, c.links-test.false))) ∙ c.links.invariant w h
