use Rattle.std.proofs.Common.{◌<◌, length, map, None, sym, ◌∙◌, arith}
use Rattle.std.proofs.lemmas.List.{ext_get_or, get_or-map, length-map}
use Rattle.elements_kinds.specs.Words.{decoded}
use Rattle.elements_kinds.proofs.slots.recode.Goals as goal

pub returns-clause-values : goal.returns-clause-values
returns-clause-values g c =
    ext_get_or None (map (decoded c.args.to) c.loop-i.block) (map (decoded c.args.from) c.args.block.now)
    (length-map c.loop-i.block (decoded c.args.to) ∙ c.loop-i.invariant.len ∙ sym (length-map c.args.block.now (decoded c.args.from)))
    (λ j lt.
    let a : j < length c.loop-i.block = omega (arith, length-map c.loop-i.block (decoded c.args.to)) in
    let b : j < length c.args.block.now = omega (arith, c.loop-i.invariant.len) in
    get_or-map (decoded c.args.to) c.loop-i.block j 0 None a ∙ c.loop-i.invariant.done j (omega (arith, c.loop-i.invariant.len)) ∙ sym (get_or-map (decoded c.args.from) c.args.block.now j 0 None b))
