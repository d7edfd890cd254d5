use Rattle.std.proofs.Common.{◌∙◌, List, ℕ, sym, ap, codes, nat_eq}
use Rattle.std.specs.List.{starts_with}
use Rattle.script_syntax.proofs.Separators.{comment_later}
use Rattle.script_syntax.proofs.gaps.to_comment_end.Goals as goal

pub loop-i-preserved : goal.loop-i-preserved
loop-i-preserved c =
    comment_later c.args.rest.now c.loop-i.i c.loop-i-test.true c.loop-i.invariant
    (sym (c.starts_with.ensures.value ∙ ap (λ (cs : List ℕ). starts_with nat_eq cs (codes "*/")) c.split_at.ensures.back) ∙ c.if-starts_with.false)
