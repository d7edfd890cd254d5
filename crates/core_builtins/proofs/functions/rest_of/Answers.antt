use Rattle.std.proofs.Common.{◌≡◌, ◌++◌, ◌∷◌, ◌-◌, ◌+◌, [], suc, take, ap, ◌∙◌, arith}
use Rattle.core_builtins.specs.Answers.{rest_of}
use Rattle.core_builtins.proofs.RestOf.{rest_copied}
use Rattle.core_builtins.proofs.functions.rest_of.Goals as goal

pub copied-preserved : goal.copied-preserved
copied-preserved c =
    let before = c.copied.n - 1 in
    let first = c.copied.invariant.0 in
    let is : c.copied.n ≡ suc before = omega (arith, first) in
    let same : c.copied.n ≡ c.copied.n + 1 - 1 = omega arith in (
      omega (arith, first),
      c.in_ok-push.ensures.ok ∙ ap (λ xs. xs ++ c.at.result.now ∷ []) c.copied.invariant.1 ∙ rest_copied c.args.arguments.now c.copied.n before c.at.result.now is c.at.ensures ∙ ap (λ k. take k (rest_of c.args.arguments.now)) same,
    )
