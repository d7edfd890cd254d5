-- The place of a kind, and the origins by it.
use Rattle.std.proofs.Common.{◌≡◌, ◌<◌, ◌≤◌, ℕ, suc, true, false, cond, List, [], ◌∷◌, ◌++◌, length, refl, ap, arith}
use Rattle.slack_tracking.specs.declared.OriginKind.{OriginKind}
use Rattle.slack_tracking.specs.declared.origins.Slack.{Slack}
use Rattle.slack_tracking.specs.Slack.{begun, origin_place, same_origin, with_origin}

pub with_origin-there : (os : List Slack) (kind : OriginKind) (places : ℕ) → origin_place os kind < length os → with_origin os kind places ≡ os
with_origin-there [] kind places b = absurd (omega arith)
with_origin-there (o ∷ os) kind places b =
    elim (same_origin o.kind kind) as (λ t. cond t 0 (suc (origin_place os kind)) < length (o ∷ os) → cond t (o ∷ os) (o ∷ with_origin os kind places) ≡ o ∷ os) [
      | true ↦ λ b. refl
      | false ↦ λ b. ap (λ xs. o ∷ xs) (with_origin-there os kind places (omega arith))
    ] b

pub with_origin-new : (os : List Slack) (kind : OriginKind) (places : ℕ) → length os ≤ origin_place os kind → with_origin os kind places ≡ os ++ begun kind places ∷ []
with_origin-new [] kind places b = refl
with_origin-new (o ∷ os) kind places b =
    elim (same_origin o.kind kind) as (λ t. length (o ∷ os) ≤ cond t 0 (suc (origin_place os kind)) → cond t (o ∷ os) (o ∷ with_origin os kind places) ≡ o ∷ (os ++ begun kind places ∷ [])) [
      | true ↦ λ b. absurd (omega arith)
      | false ↦ λ b. ap (λ xs. o ∷ xs) (with_origin-new os kind places (omega arith))
    ] b
