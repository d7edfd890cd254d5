use Rattle.std.proofs.Common.{length, drop, ◌-◌, ◌+◌, ◌≡◌, ◌≤◌}
use Rattle.slack_tracking.specs.Slack.{origin_place}
use Rattle.slack_tracking.proofs.origins.place_of.Given as goal

-- the places that were passed have another kind
abbrev pub invariant-loop-place : goal.invariant-loop-place
invariant-loop-place l = (l.place ≤ length l.origins) × (l.place + origin_place (drop l.place l.origins) l.kind ≡ origin_place l.origins l.kind)

abbrev pub decreases-loop-place : goal.decreases-loop-place
decreases-loop-place l = length l.origins - l.place
