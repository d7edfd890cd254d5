-- Whether a wanted field is the one that stands there, by a given test of sameness.
use Rattle.std.specs.Prelude.{Bool, true, false, not, Option, Some, None}

-- a field is wanted and differs from what stands there
abbrev pub differs : {A : Type 0} → (A → A → Bool) → Option A → A → Bool
differs same None here = false
differs same (Some wanted) here = not (same wanted here)

-- a field is not wanted, or it stands there with the same value
abbrev pub stands : {A : Type 0} → (A → A → Bool) → Option A → Option A → Bool
stands same None here = true
stands same (Some wanted) None = false
stands same (Some wanted) (Some here) = same wanted here
