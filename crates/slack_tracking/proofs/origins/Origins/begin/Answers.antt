use Rattle.std.proofs.Common.{ap, sym, ◌∙◌, arith}
use Rattle.slack_tracking.specs.Slack.{with_origin}
use Rattle.slack_tracking.proofs.Places.{with_origin-there, with_origin-new}
use Rattle.slack_tracking.proofs.origins.Origins.begin.Goals.{in-Ok, in-Err}
use Rattle.slack_tracking.proofs.origins.Origins.begin.Goals as goal

pub returns-then-place-len-clause-ok : goal.returns-then-place-len-clause-ok
returns-then-place-len-clause-ok c =
    let os = c.self.inside.origins.items in
    let p = rw c.deref.ensures.value at c.place_of-place.ensures in
    let n = c.len.ensures ∙ c.self.inside.origins.ok.0 in
    let b = c.if-place-len.true in
    sym (ap (λ xs. with_origin xs c.args.kind c.args.places) (sym c.self.view_is) ∙ with_origin-there os c.args.kind c.args.places (omega arith) ∙ c.self.view_is)

pub returns-clause-ok : goal.returns-clause-ok
returns-clause-ok c =
    let os = c.self.inside.origins.items in
    let p = rw c.deref.ensures.value at c.place_of-place.ensures in
    let n = c.len.ensures ∙ c.self.inside.origins.ok.0 in
    let b = c.if-place-len.false in
    let new = sym (with_origin-new os c.args.kind c.args.places (omega arith)) ∙ ap (λ xs. with_origin xs c.args.kind c.args.places) c.self.view_is in
    elim c.match-push.branch [ in-Ok w ↦ rw w.result-is (w.in-Ok.ensures.items ∙ new) | in-Err w ↦ rw w.result-is tt ]
