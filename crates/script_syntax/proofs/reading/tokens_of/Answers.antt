use Rattle.std.proofs.Common.{◌∙◌, [], ◌+◌, true, false, Ok, List, sym, ap, take, subst}
use Rattle.es_source.specs.Reading.{Reading}
use Rattle.es_source.specs.declared.token.Token.{Token}
use Rattle.script_syntax.specs.Positions.{position_after}
use Rattle.script_syntax.proofs.Bounds.{Fitting, fitting}
use Rattle.script_syntax.proofs.Steps.{Reached, reached_start, said_next, said_end, said_place, reached_stop}
use Rattle.script_syntax.proofs.reading.tokens_of.Goals as goal
use Rattle.script_syntax.proofs.reading.tokens_of.Goals.{After-split_at-in-tokens}

fits : (c : After-split_at-in-tokens) → Fitting c.tokens.position c.split_at-in-tokens.result.1.now
fits c =
    subst (Fitting c.tokens.position) (sym c.split_at-in-tokens.ensures.back)
    (fitting c.tokens.position c.args.characters.now c.tokens.at c.tokens.invariant.place c.requires c.tokens.invariant.reached.within)

pub tokens-init : goal.tokens-init
tokens-init c = record {
  reached =
      subst (λ (all : List Token). Reached c.args.characters.now true all c.hashbang_length-at.result) (sym c.new-all.ensures.items)
      (reached_start c.args.characters.now c.hashbang_length-at.result c.hashbang_length-at.ensures.value c.hashbang_length-at.ensures.bound);
  place = c.past-position.ensures.place [] c.start.ensures ∙ ap position_after c.split_at.ensures.front;
}

pub next_token-requires-clause-line : goal.next_token-requires-clause-line
next_token-requires-clause-line c = (fits (goal.at.next_token-requires-clause-line c).After-split_at-in-tokens).line

pub next_token-requires-clause-column : goal.next_token-requires-clause-column
next_token-requires-clause-column c = (fits (goal.at.next_token-requires-clause-column c).After-split_at-in-tokens).column

pub past-requires-clause-line : goal.past-requires-clause-line
past-requires-clause-line c = (fits (goal.at.past-requires-clause-line c).After-split_at-in-tokens).line

pub past-requires-clause-column : goal.past-requires-clause-column
past-requires-clause-column c = (fits (goal.at.past-requires-clause-column c).After-split_at-in-tokens).column

pub returns-in-Ok-None : goal.returns-in-Ok-None
returns-in-Ok-None c =
    said_end c.args.characters.now c.tokens.is_first c.tokens.all.items c.tokens.at c.split_at-in-tokens.result.1.now c.past.result c.tokens.invariant.reached
    c.split_at-in-tokens.ensures.back (c.past.ensures.place (take c.tokens.at c.args.characters.now) c.tokens.invariant.place)
    (rw c.in-Ok-None.field-0-is at (c.in-Ok-None.ensures.step (take c.tokens.at c.args.characters.now) c.tokens.invariant.place))
    ∙ sym (ap (λ (r : Reading). Ok r) c.ending_at.ensures)

pub returns-in-Err : goal.returns-in-Err
returns-in-Err c =
    reached_stop c.args.characters.now c.tokens.is_first c.tokens.all.items c.tokens.at c.split_at-in-tokens.result.1.now c.in-Err.stop c.tokens.invariant.reached
    c.split_at-in-tokens.ensures.back (c.in-Err.ensures.step (take c.tokens.at c.args.characters.now) c.tokens.invariant.place)

pub tokens-preserved : goal.tokens-preserved
tokens-preserved c =
    let bound = rw c.in-Ok-Some.field-0-is at c.in-Ok-Some.ensures.bound in
    let before = take c.tokens.at c.args.characters.now in
    record {
      reached =
          subst (λ (all : List Token). Reached c.args.characters.now false all (c.tokens.at + c.in-Ok-Some.found.size)) (sym c.in_ok-push_token.ensures)
          (said_next c.args.characters.now c.tokens.is_first c.tokens.all.items c.tokens.at c.split_at-in-tokens.result.1.now c.in-Ok-Some.found c.tokens.invariant.reached
          c.split_at-in-tokens.ensures.back bound.0 bound.1
          (rw c.in-Ok-Some.field-0-is at (c.in-Ok-Some.ensures.step before c.tokens.invariant.place)));
      place =
          said_place c.args.characters.now c.tokens.at c.split_at-in-tokens.result.1.now c.in-Ok-Some.found c.split_at-in-tokens.ensures.back
          (rw c.in-Ok-Some.field-0-is at (c.in-Ok-Some.ensures.place before c.tokens.invariant.place));
    }
