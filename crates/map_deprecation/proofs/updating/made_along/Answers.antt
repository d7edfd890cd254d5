use Rattle.std.proofs.Common.{◌≡◌, ◌+◌, ◌<◌, List, length, get_or, take, ap, sym, subst, arith}
use Rattle.map_store.specs.Views.{IsKnown, map_at}
use Rattle.transition_tree.specs.declared.paths.Step.{Step}
use Rattle.transition_tree.specs.Rows.{Row, Standing, onward, row_of}
use Rattle.transition_tree.specs.Together.{IsLiveAt}
use Rattle.map_deprecation.specs.Updating.{root_of}
use Rattle.map_deprecation.proofs.Along.{all-steps, front-few, more-steps}
use Rattle.map_deprecation.proofs.Growing.{grows-then, next-fits, next-grows, next-had, next-live}
use Rattle.map_deprecation.proofs.updating.made_along.Goals as goal

pub next-requires-clause-fits : goal.next-requires-clause-fits
next-requires-clause-fits g c =
    let tree = c.loop-i.tree in
    let maps = c.loop-i.maps in
    let together = c.loop-i.invariant.together in
    let grows = c.loop-i.invariant.grows in
    let row : Row = row_of c.args.tree.now c.args.map in
    let step = c.at.result.now in
    let known : IsKnown maps c.args.map = let more = grows.more in let k = c.requires.known in omega arith in
    let stands : row_of tree c.args.map ≡ row = ap (λ (s : Standing). s.row) (grows.tree c.args.map c.requires.known) in
    let lt : c.loop-i.i < length row.path = omega (arith, c.loop-i-test.true, c.len-i-end.ensures, ap (λ (p : List Step). length p) c.requires.path) in
    let is : step ≡ get_or row.path c.loop-i.i step = subst (λ (p : List Step). step ≡ get_or p c.loop-i.i step) c.requires.path c.at.ensures in
    let here : IsLiveAt tree maps (onward (root_of row) (take c.loop-i.i row.path)) c.loop-i.at = subst (λ (p : List Step). IsLiveAt tree maps (onward (root_of row) (take c.loop-i.i p)) c.loop-i.at) c.requires.path c.loop-i.invariant.here in
    next-fits tree maps together row c.args.map known stands c.loop-i.i step lt is c.loop-i.at here.known here.here

pub next-requires-clause-had : goal.next-requires-clause-had
next-requires-clause-had g c =
    let tree = c.loop-i.tree in
    let maps = c.loop-i.maps in
    let together = c.loop-i.invariant.together in
    let grows = c.loop-i.invariant.grows in
    let row : Row = row_of c.args.tree.now c.args.map in
    let step = c.at.result.now in
    let known : IsKnown maps c.args.map = let more = grows.more in let k = c.requires.known in omega arith in
    let stands : row_of tree c.args.map ≡ row = ap (λ (s : Standing). s.row) (grows.tree c.args.map c.requires.known) in
    let lt : c.loop-i.i < length row.path = omega (arith, c.loop-i-test.true, c.len-i-end.ensures, ap (λ (p : List Step). length p) c.requires.path) in
    let is : step ≡ get_or row.path c.loop-i.i step = subst (λ (p : List Step). step ≡ get_or p c.loop-i.i step) c.requires.path c.at.ensures in
    let here : IsLiveAt tree maps (onward (root_of row) (take c.loop-i.i row.path)) c.loop-i.at = subst (λ (p : List Step). IsLiveAt tree maps (onward (root_of row) (take c.loop-i.i p)) c.loop-i.at) c.requires.path c.loop-i.invariant.here in
    next-had tree maps together row c.args.map known stands c.loop-i.i step lt is c.loop-i.at here.here

pub returns-in_err-at-clause-grows : goal.returns-in_err-at-clause-grows
returns-in_err-at-clause-grows g c =
    let tree = c.loop-i.tree in
    let maps = c.loop-i.maps in
    let together = c.loop-i.invariant.together in
    let grows = c.loop-i.invariant.grows in
    let row : Row = row_of c.args.tree.now c.args.map in
    let step = c.at.result.now in
    let known : IsKnown maps c.args.map = let more = grows.more in let k = c.requires.known in omega arith in
    let stands : row_of tree c.args.map ≡ row = ap (λ (s : Standing). s.row) (grows.tree c.args.map c.requires.known) in
    let lt : c.loop-i.i < length row.path = omega (arith, c.loop-i-test.true, c.len-i-end.ensures, ap (λ (p : List Step). length p) c.requires.path) in
    let is : step ≡ get_or row.path c.loop-i.i step = subst (λ (p : List Step). step ≡ get_or p c.loop-i.i step) c.requires.path c.at.ensures in
    let here : IsLiveAt tree maps (onward (root_of row) (take c.loop-i.i row.path)) c.loop-i.at = subst (λ (p : List Step). IsLiveAt tree maps (onward (root_of row) (take c.loop-i.i p)) c.loop-i.at) c.requires.path c.loop-i.invariant.here in
    grows-then c.args.tree.now tree c.next.new.tree c.args.maps.now maps c.next.new.maps row grows
    (next-grows tree maps together row c.args.map known stands c.loop-i.i step lt is c.next.new.tree c.next.new.maps c.loop-i.at here.here c.in_err-at.ensures.grows)

pub loop-i-preserved : goal.loop-i-preserved
loop-i-preserved g c =
    let tree = c.loop-i.tree in
    let maps = c.loop-i.maps in
    let together = c.loop-i.invariant.together in
    let grows = c.loop-i.invariant.grows in
    let row : Row = row_of c.args.tree.now c.args.map in
    let step = c.at.result.now in
    let known : IsKnown maps c.args.map = let more = grows.more in let k = c.requires.known in omega arith in
    let stands : row_of tree c.args.map ≡ row = ap (λ (s : Standing). s.row) (grows.tree c.args.map c.requires.known) in
    let lt : c.loop-i.i < length row.path = omega (arith, c.loop-i-test.true, c.len-i-end.ensures, ap (λ (p : List Step). length p) c.requires.path) in
    let is : step ≡ get_or row.path c.loop-i.i step = subst (λ (p : List Step). step ≡ get_or p c.loop-i.i step) c.requires.path c.at.ensures in
    let here : IsLiveAt tree maps (onward (root_of row) (take c.loop-i.i row.path)) c.loop-i.at = subst (λ (p : List Step). IsLiveAt tree maps (onward (root_of row) (take c.loop-i.i p)) c.loop-i.at) c.requires.path c.loop-i.invariant.here in
    record {
      together = c.in_ok-at.ensures.together;
      grows = grows-then c.args.tree.now tree c.next.new.tree c.args.maps.now maps c.next.new.maps row grows
          (next-grows tree maps together row c.args.map known stands c.loop-i.i step lt is c.next.new.tree c.next.new.maps c.loop-i.at here.here c.in_ok-at.ensures.grows);
      here = subst (λ (p : List Step). IsLiveAt c.next.new.tree c.next.new.maps (onward (root_of row) (take (c.loop-i.i + 1) p)) c.in_ok-at.at) (sym c.requires.path)
          (next-live tree maps together row c.args.map known stands c.loop-i.i step lt is c.next.new.tree c.next.new.maps c.loop-i.at c.in_ok-at.at here.here c.in_ok-at.ensures.live);
      later = let round = c.next.ensures.steps.later in let before = c.loop-i.invariant.later in omega arith;
      bound = more-steps c.loop-i.i (length c.args.path.now) _ _ _ (length (map_at maps c.loop-i.at).entries) c.loop-i.invariant.bound c.next.ensures.steps.bound
          (front-few tree maps row c.args.path.now c.loop-i.i c.loop-i.at together c.loop-i.invariant.here);
    }

pub returns-in_err-at-clause-steps : goal.returns-in_err-at-clause-steps
returns-in_err-at-clause-steps g c =
    let n = length c.args.path.now in
    let tree = c.loop-i.tree in
    let maps = c.loop-i.maps in
    record {
      later = let round = c.next.ensures.steps.later in let before = c.loop-i.invariant.later in omega arith;
      bound = all-steps (c.loop-i.i + 1) n _ _ (omega (arith, c.loop-i-test.true, c.len-i-end.ensures))
          (more-steps c.loop-i.i n _ _ _ (length (map_at maps c.loop-i.at).entries) c.loop-i.invariant.bound c.next.ensures.steps.bound
          (front-few tree maps (row_of c.args.tree.now c.args.map) c.args.path.now c.loop-i.i c.loop-i.at c.loop-i.invariant.together c.loop-i.invariant.here));
    }
