-- The rounds of OrdinaryHasInstance suffice: each takes a turn, and no answer gives one back.
use Rattle.std.proofs.Common.{◌≡◌, ◌<◌, ℕ, zero, suc, Bool, true, false, cond, Option, Some, None, Result, Ok, Err, refl, ap, arith, nat_le}
use Rattle.std.proofs.lemmas.Bool.{leb-true}
use Rattle.property_keys.specs.declared.identifiers.ObjectId.{ObjectId}
use Rattle.es_model.specs.declared.requests.Request.TheVariants.{Proto}
use Rattle.es_model.specs.Completions.{Completion}
use Rattle.es_model.specs.Changes.{charged}
use Rattle.es_model.specs.Outcomes.{world_of, NeverRaises}
use Rattle.es_model.specs.Program.{Program, Of, Outcome, Ended, Halt, Server, one_more, plus, after, run}
use Rattle.es_model.specs.World.{World}
use Rattle.es_model.specs.programs.Abrupt.{go_on, proto_in, taken}
use Rattle.plain_builtins.specs.Comparisons.{says}
use Rattle.plain_builtins.specs.Instances.{instance_round, most_rounds, parent_found, parent_given, same_object}

-- two programs that go on from an answer
goes-same : (S : Server) (d : ℕ) (v : World) (f g : Option ObjectId → Program) (t : Result (Option ObjectId) Completion) → ((up : Option ObjectId) → run S (f up) d v ≡ run S (g up) d v) → run S (go_on f t) d v ≡ run S (go_on g t) d v
goes-same S d v f g (Ok up) h = h up
goes-same S d v f g (Err c) h = refl

after-same : (o : Outcome) (f g : Completion → World → Outcome) → ((c : Completion) → f c (world_of o) ≡ g c (world_of o)) → after o f ≡ after o g
after-same (Ended c w n) f g h = ap (plus n) (h c)
after-same (Halt w n) f g h = refl

cond-same : (b : Bool) (x y z : Outcome) → (b ≡ true → x ≡ y) → cond b x z ≡ cond b y z
cond-same true x y z h = h refl
cond-same false x y z h = refl

found-same : (S : Server) (d : ℕ) (v : World) (p : ObjectId) (f g : ObjectId → Program) (up : Option ObjectId) → ((x : ObjectId) → run S (f x) d v ≡ run S (g x) d v) → run S (parent_found f p up) d v ≡ run S (parent_found g p up) d v
found-same S d v p f g None h = refl
found-same S d v p f g (Some up) h = test (same_object up p)
  where
    test : (b : Bool) → run S (cond b (says true) (f up)) d v ≡ run S (cond b (says true) (g up)) d v
    test true = refl
    test false = h up

rounds-same : (S : Server) → NeverRaises S → (d : ℕ) (p : ObjectId) (j k : ℕ) (w : World) (x : ObjectId) → w.turns < j → w.turns < k → run S (instance_round j p x) d w ≡ run S (instance_round k p x) d w
unfolding charged
rounds-same S never d p zero k w x a b = absurd (omega arith)
rounds-same S never d p (suc j) zero w x a b = absurd (omega arith)
rounds-same S never d p (suc j) (suc k) w x a b =
    cond-same (nat_le 1 w.turns) _ _ (Halt w 0) (λ some.
    let left = leb-true 1 w.turns some in
    let falls = never d (Of (Proto x)) (charged w 1) in
    ap one_more (after-same (S d (Of (Proto x)) (charged w 1)) (λ c v. run S (parent_given (instance_round j p) p c) d v) (λ c v. run S (parent_given (instance_round k p) p c) d v) (λ c.
    let v : World = world_of (S d (Of (Proto x)) (charged w 1)) in
    goes-same S d v (parent_found (instance_round j p) p) (parent_found (instance_round k p) p) (taken proto_in c) (λ up.
    found-same S d v p (instance_round j p) (instance_round k p) up (λ y. rounds-same S never d p j k v y (omega (arith, falls, left)) (omega (arith, falls, left)))))))

pub rounds-suffice : (S : Server) → NeverRaises S → (d : ℕ) (w : World) (p x : ObjectId) (more : ℕ) → w.turns < most_rounds → w.turns < more → run S (instance_round more p x) d w ≡ run S (instance_round most_rounds p x) d w
rounds-suffice S never d w p x more few enough = rounds-same S never d p more most_rounds w x enough few
