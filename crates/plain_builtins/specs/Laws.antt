-- The rounds of OrdinaryHasInstance (ECMA-262, 7.3.21, step 6) are enough for every run: with more of them the program comes to the same.
use Rattle.std.specs.Prelude.{◌≡◌, ◌<◌, ℕ}
use Rattle.property_keys.specs.declared.identifiers.ObjectId.{ObjectId}
use Rattle.es_model.specs.Outcomes.{NeverRaises}
use Rattle.es_model.specs.Program.{Server, run}
use Rattle.es_model.specs.World.{World}
use Rattle.plain_builtins.specs.Instances.{instance_round, most_rounds}

abbrev pub RoundsSuffice : Type 0
RoundsSuffice =
    (S : Server) → NeverRaises S → (d : ℕ) (w : World) (p x : ObjectId) (more : ℕ) → w.turns < most_rounds → w.turns < more →
    run S (instance_round more p x) d w ≡ run S (instance_round most_rounds p x) d w
