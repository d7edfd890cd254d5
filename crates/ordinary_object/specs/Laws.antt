-- The rounds of OrdinarySetPrototypeOf (ECMA-262, 10.1.2.1, step 7) are enough in a sound world: with more of them the program comes to the same.
use Rattle.std.specs.Prelude.{◌≡◌, ◌<◌, ℕ, suc, Option, length}
use Rattle.property_keys.specs.declared.identifiers.ObjectId.{ObjectId}
use Rattle.es_model.specs.Known.{IsObject, IfThere}
use Rattle.es_model.specs.Program.{Server, run}
use Rattle.es_model.specs.Sound.{IsSound}
use Rattle.es_model.specs.World.{World}
use Rattle.ordinary_object.specs.Ordinary.{set_prototype_round}

abbrev pub RoundsSuffice : Type 0
RoundsSuffice =
    (S : Server) (d : ℕ) (w : World) (o : ObjectId) (v : Option ObjectId) (more : ℕ) →
    IsSound w → IfThere (IsObject w.lists) v → length w.lists.objects < more →
    run S (set_prototype_round more o v v) d w ≡ run S (set_prototype_round (suc (length w.lists.objects)) o v v) d w
