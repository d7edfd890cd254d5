use Rattle.std.proofs.Common.{◌≡◌, ℕ, true, take}
use Rattle.property_keys.specs.declared.identifiers.ObjectId.{ObjectId}
use Rattle.prototype_validity.specs.Cells.{includes}
use Rattle.prototype_validity.specs.Registered.{IsListed}
use Rattle.prototype_validity.proofs.validity.add_to_each.Given as goal

abbrev pub invariant-loop-i : goal.invariant-loop-i
invariant-loop-i l = record {
  kept : (o : ObjectId) (i : ℕ) → IsListed l.fn.registry o i → IsListed l.registry o i;
  listed : (o : ObjectId) → includes o.0 (take l.i l.chain) ≡ true → IsListed l.registry o l.number;
}
