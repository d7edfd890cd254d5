-- The code of what is seen of elements, by which proofs tell its values apart: it is stored as the tuple of its parts.
use Rattle.std.specs.Prelude.{ℕ, refl}
use Rattle.std.specs.Coded.{Coded, code_by, coded×, coded_ℕ}
use Rattle.std.specs.Ordering.{nat_cmp}
use Rattle.std.specs.FinMap as map_of
use Rattle.std.specs.FinMap.{FinMap}
use Rattle.descriptors.specs.declared.property.Complete.{Complete}
use Rattle.descriptors.specs.contracts.property.Complete as complete
use Rattle.elements_kinds.specs.declared.kinds.ElementsKind.{ElementsKind}
use Rattle.elements_kinds.specs.contracts.kinds.ElementsKind as kind_of
use Rattle.elements_kinds.specs.Rules.{View}

abbrev pub view_code : Coded View
view_code = code_by
    (FinMap nat_cmp Complete × (ElementsKind × ℕ))
    (coded× (map_of.code coded_ℕ complete.the_row.coded) (coded× kind_of.the_row.coded coded_ℕ))
    (λ v. (v.properties, (v.kind, v.capacity)))
    (λ p. record { properties = p.0; kind = p.1.0; capacity = p.1.1 })
    (λ _. refl)
