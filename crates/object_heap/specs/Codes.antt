-- Codes of what is seen of an object and of a heap, by which proofs tell their values apart: each is stored as the tuple of its parts.
use Rattle.std.specs.Prelude.{ℕ, Bool, Option, List, refl}
use Rattle.std.specs.Coded.{Coded, code_by, coded×, coded_ℕ, coded_bool, coded_list, coded_option}
use Rattle.std.specs.Ordering.{nat_cmp}
use Rattle.std.specs.FinMap as map_of
use Rattle.std.specs.FinMap.{FinMap}
use Rattle.property_keys.specs.declared.identifiers.ObjectId.{ObjectId}
use Rattle.property_keys.specs.declared.identifiers.TextId.{TextId}
use Rattle.property_keys.specs.declared.values.Value.{Value}
use Rattle.property_keys.specs.contracts.identifiers.ObjectId as object_id
use Rattle.property_keys.specs.contracts.identifiers.TextId as text_id
use Rattle.property_keys.specs.contracts.values.Value as value
use Rattle.descriptors.specs.declared.property.Complete.{Complete}
use Rattle.descriptors.specs.contracts.property.Complete as complete
use Rattle.es_model.specs.declared.kinds.ObjectKind.{ObjectKind}
use Rattle.es_model.specs.declared.owned.OwnProperty.{OwnProperty}
use Rattle.es_model.specs.contracts.kinds.ObjectKind as kind_of
use Rattle.es_model.specs.contracts.owned.OwnProperty as property
use Rattle.slack_tracking.specs.declared.OriginKind.{OriginKind}
use Rattle.slack_tracking.specs.contracts.OriginKind as origin
use Rattle.object_heap.specs.Seen.{Seen}
use Rattle.object_heap.specs.Stands.{HeapView}

abbrev pub seen_code : Coded Seen
seen_code = code_by
    (ObjectKind × (Option ObjectId × (Bool × (List OwnProperty × FinMap nat_cmp Complete))))
    (coded× kind_of.the_row.coded (coded× (coded_option object_id.the_row.coded) (coded× coded_bool
    (coded× (coded_list property.the_row.coded) (map_of.code coded_ℕ complete.the_row.coded)))))
    (λ s. (s.kind, (s.proto, (s.extensible, (s.named, s.indexed)))))
    (λ p. record { kind = p.0; proto = p.1.0; extensible = p.1.1.0; named = p.1.1.1.0; indexed = p.1.1.1.1 })
    (λ _. refl)

abbrev pub heap_code : Coded HeapView
heap_code = code_by
    (List Seen × (List (List ℕ) × (List (Option TextId) × (List (Option Value) × (ℕ × List OriginKind)))))
    (coded× (coded_list seen_code) (coded× (coded_list (coded_list coded_ℕ)) (coded× (coded_list (coded_option text_id.the_row.coded))
    (coded× (coded_list (coded_option value.the_row.coded)) (coded× coded_ℕ (coded_list origin.the_row.coded))))))
    (λ h. (h.objects, (h.texts, (h.symbols, (h.cells, (h.turns, h.origins))))))
    (λ p. record { objects = p.0; texts = p.1.0; symbols = p.1.1.0; cells = p.1.1.1.0; turns = p.1.1.1.1.0; origins = p.1.1.1.1.1 })
    (λ _. refl)
