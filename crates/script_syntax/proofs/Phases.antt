-- The fault of bytes that are not UTF-8, at a place that a scanner holds.
use Rattle.std.proofs.Common.{◌≡◌, ℕ, List, ap}
use Rattle.es_source.specs.Places.{place_after}
use Rattle.es_source.specs.Reading.{fault_at}
use Rattle.es_source.specs.declared.faults.FaultCode.TheVariants.{NotUtf8}
use Rattle.es_source.specs.declared.faults.SourceFault.{SourceFault}
use Rattle.script_syntax.specs.Positions.{position_after}
use Rattle.script_syntax.specs.declared.positions.Position.{Position}

pub fault_here : (p : Position) (cs : List ℕ) → p ≡ position_after cs
    → ◌≡◌ {A = SourceFault} (record { code = NotUtf8; place = p.place }) (fault_at NotUtf8 (place_after cs))
fault_here p cs e = ap (λ (q : Position). fault_at NotUtf8 q.place) e
