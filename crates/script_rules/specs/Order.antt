-- The earlier of two faults, where there are any.
use Rattle.std.specs.Prelude.{Option, Some, None}
use Rattle.es_source.specs.declared.faults.SourceFault.{SourceFault}
use Rattle.script_rules.specs.Faults.{lesser}

abbrev pub earlier : Option SourceFault → Option SourceFault → Option SourceFault
earlier None b = b
earlier (Some a) b = Some (lesser a b)
