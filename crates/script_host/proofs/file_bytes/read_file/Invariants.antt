use Rattle.std.proofs.Common.{◌≡◌, ◌-◌, ◌++◌, ◌∷◌, [], Contains, min, vec_len}
use Rattle.std.specs.Io.KnownBytes.{Consumes}
use Rattle.property_keys.specs.Counts.{TakesAtMost}
use Rattle.hc_outside.specs.Files.{Begins}
use Rattle.script_host.proofs.file_bytes.read_file.Given as goal

abbrev pub invariant-parts : goal.invariant-parts
invariant-parts g l = record {
  begun : Contains (g.F.Files.begun l.files) l.file.0;
  taken : Consumes (g.F.Files.left l.initial.files l.file.0) (g.F.Files.left l.files l.file.0) l.bytes.items;
  whole : Begins (g.F.Files.held l.fn.files) l.name (g.F.Files.left l.initial.files l.file.0);
  names : g.F.Files.asked l.files ≡ g.F.Files.asked l.fn.files ++ l.name ∷ [];
  count : g.F.Files.faults l.files ≡ g.F.Files.faults l.fn.files;
  reads : TakesAtMost (min (vec_len l.bytes) 4194305) (g.F.Files.reads l.fn.files) (g.F.Files.reads l.files);
}

abbrev pub decreases-parts : goal.decreases-parts
decreases-parts g l = 4194305 - vec_len l.bytes
