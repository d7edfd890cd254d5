use Rattle.std.proofs.Common.{◌≡◌, drop, map}
use Rattle.hc_outside.specs.Files.{bytes_named}
use Rattle.hc_outside.proofs.named_files.NamedFiles.bytes_of.Given as goal

abbrev pub invariant-loop-file : goal.invariant-loop-file
invariant-loop-file l = bytes_named (map (λ file. (file.name, file.bytes.items)) (drop l.file-index l.file-items)) l.name ≡ bytes_named l.self l.name
