use Rattle.std.proofs.Common.{Contains}
use Rattle.base_cases.proofs.tests.outside.parts.Given as goal

abbrev pub invariant-loop : goal.invariant-loop
invariant-loop g l = Contains (g.F.Files.begun l.files) l.file.0
