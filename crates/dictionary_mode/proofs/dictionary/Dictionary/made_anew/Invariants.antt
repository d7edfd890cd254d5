use Rattle.std.proofs.Common.{◌≡◌, take}
use Rattle.dictionary_mode.proofs.dictionary.Dictionary.made_anew.Given as goal

abbrev pub invariant-loop-place : goal.invariant-loop-place
invariant-loop-place l = l.anew ≡ take l.place l.self
