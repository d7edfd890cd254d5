use Rattle.dictionary_mode.proofs.Slots.{one_each}
use Rattle.std.proofs.Common.{subst}
use Rattle.dictionary_mode.specs.Entries.{HasOneEach}
use Rattle.dictionary_mode.proofs.dictionary.Dictionary.len.Goals as goal

pub returns-clause-one : goal.returns-clause-one
returns-clause-one c = subst HasOneEach c.self.view_is (one_each _ _ _ _ c.self.invariant)
