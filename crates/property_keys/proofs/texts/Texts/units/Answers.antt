use Rattle.property_keys.proofs.Tables.{one_each}
use Rattle.property_keys.proofs.texts.Texts.units.Goals as goal

pub returns-clause-one : goal.returns-clause-one
returns-clause-one c = rw (← c.self.view_is) (one_each _ c.len-count.ensures.unique)
