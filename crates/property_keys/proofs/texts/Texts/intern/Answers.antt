use Rattle.property_keys.proofs.Tables.{has_known, has_stored}
use Rattle.property_keys.proofs.texts.Texts.intern.Goals as goal

pub returns-then-len : goal.returns-then-len
returns-then-len c = has_known _ _ c.in-Some.id.0 c.in-Some.ensures.found.known c.in-Some.ensures.found.names

pub returns : goal.returns
returns c = rw (← c.self.view_is) (has_stored _ _ _ _ c.in-Ok.ensures.keys c.in-Ok.ensures.stored)
