use Rattle.property_keys.proofs.ArrayIndices.{name_has_number}
use Rattle.property_keys.proofs.texts.Texts.key_text.Goals as goal

pub returns-in-Name-clause-text : goal.returns-in-Name-clause-text
returns-in-Name-clause-text c = name_has_number c.args.self.now c.args.key c.in-Name.id c.in-Name.is c.requires
