use Rattle.map_deprecation.proofs.Growing.{child-result}
use Rattle.map_deprecation.proofs.updating.next.Goals as goal

pub returns-in-None-clause-grows : goal.returns-in-None-clause-grows
returns-in-None-clause-grows g c =
    child-result c.add_child.result c.args.tree.now c.add_child.new.self c.args.maps.now c.add_child.new.maps c.args.map c.args.step c.kept-kept.result c.requires.together c.requires.known c.kept-kept.ensures.value
    c.add_child.ensures.ok c.add_child.ensures.tree c.add_child.ensures.maps
