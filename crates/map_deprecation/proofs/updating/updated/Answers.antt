use Rattle.std.proofs.Common.{◌≡◌, ap, sym, subst, ◌∙◌}
use Rattle.transition_tree.specs.Rows.{Row, Standing, onward, root_row, row_of}
use Rattle.map_deprecation.specs.Updating.{Grows}
use Rattle.map_deprecation.proofs.Growing.{grows-root, grows-then, grows-wider}
use Rattle.map_deprecation.proofs.updating.updated.Goals as goal

pub returns-clause-grows : goal.returns-clause-grows
returns-clause-grows g c =
    let tree = c.args.tree.now in
    let maps = c.args.maps.now in
    let mid = c.root.new.self in
    let between = c.root.new.maps in
    let row : Row = row_of tree c.args.map in
    let stands = c.requires.together.stands c.args.map c.requires.known in
    let origin = c.origin-origin.ensures ∙ stands.origin in
    let proto = c.proto-proto.ensures ∙ stands.proto in
    let whole : row ≡ onward (root_row c.origin-origin.result c.proto-proto.result) row.path = λ t. record { origin = sym origin t; proto = sym proto t; path = row.path } in
    let first : Grows tree mid maps between row = grows-wider tree mid maps between (root_row c.origin-origin.result c.proto-proto.result) row row.path whole
    (grows-root tree mid maps between c.origin-origin.result c.proto-proto.result c.in_ok-root.root c.requires.together c.in_ok-root.ensures.ok) in
    let same : row_of mid c.args.map ≡ row = ap (λ (s : Standing). s.row) (first.tree c.args.map c.requires.known) in
    grows-then tree mid c.made_along.new.tree maps between c.made_along.new.maps row first
    (subst (λ (r : Row). Grows mid c.made_along.new.tree between c.made_along.new.maps r) same c.made_along.ensures.grows)
