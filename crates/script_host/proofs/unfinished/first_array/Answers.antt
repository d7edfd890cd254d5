use Rattle.std.proofs.Common.{◌≡◌, ◌≤◌, ◌+◌, ◌∙◌, ap, cond, drop, length, arith}
use Rattle.script_host.specs.Unbuilt.{earlier, earliest, is_array, places_where}
use Rattle.script_host.proofs.Places.{where_next, where_last}
use Rattle.script_host.proofs.unfinished.first_array.Goals as goal

pub loop-n-preserved : goal.loop-n-preserved
loop-n-preserved c =
    let script = c.args.script.now in
    ap (λ found. earliest found (places_where is_array (drop (c.loop-n.n + 1) script.nodes) (drop (c.loop-n.n + 1) script.places)))
    (c.with_place-found.ensures ∙ ap (λ counts. cond counts (earlier c.loop-n.found c.place-place.result) c.loop-n.found) c.is_array.ensures)
    ∙ where_next is_array script.nodes script.places c.loop-n.n c.node.result.now c.place-place.result c.loop-n.found _ c.node.ensures.node c.place-place.ensures c.loop-n.invariant

pub returns : goal.returns
returns c =
    let script = c.args.script.now in
    let past : length script.nodes ≤ c.loop-n.n = omega (arith, c.nodes-n-end.ensures) in
    where_last is_array script.nodes script.places c.loop-n.n c.loop-n.found _ past c.loop-n.invariant
