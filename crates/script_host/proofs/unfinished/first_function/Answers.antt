use Rattle.std.proofs.Common.{◌≡◌, ◌≤◌, ◌+◌, ◌∙◌, ap, drop, length, arith}
use Rattle.script_host.specs.Unbuilt.{earliest, function_places, places_where, uses_arguments}
use Rattle.script_host.proofs.Places.{function_last, place_of, where_next}
use Rattle.script_host.proofs.unfinished.first_function.Goals as goal

pub loop-f-preserved : goal.loop-f-preserved
loop-f-preserved c =
    let script = c.args.script.now in
    let places = function_places script.functions in
    let there = place_of script.functions c.loop-f.f c.function.result.now c.function.ensures in
    ap (λ found. earliest found (places_where uses_arguments (drop (c.loop-f.f + 1) script.bodies) (drop (c.loop-f.f + 1) places))) c.with_place-found.ensures
    ∙ where_next uses_arguments script.bodies places c.loop-f.f c.body.result.now c.function.result.now.place c.loop-f.found _ c.body.ensures.body there c.loop-f.invariant

pub returns : goal.returns
returns c =
    let script = c.args.script.now in
    let past : length script.functions ≤ c.loop-f.f = omega (arith, c.functions-f-end.ensures) in
    function_last script.functions script.bodies c.loop-f.f c.loop-f.found _ past c.loop-f.invariant
