use Rattle.std.proofs.Common.{arith, ◌≡◌, ◌<◌, ◌≤◌, ◌∙◌, Some, drop, length, length-drop, sym, ap}
use Rattle.es_source.specs.Gaps.{separator_length}
use Rattle.script_syntax.proofs.Separators.{gap_goes}
use Rattle.script_syntax.proofs.gaps.gap_of.Goals as goal

pub separators-preserved : goal.separators-preserved
separators-preserved c =
    let here : separator_length (drop c.separators.passed c.args.rest.now) ≡ Some c.in-Some.length =
    sym (c.separator_length.ensures.value ∙ ap separator_length c.split_at.ensures.back) ∙ c.in-Some.is in
    let bound : c.in-Some.length ≤ length c.split_at.result.1.now = c.in-Some.ensures.bound in
    let within : c.in-Some.length ≤ length (drop c.separators.passed c.args.rest.now) = omega (arith, ap length c.split_at.ensures.back) in
    let positive : 0 < c.in-Some.length = omega (arith, c.in-Some.length-test.1) in
    record {
      within = omega (arith, length-drop c.separators.passed c.args.rest.now);
      found = gap_goes c.args.rest.now c.separators.passed _ c.separators.invariant.found here positive within;
    }
