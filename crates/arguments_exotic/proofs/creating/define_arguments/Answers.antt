use Rattle.std.proofs.Common.{◌≡◌, ◌≤◌, ◌+◌, suc, length, arith}
use Rattle.std.proofs.lemmas.Bool.Decides.{nat_tests}
use Rattle.object_heap.proofs.Retaining.{retains_none, retains_then}
use Rattle.arguments_exotic.proofs.Defined.{defined_all, defined_none, defined_one}
use Rattle.arguments_exotic.proofs.creating.define_arguments.Goals as goal

pub arguments-init : goal.arguments-init
arguments-init g c = record {
  defined = λ w h. defined_none c.args.heap.now w c.args.object c.args.arguments.now h;
  retains = retains_none c.args.heap.now;
}

pub arguments-preserved : goal.arguments-preserved
arguments-preserved g c = record {
  defined = λ w h.
      let more : c.arguments.next + 1 ≡ suc c.arguments.next = omega arith in
      defined_one c.args.heap.now c.arguments.heap c.define_argument.new.heap w c.args.object c.args.arguments.now c.arguments.next (c.arguments.next + 1) c.at-value.result.now more c.at-value.ensures (c.arguments.invariant.defined w h) c.in_ok-define_argument.ensures.goes;
  retains = retains_then _ _ _ c.arguments.invariant.retains c.define_argument.ensures.retains;
}

pub returns-clause-goes : goal.returns-clause-goes
returns-clause-goes g c = λ w h.
    let past : length c.args.arguments.now ≤ c.arguments.next = grind (arith, nat_tests, c.arguments-test.false) in
    defined_all c.args.heap.now c.arguments.heap w c.args.object c.args.arguments.now c.arguments.next past (c.arguments.invariant.defined w h)
