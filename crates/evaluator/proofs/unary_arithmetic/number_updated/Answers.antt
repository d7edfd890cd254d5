use Rattle.std.proofs.Common.{◌≡◌, Bool, ℤ, if◌then◌else◌, arith, of_z, sym, subst, to_z, w64}
use Rattle.std.proofs.lemmas.Int.{ints}
use Rattle.property_keys.specs.Wholes.{IsWhole}
use Rattle.evaluator.proofs.Belonging.{either_whole, stepped_whole}
use Rattle.evaluator.proofs.unary_arithmetic.number_updated.Goals as goal

given-whole : (first : Bool) (a b r : ℤ) → r ≡ (if first then a else b) → IsWhole a → IsWhole b → IsWhole r
given-whole first a b r is h k = subst (λ (x : ℤ). IsWhole x) (sym is) (either_whole first a b h k)

pub returns-in-Some-clause-named : goal.returns-in-Some-clause-named
returns-in-Some-clause-named g c = λ l reference before.
    let m = to_z w64 (of_z w64 c.in-Some.m) in
    let n = to_z w64 (of_z w64 c.args.n) in
    let after : IsWhole c.in-Some.m = stepped_whole c.args.increment n c.step.result c.in-Some.m c.step.ensures c.in-Some.is in
    let put : IsWhole m = (omega (arith, ints), omega (arith, ints)) in
    let kept : IsWhole n = (omega (arith, ints), omega (arith, ints)) in
    let given : IsWhole c.given_of-given.result = given-whole c.args.prefix m n c.given_of-given.result c.given_of-given.ensures put kept in
    c.put_value.ensures.named l reference put (omega (arith, ints), omega (arith, ints))
