use Rattle.std.proofs.Common.{refl, sym, arith}
use Rattle.std.proofs.lemmas.Bool.{false≢true}
use Rattle.std.proofs.lemmas.Int.{ints}
use mir.Syntax.{w64}
use mir.Val.{of_z, to_z}
use Rattle.property_keys.proofs.ArrayIndices.{array_index_of-found, array_index_of-leading_zero, array_index_of-no_number}
use Rattle.property_keys.proofs.indices.array_index.Goals as goal

pub returns-then-has_leading_zero : goal.returns-then-has_leading_zero
returns-then-has_leading_zero c =
    let h = c.if-has_leading_zero.ensures.0 refl in
    sym (array_index_of-leading_zero c.args.text.now h.0 h.1)

pub returns-in_default : goal.returns-in_default
returns-in_default c = sym (array_index_of-no_number c.args.text.now (sym c.in_default.ensures.value))

pub returns : goal.returns
returns c =
    array_index_of-found c.args.text.now c.in-Some.n (to_z w64 (of_z w64 c.in-Some.n)) c.in-Some.ensures.value (omega (arith, ints))
    (λ h. false≢true (c.if-has_leading_zero.ensures.1 h)) (grind (arith, ints))
