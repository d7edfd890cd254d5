use Rattle.std.proofs.Common.{◌≡◌, ◌∙◌, ◌-◌, ℕ, List, Option, ap, arith, drop, get_or, length, length-drop, refl, take}
use Rattle.std.proofs.lemmas.List.{take_all}
use Rattle.std.specs.Prelude.{ℤ, neg_ℤ, option_map}
use Rattle.property_keys.specs.Numbers.{decimal_of, natural_of}
use Rattle.property_keys.proofs.numbers.decimal.Goals as goal

after_minus : (text : List ℕ) (number result : Option ℤ) → get_or text 0 0 ≡ 45 → number ≡ natural_of 10 (take (length text - 1) (drop 1 text))
    → result ≡ option_map neg_ℤ number → result ≡ decimal_of text
after_minus text number result minus e f =
    let whole : take (length text - 1) (drop 1 text) ≡ drop 1 text = take_all (length text - 1) (drop 1 text) (omega (arith, length-drop 1 text)) in
    f ∙ ap (option_map neg_ℤ) (e ∙ ap (natural_of 10) whole) ∙ rw minus refl

pub returns-in-45-clause-value : goal.returns-in-45-clause-value
returns-in-45-clause-value c = after_minus c.args.text.now _ _ (omega arith) c.natural.ensures.value c.negated.ensures.value
