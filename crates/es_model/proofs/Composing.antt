-- How outcomes compose.
use Rattle.std.proofs.Common.{◌≡◌, ℕ, zero, suc, refl, ◌∙◌, ap}
use Rattle.es_model.specs.Completions.{Completion}
use Rattle.es_model.specs.World.{World}
use Rattle.es_model.specs.Program.{Outcome, Ended, Halt, one_more, plus, after}

pub after-one_more : (o : Outcome) (f : Completion → World → Outcome) → after (one_more o) f ≡ one_more (after o f)
after-one_more (Ended c w n) f = refl
after-one_more (Halt w n) f = refl

pub after-plus : (n : ℕ) (o : Outcome) (f : Completion → World → Outcome) → after (plus n o) f ≡ plus n (after o f)
after-plus zero o f = refl
after-plus (suc n) o f = after-one_more (plus n o) f ∙ ap one_more (after-plus n o f)

pub after-after : (o : Outcome) (f g : Completion → World → Outcome) → after (after o f) g ≡ after o (λ c w. after (f c w) g)
after-after (Ended c w n) f g = after-plus n (f c w) g
after-after (Halt w n) f g = refl

pub plus-ended : (n : ℕ) (c : Completion) (w : World) → plus n (Ended c w 0) ≡ Ended c w n
plus-ended zero c w = refl
plus-ended (suc n) c w = ap one_more (plus-ended n c w)

pub after-ended : (o : Outcome) → after o (λ c w. Ended c w 0) ≡ o
after-ended (Ended c w n) = plus-ended n c w
after-ended (Halt w n) = refl
