-- The rounds of [[SetPrototypeOf]] suffice.
use Rattle.std.proofs.Common.{◌≡◌, ℕ, zero, suc, ◌<◌, Bool, true, false, cond, Option, Some, None, length, refl, sym, ap, ◌∙◌, arith, nat_le, if◌then◌else◌}
use Rattle.property_keys.specs.declared.identifiers.ObjectId.{ObjectId}
use Rattle.es_model.specs.Objects.{is_proxy}
use Rattle.es_model.specs.World.{World, proto, kind}
use Rattle.es_model.specs.Changes.{charged}
use Rattle.es_model.specs.Program.{Program, done, look, Server, Halt, run}
use Rattle.es_model.specs.programs.Errors.{flag}
use Rattle.ordinary_object.specs.Ordinary.{same_object, prototype_is_set, set_prototype_round}
use Rattle.es_model.specs.Known.{IsObject, IfThere}
use Rattle.es_model.specs.Sound.{IsSound}
use Rattle.es_model.proofs.Cycles.{none-some, up_from}
use Rattle.es_model.proofs.ChainsEnd.{chains-end}

run-test : (S : Server) (d : ℕ) (w : World) (b : Bool) (p q r : Program) → (b ≡ false → run S q d w ≡ run S r d w) → run S (cond b p q) d w ≡ run S (cond b p r) d w
run-test S d w true p q r h = refl
run-test S d w false p q r h = h refl

-- a round after the test of the object itself
abbrev onward : ℕ → ObjectId → Option ObjectId → ObjectId → Program
onward left o v a = look (λ l. if is_proxy (kind l a) then prototype_is_set o v else set_prototype_round left o v (proto l a))

rounds-same : (S : Server) (d : ℕ) (w : World) (o : ObjectId) (v : Option ObjectId) (n : ℕ) (p : Option ObjectId) (j k : ℕ) → up_from w.lists n p ≡ None → n < j → n < k → run S (set_prototype_round j o v p) d w ≡ run S (set_prototype_round k o v p) d w
unfolding charged
rounds-same S d w o v n p zero k e less more = absurd (omega arith)
rounds-same S d w o v n p (suc j) zero e less more = absurd (omega arith)
rounds-same S d w o v n None (suc j) (suc k) e less more = refl
rounds-same S d w o v zero (Some a) (suc j) (suc k) e less more = absurd (none-some a (sym e))
rounds-same S d w o v (suc n) (Some a) (suc j) (suc k) e less more =
    ap (λ r. cond (nat_le 1 w.turns) r (Halt w 0)) (run-test S d (charged w 1) (same_object a o) (done (flag false)) (onward j o v a) (onward k o v a) (λ other.
    run-test S d (charged w 1) (is_proxy (kind w.lists a)) (prototype_is_set o v) (set_prototype_round j o v (proto w.lists a)) (set_prototype_round k o v (proto w.lists a)) (λ plain.
    rounds-same S d (charged w 1) o v n (proto w.lists a) j k (sym (ap (λ b. up_from w.lists n (cond b None (proto w.lists a))) plain) ∙ e) (omega arith) (omega arith))))

-- the rounds that the program takes suffice: with more of them it comes to the same
pub rounds-suffice : (S : Server) (d : ℕ) (w : World) (o : ObjectId) (v : Option ObjectId) (more : ℕ) → IsSound w → IfThere (IsObject w.lists) v → length w.lists.objects < more →
    run S (set_prototype_round more o v v) d w ≡ run S (set_prototype_round (suc (length w.lists.objects)) o v v) d w
rounds-suffice S d w o v more s there enough = rounds-same S d w o v (length w.lists.objects) v more (suc (length w.lists.objects)) (chains-end w v s there) enough (omega arith)
