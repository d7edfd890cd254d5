use Rattle.std.proofs.Common.{arith, ◌≡◌, ◌≤◌, ◌∙◌, ◌^◌, ℕ, Result, Err, chars, length, take, sym, ap, subst}
use Rattle.es_source.specs.Reading.{Reading, reading_of_characters}
use Rattle.es_source.specs.declared.faults.SourceFault.{SourceFault}
use Rattle.script_syntax.specs.Readings.{GivesReading}
use Rattle.es_source.proofs.Phases.{too_long, decoded, not_decoded}
use Rattle.script_syntax.proofs.reading.tokens.Goals as goal

pub returns-then-bytes-gt-MOST_BYTES : goal.returns-then-bytes-gt-MOST_BYTES
returns-then-bytes-gt-MOST_BYTES c = too_long c.args.bytes.now (omega arith)

pub returns-in_ok-characters-in-Ok : goal.returns-in_ok-characters-in-Ok
returns-in_ok-characters-in-Ok c =
    let few : length c.args.bytes.now ≤ 2 ^ 22 = omega arith in
    let same : c.deref.result.now ≡ chars c.args.bytes.now =
    c.deref.ensures.value ∙ c.in_ok-characters-in-Ok.ensures.characters ∙ ap chars c.in-Ok.ensures.cases.0 in
    subst (λ (wanted : Result Reading SourceFault). GivesReading wanted c.tokens_of.result)
    (ap reading_of_characters same ∙ sym (decoded c.args.bytes.now few c.in-Ok.ensures.cases.1)) c.tokens_of.ensures

pub returns-in_ok-fault-in-Err : goal.returns-in_ok-fault-in-Err
returns-in_ok-fault-in-Err c =
    let few : length c.args.bytes.now ≤ 2 ^ 22 = omega arith in
    not_decoded c.args.bytes.now c.split_at.result.0.now few c.in-Err.ensures.cases.0
    (c.split_at.ensures.front ∙ ap (λ (n : ℕ). take n c.args.bytes.now) (c.valid_up_to.ensures ∙ c.in-Err.ensures.valid_len))
    ∙ ap (λ (f : SourceFault). Err f) (sym c.in_ok-fault-in-Err.ensures)
