-- accepted or rejected
use Rattle.std.proofs.Common.{◌≡◌, ℕ, List, refl}
use Rattle.mr_field.specs.Gf.{Gf, order}
use Rattle.matrep.specs.Texts.{accepted_text, rejected_text}
use Rattle.matrep.specs.Answering.{Checks}
use Rattle.matrep.specs.declared.outcome.Exit.{Exit}
use Rattle.matrep.specs.declared.outcome.Exit.TheVariants.{Done, Negative}
use Rattle.matrep.proofs.Ending.{outcome_is}
use Rattle.matrep.proofs.Verdicts.{accepts}
use Rattle.matrep.proofs.check.check_bytes.Goals as goal

pub returns-in-Ok : goal.returns-in-Ok
returns-in-Ok c =
    let P : Exit → List ℕ → Type 0 = λ e t. (f : Gf) × (order f ≡ c.args.q) × Checks f c.args.bytes.now e t in
    outcome_is (λ o. o.exit) (λ o. o.text) P c.accepted.result Done accepted_text c.accepted.ensures.exit c.accepted.ensures.text
    (c.field_with-field.result, c.field_with-field.ensures, accepts c.field_with-field.result c.args.bytes.now c.in-Ok.ensures.ok.0 c.in-Ok.ensures.ok.1)

pub returns-in-Err-Rejected : goal.returns-in-Err-Rejected
returns-in-Err-Rejected c =
    let P : Exit → List ℕ → Type 0 = λ e t. (f : Gf) × (order f ≡ c.args.q) × Checks f c.args.bytes.now e t in
    let line = c.in-Err-Rejected.line in
    let why = c.in-Err-Rejected.why in
    outcome_is (λ o. o.exit) (λ o. o.text) P c.rejected.result Negative (rejected_text line why) c.rejected.ensures.exit c.rejected.ensures.text
    (c.field_with-field.result, c.field_with-field.ensures, record { line = line; why = why; rejected = rw c.in-Err-Rejected.field-0-is at c.in-Err-Rejected.ensures.rejected; text_is = refl })
