-- the file of the minor, or the first stranger
use Rattle.std.proofs.Common.{◌≡◌, ℕ, List, refl, ap, Result, Ok, Err}
use Rattle.mr_file.specs.File.{file_text}
use Rattle.mr_minor.specs.declared.fault.MinorFault.{MinorFault}
use Rattle.matrep.specs.Texts.{refusal_text}
use Rattle.matrep.specs.Answering.{IsStranger, WritesMinor}
use Rattle.matrep.specs.declared.outcome.Fault.TheVariants.{Stranger}
use Rattle.matrep.specs.declared.outcome.Exit.TheVariants.{Done, Refused}
use Rattle.matrep.proofs.Solved.{outcome_told}
use Rattle.matrep.proofs.minors.minor_of.Goals as goal

-- a success is no refusal
ok_err : {T E : Type 0} (x : T) (e : E) (r : Result T E) → r ≡ Ok x → r ≡ Err e → ⊥
ok_err x e r made refused = cc

pub returns-in-Ok : goal.returns-in-Ok
returns-in-Ok c =
    let none : (e : ℕ) → IsStranger c.args.delete c.args.contract c.args.m.now e → ⊥ = λ e stranger. ok_err c.in-Ok.minor _ _ refl ((c.in-Ok.ensures.stranger e).1 stranger) in
    outcome_told (λ o. o.exit) (λ o. o.text) (WritesMinor c.args.delete c.args.contract c.args.m.now) Done (λ (t : List ℕ). t ≡ file_text c.in-Ok.minor) c.file_of.result c.file_of.ensures.exit c.file_of.ensures.text (λ t is. (c.in-Ok.minor, none, c.in-Ok.ensures.ok, is))

pub returns-in-Err-Stranger : goal.returns-in-Err-Stranger
returns-in-Err-Stranger c =
    let e = c.in-Err-Stranger.e in
    outcome_told (λ o. o.exit) (λ o. o.text) (WritesMinor c.args.delete c.args.contract c.args.m.now) (Refused (Stranger e)) (λ (t : List ℕ). t ≡ refusal_text (Stranger e)) c.refused.result c.refused.ensures.exit c.refused.ensures.text
    (λ t is. ((c.in-Err-Stranger.ensures.stranger e).0 (ap (λ (x : MinorFault). Err x) c.in-Err-Stranger.field-0-is), is))
