-- the file of the matroid, or the rank
use Rattle.std.proofs.Common.{◌≡◌, ℕ, List, ap, Err}
use Rattle.mr_file.specs.File.{file_text}
use Rattle.mr_matrix.specs.declared.fault.OfFault.{OfFault}
use Rattle.matrep.specs.Texts.{refusal_text}
use Rattle.matrep.specs.Answering.{FindsMatroid}
use Rattle.matrep.specs.declared.outcome.Fault.TheVariants.{RankShort}
use Rattle.matrep.specs.declared.outcome.Exit.TheVariants.{Done, Refused}
use Rattle.matrep.proofs.Solved.{outcome_told}
use Rattle.matrep.proofs.matrices.represented.Goals as goal

pub returns-in-Ok : goal.returns-in-Ok
returns-in-Ok c =
    outcome_told (λ o. o.exit) (λ o. o.text) (FindsMatroid c.args.a.now) Done (λ (t : List ℕ). t ≡ file_text c.in-Ok.m) c.file_of.result c.file_of.ensures.exit c.file_of.ensures.text (λ t is. (c.in-Ok.m, c.in-Ok.ensures.ok, is))

pub returns-in-Err-RankShort : goal.returns-in-Err-RankShort
returns-in-Err-RankShort c =
    let k = c.in-Err-RankShort.rank in
    outcome_told (λ o. o.exit) (λ o. o.text) (FindsMatroid c.args.a.now) (Refused (RankShort k)) (λ (t : List ℕ). t ≡ refusal_text (RankShort k)) c.refused.result c.refused.ensures.exit c.refused.ensures.text
    (λ t is. ((c.in-Err-RankShort.ensures.rank k).0 (ap (λ (e : OfFault). Err e) c.in-Err-RankShort.field-0-is), is))
