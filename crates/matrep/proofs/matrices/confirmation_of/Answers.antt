-- what is told of a matrix that represents the matroid, or of the first difference
use Rattle.std.proofs.Common.{◌≡◌, ℕ, List}
use Rattle.mr_matrix.specs.Confirmation.{IsConfirmation}
use Rattle.matrep.specs.Texts.{confirmed_text, differs_text}
use Rattle.matrep.specs.Answering.{Confirms}
use Rattle.matrep.specs.declared.outcome.Exit.TheVariants.{Done, Negative}
use Rattle.matrep.proofs.Solved.{outcome_told}
use Rattle.matrep.proofs.matrices.confirmation_of.Goals as goal

pub returns-in-Confirmed : goal.returns-in-Confirmed
returns-in-Confirmed c =
    outcome_told (λ o. o.exit) (λ o. o.text) (Confirms c.args.pair.now) Done (λ (t : List ℕ). t ≡ confirmed_text) c.confirmed.result c.confirmed.ensures.exit c.confirmed.ensures.text (λ t is. (c.in-Confirmed.ensures, is))

pub returns-in-Differs : goal.returns-in-Differs
returns-in-Differs c =
    let x = c.in-Differs.set in
    outcome_told (λ o. o.exit) (λ o. o.text) (Confirms c.args.pair.now) Negative (λ (t : List ℕ). t ≡ differs_text x) c.differs.result c.differs.ensures.exit c.differs.ensures.text (λ t is. (x, c.in-Differs.ensures, is))
