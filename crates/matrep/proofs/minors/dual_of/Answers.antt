-- the file of the dual
use Rattle.std.proofs.Common.{◌≡◌, ℕ, List}
use Rattle.mr_file.specs.File.{file_text}
use Rattle.matrep.specs.Answering.{WritesDual}
use Rattle.matrep.specs.declared.outcome.Exit.TheVariants.{Done}
use Rattle.matrep.proofs.Solved.{outcome_told}
use Rattle.matrep.proofs.minors.dual_of.Goals as goal

pub returns : goal.returns
returns c =
    outcome_told (λ o. o.exit) (λ o. o.text) (WritesDual c.args.m.now) Done (λ (t : List ℕ). t ≡ file_text c.in_ok-dual.dual) c.file_of.result c.file_of.ensures.exit c.file_of.ensures.text (λ t is. (c.in_ok-dual.dual, c.in_ok-dual.ensures, is))
