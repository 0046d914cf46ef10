-- the fault is that of the file
use Rattle.std.proofs.Common.{◌≡◌}
use Rattle.matrep.specs.Result.{IsFileFault}
use Rattle.matrep.proofs.Inputs.{refuses}
use Rattle.matrep.proofs.input.refused_file.Goals as goal

pub returns-in-Some : goal.returns-in-Some
returns-in-Some c =
    refuses (λ o. o.exit) (λ o. o.text) (IsFileFault (λ e. e ≡ c.args.fault)) c.in-Some.fault c.refused.result c.in-Some.ensures c.refused.ensures.exit c.refused.ensures.text
