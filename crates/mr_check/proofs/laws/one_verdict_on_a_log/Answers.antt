-- accepted, or rejected once
use Rattle.mr_check.proofs.Rejections.{accepted_is_not_rejected, rejected_once}
use Rattle.mr_check.proofs.Either.{accepted_or_rejected}
use Rattle.mr_check.proofs.laws.one_verdict_on_a_log.Goals as goal

pub returns-clause-accepted : goal.returns-clause-accepted
returns-clause-accepted c = accepted_is_not_rejected

pub returns-clause-rejected : goal.returns-clause-rejected
returns-clause-rejected c = rejected_once

pub returns-clause-either : goal.returns-clause-either
returns-clause-either c = accepted_or_rejected
