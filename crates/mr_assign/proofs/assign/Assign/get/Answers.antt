-- the nibble at a position is its value
use Rattle.std.proofs.Common.{◌∙◌}
use Rattle.mr_assign.proofs.Maps.{value-view}
use Rattle.mr_assign.proofs.assign.Assign.get.Goals as goal

pub returns-clause-value : goal.returns-clause-value
returns-clause-value c = c.nibble_at.ensures ∙ value-view c.self.inside.words c.args.self.now c.args.p c.self.view_is c.requires
