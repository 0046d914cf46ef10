-- for each value the first set before this place that fails, if the value isn't open
use Rattle.mr_field.specs.Gf.{order}
use Rattle.mr_linear.specs.Stored.{InField}
use Rattle.mr_frame.proofs.Owning.{sets_of}
use Rattle.mr_frame.proofs.Firsts.{FirstsTo, AllButOpen}
use Rattle.mr_frame.proofs.frame.Frame.first_failing_values.Given as goal

abbrev pub invariant-loop-part : goal.invariant-loop-part
invariant-loop-part l = FirstsTo l.self l.a l.p (sets_of l.part-items) l.first l.part-index × InField l.self.field l.copy × AllButOpen (order l.self.field) l.open l.first
