-- the free positions before this one are read
use Rattle.mr_class.specs.Private.Scaling.{IsReadTo}
use Rattle.mr_class.proofs.scale.read_form.Given as goal

abbrev pub invariant-loop-p : goal.invariant-loop-p
invariant-loop-p l = IsReadTo l.frame.places l.a l.p l.form
