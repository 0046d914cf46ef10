use Rattle.mr_set.specs.Elements.{IsSet}
use Rattle.mr_set.proofs.places.tests.set_of.Given as goal

abbrev pub invariant-loop-e : goal.invariant-loop-e
invariant-loop-e l = IsSet l.n l.s
