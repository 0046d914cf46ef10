use Rattle.std.proofs.Common.{take}
use Rattle.matrep.specs.Private.Listing.{AppendsOrbits}
use Rattle.matrep.proofs.listing.put_orbits.Given as goal

abbrev pub invariant-loop-orbit : goal.invariant-loop-orbit
invariant-loop-orbit l = AppendsOrbits l.frame (take l.orbit-index l.orbits) l.fn.text l.text
