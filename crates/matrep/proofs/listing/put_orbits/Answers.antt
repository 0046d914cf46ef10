-- the lines of one orbit after another
use Rattle.matrep.proofs.Listed.{orbits_none, orbits_more, orbits_all}
use Rattle.matrep.proofs.listing.put_orbits.Goals as goal

pub loop-orbit-init : goal.loop-orbit-init
loop-orbit-init c = orbits_none c.args.frame.now c.args.text.now

pub loop-orbit-preserved : goal.loop-orbit-preserved
loop-orbit-preserved c = orbits_more c.args.frame.now c.args.orbits.now c.loop-orbit.orbit-index c.orbit-item.result c.args.text.now c.loop-orbit.text c.put_size.new.text c.put_block.new.text c.loop-orbit-test.true c.orbit-item.is c.loop-orbit.invariant c.in_ok-put_size.ensures c.in_ok-put_block.ensures

pub returns : goal.returns
returns c = orbits_all c.args.frame.now c.args.orbits.now c.loop-orbit.orbit-index c.args.text.now c.loop-orbit.text c.loop-orbit-test.false c.loop-orbit.invariant
