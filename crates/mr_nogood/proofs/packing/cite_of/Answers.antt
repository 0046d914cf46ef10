-- the word's size tells which cite it is
use Rattle.std.proofs.Common.{arith}
use Rattle.std.proofs.lemmas.Grind.{common_steps}
use Rattle.std.proofs.lemmas.Bool.Decides.{nat_tests}
use Rattle.mr_nogood.specs.Unpacking.{cite_of}
use Rattle.mr_nogood.proofs.packing.cite_of.Goals as goal

pub returns-then-word-ge-SLOT : goal.returns-then-word-ge-SLOT
unfolding cite_of
returns-then-word-ge-SLOT c = grind (arith, nat_tests, common_steps)

pub returns-then-word-lt-TEST : goal.returns-then-word-lt-TEST
unfolding cite_of
returns-then-word-lt-TEST c = grind (arith, nat_tests, common_steps)

pub returns-in-Some : goal.returns-in-Some
unfolding cite_of
returns-in-Some c = grind (arith, nat_tests, common_steps)
