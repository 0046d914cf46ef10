use Rattle.std.proofs.Common.{◌-◌, ◌∙◌, ap}
use Rattle.mr_set.specs.Elements.{elements_below}
use Rattle.mr_set.proofs.Lowest.{low_bits, power}
use Rattle.mr_set.proofs.set.Set.below.Goals as goal

pub returns : goal.returns
returns c = ap (λ k. elements_below 32 (k - 1)) (power c.args.n c.requires) ∙ low_bits c.args.n c.requires
