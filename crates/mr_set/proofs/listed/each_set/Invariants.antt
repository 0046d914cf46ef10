-- The masks so far are below the limit, and their sets are made.
use Rattle.std.proofs.Common.{◌≡◌, ◌<◌, ◌^◌, All, map, take}
use Rattle.mr_set.specs.Elements.{elements_below}
use Rattle.mr_set.specs.declared.TheConstants.{ELEMENTS}
use Rattle.mr_set.proofs.listed.each_set.Given as goal

abbrev pub invariant-loop-mask : goal.invariant-loop-mask
invariant-loop-mask l = All (λ mask. mask < 2 ^ ELEMENTS) (take l.mask-index l.masks) × (l.sets.items ≡ map (elements_below ELEMENTS) (take l.mask-index l.masks))
