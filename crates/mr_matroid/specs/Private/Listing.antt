-- The fields of a list of sets with its flags: words of private contracts and of the proofs.
use Rattle.mr_matroid.specs.Private.Table.{IsHeld, AreFlags}
use Rattle.mr_matroid.specs.Private.Counts.{AreCounts}
use Rattle.mr_matroid.specs.declared.listing.Listing.TheInside.{Inside}
use Rattle.mr_matroid.specs.Listing.{presentation}

-- they are within the limits, and the counts and the flags are theirs
pub record IsListing (f : Inside) : Type 0 where
  pub held : IsHeld (presentation f)
  pub counts : AreCounts f.elements f.counts.items
  pub flags : AreFlags f.elements f.rank f.sets.items f.flags.items
