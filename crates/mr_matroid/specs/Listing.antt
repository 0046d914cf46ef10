-- The fields of a list of sets with its flags.
use Rattle.mr_set.specs.Matroid.{Presentation}
use Rattle.mr_matroid.specs.declared.listing.Listing.TheInside.{Inside}

-- the numbers and the sets that the fields hold
abbrev pub presentation : Inside → Presentation
presentation f = record { elements = f.elements; rank = f.rank; nonbases = f.sets.items }
