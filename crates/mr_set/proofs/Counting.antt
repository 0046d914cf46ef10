-- A list of sets of one size in order is no longer than there are such sets.
use Rattle.std.proofs.Common.{ℕ, ◌≤◌, List, length, subst, arith}
use Rattle.std.specs.Prelude.{All}
use Rattle.std.specs.List.Sorted.{IsStrictlySortedBy}
use Rattle.std.proofs.lemmas.Cmp.{nat_list_cmp_total}
use Rattle.mr_set.specs.Subsets.{IsSetOf, choose, list_cmp}
use Rattle.mr_set.specs.Private.Enumeration.{sets_from}
use Rattle.mr_set.specs.Places.{IsAllSets}
use Rattle.mr_set.proofs.Ordered.{length-le_from_members}
use Rattle.mr_set.proofs.Listing.{all_sets, length-sets_from}

-- sets of r of the first n elements in order are at most as many as there are
pub no_more_sets : (n r : ℕ) (sets : List (List ℕ)) → All (IsSetOf n r) sets → IsStrictlySortedBy list_cmp sets → length sets ≤ choose n r
no_more_sets n r sets all sorted =
    let listed : IsAllSets n r (sets_from 0 n r) = all_sets n r in
    let le = length-le_from_members nat_list_cmp_total (sets_from 0 n r) sets sorted listed.increasing (λ x inside.
    (listed.exactly x).1 (subst (IsSetOf n r) inside.2 (all inside.0 x inside.1))) in
    let size = length-sets_from 0 n r in
    omega arith
