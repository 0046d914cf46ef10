-- no sets are in order
use Rattle.std.proofs.Common.{◌≡◌, ◌≤◌, ℕ, List, [], sym, subst, arith}
use Rattle.std.specs.List.Sorted.{IsStrictlySortedBy}
use Rattle.mr_set.specs.Matroid.{Presentation, IsPresentation}
use Rattle.mr_pool.proofs.tests.uniform.Goals as goal

no_sets : (n r : ℕ) → r ≤ n → (xs : List (List ℕ)) → xs ≡ [] → IsPresentation (record { elements = n; rank = r; nonbases = xs })
unfolding IsStrictlySortedBy
no_sets n r flat xs none =
    let is : IsPresentation (record { elements = n; rank = r; nonbases = [] }) = record { rank = flat; sets = λ k d lt. absurd (omega arith); increasing = tt } in
    subst (λ (ys : List (List ℕ)). let m : Presentation = record { elements = n; rank = r; nonbases = ys } in IsPresentation m) (sym none) is

pub from_nonbases-requires-clause-sets : goal.from_nonbases-requires-clause-sets
from_nonbases-requires-clause-sets c = no_sets c.args.n c.args.r (omega arith) c.as_slice.result.now c.as_slice.ensures
