-- One set more, and the last.
use Rattle.std.proofs.Common.{◌≡◌, ◌++◌, ◌∷◌, [], sym, subst}
use Rattle.mr_set.specs.Matroid.{IsBasis}
use Rattle.mr_matroid.specs.Private.Table.{AreBases}
use Rattle.mr_matroid.proofs.Walk.{next_falls}
use Rattle.mr_matroid.proofs.BasisLists.{AreBasesBefore, none_before, one_basis_more, no_basis_more, all_with_last, all_without_last}
use Rattle.mr_matroid.proofs.table.unlisted.Goals as goal
use Rattle.mr_matroid.proofs.table.unlisted.Goals.{then-not-listed+in_ok-push, else-not-listed}

pub sets-init : goal.sets-init
sets-init c =
    let first = none_before c.args.listing.now c.first_subset-s.result (rw (← c.elements.ensures.value, ← c.rank.ensures) c.first_subset-s.ensures.first) in
    subst (AreBasesBefore c.args.listing.now c.first_subset-s.result) (sym c.new-sets.ensures.items) first

pub sets-smaller : goal.sets-smaller
sets-smaller c = next_falls c.args.listing.now.elements c.args.listing.now.rank c.sets.s c.in-Some.next c.elements.ensures.held.limits.elements c.sets.invariant.set (rw (← c.elements-in-sets.ensures.value) c.in-Some.ensures)

pub sets-preserved : goal.sets-preserved
sets-preserved c =
    let next = rw c.elements-in-sets.ensures.value at c.in-Some.ensures in
    elim c.if-not-listed.branch [
      | then-not-listed+in_ok-push w ↦
          let same : c.if-not-listed.sets.items ≡ c.sets.sets.items ++ c.sets.s ∷ [] = rw w.sets-is w.in_ok-push.ensures.items in
          let basis : IsBasis c.args.listing.now c.sets.s = (c.sets.invariant.set, λ listed. let flag = c.listed.ensures.1 listed in let no_flag = w.if-not-listed.true in cc) in
          subst (AreBasesBefore c.args.listing.now c.in-Some.next) (sym same) (one_basis_more c.args.listing.now c.sets.s c.in-Some.next c.sets.sets.items basis next c.sets.invariant)
      | else-not-listed w ↦
          let same : c.if-not-listed.sets.items ≡ c.sets.sets.items = cc in
          subst (AreBasesBefore c.args.listing.now c.in-Some.next) (sym same) (no_basis_more c.args.listing.now c.sets.s c.in-Some.next c.sets.sets.items (λ basis. basis.1 (c.listed.ensures.0 w.if-not-listed.false)) next c.sets.invariant)
    ]

pub returns-in-None : goal.returns-in-None
returns-in-None c =
    let last = rw c.elements-in-sets.ensures.value at c.in-None.ensures in
    elim c.if-not-listed.branch [
      | then-not-listed+in_ok-push w ↦
          let same : c.if-not-listed.sets.items ≡ c.sets.sets.items ++ c.sets.s ∷ [] = rw w.sets-is w.in_ok-push.ensures.items in
          let basis : IsBasis c.args.listing.now c.sets.s = (c.sets.invariant.set, λ listed. let flag = c.listed.ensures.1 listed in let no_flag = w.if-not-listed.true in cc) in
          subst (AreBases c.args.listing.now) (sym same) (all_with_last c.args.listing.now c.sets.s c.sets.sets.items basis last c.sets.invariant)
      | else-not-listed w ↦
          let same : c.if-not-listed.sets.items ≡ c.sets.sets.items = cc in
          subst (AreBases c.args.listing.now) (sym same) (all_without_last c.args.listing.now c.sets.s c.sets.sets.items (λ basis. basis.1 (c.listed.ensures.0 w.if-not-listed.false)) last c.sets.invariant)
    ]
