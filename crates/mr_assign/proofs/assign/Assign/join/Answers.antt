-- the join takes the other map's values one by one, or stops at two different ones
use Rattle.std.proofs.Common.{◌≡◌, ◌≢◌, ◌+◌, ℕ, List, set, subst, sym, ap, ◌∙◌, refl, arith}
use Rattle.mr_assign.specs.declared.TheConstants.{POSITIONS}
use Rattle.mr_assign.specs.Packing.{nibble_at, nibbles}
use Rattle.mr_assign.proofs.Maps.{IsJoined, joined_none, joined_with, joined_without, joined_all, no_conflict, conflict_at}
use Rattle.mr_assign.proofs.assign.Assign.join.Goals as goal
use Rattle.mr_assign.proofs.assign.Assign.join.Goals.{then-v-ne0+else-had-ne0, else-had-ne0-via-then-had-ne0+else-had-v, else-had-ne0-via-else-had-ne0, else-v-ne0}

pub loop-p-init : goal.loop-p-init
loop-p-init c = joined_none c.self.inside.words c.other.inside.words (nibbles c.self.inside.words) refl

pub returns-then-had-v-clause-none : goal.returns-then-had-v-clause-none
returns-then-had-v-clause-none c = (
  λ no. (
    c.loop-p.p,
    conflict_at c.self.inside.words c.other.inside.words c.args.self.now c.args.other.now c.loop-p.p c.self.view_is c.other.view_is c.loop-p-test.true
        (λ e. c.if-had-ne0.true (c.nibble_at-had.ensures ∙ e))
        (λ e. c.if-v-ne0.true (c.nibble_at-v.ensures ∙ e))
        (λ e. c.if-had-v.true (c.nibble_at-had.ensures ∙ e ∙ sym c.nibble_at-v.ensures)),
  ),
  λ x. refl,
)

pub loop-p-preserved : goal.loop-p-preserved
loop-p-preserved c = elim c.if-v-ne0.branch [
  | then-v-ne0+else-had-ne0 w ↦
      let agrees : nibble_at c.self.inside.words c.loop-p.p ≢ 0 → nibble_at c.self.inside.words c.loop-p.p ≡ nibble_at c.other.inside.words c.loop-p.p =
      λ some. elim w.else-had-ne0.branch [
        | else-had-ne0-via-then-had-ne0+else-had-v v ↦ sym w.nibble_at-had.ensures ∙ v.if-had-v.false ∙ c.nibble_at-v.ensures
        | else-had-ne0-via-else-had-ne0 v ↦ absurd (some (sym w.nibble_at-had.ensures ∙ v.if-had-ne0.false))
      ] in
      subst (λ (both : List ℕ). IsJoined c.self.inside.words c.other.inside.words both (c.loop-p.p + 1))
      (sym (w.both-is ∙ w.with-both.ensures ∙ ap (set c.loop-p.both c.loop-p.p) c.nibble_at-v.ensures))
      (joined_with c.self.inside.words c.other.inside.words c.loop-p.both c.loop-p.p c.loop-p.invariant c.loop-p-test.true agrees)
  | else-v-ne0 w ↦
      subst (λ (both : List ℕ). IsJoined c.self.inside.words c.other.inside.words both (c.loop-p.p + 1)) (sym w.both-is)
      (joined_without c.self.inside.words c.other.inside.words c.loop-p.both c.loop-p.p c.loop-p.invariant c.loop-p-test.true (sym c.nibble_at-v.ensures ∙ w.if-v-ne0.false))
]

pub returns-clause-none : goal.returns-clause-none
returns-clause-none c =
    let ended : c.loop-p.p ≡ POSITIONS = omega arith in (
      λ no. cc,
      λ x. absurd (no_conflict c.self.inside.words c.other.inside.words c.args.self.now c.args.other.now c.loop-p.both c.self.view_is c.other.view_is
          (subst (λ (p : ℕ). IsJoined c.self.inside.words c.other.inside.words c.loop-p.both p) ended c.loop-p.invariant) x.0 x.1),
    )

pub returns-clause-some : goal.returns-clause-some
returns-clause-some c =
    let ended : c.loop-p.p ≡ POSITIONS = omega arith in
    joined_all c.self.inside.words c.other.inside.words c.args.self.now c.args.other.now c.loop-p.both c.self.view_is c.other.view_is
    (subst (λ (p : ℕ). IsJoined c.self.inside.words c.other.inside.words c.loop-p.both p) ended c.loop-p.invariant)
