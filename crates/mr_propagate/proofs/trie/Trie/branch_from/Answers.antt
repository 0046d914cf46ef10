-- position by position from the greatest one down
use Rattle.std.proofs.Common.{◌≡◌, ℕ, suc, ◌-◌, subst, arith}
use Rattle.std.specs.Prelude.{◌<◌}
use Rattle.mr_assign.specs.declared.TheConstants.{POSITIONS}
use Rattle.mr_propagate.specs.Private.Trie.{IsOnTheWay}
use Rattle.mr_propagate.proofs.Growing.{more_trans}
use Rattle.mr_propagate.proofs.Inserting.{way_taken, way_all}
use Rattle.mr_propagate.proofs.trie.Trie.branch_from.Goals as goal

pub get-v-requires : goal.get-v-requires
get-v-requires c = let low = c.loop-q.invariant.0 in let small = c.requires.position in omega arith

pub loop-q-preserved-then-v-ne0 : goal.loop-q-preserved-then-v-ne0
loop-q-preserved-then-v-ne0 c =
    let mid = c.loop-q.self.branches.items in
    let after = c.child.new.self.branches.items in
    let q : ℕ = c.loop-q.q - 1 in
    let down : c.loop-q.q ≡ suc (c.loop-q.q - 1) = omega arith in
    let low = c.loop-q.invariant.0 in
    let small : c.loop-q.q - 1 < POSITIONS = let limit = c.requires.position in omega arith in
    let way : IsOnTheWay mid c.args.clause.now c.args.start (suc (c.loop-q.q - 1)) c.loop-q.pairs c.loop-q.at = subst (λ (x : ℕ). IsOnTheWay mid c.args.clause.now c.args.start x c.loop-q.pairs c.loop-q.at) down c.loop-q.invariant.2 in (
      omega arith,
      more_trans c.args.self.now.branches.items mid after c.loop-q.invariant.1 c.in_ok-at.ensures.more,
      way_taken mid c.args.clause.now c.args.start q c.loop-q.pairs c.loop-q.at way after c.get-v.result c.in_ok-at.at c.with-pairs.result small c.get-v.ensures.value c.in_ok-at.ensures.more c.in_ok-at.ensures.child c.with-pairs.ensures,
    )

pub returns-clause-ends : goal.returns-clause-ends
returns-clause-ends c =
    let zero : c.loop-q.q ≡ 0 = omega arith in
    way_all c.loop-q.self.branches.items c.args.clause.now c.args.start c.loop-q.pairs c.loop-q.at c.requires.clause
    (subst (λ (x : ℕ). IsOnTheWay c.loop-q.self.branches.items c.args.clause.now c.args.start x c.loop-q.pairs c.loop-q.at) zero c.loop-q.invariant.2)
