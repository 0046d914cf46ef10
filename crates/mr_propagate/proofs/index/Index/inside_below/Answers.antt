-- all clauses in the node end before the position
use Rattle.std.proofs.Common.{◌≡◌, ℕ, subst, arith}
use Rattle.mr_nogood.specs.Follows.{in_slots}
use Rattle.mr_propagate.specs.Private.Found.{IsLeastFound, EndsBefore}
use Rattle.mr_propagate.proofs.Finding.{found_all, ends_with}
use Rattle.mr_propagate.proofs.index.Index.inside_below.Goals as goal

pub returns-clause-some : goal.returns-clause-some
returns-clause-some c =
    let last : c.loop-q.q ≡ c.args.p = omega arith in
    (found_all (in_slots c.args.self.now) c.args.node.now (EndsBefore c.args.p) c.loop-q.found
    (λ s row has part. ends_with c.args.node.now c.args.p row.clause c.requires.last part)
    (subst (λ (p : ℕ). IsLeastFound (in_slots c.args.self.now) (EndsBefore p) c.args.node.now c.loop-q.found) last c.loop-q.invariant)).1

pub returns-clause-none : goal.returns-clause-none
returns-clause-none c =
    let last : c.loop-q.q ≡ c.args.p = omega arith in
    (found_all (in_slots c.args.self.now) c.args.node.now (EndsBefore c.args.p) c.loop-q.found
    (λ s row has part. ends_with c.args.node.now c.args.p row.clause c.requires.last part)
    (subst (λ (p : ℕ). IsLeastFound (in_slots c.args.self.now) (EndsBefore p) c.args.node.now c.loop-q.found) last c.loop-q.invariant)).0
