-- a clause in the node that ends at the position ends there with its value, or before it
use Rattle.std.proofs.Common.{List, ℕ, ◌+◌, ◌⊎◌, sym, subst}
use Rattle.mr_nogood.specs.Follows.{in_slots}
use Rattle.mr_propagate.specs.Private.Pairs.{pair_number}
use Rattle.mr_propagate.specs.Private.Found.{IsLeastFound, EndsAt, EndsBefore, lesser}
use Rattle.mr_propagate.proofs.Finding.{found_of, found_either, ends_there}
use Rattle.mr_propagate.proofs.index.Index.found_through.Goals as goal

pub returns : goal.returns
returns c =
    let number = pair_number c.args.p c.get-v.result in
    let here = rw c.pair_number.ensures at c.found_at.ensures in
    subst (IsLeastFound (in_slots c.args.self.now) (EndsBefore (c.args.p + 1)) c.args.node.now) (sym c.lesser.ensures)
    (found_of (in_slots c.args.self.now) c.args.node.now (λ (x : List ℕ). EndsBefore c.args.p x ⊎ EndsAt number x) (EndsBefore (c.args.p + 1)) (lesser c.args.found c.found_at.result)
    (λ s row has ends part. ends_there (in_slots c.args.self.now) c.args.node.now c.args.p c.get-v.result row.clause c.get-v.ensures.value ends part)
    (found_either (in_slots c.args.self.now) c.args.node.now (EndsBefore c.args.p) (EndsAt number) c.args.found c.found_at.result c.requires.found here))
