-- the marked slots are those that the end leads to
use Rattle.std.proofs.Common.{◌∙◌, ℕ, List, Bool, length, sym, ap, subst, arith, Vec, Global}
use Rattle.std.proofs.lemmas.Result.{IfOk-weaker}
use Rattle.mr_merge.specs.Table.{all_rows}
use Rattle.mr_merge.specs.Private.Order.{AreInOrder}
use Rattle.mr_merge.specs.Private.Marks.{MarksFrom, AreKept}
use Rattle.mr_merge.proofs.Reaching.{slot_within}
use Rattle.mr_merge.proofs.Numbering.{are_kept}
use Rattle.mr_merge.proofs.marks.kept_slots.Goals as goal

pub marked-requires : goal.marked-requires
marked-requires c = λ k d lt.
    let order = subst (AreInOrder (all_rows c.args.table.now)) (sym c.as_slice-slots.ensures.value) c.in_ok-found.ensures.order in
    let within = slot_within (all_rows c.args.table.now) c.as_slice-slots.result.now c.requires.rows order k d lt in
    let size = ap length c.as_slice.ensures.value ∙ c.in_ok-marks.ensures.size in
    omega arith

pub returns : goal.returns
returns c =
    let order = subst (AreInOrder (all_rows c.args.table.now)) (sym c.as_slice-slots.ensures.value) c.in_ok-found.ensures.order in
    let marks = subst (λ (m : List Bool). MarksFrom (all_rows c.args.table.now) c.args.end c.as_slice-slots.result.now 0 m) (sym c.as_slice.ensures.value) c.in_ok-marks.ensures in
    let few = ap length c.as_slice-slots.ensures.value in
    let less = c.in_ok-found.ensures.few in
    let are = are_kept (all_rows c.args.table.now) c.as_slice-slots.result.now c.args.end c.as_slice.result.now c.requires.rows order marks c.requires.end (omega arith) in
    IfOk-weaker c.marked.result _ (λ (kept : Vec ℕ Global). AreKept (all_rows c.args.table.now) c.args.end kept.items) (λ kept is. subst (AreKept (all_rows c.args.table.now) c.args.end) (sym is) are) c.marked.ensures
