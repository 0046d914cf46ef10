-- at first the end's slot is marked, and at last all slots were seen to
use Rattle.std.proofs.Common.{◌≡◌, ℕ, List, Bool, false, true, length, replicate, set, subst, sym, ap, ◌∙◌, arith}
use Rattle.mr_merge.specs.Table.{all_rows}
use Rattle.mr_merge.specs.Private.Marks.{MarksFrom}
use Rattle.mr_merge.proofs.Reaching.{marks_at_first}
use Rattle.mr_merge.proofs.marks.marks_from.Goals as goal

pub loop-left-init : goal.loop-left-init
loop-left-init c =
    let rows = all_rows c.args.table.now in
    let is : c.in_ok-marks.marks.items ≡ replicate (length rows) false = c.in_ok-marks.ensures.items_if_clones_equal (λ y e. e) ∙ ap (λ (n : ℕ). replicate n false) c.len.ensures in
    (omega arith, subst (λ (marks : List Bool). MarksFrom rows c.args.end c.args.slots.now (length c.args.slots.now) (set marks c.args.end true)) (sym is) (marks_at_first rows c.args.end c.args.slots.now (length c.args.slots.now) c.requires.end (omega arith)))

pub returns : goal.returns
returns c =
    let done : c.loop-left.left ≡ 0 = omega arith in
    subst (λ (i : ℕ). MarksFrom (all_rows c.args.table.now) c.args.end c.args.slots.now i c.loop-left.marks.items) done c.loop-left.invariant.1
