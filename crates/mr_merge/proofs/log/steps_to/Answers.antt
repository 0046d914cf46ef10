-- the kept slots, their numbers and their steps
use Rattle.std.proofs.Common.{◌∙◌, ℕ, List, length, sym, ap, subst, arith}
use Rattle.std.proofs.lemmas.List.{get_or_read}
use Rattle.mr_nogood.specs.declared.row.Cite.TheVariants.{Slot}
use Rattle.mr_nogood.specs.Follows.{in_slots}
use Rattle.mr_merge.specs.Table.{all_rows}
use Rattle.mr_merge.specs.Steps.{AreStepsTo}
use Rattle.mr_merge.specs.Private.Marks.{AreKept, AreRenumbered}
use Rattle.mr_merge.proofs.Prefixing.{in_range}
use Rattle.mr_merge.proofs.Numbering.{kept_within, some_within, steps_to}
use Rattle.mr_merge.proofs.log.steps_to.Goals as goal

pub numbers_of-requires-clause-within : goal.numbers_of-requires-clause-within
numbers_of-requires-clause-within c = λ k d lt.
    let kept = subst (AreKept (all_rows c.args.table.now) c.args.end) (sym c.as_slice-slots.ensures.value) c.in_ok-kept.ensures in
    let within = kept_within (all_rows c.args.table.now) c.args.end c.as_slice-slots.result.now kept k d lt in
    let count = c.len.ensures in
    omega arith

pub steps_of-requires-clause-cites : goal.steps_of-requires-clause-cites
steps_of-requires-clause-cites c = λ s k t row there cites.
    let low = c.requires.rows s k t row there cites in
    let within = in_range (all_rows c.args.table.now) t low.0 low.1 in
    let size = ap length c.as_slice.ensures.value ∙ c.in_ok-numbers.ensures.size ∙ c.len.ensures in
    omega arith

pub index-requires : goal.index-requires
index-requires c =
    let within = some_within (all_rows c.args.table.now) c.args.end c.requires.end in
    let size = ap length c.as_slice.ensures.value ∙ c.in_ok-numbers.ensures.size ∙ c.len.ensures in
    let long = c.as_slice.ensures.len in
    omega arith

pub returns-clause-steps : goal.returns-clause-steps
returns-clause-steps c =
    let within = some_within (all_rows c.args.table.now) c.args.end c.requires.end in
    let size = c.in_ok-numbers.ensures.size ∙ c.len.ensures in
    let read = get_or_read c.in_ok-numbers.numbers.items c.args.end c.index.result.now (omega arith) c.index.ensures 0 in
    let kept = subst (AreKept (all_rows c.args.table.now) c.args.end) (sym c.as_slice-slots.ensures.value) c.in_ok-kept.ensures in
    let made = subst (λ (n : List ℕ). AreRenumbered (all_rows c.args.table.now) n c.as_slice-slots.result.now c.in_ok-steps.steps) c.as_slice.ensures.value c.in_ok-steps.ensures in
    subst (λ (n : ℕ). AreStepsTo (in_slots (all_rows c.args.table.now)) (Slot c.args.end) c.in_ok-steps.steps (Slot n)) (sym read)
    (steps_to (all_rows c.args.table.now) c.args.end c.as_slice-slots.result.now c.in_ok-numbers.numbers.items c.in_ok-steps.steps kept c.in_ok-numbers.ensures.numbers made)
