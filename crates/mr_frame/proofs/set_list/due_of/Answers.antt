-- position by position
use Rattle.std.proofs.Common.{List, ℕ, ◌≡◌, [], get_or, subst, ◌∙◌}
use Rattle.std.proofs.lemmas.List.{get_or_default}
use Rattle.mr_frame.specs.Private.Building.{AreLast}
use Rattle.mr_frame.proofs.Lasting.{due_more}
use Rattle.mr_frame.proofs.set_list.due_of.Goals as goal

pub loop-p-preserved : goal.loop-p-preserved
loop-p-preserved c =
    let read : c.as_slice.result.now ≡ get_or c.args.tests.now c.loop-p.p [] = c.as_slice.ensures ∙ c.index-tests-p.is ∙ get_or_default c.args.tests.now c.loop-p.p c.index-tests-p.result [] c.loop-p-test.true in
    rw c.in_ok-push.ensures.items
    (due_more c.args.places.now c.args.members.now c.args.tests.now c.loop-p.due.items c.loop-p.p c.in_ok-last_of.field-0 c.loop-p.invariant
    (subst (λ (sets : List (List ℕ)). AreLast c.args.places.now c.args.members.now c.loop-p.p sets c.in_ok-last_of.field-0) read c.in_ok-last_of.ensures))
