-- What each step of a search hands on.
use Rattle.std.proofs.Common.{rules, set, ◌≡◌, ◌+◌, ◌-◌, ◌<◌, ◌≤◌, length, List, ◌∙◌, ap, sym, subst, refl, arith, get_or, get_or-set_same, get_or-set_other}
use Rattle.std.proofs.lemmas.List.{length-set, get_or_default}
use Rattle.std.proofs.Common.{ℕ}
use Rattle.std.proofs.lemmas.Result.{err_from_is_err_and, IfOk-from_err}
use Rattle.mr_field.specs.Gf.{order}
use Rattle.mr_frame.specs.Frame.{Framed}
use Rattle.mr_nogood.specs.Follows.{in_slots}
use Rattle.mr_nogood.specs.declared.row.Cite.{Cite}
use Rattle.mr_nogood.specs.declared.row.Cite.TheVariants.{Nothing, Slot}
use Rattle.mr_frame.specs.Test.{IsAssignmentOf}
use Rattle.mr_exchange.proofs.CubesInOrder.{few_elements}
use Rattle.std.specs.Prelude.{MatchOption, Option, None}
use Rattle.mr_propagate.specs.Index.{NothingInside, IsExcludedBy, IsOpenAt, NoneFailsAt, IsFirstFailingAt}
use Rattle.mr_search.specs.declared.outcome.Outcome.TheVariants.{Completed, Excluded, Deduced}
use Rattle.mr_search.specs.Private.Steps.{Answered, Stopped, Through}
use Rattle.mr_search.proofs.Answering.{answers_inside, answers_full, answers_by_values, stops_by_values, stops_opened, tried_own, tried_unknown, tried_values, tried_place, tried_cites, answers_published, stops_published}
use Rattle.mr_search.proofs.Children.{next_place}
use Rattle.mr_search.proofs.Stepping.{same_rows, inside_known, nothing_known, nothing_learnt, can_opened, few_positions, cube_within, none_from, first_again, child_can, answers_excluded, nothing_completed, no_cites}
use Rattle.mr_search.specs.Private.Citing.{HasValueAt}
use Rattle.mr_search.proofs.Settling.{answered_by_row, nothing_beside}
use Rattle.mr_search.proofs.Trying.{through_none, can_again, place_again, value_again, through_completed, through_excluded, through_inside, through_stopped, all_completed, all_excluded}
use Rattle.mr_search.proofs.node.+search.Goals as goal
use Rattle.mr_search.proofs.node.+search.Goals.{search_values-in-Completed, search_values-in-Excluded}

pub search_node-open-requires : goal.search_node-open-requires
search_node-open-requires g t c = c.requires

pub search_node-inside_now-requires-clause-position : goal.search_node-inside_now-requires-clause-position
search_node-inside_now-requires-clause-position g t c = cube_within (g.B.Board.holding c.args.board.now) c.args.index.now c.args.node.now c.args.p c.requires

pub search_node-inside_now-requires-clause-last : goal.search_node-inside_now-requires-clause-last
search_node-inside_now-requires-clause-last g t c = none_from c.args.node.now c.args.p c.requires.values.just

pub search_node-inside_now-requires-clause-nothing : goal.search_node-inside_now-requires-clause-nothing
search_node-inside_now-requires-clause-nothing g t c = λ none. subst (λ xs. NothingInside (in_slots xs) c.args.node.now) (sym (c.in_ok-opening.ensures.same none))
    (nothing_learnt c.args.index.now (g.B.Board.holding c.args.board.now) c.args.node.now c.requires.stands.ready.learnt c.requires.nothing)

pub search_node-returns-in_err-opening-clause-ok : goal.search_node-returns-in_err-opening-clause-ok
search_node-returns-in_err-opening-clause-ok g t c = IfOk-from_err _ _ c.from_residual.ensures.0

pub search_node-returns-in_err-opening-clause-stop : goal.search_node-returns-in_err-opening-clause-stop
search_node-returns-in_err-opening-clause-stop g t c = let p = err_from_is_err_and c.from_residual.result c.from_residual.ensures.1 in rw (p.1, p.2) c.in_err-opening.ensures.stop

pub search_node-returns-in_err-opening-clause-mark : goal.search_node-returns-in_err-opening-clause-mark
search_node-returns-in_err-opening-clause-mark g t c = c.in_err-opening.ensures.mark

pub search_node-returns-in-Some-clause-ok : goal.search_node-returns-in-Some-clause-ok
search_node-returns-in-Some-clause-ok g t c =
    let opens = c.in_ok-opening.ensures.ok in
    answers_inside (g.B.Board.holding c.args.board.now) c.args.index.now c.args.node.now c.args.p c.requires (g.B.Board.holding c.open.new.board) c.open.new.index c.in_ok-opening.opening.ticket opens c.args.found.now c.in-Some.slot
    (inside_known c.open.new.index (g.B.Board.holding c.open.new.board) c.args.node.now c.in-Some.slot opens.stands.ready.learnt c.in-Some.ensures.some)

pub search_node-returns-in-Some-clause-mark : goal.search_node-returns-in-Some-clause-mark
search_node-returns-in-Some-clause-mark g t c = c.in_ok-opening.ensures.mark

pub search_node-returns-in_err-push-clause-ok : goal.search_node-returns-in_err-push-clause-ok
search_node-returns-in_err-push-clause-ok g t c = IfOk-from_err _ _ c.from_residual-in_err-push.ensures.0

pub search_node-returns-in_err-push-clause-stop : goal.search_node-returns-in_err-push-clause-stop
search_node-returns-in_err-push-clause-stop g t c = let p = err_from_is_err_and c.from_residual-in_err-push.result c.from_residual-in_err-push.ensures.1 in
    rw (p.1, p.2) (stops_opened (g.B.Board.holding c.args.board.now) c.args.index.now c.args.node.now c.args.p c.requires (g.B.Board.holding c.open.new.board) c.open.new.index c.in_ok-opening.opening.ticket c.in_ok-opening.ensures.ok)

pub search_node-returns-in_err-push-clause-mark : goal.search_node-returns-in_err-push-clause-mark
search_node-returns-in_err-push-clause-mark g t c = c.in_ok-opening.ensures.mark

pub search_node-returns-then-p-free-clause-ok : goal.search_node-returns-then-p-free-clause-ok
search_node-returns-then-p-free-clause-ok g t c =
    let opens = c.in_ok-opening.ensures.ok in
    answers_full (g.B.Board.holding c.args.board.now) c.args.index.now c.args.node.now c.args.p c.requires (g.B.Board.holding c.open.new.board) c.open.new.index c.in_ok-opening.opening.ticket opens c.args.found.now c.push.new.self
    (c.if-p-free.true ∙ c.free.ensures.value ∙ ap (λ (f : Framed). length f.places) (c.frame.ensures.frame ∙ opens.keeps.frame)) c.in_ok-push.ensures.ok

pub search_node-returns-then-p-free-clause-mark : goal.search_node-returns-then-p-free-clause-mark
search_node-returns-then-p-free-clause-mark g t c = c.in_ok-opening.ensures.mark

pub search_node-search_values-requires : goal.search_node-search_values-requires
search_node-search_values-requires g t c κs within =
    let before = g.B.Board.holding c.args.board.now in
    let mid = g.B.Board.holding c.open.new.board in
    let can = can_opened before mid c.args.index.now c.open.new.index c.args.node.now c.args.p c.in_ok-opening.opening.ticket c.requires c.in_ok-opening.ensures.ok (c.in_default.ensures.none.0 refl) in
    let free = next_place mid.frame c.args.node.now c.args.p can.values (λ same. c.if-p-free.false (same ∙ ap (λ (f : Framed). length f.places) (sym c.frame.ensures.frame) ∙ sym c.free.ensures.value)) in
    search (rules, can, free)

pub search_node-returns-in_err-search_values-clause-ok : goal.search_node-returns-in_err-search_values-clause-ok
search_node-returns-in_err-search_values-clause-ok g t c = IfOk-from_err _ _ c.from_residual-in_err-search_values.ensures.0

pub search_node-returns-in_err-search_values-clause-stop : goal.search_node-returns-in_err-search_values-clause-stop
search_node-returns-in_err-search_values-clause-stop g t c = let p = err_from_is_err_and c.from_residual-in_err-search_values.result c.from_residual-in_err-search_values.ensures.1 in
    rw (p.1, p.2) (stops_by_values (g.B.Board.holding c.args.board.now) c.args.index.now c.args.node.now c.args.p c.requires (g.B.Board.holding c.open.new.board) c.open.new.index c.in_ok-opening.opening.ticket c.in_ok-opening.ensures.ok
    (g.B.Board.holding c.search_values.new.board) _ c.in_err-search_values.ensures.stop)

pub search_node-returns-in_err-search_values-clause-mark : goal.search_node-returns-in_err-search_values-clause-mark
search_node-returns-in_err-search_values-clause-mark g t c = c.in_err-search_values.ensures.mark ∙ c.in_ok-opening.ensures.mark

pub search_node-publish-requires-clause-stands : goal.search_node-publish-requires-clause-stands
search_node-publish-requires-clause-stands g t c = let exhausted = rw c.in-Excluded.is at c.in_ok-search_values.ensures.ok in exhausted.through.stands

pub search_node-publish-requires-clause-own : goal.search_node-publish-requires-clause-own
search_node-publish-requires-clause-own g t c = tried_own (g.B.Board.holding c.args.board.now) c.args.index.now c.args.node.now c.args.p c.requires (g.B.Board.holding c.open.new.board) c.open.new.index c.in_ok-opening.opening.ticket c.in_ok-opening.ensures.ok
    (g.B.Board.holding c.search_values.new.board) c.search_values.new.index c.args.found.now c.search_values.new.found c.in-Excluded.cites (rw c.in-Excluded.is at c.in_ok-search_values.ensures.ok)

pub search_node-publish-requires-clause-unknown : goal.search_node-publish-requires-clause-unknown
search_node-publish-requires-clause-unknown g t c = tried_unknown (g.B.Board.holding c.args.board.now) c.args.index.now c.args.node.now c.args.p c.requires (g.B.Board.holding c.open.new.board) c.open.new.index c.in_ok-opening.opening.ticket c.in_ok-opening.ensures.ok
    (g.B.Board.holding c.search_values.new.board) c.search_values.new.index c.args.found.now c.search_values.new.found c.in-Excluded.cites (rw c.in-Excluded.is at c.in_ok-search_values.ensures.ok)

pub search_node-publish-requires-clause-node : goal.search_node-publish-requires-clause-node
search_node-publish-requires-clause-node g t c = tried_values (g.B.Board.holding c.args.board.now) c.args.index.now c.args.node.now c.args.p c.requires (g.B.Board.holding c.open.new.board) c.open.new.index c.in_ok-opening.opening.ticket c.in_ok-opening.ensures.ok
    (g.B.Board.holding c.search_values.new.board) c.search_values.new.index c.args.found.now c.search_values.new.found c.in-Excluded.cites (rw c.in-Excluded.is at c.in_ok-search_values.ensures.ok)

pub search_node-publish-requires-clause-position : goal.search_node-publish-requires-clause-position
search_node-publish-requires-clause-position g t c = tried_place (g.B.Board.holding c.args.board.now) c.args.index.now c.args.node.now c.args.p c.requires (g.B.Board.holding c.open.new.board) c.open.new.index c.in_ok-opening.opening.ticket c.in_ok-opening.ensures.ok
    (g.B.Board.holding c.search_values.new.board) c.search_values.new.index c.args.found.now c.search_values.new.found c.in-Excluded.cites (rw c.in-Excluded.is at c.in_ok-search_values.ensures.ok)
    (λ same. c.if-p-free.false (same ∙ ap (λ (f : Framed). length f.places) (sym c.frame.ensures.frame) ∙ sym c.free.ensures.value))

pub search_node-publish-requires-clause-cites : goal.search_node-publish-requires-clause-cites
search_node-publish-requires-clause-cites g t c = tried_cites (g.B.Board.holding c.args.board.now) c.args.index.now c.args.node.now c.args.p c.requires (g.B.Board.holding c.open.new.board) c.open.new.index c.in_ok-opening.opening.ticket c.in_ok-opening.ensures.ok
    (g.B.Board.holding c.search_values.new.board) c.search_values.new.index c.args.found.now c.search_values.new.found c.in-Excluded.cites (rw c.in-Excluded.is at c.in_ok-search_values.ensures.ok)

pub search_node-returns-in_err-publish-in-Excluded-clause-ok : goal.search_node-returns-in_err-publish-in-Excluded-clause-ok
search_node-returns-in_err-publish-in-Excluded-clause-ok g t c = IfOk-from_err _ _ c.from_residual-in_err-publish-in-Excluded.ensures.0

pub search_node-returns-in_err-publish-in-Excluded-clause-stop : goal.search_node-returns-in_err-publish-in-Excluded-clause-stop
search_node-returns-in_err-publish-in-Excluded-clause-stop g t c = let p = err_from_is_err_and c.from_residual-in_err-publish-in-Excluded.result c.from_residual-in_err-publish-in-Excluded.ensures.1 in
    rw (p.1, p.2) (stops_published (g.B.Board.holding c.args.board.now) c.args.index.now c.args.node.now c.args.p c.requires (g.B.Board.holding c.open.new.board) c.open.new.index c.in_ok-opening.opening.ticket c.in_ok-opening.ensures.ok
    (g.B.Board.holding c.search_values.new.board) c.search_values.new.index c.args.found.now c.search_values.new.found c.in-Excluded.cites (rw c.in-Excluded.is at c.in_ok-search_values.ensures.ok) (g.B.Board.holding c.publish.new.board) c.in_err-publish-in-Excluded.ensures.moves)

pub search_node-returns-in_err-publish-in-Excluded-clause-mark : goal.search_node-returns-in_err-publish-in-Excluded-clause-mark
search_node-returns-in_err-publish-in-Excluded-clause-mark g t c = c.in_err-publish-in-Excluded.ensures.mark ∙ c.in_ok-search_values.ensures.mark ∙ c.in_ok-opening.ensures.mark

pub search_node-returns-in-Completed-clause-ok : goal.search_node-returns-in-Completed-clause-ok
search_node-returns-in-Completed-clause-ok g t c = answers_by_values (g.B.Board.holding c.args.board.now) c.args.index.now c.args.node.now c.args.p c.requires (g.B.Board.holding c.open.new.board) c.open.new.index c.in_ok-opening.opening.ticket c.in_ok-opening.ensures.ok
    (g.B.Board.holding c.search_values.new.board) c.search_values.new.index c.args.found.now c.search_values.new.found _ (rw c.in-Completed.is at c.in_ok-search_values.ensures.ok)

pub search_node-returns-in-Completed-clause-mark : goal.search_node-returns-in-Completed-clause-mark
search_node-returns-in-Completed-clause-mark g t c = c.in_ok-search_values.ensures.mark ∙ c.in_ok-opening.ensures.mark

pub search_node-returns-in-Inside-clause-ok : goal.search_node-returns-in-Inside-clause-ok
search_node-returns-in-Inside-clause-ok g t c = answers_by_values (g.B.Board.holding c.args.board.now) c.args.index.now c.args.node.now c.args.p c.requires (g.B.Board.holding c.open.new.board) c.open.new.index c.in_ok-opening.opening.ticket c.in_ok-opening.ensures.ok
    (g.B.Board.holding c.search_values.new.board) c.search_values.new.index c.args.found.now c.search_values.new.found _ (rw c.in-Inside.is at c.in_ok-search_values.ensures.ok)

pub search_node-returns-in-Inside-clause-mark : goal.search_node-returns-in-Inside-clause-mark
search_node-returns-in-Inside-clause-mark g t c = c.in_ok-search_values.ensures.mark ∙ c.in_ok-opening.ensures.mark

pub search_node-returns-in_ok-publish-in-Excluded-clause-ok : goal.search_node-returns-in_ok-publish-in-Excluded-clause-ok
search_node-returns-in_ok-publish-in-Excluded-clause-ok g t c = answers_published (g.B.Board.holding c.args.board.now) c.args.index.now c.args.node.now c.args.p c.requires (g.B.Board.holding c.open.new.board) c.open.new.index c.in_ok-opening.opening.ticket c.in_ok-opening.ensures.ok
    (g.B.Board.holding c.search_values.new.board) c.search_values.new.index c.args.found.now c.search_values.new.found c.in-Excluded.cites (rw c.in-Excluded.is at c.in_ok-search_values.ensures.ok) (g.B.Board.holding c.publish.new.board) c.publish.new.index c.in_ok-publish-in-Excluded.ensures.moves c.in_ok-publish-in-Excluded.ensures.ok

pub search_node-returns-in_ok-publish-in-Excluded-clause-mark : goal.search_node-returns-in_ok-publish-in-Excluded-clause-mark
search_node-returns-in_ok-publish-in-Excluded-clause-mark g t c = c.in_ok-publish-in-Excluded.ensures.mark ∙ c.in_ok-search_values.ensures.mark ∙ c.in_ok-opening.ensures.mark

pub search_value-excluded_by-requires-clause-assignment : goal.search_value-excluded_by-requires-clause-assignment
search_value-excluded_by-requires-clause-assignment g t c = subst (λ f. IsAssignmentOf f c.args.node.now) (sym c.frame.ensures.frame) c.requires.can.values.assignment

pub search_value-excluded_by-requires-clause-position : goal.search_value-excluded_by-requires-clause-position
search_value-excluded_by-requires-clause-position g t c = subst (λ (f : Framed). c.args.p < length f.places) (sym c.frame.ensures.frame) c.requires.position

pub search_value-excluded_by-requires-clause-filled : goal.search_value-excluded_by-requires-clause-filled
search_value-excluded_by-requires-clause-filled g t c = c.requires.can.values.just

pub search_value-excluded_by-requires-clause-value : goal.search_value-excluded_by-requires-clause-value
search_value-excluded_by-requires-clause-value g t c = (c.requires.low, subst (λ (f : Framed). c.args.v < order f.field) (sym c.frame.ensures.frame) c.requires.high)

pub search_value-excluded_by-requires-clause-first : goal.search_value-excluded_by-requires-clause-first
search_value-excluded_by-requires-clause-first g t c =
    subst (λ f. MatchOption c.args.first (NoneFailsAt f (set c.args.node.now c.args.p c.args.v) c.args.p) (IsFirstFailingAt f (set c.args.node.now c.args.p c.args.v) c.args.p)) (sym c.frame.ensures.frame) c.requires.first

pub search_value-inside_below-requires-clause-position : goal.search_value-inside_below-requires-clause-position
search_value-inside_below-requires-clause-position g t c = let few = few_positions (g.B.Board.holding c.args.board.now) c.args.index.now c.args.node.now c.args.p c.requires.can c.requires.position in omega arith

pub search_value-inside_below-requires-clause-last : goal.search_value-inside_below-requires-clause-last
search_value-inside_below-requires-clause-last g t c = none_from c.args.node.now c.args.p c.requires.can.values.just

pub search_value-excluded_by-requires-clause-nothing : goal.search_value-excluded_by-requires-clause-nothing
search_value-excluded_by-requires-clause-nothing g t c = nothing_learnt c.args.index.now (g.B.Board.holding c.args.board.now) c.args.node.now c.requires.can.stands.ready.learnt c.requires.can.nothing

pub search_value-returns-in-Some-clause-ok : goal.search_value-returns-in-Some-clause-ok
search_value-returns-in-Some-clause-ok g t c =
    let h = g.B.Board.holding c.args.board.now in (
      answers_excluded h c.args.index.now c.args.node.now c.args.p c.args.v c.requires.can c.requires.position c.requires.low c.requires.high c.args.found.now c.in-Some.cite
          (subst (λ f. IsExcludedBy f (in_slots c.args.index.now) c.args.node.now c.args.p c.args.v c.in-Some.cite) c.frame.ensures.frame c.in-Some.ensures.some),
      c.requires.can.nothing,
    )

pub search_value-returns-in-Some-clause-mark : goal.search_value-returns-in-Some-clause-mark
search_value-returns-in-Some-clause-mark g t c = refl

pub search_value-with-child-requires-clause-place : goal.search_value-with-child-requires-clause-place
search_value-with-child-requires-clause-place g t c = few_positions (g.B.Board.holding c.args.board.now) c.args.index.now c.args.node.now c.args.p c.requires.can c.requires.position

pub search_value-with-child-requires-clause-low : goal.search_value-with-child-requires-clause-low
search_value-with-child-requires-clause-low g t c = c.requires.low

pub search_value-with-child-requires-clause-high : goal.search_value-with-child-requires-clause-high
search_value-with-child-requires-clause-high g t c = let few = few_elements (g.B.Board.holding c.args.board.now).frame.field in let most = few.1 in let high = c.requires.high in omega arith

pub search_value-overflow_add-p : goal.search_value-overflow_add-p
search_value-overflow_add-p g t c = let few = few_positions (g.B.Board.holding c.args.board.now) c.args.index.now c.args.node.now c.args.p c.requires.can c.requires.position in omega arith

pub search_value-search_node-requires : goal.search_value-search_node-requires
search_value-search_node-requires g t c κs within =
    let h = g.B.Board.holding c.args.board.now in
    let few = few_positions h c.args.index.now c.args.node.now c.args.p c.requires.can c.requires.position in
    let can = child_can h c.args.index.now c.args.node.now c.args.p c.args.v c.requires.can c.requires.position c.requires.low c.requires.high c.with-child.result c.with-child.ensures c.words-words.ensures.assign
    (subst (λ f. IsOpenAt f (in_slots c.args.index.now) c.args.node.now c.args.p c.args.v) c.frame.ensures.frame (c.in_default.ensures.none.0 refl)) in
    search (rules, can, few)

pub search_value-returns-in_err-search_node-clause-ok : goal.search_value-returns-in_err-search_node-clause-ok
search_value-returns-in_err-search_node-clause-ok g t c = IfOk-from_err _ _ c.from_residual.ensures.0

pub search_value-returns-in_err-search_node-clause-stop : goal.search_value-returns-in_err-search_node-clause-stop
search_value-returns-in_err-search_node-clause-stop g t c =
    let h = g.B.Board.holding c.args.board.now in
    let p = err_from_is_err_and c.from_residual.result c.from_residual.ensures.1 in
    rw (p.1, p.2) (subst (λ a. Stopped h.frame h (g.B.Board.holding c.search_node.new.board) a (c.args.p + 1) c.in_err-search_node.field-0.0) c.with-child.ensures c.in_err-search_node.ensures.stop)

pub search_value-returns-in_err-search_node-clause-mark : goal.search_value-returns-in_err-search_node-clause-mark
search_value-returns-in_err-search_node-clause-mark g t c = c.in_err-search_node.ensures.mark

pub search_value-returns-in-Completed-clause-ok : goal.search_value-returns-in-Completed-clause-ok
search_value-returns-in-Completed-clause-ok g t c =
    let h = g.B.Board.holding c.args.board.now in
    let after = g.B.Board.holding c.search_node.new.board in
    let answered = subst (λ a. Answered h.frame h after c.search_node.new.index a (c.args.p + 1) c.args.found.now c.search_node.new.found Completed) c.with-child.ensures (rw c.in-Completed.is at c.in_ok-search_node.ensures.ok) in
    (answered, nothing_completed h c.args.index.now c.args.node.now c.args.p c.args.v c.requires.can c.requires.position c.requires.low c.requires.high after c.search_node.new.index c.args.found.now c.search_node.new.found answered)

pub search_value-returns-in-Completed-clause-mark : goal.search_value-returns-in-Completed-clause-mark
search_value-returns-in-Completed-clause-mark g t c = c.in_ok-search_node.ensures.mark

pub search_value-returns-in-Some-inside_below-clause-ok : goal.search_value-returns-in-Some-inside_below-clause-ok
search_value-returns-in-Some-inside_below-clause-ok g t c =
    let h = g.B.Board.holding c.args.board.now in
    let after = g.B.Board.holding c.search_node.new.board in
    let answered = subst (λ a. Answered h.frame h after c.search_node.new.index a (c.args.p + 1) c.args.found.now c.search_node.new.found (Excluded c.in-Excluded.cite)) c.with-child.ensures (rw c.in-Excluded.is at c.in_ok-search_node.ensures.ok) in
    (c.in-Excluded.cite, answered, inside_known c.search_node.new.index after c.args.node.now c.in-Some-inside_below.slot answered.stands.ready.learnt c.in-Some-inside_below.ensures.some)

pub search_value-returns-in-Some-inside_below-clause-mark : goal.search_value-returns-in-Some-inside_below-clause-mark
search_value-returns-in-Some-inside_below-clause-mark g t c = c.in_ok-search_node.ensures.mark

pub search_value-returns-in-None-clause-ok : goal.search_value-returns-in-None-clause-ok
search_value-returns-in-None-clause-ok g t c =
    let h = g.B.Board.holding c.args.board.now in
    let after = g.B.Board.holding c.search_node.new.board in
    let answered = subst (λ a. Answered h.frame h after c.search_node.new.index a (c.args.p + 1) c.args.found.now c.search_node.new.found (Excluded c.in-Excluded.cite)) c.with-child.ensures (rw c.in-Excluded.is at c.in_ok-search_node.ensures.ok) in
    (answered, nothing_known c.search_node.new.index after c.args.node.now answered.stands.ready.learnt (c.in-None.ensures.none.0 refl))

pub search_value-returns-in-None-clause-mark : goal.search_value-returns-in-None-clause-mark
search_value-returns-in-None-clause-mark g t c = c.in_ok-search_node.ensures.mark

pub search_value-inside_after-requires-clause-nothing : goal.search_value-inside_after-requires-clause-nothing
search_value-inside_after-requires-clause-nothing g t c =
    let h = g.B.Board.holding c.args.board.now in
    let after = g.B.Board.holding c.search_node.new.board in
    let answered = subst (λ a. Answered h.frame h after c.search_node.new.index a (c.args.p + 1) c.args.found.now c.search_node.new.found (Deduced c.in-Deduced.slot)) c.with-child.ensures (rw c.in-Deduced.is at c.in_ok-search_node.ensures.ok) in
    λ has. nothing_learnt c.search_node.new.index after c.args.node.now answered.stands.ready.learnt
    (nothing_beside after.known h.frame c.args.node.now c.args.p c.args.v c.in-Deduced.slot c.requires.can.values answered.outcome_is.2
    (subst (λ rows. HasValueAt rows c.in-Deduced.slot c.args.p) (same_rows c.search_node.new.index after answered.stands.ready.learnt) has))

pub search_value-returns-in-Some-inside_after-clause-ok : goal.search_value-returns-in-Some-inside_after-clause-ok
search_value-returns-in-Some-inside_after-clause-ok g t c =
    let h = g.B.Board.holding c.args.board.now in
    let after = g.B.Board.holding c.search_node.new.board in
    let answered = subst (λ a. Answered h.frame h after c.search_node.new.index a (c.args.p + 1) c.args.found.now c.search_node.new.found (Deduced c.in-Deduced.slot)) c.with-child.ensures (rw c.in-Deduced.is at c.in_ok-search_node.ensures.ok) in
    (Slot c.in-Deduced.slot, answered_by_row _ _ _ _ _ _ _ _ _ answered, inside_known c.search_node.new.index after c.args.node.now c.in-Some-inside_after.other answered.stands.ready.learnt c.in-Some-inside_after.ensures.some)

pub search_value-returns-in-Some-inside_after-clause-mark : goal.search_value-returns-in-Some-inside_after-clause-mark
search_value-returns-in-Some-inside_after-clause-mark g t c = c.in_ok-search_node.ensures.mark

pub search_value-returns-in-None-inside_after-clause-ok : goal.search_value-returns-in-None-inside_after-clause-ok
search_value-returns-in-None-inside_after-clause-ok g t c =
    let h = g.B.Board.holding c.args.board.now in
    let after = g.B.Board.holding c.search_node.new.board in
    let answered = subst (λ a. Answered h.frame h after c.search_node.new.index a (c.args.p + 1) c.args.found.now c.search_node.new.found (Deduced c.in-Deduced.slot)) c.with-child.ensures (rw c.in-Deduced.is at c.in_ok-search_node.ensures.ok) in
    (answered_by_row _ _ _ _ _ _ _ _ _ answered, nothing_known c.search_node.new.index after c.args.node.now answered.stands.ready.learnt (c.in-None-inside_after.ensures.none.0 refl))

pub search_value-returns-in-None-inside_after-clause-mark : goal.search_value-returns-in-None-inside_after-clause-mark
search_value-returns-in-None-inside_after-clause-mark g t c = c.in_ok-search_node.ensures.mark

pub search_values-loop-v-init : goal.search_values-loop-v-init
search_values-loop-v-init g t c =
    let h = g.B.Board.holding c.args.board.now in record {
      through = through_none h c.args.node.now c.args.p c.args.found.now c.requires.can.values c.requires.position (few_positions h c.args.index.now c.args.node.now c.args.p c.requires.can c.requires.position) c.args.index.now _ c.requires.can no_cites;
      long = refl;
      mark = refl;
    }

pub search_values-search_value-requires : goal.search_values-search_value-requires
search_values-search_value-requires g t c κs within =
    let h = g.B.Board.holding c.args.board.now in
    let now = g.B.Board.holding c.loop-v.board in
    let few = few_positions h c.args.index.now c.args.node.now c.args.p c.requires.can c.requires.position in
    let through = c.loop-v.invariant.through in
    let can = can_again h c.args.node.now c.args.p c.args.found.now c.requires.can.values c.requires.position few now c.loop-v.index c.loop-v.v c.loop-v.found c.loop-v.cites through c.args.index.now c.requires.can in
    let free = place_again h c.args.node.now c.args.p c.args.found.now c.requires.can.values c.requires.position few now c.loop-v.index c.loop-v.v c.loop-v.found c.loop-v.cites through in
    let is : c.order-v-end.result ≡ order h.frame.field = c.order-v-end.ensures.value ∙ ap order (c.field.ensures ∙ ap (λ (f : Framed). f.field) c.frame-2.ensures.frame) in
    let lt : c.loop-v.v < order h.frame.field = (let below = c.loop-v-test.true in omega arith) in
    let high = value_again h c.args.node.now c.args.p c.args.found.now c.requires.can.values c.requires.position few now c.loop-v.index c.loop-v.v c.loop-v.found c.loop-v.cites through lt in
    let low : 0 < c.loop-v.v = (let least = c.loop-v.auto.v in omega arith) in
    let small = few_elements h.frame.field in
    let most = small.1 in
    let fits : c.loop-v.v < length c.first_failing_values-first.result = omega arith in
    let read : get_or c.first_failing_values-first.result c.loop-v.v c.index-first-v.result ≡ get_or c.first_failing_values-first.result c.loop-v.v None = get_or_default c.first_failing_values-first.result c.loop-v.v c.index-first-v.result None fits in
    let first = subst (λ (o : Option (List ℕ)). MatchOption o (NoneFailsAt now.frame (set c.args.node.now c.args.p c.loop-v.v) c.args.p) (IsFirstFailingAt now.frame (set c.args.node.now c.args.p c.loop-v.v) c.args.p)) (sym read)
    (first_again h now c.args.node.now c.args.p c.loop-v.v (get_or c.first_failing_values-first.result c.loop-v.v None) through.keeps.frame
    (subst (λ f. MatchOption (get_or c.first_failing_values-first.result c.loop-v.v None) (NoneFailsAt f (set c.args.node.now c.args.p c.loop-v.v) c.args.p) (IsFirstFailingAt f (set c.args.node.now c.args.p c.loop-v.v) c.args.p))
    c.frame.ensures.frame (c.first_failing_values-first.ensures c.loop-v.v (subst (λ (f : Framed). c.loop-v.v < order f.field) (sym c.frame.ensures.frame) lt)))) in
    search (rules, can, free, low, high, first)

pub search_values-first_failing_values-first-requires-clause-assignment : goal.search_values-first_failing_values-first-requires-clause-assignment
search_values-first_failing_values-first-requires-clause-assignment g t c = subst (λ f. IsAssignmentOf f c.args.node.now) (sym c.frame.ensures.frame) c.requires.can.values.assignment

pub search_values-first_failing_values-first-requires-clause-position : goal.search_values-first_failing_values-first-requires-clause-position
search_values-first_failing_values-first-requires-clause-position g t c = subst (λ (f : Framed). c.args.p < length f.places) (sym c.frame.ensures.frame) c.requires.position

pub search_values-first_failing_values-first-requires-clause-filled : goal.search_values-first_failing_values-first-requires-clause-filled
search_values-first_failing_values-first-requires-clause-filled g t c = c.requires.can.values.just

pub search_values-returns-in_err-search_value-clause-ok : goal.search_values-returns-in_err-search_value-clause-ok
search_values-returns-in_err-search_value-clause-ok g t c = IfOk-from_err _ _ c.from_residual.ensures.0

pub search_values-returns-in_err-search_value-clause-stop : goal.search_values-returns-in_err-search_value-clause-stop
search_values-returns-in_err-search_value-clause-stop g t c =
    let h = g.B.Board.holding c.args.board.now in
    let few = few_positions h c.args.index.now c.args.node.now c.args.p c.requires.can c.requires.position in
    let low : 0 < c.loop-v.v = (let least = c.loop-v.auto.v in omega arith) in
    let p = err_from_is_err_and c.from_residual.result c.from_residual.ensures.1 in
    rw (p.1, p.2) (through_stopped h c.args.node.now c.args.p c.args.found.now c.requires.can.values c.requires.position few (g.B.Board.holding c.loop-v.board) c.loop-v.index c.loop-v.v c.loop-v.found c.loop-v.cites c.loop-v.invariant.through
    (g.B.Board.holding c.search_value.new.board) c.search_value.new.index c.search_value.new.found low _ c.in_err-search_value.ensures.stop)

pub search_values-returns-in_err-search_value-clause-mark : goal.search_values-returns-in_err-search_value-clause-mark
search_values-returns-in_err-search_value-clause-mark g t c = c.in_err-search_value.ensures.mark ∙ c.loop-v.invariant.mark

pub search_values-bounds-cites-v : goal.search_values-bounds-cites-v
search_values-bounds-cites-v g t c = let few = few_elements c.field.result in let most = few.1 in let is = c.order-v-end.ensures.value in let below = c.loop-v-test.true in let least = c.loop-v.auto.v in omega arith

pub search_values-listed : goal.search_values-listed
search_values-listed g t c = let few = few_elements c.field.result in let most = few.1 in let is = c.order-v-end.ensures.value in let below = c.loop-v-test.true in let long = c.loop-v.invariant.long in let least = c.loop-v.auto.v in omega arith

pub search_values-returns-in-Inside-clause-ok : goal.search_values-returns-in-Inside-clause-ok
search_values-returns-in-Inside-clause-ok g t c =
    let h = g.B.Board.holding c.args.board.now in
    let few = few_positions h c.args.index.now c.args.node.now c.args.p c.requires.can c.requires.position in
    let low : 0 < c.loop-v.v = (let least = c.loop-v.auto.v in omega arith) in
    let step = rw c.in-Inside.is at c.in_ok-search_value.ensures.ok in
    through_inside h c.args.node.now c.args.p c.args.found.now c.requires.can.values c.requires.position few (g.B.Board.holding c.loop-v.board) c.loop-v.index c.loop-v.v c.loop-v.found c.loop-v.cites c.loop-v.invariant.through
    (g.B.Board.holding c.search_value.new.board) c.search_value.new.index c.search_value.new.found low step.0 c.in-Inside.slot step.1 step.2

pub search_values-returns-in-Inside-clause-mark : goal.search_values-returns-in-Inside-clause-mark
search_values-returns-in-Inside-clause-mark g t c = c.in_ok-search_value.ensures.mark ∙ c.loop-v.invariant.mark

pub search_values-loop-v-preserved : goal.search_values-loop-v-preserved
search_values-loop-v-preserved g t c =
    let h = g.B.Board.holding c.args.board.now in
    let now = g.B.Board.holding c.loop-v.board in
    let after = g.B.Board.holding c.search_value.new.board in
    let few = few_positions h c.args.index.now c.args.node.now c.args.p c.requires.can c.requires.position in
    let low : 0 < c.loop-v.v = (let least = c.loop-v.auto.v in omega arith) in
    elim c.match-branch-2.branch [
      | search_values-in-Completed w ↦
          (let step = rw w.in-Completed.is at c.in_ok-search_value.ensures.ok in record {
            through = subst (λ cs. Through h.frame h after c.search_value.new.index c.args.node.now c.args.p (c.loop-v.v + 1) c.args.found.now c.search_value.new.found cs) (sym w.cites-is)
                (through_completed h c.args.node.now c.args.p c.args.found.now c.requires.can.values c.requires.position few now c.loop-v.index c.loop-v.v c.loop-v.found c.loop-v.cites c.loop-v.invariant.through after c.search_value.new.index c.search_value.new.found low step.0 step.1);
            long = ap length w.cites-is ∙ c.loop-v.invariant.long;
            mark = c.in_ok-search_value.ensures.mark ∙ c.loop-v.invariant.mark;
          })
      | search_values-in-Excluded w ↦
          (let step = rw w.in-Excluded.is at c.in_ok-search_value.ensures.ok in
          let elements = few_elements c.field.result in let most = elements.1 in let is = c.order-v-end.ensures.value in let below = c.loop-v-test.true in let long = c.loop-v.invariant.long in
          let within_cites : c.loop-v.v - 1 < length c.loop-v.cites = omega arith in record {
            through = through_excluded h c.args.node.now c.args.p c.args.found.now c.requires.can.values c.requires.position few now c.loop-v.index c.loop-v.v c.loop-v.found c.loop-v.cites c.loop-v.invariant.through after c.search_value.new.index c.search_value.new.found low
                w.in-Excluded.cite c.match-branch-2.cites
                (ap (λ (cs : List Cite). get_or cs (c.loop-v.v - 1) Nothing) w.cites-is ∙ get_or-set_same c.loop-v.cites (c.loop-v.v - 1) w.in-Excluded.cite Nothing within_cites)
                (λ k other. ap (λ (cs : List Cite). get_or cs k Nothing) w.cites-is ∙ get_or-set_other c.loop-v.cites (c.loop-v.v - 1) k w.in-Excluded.cite Nothing other)
                step.0 step.1;
            long = ap length w.cites-is ∙ length-set c.loop-v.cites (c.loop-v.v - 1) w.in-Excluded.cite ∙ c.loop-v.invariant.long;
            mark = c.in_ok-search_value.ensures.mark ∙ c.loop-v.invariant.mark;
          })
    ]

pub search_values-returns-then-as_slice-start-clause-ok : goal.search_values-returns-then-as_slice-start-clause-ok
search_values-returns-then-as_slice-start-clause-ok g t c =
    let h = g.B.Board.holding c.args.board.now in
    let few = few_positions h c.args.index.now c.args.node.now c.args.p c.requires.can c.requires.position in
    let is : c.order-v-end.result ≡ order h.frame.field = c.order-v-end.ensures.value ∙ ap order (c.field.ensures ∙ ap (λ (f : Framed). f.field) c.frame-2.ensures.frame) in
    let elements = few_elements h.frame.field in let some = elements.0 in
    let all : c.loop-v.v ≡ order h.frame.field = (let past = c.loop-v-test.false in let least : 1 ≤ c.order-v-end.result = omega arith in let most : c.loop-v.v ≤ c.order-v-end.result = c.loop-v.auto.v-end least in omega arith) in
    let through = subst (λ u. Through h.frame h (g.B.Board.holding c.loop-v.board) c.loop-v.index c.args.node.now c.args.p u c.args.found.now c.loop-v.found c.loop-v.cites) all c.loop-v.invariant.through in
    all_completed h c.args.node.now c.args.p c.args.found.now c.requires.can.values c.requires.position few (g.B.Board.holding c.loop-v.board) c.loop-v.index c.loop-v.found c.loop-v.cites through
    (let first = ap length c.as_slice-start.ensures in let last = ap length c.as_slice.ensures in let longer = c.if-as_slice-start.true in omega arith)

pub search_values-returns-then-as_slice-start-clause-mark : goal.search_values-returns-then-as_slice-start-clause-mark
search_values-returns-then-as_slice-start-clause-mark g t c = c.loop-v.invariant.mark

pub search_values-returns-else-as_slice-start-clause-ok : goal.search_values-returns-else-as_slice-start-clause-ok
search_values-returns-else-as_slice-start-clause-ok g t c =
    let h = g.B.Board.holding c.args.board.now in
    let few = few_positions h c.args.index.now c.args.node.now c.args.p c.requires.can c.requires.position in
    let is : c.order-v-end.result ≡ order h.frame.field = c.order-v-end.ensures.value ∙ ap order (c.field.ensures ∙ ap (λ (f : Framed). f.field) c.frame-2.ensures.frame) in
    let elements = few_elements h.frame.field in let some = elements.0 in
    let all : c.loop-v.v ≡ order h.frame.field = (let past = c.loop-v-test.false in let least : 1 ≤ c.order-v-end.result = omega arith in let most : c.loop-v.v ≤ c.order-v-end.result = c.loop-v.auto.v-end least in omega arith) in
    let through = subst (λ u. Through h.frame h (g.B.Board.holding c.loop-v.board) c.loop-v.index c.args.node.now c.args.p u c.args.found.now c.loop-v.found c.loop-v.cites) all c.loop-v.invariant.through in
    all_excluded h c.args.node.now c.args.p c.args.found.now c.requires.can.values c.requires.position few (g.B.Board.holding c.loop-v.board) c.loop-v.index c.loop-v.found c.loop-v.cites through
    (let first = ap length c.as_slice-start.ensures in let last = ap length c.as_slice.ensures in let shorter = c.if-as_slice-start.false in omega arith)

pub search_values-returns-else-as_slice-start-clause-mark : goal.search_values-returns-else-as_slice-start-clause-mark
search_values-returns-else-as_slice-start-clause-mark g t c = c.loop-v.invariant.mark
