-- What the closed store shows.
use Rattle.std.proofs.Common.{◌≡◌, ◌≤◌, ◌<◌, ◌+◌, ap, sym, subst, ◌∙◌, arith, Ok, Err, Result, IfOk, sum_by}
use Rattle.mr_nogood.specs.Follows.{in_slots}
use Rattle.mr_search.specs.Nodes.{IsNode, IsNeed}
use Rattle.mr_search.proofs.Needing.{at_most}
use Rattle.mr_store.specs.Seats.{Setting}
use Rattle.mr_store.specs.Cards.{StoreIs, Mark, mark_of}
use Rattle.mr_exchange.specs.Right.{AreAnswers}
use Rattle.mr_pool.specs.Answers.{AreFirst, IsSearched, IsSpent}
use Rattle.mr_pool.specs.Work.{IsWorked}
use Rattle.mr_pool.proofs.Finishing.{ShowsCard, IsStoreOf, at_setting, first_of, answers_closed, searched_closed, spent_closed}
use Rattle.mr_pool.proofs.many.run_pool.Goals as goal

pub work-card-requires-clause-first : goal.work-card-requires-clause-first
work-card-requires-clause-first g c κs within =
    let of : IsStoreOf c.in_ok-made.made.0 c.args.frame.now c.args.problem = record { frame = ap (λ (s : Setting). s.frame) c.in_ok-made.ensures.store; problem_is = ap (λ (s : Setting). s.problem) c.in_ok-made.ensures.store } in
    first_of c.in_ok-made.made.0 c.in_ok-made.made.1 c.args.frame.now c.args.problem of c.in_ok-made.ensures.first c.in_ok-made.ensures.holding

pub work-card-requires-clause-few : goal.work-card-requires-clause-few
work-card-requires-clause-few g c = (let limit = ap (λ (s : Setting). s.limit) c.in_ok-made.ensures.store in omega arith)

-- P holds of what is in an Ok
at_ok : {T E : Type 0} (P : T → Type 0) (r : Result T E) (x : T) → r ≡ Ok x → IfOk r P → P x
at_ok P r x same holds = subst (λ s. IfOk s P) same holds

pub returns-in-Ok-answers-clause-answers : goal.returns-in-Ok-answers-clause-answers
returns-in-Ok-answers-clause-answers g c =
    let store = c.in_ok-made.made.0 in
    let of : IsStoreOf store c.args.frame.now c.args.problem = record { frame = ap (λ (s : Setting). s.frame) c.in_ok-made.ensures.store; problem_is = ap (λ (s : Setting). s.problem) c.in_ok-made.ensures.store } in
    let shows : ShowsCard store c.work-card.result.card c.in-Ok.closed = record { of = c.in-Ok.ensures.of; opened = c.in-Ok.ensures.opened; claimed = c.in-Ok.ensures.claimed; rows = c.in-Ok.ensures.rows } in
    let worked = at_ok (IsWorked store c.args.workers c.work-card.result.card) c.work-card.result.answers c.in-Ok-answers.answers c.in-Ok-answers.is c.work-card.ensures.ok in
    at_setting store c.args.frame.now c.args.problem of (λ f p. AreAnswers f p (in_slots c.in-Ok.closed.rows) c.in-Ok-answers.answers)
    (answers_closed store c.work-card.result.card c.in-Ok.closed shows c.work-card.ensures.gathered c.args.workers c.in-Ok-answers.answers worked)

pub returns-in-Ok-answers-clause-first : goal.returns-in-Ok-answers-clause-first
returns-in-Ok-answers-clause-first g c =
    let store = c.in_ok-made.made.0 in
    let of : IsStoreOf store c.args.frame.now c.args.problem = record { frame = ap (λ (s : Setting). s.frame) c.in_ok-made.ensures.store; problem_is = ap (λ (s : Setting). s.problem) c.in_ok-made.ensures.store } in
    let worked = at_ok (IsWorked store c.args.workers c.work-card.result.card) c.work-card.result.answers c.in-Ok-answers.answers c.in-Ok-answers.is c.work-card.ensures.ok in
    at_setting store c.args.frame.now c.args.problem of (λ f p. AreFirst f p c.in-Ok-answers.answers) worked.first

pub returns-in-Ok-answers-clause-found : goal.returns-in-Ok-answers-clause-found
returns-in-Ok-answers-clause-found g c =
    let worked = at_ok (IsWorked c.in_ok-made.made.0 c.args.workers c.work-card.result.card) c.work-card.result.answers c.in-Ok-answers.answers c.in-Ok-answers.is c.work-card.ensures.ok in
    let few = worked.found in
    let opened = c.in-Ok.ensures.opened in
    omega arith

pub returns-in-Ok-answers-clause-closed : goal.returns-in-Ok-answers-clause-closed
returns-in-Ok-answers-clause-closed g c =
    let store = c.in_ok-made.made.0 in
    let of : IsStoreOf store c.args.frame.now c.args.problem = record { frame = ap (λ (s : Setting). s.frame) c.in_ok-made.ensures.store; problem_is = ap (λ (s : Setting). s.problem) c.in_ok-made.ensures.store } in
    let shows : ShowsCard store c.work-card.result.card c.in-Ok.closed = record { of = c.in-Ok.ensures.of; opened = c.in-Ok.ensures.opened; claimed = c.in-Ok.ensures.claimed; rows = c.in-Ok.ensures.rows } in
    let worked = at_ok (IsWorked store c.args.workers c.work-card.result.card) c.work-card.result.answers c.in-Ok-answers.answers c.in-Ok-answers.is c.work-card.ensures.ok in
    at_setting store c.args.frame.now c.args.problem of (λ f p. IsSearched f p c.in-Ok.closed)
    (searched_closed store c.work-card.result.card c.in-Ok.closed shows c.work-card.ensures.gathered c.args.workers c.in-Ok-answers.answers worked)

pub returns-in-Ok-answers-clause-need : goal.returns-in-Ok-answers-clause-need
returns-in-Ok-answers-clause-need g c = λ n need. (
    let store = c.in_ok-made.made.0 in
    let of : IsStoreOf store c.args.frame.now c.args.problem = record { frame = ap (λ (s : Setting). s.frame) c.in_ok-made.ensures.store; problem_is = ap (λ (s : Setting). s.problem) c.in_ok-made.ensures.store } in
    let shows : ShowsCard store c.work-card.result.card c.in-Ok.closed = record { of = c.in-Ok.ensures.of; opened = c.in-Ok.ensures.opened; claimed = c.in-Ok.ensures.claimed; rows = c.in-Ok.ensures.rows } in
    let worked = at_ok (IsWorked store c.args.workers c.work-card.result.card) c.work-card.result.answers c.in-Ok-answers.answers c.in-Ok-answers.is c.work-card.ensures.ok in
    let searched = at_setting store c.args.frame.now c.args.problem of (λ f p. IsSearched f p c.in-Ok.closed)
    (searched_closed store c.work-card.result.card c.in-Ok.closed shows c.work-card.ensures.gathered c.args.workers c.in-Ok-answers.answers worked) in
    at_most (IsNode c.args.frame.now c.args.problem.depth) c.in-Ok.closed.opened n searched.most need)

pub returns-in-Over-clause-stopped : goal.returns-in-Over-clause-stopped
returns-in-Over-clause-stopped g c =
    let store = c.in_ok-made.made.0 in
    let of : IsStoreOf store c.args.frame.now c.args.problem = record { frame = ap (λ (s : Setting). s.frame) c.in_ok-made.ensures.store; problem_is = ap (λ (s : Setting). s.problem) c.in_ok-made.ensures.store } in
    let shows : ShowsCard store c.work-card.result.card c.in-Ok.closed = record { of = c.in-Ok.ensures.of; opened = c.in-Ok.ensures.opened; claimed = c.in-Ok.ensures.claimed; rows = c.in-Ok.ensures.rows } in
    at_setting store c.args.frame.now c.args.problem of (λ f p. IsSpent f p c.in-Ok.closed)
    (spent_closed store c.work-card.result.card c.in-Ok.closed shows c.work-card.ensures.gathered (c.work-card.ensures.over (c.in-Err.is ∙ ap Err c.in-Over.is)))

pub returns-in-Over-clause-above : goal.returns-in-Over-clause-above
returns-in-Over-clause-above g c = λ n need closed is. (
    let store = c.in_ok-made.made.0 in
    let of : IsStoreOf store c.args.frame.now c.args.problem = record { frame = ap (λ (s : Setting). s.frame) c.in_ok-made.ensures.store; problem_is = ap (λ (s : Setting). s.problem) c.in_ok-made.ensures.store } in
    let shows : ShowsCard store c.work-card.result.card c.in-Ok.closed = record { of = c.in-Ok.ensures.of; opened = c.in-Ok.ensures.opened; claimed = c.in-Ok.ensures.claimed; rows = c.in-Ok.ensures.rows } in
    let spent = at_setting store c.args.frame.now c.args.problem of (λ f p. IsSpent f p c.in-Ok.closed)
    (spent_closed store c.work-card.result.card c.in-Ok.closed shows c.work-card.ensures.gathered (c.work-card.ensures.over (c.in-Err.is ∙ ap Err c.in-Over.is))) in
    let le = at_most (IsNode c.args.frame.now c.args.problem.depth) (c.args.problem.nodes + 1) n spent.fewer need in
    omega arith)
