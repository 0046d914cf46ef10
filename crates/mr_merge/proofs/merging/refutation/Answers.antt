-- the log of what the cubes' cites are brought to
use Rattle.std.proofs.Common.{◌≡◌, ◌∙◌, ◌≤◌, ◌+◌, ℕ, List, [], length, map, get_or, sym, ap, subst, arith, append-nil}
use Rattle.std.proofs.lemmas.Result.{IfOk-weaker}
use Rattle.mr_nogood.specs.declared.row.Cite.{Cite}
use Rattle.mr_nogood.specs.declared.row.Cite.TheVariants.{Nothing, Test}
use Rattle.mr_nogood.specs.Follows.{in_slots}
use Rattle.mr_log.specs.declared.log.Log.{Log}
use Rattle.mr_exchange.specs.declared.answer.CubeAnswer.{CubeAnswer}
use Rattle.mr_exchange.specs.Cubes.{cube_count}
use Rattle.mr_merge.specs.declared.TheConstants.{PREFIXES}
use Rattle.mr_merge.specs.Private.Answers.{cite_of}
use Rattle.mr_merge.specs.Table.{TableIs, all_rows}
use Rattle.mr_merge.specs.Private.Table.{AreSupported}
use Rattle.mr_merge.specs.Steps.{AreStepsTo}
use Rattle.mr_merge.specs.Prefixes.{HaveRanksFrom}
use Rattle.mr_merge.specs.Private.Prefixes.{AreCited}
use Rattle.mr_merge.specs.Merged.{IsMadeOf}
use Rattle.mr_merge.proofs.Boards.{board_supported, cubes_cited, few_slots, fit_log, made_of, steps_to_set}
use Rattle.mr_merge.proofs.merging.refutation.Goals as goal

pub end_of-requires-clause-rows : goal.end_of-requires-clause-rows
end_of-requires-clause-rows c =
    let is = ap all_rows c.of-table.ensures ∙ append-nil c.args.closed.now.rows in
    subst (AreSupported c.args.frame.now) (sym is) (board_supported c.args.frame.now c.args.problem c.args.closed.now c.requires.frame c.requires.problem c.opened-opened.ensures.shown)

pub end_of-requires-clause-cites : goal.end_of-requires-clause-cites
end_of-requires-clause-cites c =
    let is = ap all_rows c.of-table.ensures ∙ append-nil c.args.closed.now.rows in
    let cited = cubes_cited c.args.frame.now c.args.problem c.args.closed.now c.requires.frame c.requires.problem c.opened-opened.ensures.shown c.args.answers.now c.requires.answers c.requires.none in
    let f = c.args.frame.now in
    let d = c.args.problem.depth in
    subst (λ (xs : List Cite). AreCited f (in_slots (all_rows c.of-table.result)) d (cube_count f d) xs) (sym c.in_ok-cites.ensures)
    (subst (λ rows. AreCited f (in_slots rows) d (cube_count f d) (map cite_of c.args.answers.now)) (sym is) cited)

pub log_to-requires-clause-few : goal.log_to-requires-clause-few
log_to-requires-clause-few c =
    let board = c.in_ok-end.ensures.board ∙ ap (λ (t : TableIs). t.board) c.of-table.ensures in
    fit_log c.args.frame.now c.args.problem c.args.closed.now c.requires.frame c.requires.problem c.opened-opened.ensures.shown c.end_of.new.table board c.in_ok-end.ensures.added

pub returns-clause-made : goal.returns-clause-made
returns-clause-made c =
    let board = c.in_ok-end.ensures.board ∙ ap (λ (t : TableIs). t.board) c.of-table.ensures in
    let slots : length c.of-table.result.board ≡ length c.args.closed.now.rows = ap (λ (t : TableIs). length t.board) c.of-table.ensures in
    let ranks = subst (λ (n : ℕ). HaveRanksFrom n c.end_of.new.table.added) slots c.in_ok-end.ensures.ranks in
    IfOk-weaker c.log_to.result _ (IsMadeOf c.args.frame.now c.args.problem c.args.closed.now.rows)
    (λ l made. made_of c.args.frame.now c.args.problem c.args.closed.now c.requires.frame c.requires.problem c.opened-opened.ensures.shown c.end_of.new.table board c.in_ok-end.ensures.added ranks c.in_ok-end.end l made) c.log_to.ensures.steps

pub returns-clause-steps : goal.returns-clause-steps
returns-clause-steps c =
    let board = c.in_ok-end.ensures.board ∙ ap (λ (t : TableIs). t.board) c.of-table.ensures in
    let few = few_slots c.args.frame.now c.args.problem c.args.closed.now c.requires.frame c.requires.problem c.opened-opened.ensures.shown c.end_of.new.table board c.in_ok-end.ensures.added in
    IfOk-weaker c.log_to.result _ (λ (l : Log). length l.steps ≤ c.args.problem.nodes + PREFIXES) (λ l le. omega arith) c.log_to.ensures.count

pub returns-clause-set : goal.returns-clause-set
returns-clause-set c = λ x flat one.
    let end : c.in_ok-end.end ≡ Test x = c.in_ok-end.ensures.first flat ∙ ap (λ (xs : List Cite). get_or xs 0 Nothing) c.in_ok-cites.ensures ∙ ap (λ (xs : List CubeAnswer). get_or (map cite_of xs) 0 Nothing) one in
    IfOk-weaker c.log_to.result _ (λ (l : Log). (l.steps ≡ []) × (l.last ≡ Test x)) (λ l made. steps_to_set (in_slots (all_rows c.end_of.new.table)) x l.steps l.last (subst (λ (e : Cite). AreStepsTo (in_slots (all_rows c.end_of.new.table)) e l.steps l.last) end made)) c.log_to.ensures.steps
