-- The matroid of the numbers and sets that were read.
use Rattle.std.proofs.lemmas.Result.{err_from_is_err_and}
use Rattle.mr_matrix.specs.Private.Pairs.{found_pair}
use Rattle.mr_matrix.proofs.PairText.{pair_read, pair_ok, pair_only, lines_refusal, sets_refusal, pair_never_refused}
use Rattle.mr_matrix.proofs.pair.read_pair.Goals as goal

pub matroid_of-requires-clause-sets : goal.matroid_of-requires-clause-sets
matroid_of-requires-clause-sets c = let read = pair_read c.args.field c.args.bytes.now (found_pair c.in_ok-found.found) c.in_ok-found.ensures in read.presentation

pub matroid_of-requires-clause-limits : goal.matroid_of-requires-clause-limits
matroid_of-requires-clause-limits c = let read = pair_read c.args.field c.args.bytes.now (found_pair c.in_ok-found.found) c.in_ok-found.ensures in read.limits

pub returns-in_err-found-clause-only : goal.returns-in_err-found-clause-only
returns-in_err-found-clause-only c =
    let e = err_from_is_err_and c.from_residual.result c.from_residual.ensures.1 in
    rw (e.1, e.2) (λ p is. pair_never_refused c.args.field c.args.bytes.now p c.in_err-found.field-0.0 is (lines_refusal c.args.field c.args.bytes.now c.in_err-found.field-0.0 c.in_err-found.ensures))

pub returns-in_err-found-clause-refusal : goal.returns-in_err-found-clause-refusal
returns-in_err-found-clause-refusal c =
    let e = err_from_is_err_and c.from_residual.result c.from_residual.ensures.1 in
    rw (e.1, e.2) (lines_refusal c.args.field c.args.bytes.now c.in_err-found.field-0.0 c.in_err-found.ensures)

pub returns-in_err-matroid-clause-only : goal.returns-in_err-matroid-clause-only
returns-in_err-matroid-clause-only c =
    let e = err_from_is_err_and c.from_residual-in_err-matroid.result c.from_residual-in_err-matroid.ensures.1 in
    rw (e.1, e.2) (λ p is. pair_never_refused c.args.field c.args.bytes.now p c.in_err-matroid.field-0.0 is (sets_refusal c.args.field c.args.bytes.now c.in_ok-found.found c.in_err-matroid.field-0.0 c.in_ok-found.ensures c.in_err-matroid.ensures))

pub returns-in_err-matroid-clause-refusal : goal.returns-in_err-matroid-clause-refusal
returns-in_err-matroid-clause-refusal c =
    let e = err_from_is_err_and c.from_residual-in_err-matroid.result c.from_residual-in_err-matroid.ensures.1 in
    rw (e.1, e.2) (sets_refusal c.args.field c.args.bytes.now c.in_ok-found.found c.in_err-matroid.field-0.0 c.in_ok-found.ensures c.in_err-matroid.ensures)

pub returns-clause-ok : goal.returns-clause-ok
returns-clause-ok c = pair_ok c.args.field c.args.bytes.now c.in_ok-found.found c.in_ok-matroid.matroid c.in_ok-found.ensures c.in_ok-matroid.ensures

pub returns-clause-only : goal.returns-clause-only
returns-clause-only c = λ p is. pair_only c.args.field c.args.bytes.now c.in_ok-found.found c.in_ok-matroid.matroid p c.in_ok-found.ensures c.in_ok-matroid.ensures.0 is
