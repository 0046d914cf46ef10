-- The best, in each case.
use Rattle.std.proofs.Common.{Option, ℕ, List, subst}
use Rattle.std.specs.Prelude.{MatchOption}
use Rattle.mr_matroid.specs.Private.Search.{NoneAt, IsFirstFrom, IsBestBelow}
use Rattle.mr_matroid.proofs.Best.{best_kept, best_first, best_earlier, best_later}
use Rattle.mr_matroid.proofs.exchange.earlier.Goals as goal

pub returns-in-None : goal.returns-in-None
returns-in-None c m b1 old found = best_kept m b1 c.args.x c.args.best old (subst (λ (o : Option (List ℕ)). MatchOption o (NoneAt m b1 c.args.x) (IsFirstFrom m b1 c.args.x)) c.in-None.is found)

pub returns-in-None-best : goal.returns-in-None-best
returns-in-None-best c m b1 old found =
    best_first m b1 c.args.x c.in-Some.b2 (subst (IsBestBelow m b1 c.args.x) c.in-None-best.is old)
    (subst (λ (o : Option (List ℕ)). MatchOption o (NoneAt m b1 c.args.x) (IsFirstFrom m b1 c.args.x)) c.in-Some.is found)

pub returns-then-is_before : goal.returns-then-is_before
returns-then-is_before c m b1 old found =
    best_earlier m b1 c.args.x c.in-Some.b2 c.in-Some-best.old (subst (IsBestBelow m b1 c.args.x) c.in-Some-best.is old)
    (subst (λ (o : Option (List ℕ)). MatchOption o (NoneAt m b1 c.args.x) (IsFirstFrom m b1 c.args.x)) c.in-Some.is found)
    (c.is_before.ensures.0 c.if-is_before.true)

pub returns-else-is_before : goal.returns-else-is_before
returns-else-is_before c m b1 old found =
    best_later m b1 c.args.x c.in-Some.b2 c.in-Some-best.old (subst (IsBestBelow m b1 c.args.x) c.in-Some-best.is old)
    (subst (λ (o : Option (List ℕ)). MatchOption o (NoneAt m b1 c.args.x) (IsFirstFrom m b1 c.args.x)) c.in-Some.is found)
    (λ before. let yes = c.is_before.ensures.1 before in let never = c.if-is_before.false in cc)
