-- A walk over the steps of a log, and its end.
use Rattle.std.proofs.Common.{◌≡◌, ◌≢◌, ◌↔◌, ℕ, zero, suc, ◌+◌, ◌<◌, ◌≤◌, List, [], ◌∷◌, Some, Result, Ok, Err, Bool, length, take, get_or, sym, ap, subst, ◌∙◌, ⊎_elim, arith, ◌^◌}
use Rattle.std.specs.Prelude.{slice_get, IsTrue, MatchResult}
use Rattle.std.proofs.lemmas.Bool.{cases_eq, cases_lt}
use Rattle.std.proofs.lemmas.Option.{slice_get_past}
use Rattle.mr_field.specs.Gf.{Gf}
use Rattle.mr_set.specs.Subsets.{choose}
use Rattle.mr_assign.specs.Assign.{no_values, IsPartOf}
use Rattle.mr_assign.proofs.Maps.{get_or-no_values}
use Rattle.mr_frame.specs.Frame.{Framed, IsFrame, IsFrameOf}
use Rattle.mr_frame.specs.Test.{IsAssignmentOf}
use Rattle.mr_nogood.specs.declared.row.Cite.{Cite}
use Rattle.mr_nogood.specs.declared.row.Cite.TheVariants.{Slot}
use Rattle.mr_nogood.specs.declared.row.Row.{Row}
use Rattle.mr_nogood.specs.Follows.{in_list, Follows}
use Rattle.mr_log.specs.declared.log.Log.{Log}
use Rattle.mr_log.specs.Log.{IsLog}
use Rattle.mr_check.specs.Accepted.{IsEnd, IsRefutation}
use Rattle.mr_check.specs.Private.Judging.{FollowBelow, AllFollow, IsFirstStrayStep, IsFaulty, IsJudged, IsFaultAt}
use Rattle.mr_check.specs.declared.checker.Accepted.{Accepted}
use Rattle.mr_check.specs.declared.checker.CheckFault.{CheckFault}
use Rattle.mr_check.specs.declared.checker.CheckFault.TheVariants.{Rejected, Memory}
use Rattle.mr_log.specs.declared.fault.Why.TheVariants.{Grammar, Size, Basis, Exchange, Step, End}

-- the map without values is an assignment
pub nothing_is_assigned : (f : Framed) → IsAssignmentOf f no_values
nothing_is_assigned f p some = absurd (some (get_or-no_values p))

-- the pairs of a map are some of none just where it gives no value
pub gives_none : (a : List ℕ) → IsPartOf a no_values ↔ ((p : ℕ) → get_or a p 0 ≡ 0)
gives_none a = (
  λ part p. ⊎_elim (λ (none : get_or a p 0 ≡ 0). none) (λ (some : get_or a p 0 ≢ 0). sym (part p some) ∙ get_or-no_values p) (cases_eq (get_or a p 0) 0),
  λ none p some. absurd (some (none p)),
)

-- what stands at a place
slice_get-at : {A : Type 0} (xs : List A) (s : ℕ) (x : A) → s < length xs → x ≡ get_or xs s x → slice_get xs s ≡ Some x
slice_get-at [] s x lt is = absurd (omega arith)
slice_get-at (y ∷ ys) zero x lt is = ap Some (sym is)
slice_get-at (y ∷ ys) (suc s) x lt is = slice_get-at ys s x (omega arith) is

-- a step that the last line names is an end where its clause gives no value
pub end_at : (f : Framed) (steps : List Row) (last : Cite) (s : ℕ) (row : Row) (b : Bool) → last ≡ Slot s → s < length steps → row ≡ get_or steps s row → (IsTrue b ↔ IsPartOf row.clause no_values) → IsTrue b ↔ IsEnd f steps last
end_at f steps last s row b is lt at tells =
    let there = slice_get-at steps s row lt at in
    rw is (
      λ yes. (row, there, (gives_none row.clause).0 (tells.0 yes)),
      λ (other, other_is, none). tells.1 ((gives_none row.clause).1 (let same : other ≡ row = cc in subst (λ (r : Row). (p : ℕ) → get_or r.clause p 0 ≡ 0) same none)),
    )

-- a step that isn't there is no end
pub no_end : (f : Framed) (steps : List Row) (last : Cite) (s : ℕ) → last ≡ Slot s → length steps ≤ s → ¬ (IsEnd f steps last)
no_end f steps last s is past end = let named : IsEnd f steps (Slot s) = subst (IsEnd f steps) is end in let none = slice_get_past {X = Row} steps s past in let there = named.1 in cc

-- one step more follows
pub follow_more : (f : Framed) (steps : List Row) (j : ℕ) (row : Row) → j < length steps → row ≡ get_or steps j row → FollowBelow f steps j → Follows f (in_list (take j steps)) row → FollowBelow f steps (j + 1)
follow_more f steps j row lt at before follows i less other is = ⊎_elim
    (λ (same : i ≡ j). let there = slice_get-at steps j row lt at in let one : other ≡ row = (let here : slice_get steps j ≡ Some other = subst (λ (k : ℕ). slice_get steps k ≡ Some other) same is in cc) in
    subst (λ (k : ℕ). Follows f (in_list (take k steps)) other) (sym same) (subst (λ (r : Row). Follows f (in_list (take j steps)) r) (sym one) follows))
    (λ (differ : i ≢ j). before i (omega (arith, differ, less)) other is)
    (cases_eq i j)

-- a step that doesn't follow is the first
pub first_stray : (f : Framed) (steps : List Row) (j : ℕ) (row : Row) → j < length steps → row ≡ get_or steps j row → FollowBelow f steps j → ¬ (Follows f (in_list (take j steps)) row) → IsFirstStrayStep f steps j
first_stray f steps j row lt at before stray = record { before = before; stray = λ follows. stray (follows row (slice_get-at steps j row lt at)) }

-- where all that are there follow, each does
pub all_follow : (f : Framed) (steps : List Row) (n : ℕ) → length steps ≤ n → FollowBelow f steps n → AllFollow f steps
all_follow f steps n le below j row is = ⊎_elim
    (λ (lt : j < n). below j lt row is)
    (λ (ge : n ≤ j). let none = slice_get_past {X = Row} steps j (omega (arith, ge, le)) in cc)
    (cases_lt j n)

-- the first step that doesn't follow is one of the steps
pub stray_within : (f : Framed) (steps : List Row) (j : ℕ) → IsFirstStrayStep f steps j → j < length steps
stray_within f steps j first = ⊎_elim
    (λ (lt : j < length steps). lt)
    (λ (ge : length steps ≤ j). absurd (first.stray (λ row is. let none = slice_get_past {X = Row} steps j ge in cc)))
    (cases_lt j (length steps))

-- the line of a step has a small number
pub line_small : (l : Log) (j count : ℕ) → IsLog l → count ≡ length l.matroid.nonbases → count ≤ choose l.matroid.elements l.matroid.rank → j ≤ length l.steps → 9 + count + j < 2 ^ 32
line_small l j count log is few le = let sets = log.limits.sets in let most = log.count in omega (arith, few, sets, most, le)

-- the verdict on the steps as one on the log
pub judged : (field : Gf) (l : Log) (f : Framed) (count : ℕ) → IsFrame f → f.matroid ≡ l.matroid → f.field ≡ field → count ≡ length l.matroid.nonbases →
    (r : Result Accepted CheckFault) → MatchResult r (λ a. IsJudged f l.steps l.last × (a.steps ≡ length l.steps)) (IsFaultAt f l.steps l.last (9 + count)) →
    MatchResult r (λ a. IsRefutation field l × (a.steps ≡ length l.steps)) (IsFaulty field l)
judged field l f count frame matroid over is r found = by r found
  where
    is_frame : IsFrameOf l.matroid field f
    is_frame = record { frame = frame; matroid = matroid; over = over }

    by : (r : Result Accepted CheckFault) → MatchResult r (λ a. IsJudged f l.steps l.last × (a.steps ≡ length l.steps)) (IsFaultAt f l.steps l.last (9 + count)) →
        MatchResult r (λ a. IsRefutation field l × (a.steps ≡ length l.steps)) (IsFaulty field l)
    by (Ok a) (settled, steps) = (record { frame = f; is_frame = is_frame; steps = settled.steps_follow; end = settled.end }, steps)
    by (Err (Rejected line Grammar)) none = none
    by (Err (Rejected line Size)) none = none
    by (Err (Rejected line Basis)) none = none
    by (Err (Rejected line Exchange)) none = none
    by (Err (Rejected line Step)) (j, first, at) =
        record { frame = f; is_frame = is_frame; number = j; before = first.before; stray = first.stray; line_is = at ∙ ap (λ (n : ℕ). 9 + n + j) is }
    by (Err (Rejected line End)) (follow, bad, at) =
        record { frame = f; is_frame = is_frame; steps = follow; bad = bad; line_is = at ∙ ap (λ (n : ℕ). 9 + n + length l.steps) is }
    by (Err Memory) none = tt
