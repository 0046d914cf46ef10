-- A log of steps that follow is one whose text is accepted.
use Rattle.std.proofs.Common.{◌≡◌, ◌≢◌, ℕ, ◌+◌, ◌<◌, ◌≤◌, List, [], length, take, set, get_or, Some, refl, sym, ap, subst, ⊎_elim, arith, length-take}
use Rattle.std.specs.Prelude.{slice_get, All}
use Rattle.std.proofs.lemmas.Bool.{cases_eq}
use Rattle.std.proofs.lemmas.List.{get_or_default}
use Rattle.std.proofs.lemmas.Option.{slice_get_within, get_or_from_slice_get}
use Rattle.mr_field.specs.Gf.{order}
use Rattle.mr_set.specs.Matroid.{Presentation, IsMatroid}
use Rattle.mr_matroid.specs.Exchange.{IsWithinLimits}
use Rattle.mr_set.proofs.Ordered.{member_none}
use Rattle.mr_assign.specs.Assign.{no_values}
use Rattle.mr_assign.specs.declared.TheConstants.{VALUES}
use Rattle.mr_frame.specs.Frame.{Framed, IsFrame}
use Rattle.mr_nogood.specs.declared.row.Row.{Row}
use Rattle.mr_nogood.specs.declared.row.Cite.{Cite}
use Rattle.mr_nogood.specs.declared.row.Cite.TheVariants.{Nothing, Test, Slot}
use Rattle.mr_nogood.specs.Row.{cite_for}
use Rattle.mr_nogood.specs.Follows.{Rows, CiteHolds, Follows, in_list}
use Rattle.mr_log.specs.declared.log.Log.{Log}
use Rattle.mr_log.specs.declared.TheConstants.{STEPS}
use Rattle.mr_log.specs.Lines.{IsLogCite, IsLogStep}
use Rattle.mr_check.specs.Accepted.{IsEnd}
use Rattle.mr_exchange.specs.declared.answer.CubeAnswer.TheVariants.{Refuted}
use Rattle.mr_exchange.specs.Right.{IsRight}
use Rattle.mr_exchange.proofs.CubesInOrder.{few_elements, few_places}
use Rattle.mr_merge.specs.Steps.{LeadsTo, named, cited, AreStepsTo}
use Rattle.mr_merge.specs.Merged.{IsRefutationOf}
use Rattle.mr_merge.proofs.Stepping.{step_at, steps_follow, ends}

-- what stands in a front stands before its end
from_front : {A : Type 0} (n s : ℕ) (xs : List A) (x : A) → slice_get (take n xs) s ≡ Some x → s < length xs
from_front n s xs x is = let within = slice_get_within (take n xs) s x is in omega (arith, within, length-take n xs)

-- a cite that holds among few steps is such as a log may have
cite_is : (f : Framed) (steps : List Row) (j rank : ℕ) (a : List ℕ) (cite : Cite) → length steps ≤ STEPS → CiteHolds f (in_list (take j steps)) rank a cite → IsLogCite f.matroid cite
cite_is f steps j rank a Nothing few holds = holds
cite_is f steps j rank a (Test x) few holds = holds.size
cite_is f steps j rank a (Slot s) few (row, is, less, part) = let within = from_front j s steps row is in omega arith

-- so is an end
end_cite : (f : Framed) (steps : List Row) (last : Cite) → length steps ≤ STEPS → IsEnd f steps last → IsLogCite f.matroid last
end_cite f steps Nothing few end = end
end_cite f steps (Test x) few end = end.size
end_cite f steps (Slot s) few (row, is, none) = let within = slice_get_within steps s row is in omega arith

-- a step that follows is one of a log
step_is : (f : Framed) (steps : List Row) (j : ℕ) (step : Row) → IsFrame f → length steps ≤ STEPS → Follows f (in_list (take j steps)) step → step.rank ≡ j → length step.cites ≡ VALUES → IsLogStep f.matroid (order f.field) j step
step_is f steps j step frame few follows rank count = record {
  rank = rank;
  at = (let place = follows.position in let most = few_places f frame in omega arith);
  clause = follows.map;
  values = λ p d lt. (
      let same : get_or step.clause p d ≡ get_or step.clause p 0 = get_or_default step.clause p d 0 lt in
      let some = (few_elements f.field).0 in
      ⊎_elim (λ (none : get_or step.clause p 0 ≡ 0). omega arith) (λ (value : get_or step.clause p 0 ≢ 0). (let small = (follows.clause p value).1 in omega arith)) (cases_eq (get_or step.clause p 0) 0));
  count = count;
  cites = λ k lt. cite_is f steps j step.rank (set step.clause step.at (k + 1)) (cite_for step k) few (follows.cites k lt);
  others = follows.others;
}

-- steps that lead to an end are a refutation, in a log that is one
pub refutation_of : (f : Framed) (rows : Rows) (end : Cite) (l : Log) → IsFrame f → ((s : ℕ) (row : Row) → rows s ≡ Some row → Follows f rows row) → IsRight f rows no_values (Refuted end) → AreStepsTo rows end l.steps l.last
    → length l.steps ≤ STEPS → All (λ (row : Row). length row.cites ≡ VALUES) l.steps → l.matroid ≡ f.matroid → l.q ≡ order f.field → IsRefutationOf f l
refutation_of f rows end l frame follow right made few cites matroid field = record {
  log = record {
    matroid = subst IsMatroid (sym matroid) frame.matroid;
    limits = subst IsWithinLimits (sym matroid) frame.limits;
    field = (f.field, sym field);
    count = few;
    steps = λ j step is.
        let at = step_at f rows end l.steps l.last follow right made j step is in
        let rank : step.rank ≡ j = ap (λ (r : Row). r.rank) at.4 in
        let count : length step.cites ≡ VALUES = subst (λ (r : Row). length r.cites ≡ VALUES) (get_or_from_slice_get l.steps j step step is) (cites j step (slice_get_within l.steps j step is)) in
        subst (λ (m : Presentation). IsLogStep m l.q j step) (sym matroid) (subst (λ (q : ℕ). IsLogStep f.matroid q j step) (sym field)
        (step_is f l.steps j step frame few (steps_follow f rows end l.steps l.last follow right made j step is) rank count));
    last = subst (λ (m : Presentation). IsLogCite m l.last) (sym matroid) (end_cite f l.steps l.last few (ends f rows end l.steps l.last follow right made));
  };
  matroid = matroid;
  field = field;
  refutation = record {
    frame = f;
    is_frame = record { frame = frame; matroid = sym matroid; over = refl };
    steps = steps_follow f rows end l.steps l.last follow right made;
    end = ends f rows end l.steps l.last follow right made;
  };
}

-- a set leads to no row
pub none_leads : (rows : Rows) (x : List ℕ) (s : ℕ) → LeadsTo rows (Test x) s → ⊥
none_leads rows x s (named _ is) = cc
none_leads rows x s (cited t _ k row before there is) = none_leads rows x t before

-- a set that fails needs no steps
pub no_steps : (rows : Rows) (x : List ℕ) → AreStepsTo rows (Test x) [] (Test x)
no_steps rows x = record {
  slots = [];
  number = λ s. s;
  exactly = λ s. ((λ inside. absurd (member_none s inside)), (λ leads. absurd (none_leads rows x s leads)));
  there = λ s inside. absurd (member_none s inside);
  order = λ i j d less lt. absurd (omega arith);
  numbers = λ j s is. cc;
  count = refl;
  step = λ j s row is. cc;
  last_is = refl;
}
