-- A line of a log spells one value.
use Rattle.std.proofs.Common.{◌≡◌, ℕ, zero, suc, ◌-◌, ◌<◌, ◌≤◌, List, [], ◌∷◌, ◌++◌, length, take, get_or, refl, sym, subst, ◌∙◌, inl, inr, arith, append_assoc, codes, map}
use Rattle.std.specs.Prelude.{decimal}
use Rattle.std.specs.List.{join_with_byte}
use Rattle.std.proofs.lemmas.Bool.{cases_lt}
use Rattle.std.proofs.lemmas.List.{append_cancel_left, ext_get_or, get_or_past}
use Rattle.mr_set.specs.declared.TheConstants.{ELEMENTS}
use Rattle.mr_set.specs.Matroid.{Presentation}
use Rattle.mr_assign.specs.declared.TheConstants.{VALUES}
use Rattle.mr_text.specs.declared.TheConstants.{NUMBERS}
use Rattle.mr_text.specs.Tables.{keyed}
use Rattle.mr_text.specs.Private.Sharp.{IsSharpTable, IsSharp}
use Rattle.mr_text.proofs.Decimals.{decimal_without, decimal_one}
use Rattle.mr_text.proofs.Formats.{same_parts, fixed_sharp}
use Rattle.mr_file.specs.declared.fault.Measure.{Measure}
use Rattle.mr_file.specs.declared.fault.Measure.TheVariants.{Elements, Rank, Sets, Nonbases}
use Rattle.mr_file.proofs.AfterFile.{file_then_sharp}
use Rattle.mr_nogood.specs.declared.row.Row.{Row}
use Rattle.mr_nogood.specs.declared.row.Cite.{Cite}
use Rattle.mr_nogood.specs.declared.row.Cite.TheVariants.{Nothing}
use Rattle.mr_log.specs.Lines.{clause_text, cite_text, step_text, IsLogCite, IsLogStep, IsStepLine}
use Rattle.mr_log.specs.Log.{StepsExceed, step_lines, log_format}
use Rattle.mr_log.specs.Private.Stages.{from_steps, from_count, field_text}
use Rattle.mr_log.proofs.StepLines.{same_row, step_one, end_one}

-- a number of steps is too large by one measure
steps_measure : (v : ℕ) (m n : Measure) → StepsExceed v m → StepsExceed v n → m ≡ n
steps_measure v Elements n p q = absurd p
steps_measure v Rank n p q = absurd p
steps_measure v Sets Elements p q = absurd q
steps_measure v Sets Rank p q = absurd q
steps_measure v Sets Sets p q = refl
steps_measure v Sets Nonbases p q = absurd q
steps_measure v Nonbases n p q = absurd p

-- the line of the number of steps
count_sharp : IsSharpTable (keyed (codes "steps ") StepsExceed)
count_sharp = record {
  one_value = λ line v w p q. decimal_one v w p.0 q.0 (append_cancel_left (codes "steps ") (decimal v) (decimal w) (sym p.1 ∙ q.1));
  one_measure = steps_measure;
}

-- the text of a step from its position on
step_text-front : (q : ℕ) (row : Row) → (rest : List ℕ) × (step_text q row ≡ codes "at " ++ (decimal row.at ++ 32 ∷ rest))
step_text-front q row = (_, front (decimal row.at) (clause_text row.clause) (join_with_byte 32 (map cite_text (take (q - 1) row.cites))))
  where
    front : (d clause cites : List ℕ) → codes "at " ++ d ++ codes " if " ++ clause ++ codes " by " ++ cites ≡ codes "at " ++ (d ++ 32 ∷ (codes "if " ++ (clause ++ (codes " by " ++ cites))))
    front d clause cites = simp append_assoc

-- a line spells one position
position_of_text : (q : ℕ) (a b : Row) → a.at < NUMBERS → b.at < NUMBERS → step_text q a ≡ step_text q b → a.at ≡ b.at
position_of_text q a b p t same =
    let left = step_text-front q a in
    let right = step_text-front q b in
    let rest = append_cancel_left (codes "at ") (decimal a.at ++ 32 ∷ left.0) (decimal b.at ++ 32 ∷ right.0) (sym left.1 ∙ same ∙ right.1) in
    decimal_one a.at b.at p t (same_parts 32 (decimal a.at) (decimal b.at) left.0 right.0 (decimal_without 32 a.at (omega arith) p) (decimal_without 32 b.at (omega arith) t) rest).0

-- a step without values and cites is its position
bare_step : (m : Presentation) (q number : ℕ) (line : List ℕ) (a b : Row) → q ≤ 1 → IsStepLine m q number line a → IsStepLine m q number line b → a ≡ b
bare_step m q number line a b few p t =
    let low = p.step.at in
    let high = t.step.at in
    same_row b.rank b.at b.clause b.cites a (p.step.rank ∙ sym t.step.rank)
    (position_of_text q a b (omega arith) (omega arith) (sym p.text ∙ t.text))
    (ext_get_or 0 a.clause b.clause (p.step.clause.positions ∙ sym t.step.clause.positions) (λ k lt.
    let x = p.step.values k 0 lt in
    let y = t.step.values k 0 (let e = p.step.clause.positions in let f = t.step.clause.positions in omega arith) in
    omega arith))
    (ext_get_or Nothing a.cites b.cites (p.step.count ∙ sym t.step.count) (λ k lt. p.step.others k (omega arith) ∙ sym (t.step.others k (omega arith))))

-- a field of more elements has no steps
no_steps : (m : Presentation) (q number : ℕ) (row : Row) → 9 < q → IsLogStep m q number row → ⊥
no_steps m q number row many is = subst (IsLogCite m) (past row.cites is.count) (is.cites 8 (omega arith))
  where
    past : (cites : List Cite) → length cites ≡ VALUES → get_or cites 8 Nothing ≡ Nothing
    past cites size = get_or_past cites 8 Nothing (omega arith)

-- a line spells one step
step_value : (m : Presentation) (q number : ℕ) (line : List ℕ) (a b : Row) → m.elements ≤ ELEMENTS → IsStepLine m q number line a → IsStepLine m q number line b → a ≡ b
step_value m q number line a b limit p t = elim (cases_lt 1 q) [
  | inl some ↦ elim (cases_lt 9 q) [
    | inl many ↦ absurd (no_steps m q number a many p.step)
    | inr few ↦ step_one m q number line limit some few a b p t
  ]
  | inr none ↦ bare_step m q number line a b none p t
]

-- the steps
steps_sharp : (q : ℕ) (m : Presentation) (k : ℕ) (steps : List Row) → m.elements ≤ ELEMENTS → IsSharp (from_steps q m k steps)
unfolding step_lines
steps_sharp q m zero steps limit = (record { one_value = λ line c d p t. end_one m line c d limit p t; one_measure = λ a j k p t. absurd p }, λ line a spelled fits. tt)
steps_sharp q m (suc k) steps limit = (
  record { one_value = λ line a b p t. step_value m q (length steps) line a b limit p t; one_measure = λ a j k p t. absurd p },
  λ line row spelled fits. steps_sharp q m k (steps ++ row ∷ []) limit,
)

-- the lines of a log
pub log_sharp : (q : ℕ) → IsSharp (log_format q)
log_sharp q = (
  fixed_sharp (codes "refutation 1"),
  λ l1 u s1 f1. (
    fixed_sharp (field_text q),
    λ l2 v s2 f2. file_then_sharp (from_count q) (λ m limit. (count_sharp, λ l3 count s3 f3. steps_sharp q m count [] limit)),
  ),
)
