-- The text of a whole log.
use Rattle.std.proofs.Common.{◌≡◌, ℕ, zero, suc, ◌+◌, ◌≤◌, List, [], ◌∷◌, ◌++◌, length, refl, sym, ap, subst, ◌∙◌, arith, append_assoc, append-nil, Some, codes, map}
use Rattle.std.specs.Prelude.{decimal, slice_get}
use Rattle.std.proofs.lemmas.List.{length-append}
use Rattle.mr_field.specs.Order.{IsOrder}
use Rattle.mr_field.specs.Gf.{gf2, gf3, gf4, gf5, gf7, gf8, gf9}
use Rattle.mr_set.specs.Matroid.{Presentation, IsPresentation}
use Rattle.mr_matroid.specs.Exchange.{IsWithinLimits}
use Rattle.mr_text.specs.Format.{StandsFor}
use Rattle.mr_text.proofs.Listings.{lines-append}
use Rattle.mr_file.specs.File.{file_lines, file_text}
use Rattle.mr_file.specs.declared.fault.Measure.TheVariants.{Sets}
use Rattle.mr_file.proofs.Whole.{file_read, at_most}
use Rattle.mr_file.proofs.AfterFile.{FileThen, file_then}
use Rattle.mr_nogood.specs.declared.row.Row.{Row}
use Rattle.mr_nogood.specs.declared.row.Cite.{Cite}
use Rattle.mr_log.specs.Lines.{step_text, cite_text, IsLogStep, IsLogCite}
use Rattle.mr_log.specs.Log.{step_lines, log_format, log_text}
use Rattle.mr_log.specs.Private.Stages.{from_steps, from_count, field_text}
use Rattle.mr_log.specs.Private.Written.{steps_text}
use Rattle.mr_log.specs.declared.TheConstants.{STEPS}
use Rattle.mr_log.specs.declared.log.Log.{Log}

-- how many elements a field may have
pub order_within : (q : ℕ) → IsOrder q → (2 ≤ q) × (q ≤ 9)
order_within q (gf2, is) = (omega arith, omega arith)
order_within q (gf3, is) = (omega arith, omega arith)
order_within q (gf4, is) = (omega arith, omega arith)
order_within q (gf5, is) = (omega arith, omega arith)
order_within q (gf7, is) = (omega arith, omega arith)
order_within q (gf8, is) = (omega arith, omega arith)
order_within q (gf9, is) = (omega arith, omega arith)

-- rows that are steps from this number on
abbrev pub AreSteps : Presentation → ℕ → ℕ → List Row → Type 0
AreSteps m q number rows = (j : ℕ) (row : Row) → slice_get rows j ≡ Some row → IsLogStep m q (number + j) row

-- a step before others
steps_cons : (m : Presentation) (q number : ℕ) (row : Row) (rows : List Row) → IsLogStep m q number row → AreSteps m q (number + 1) rows → AreSteps m q number (row ∷ rows)
steps_cons m q number row rows here more zero r is = let e : number ≡ number + 0 = omega arith in subst (λ k. IsLogStep m q k r) e (subst (IsLogStep m q number) (let h : row ≡ r = cc in h) here)
steps_cons m q number row rows here more (suc j) r is = let e : number + 1 + j ≡ number + suc j = omega arith in subst (λ k. IsLogStep m q k r) e (more j r is)

-- the steps that lines stand for
record StepsRead (q : ℕ) (m : Presentation) (k : ℕ) (steps : List Row) (number : ℕ) (bytes : List ℕ) (l : Log) (rest : List ℕ) (next : ℕ) : Type 0 where
  more : List Row
  count : length more ≡ k
  each : AreSteps m q (length steps) more
  last : Cite
  cite : IsLogCite m last
  whole : l ≡ record { matroid = m; q = q; steps = steps ++ more; last = last }
  text : bytes ≡ steps_text q more ++ ((codes "end " ++ cite_text last) ++ 10 ∷ rest)

-- a line, what follows it and the tail
pub line_text : (line a b : List ℕ) → line ++ 10 ∷ (a ++ b) ≡ ((line ++ 10 ∷ []) ++ a) ++ b
line_text line a b = sym (append_assoc (line ++ 10 ∷ []) a b ∙ append_assoc line (10 ∷ []) (a ++ b))

-- the lines of steps and the last line were those of a log
steps_read : (q : ℕ) (m : Presentation) (k : ℕ) (steps : List Row) (number : ℕ) (bytes : List ℕ) (l : Log) (rest : List ℕ) (next : ℕ) → StandsFor (from_steps q m k steps) number bytes l rest next → StepsRead q m k steps number bytes l rest next
unfolding step_lines
steps_read q m zero steps number bytes l rest next (last, after, line, (is, same, at)) = record {
  more = [];
  count = refl;
  each = λ j row none. absurd cc;
  last = last;
  cite = line.spelled.cite;
  whole = is ∙ ap (λ (s : List Row). record { matroid = m; q = q; steps = s; last = last }) (sym (append-nil steps));
  text = line.begins.text ∙ ap (λ w. w ++ 10 ∷ after) line.spelled.text ∙ ap (λ w. (codes "end " ++ cite_text last) ++ 10 ∷ w) (sym same);
}
steps_read q m (suc k) steps number bytes l rest next (row, after, line, more) =
    let tail = steps_read q m k (steps ++ row ∷ []) (number + 1) after l rest next more in
    record {
      more = row ∷ tail.more;
      count = ap suc tail.count;
      each = steps_cons m q (length steps) row tail.more line.spelled.step (subst (λ n. AreSteps m q n tail.more) (length-append steps (row ∷ [])) tail.each);
      last = tail.last;
      cite = tail.cite;
      whole = tail.whole ∙ ap (λ (s : List Row). record { matroid = m; q = q; steps = s; last = tail.last }) (append_assoc steps (row ∷ []) tail.more);
      text = line.begins.text ∙ ap (λ w. w ++ 10 ∷ after) line.spelled.text ∙ ap (λ w. step_text q row ++ 10 ∷ w) tail.text ∙ line_text (step_text q row) (steps_text q tail.more) ((codes "end " ++ cite_text tail.last) ++ 10 ∷ rest);
    }

-- the pieces of a log, one after another
pieces : (a b f c t e rest : List ℕ) → a ++ 10 ∷ (b ++ 10 ∷ (f ++ (c ++ 10 ∷ (t ++ (e ++ 10 ∷ rest))))) ≡ ((a ++ 10 ∷ []) ++ ((b ++ 10 ∷ []) ++ (f ++ ((c ++ 10 ∷ []) ++ (t ++ (e ++ 10 ∷ [])))))) ++ rest
pieces a b f c t e rest = simp append_assoc

-- the text of a log by its pieces
log_text-parts : (l : Log) → log_text l
    ≡ (codes "refutation 1" ++ 10 ∷ []) ++ ((field_text l.q ++ 10 ∷ []) ++ (file_text l.matroid ++ (((codes "steps " ++ decimal (length l.steps)) ++ 10 ∷ []) ++ (steps_text l.q l.steps ++ ((codes "end " ++ cite_text l.last) ++ 10 ∷ [])))))
log_text-parts l =
    ap (λ w. (codes "refutation 1" ++ 10 ∷ []) ++ ((field_text l.q ++ 10 ∷ []) ++ w)) (
    lines-append (file_lines l.matroid) ((codes "steps " ++ decimal (length l.steps)) ∷ (map (step_text l.q) l.steps ++ (codes "end " ++ cite_text l.last) ∷ []))
    ∙ ap (λ w. file_text l.matroid ++ (((codes "steps " ++ decimal (length l.steps)) ++ 10 ∷ []) ++ w)) (
    lines-append (map (step_text l.q) l.steps) ((codes "end " ++ cite_text l.last) ∷ [])
    ∙ ap (λ w. steps_text l.q l.steps ++ w) (append-nil ((codes "end " ++ cite_text l.last) ++ 10 ∷ []))))

-- and what follows it
pub log_pieces : (l : Log) (rest : List ℕ)
    → codes "refutation 1" ++ 10 ∷ (field_text l.q ++ 10 ∷ (file_text l.matroid ++ ((codes "steps " ++ decimal (length l.steps)) ++ 10 ∷ (steps_text l.q l.steps ++ ((codes "end " ++ cite_text l.last) ++ 10 ∷ rest))))) ≡ log_text l ++ rest
log_pieces l rest =
    pieces (codes "refutation 1") (field_text l.q) (file_text l.matroid) (codes "steps " ++ decimal (length l.steps)) (steps_text l.q l.steps) (codes "end " ++ cite_text l.last) rest
    ∙ ap (λ w. w ++ rest) (sym (log_text-parts l))

-- what a text stands for, but that its file is a matroid's
pub record LogRead (q : ℕ) (bytes : List ℕ) (l : Log) (rest : List ℕ) : Type 0 where
  pub presentation : IsPresentation l.matroid
  pub limits : IsWithinLimits l.matroid
  pub field : l.q ≡ q
  pub count : length l.steps ≤ STEPS
  pub steps : AreSteps l.matroid q 0 l.steps
  pub last : IsLogCite l.matroid l.last
  pub text : bytes ≡ log_text l ++ rest

-- the lines of a log were its text
pub log_read : (q : ℕ) (bytes : List ℕ) (l : Log) (rest : List ℕ) (next : ℕ) → StandsFor (log_format q) 1 bytes l rest next → LogRead q bytes l rest
log_read q bytes l rest next (u, r1, l1, (v, r2, l2, parts)) = by_file (file_then (from_count q) 3 r2 l rest next parts)
  where
    made : Presentation → List Row → Cite → Log
    made m s c = record { matroid = m; q = q; steps = s; last = c }

    by_file : FileThen (from_count q) 3 r2 l rest next → LogRead q bytes l rest
    by_file f = by_count f.then
      where
        by_count : StandsFor (from_count q f.m) f.at f.after l rest next → LogRead q bytes l rest
        by_count (count, r3, l3, lines) =
            let s = steps_read q f.m count [] (f.at + 1) r3 l rest next lines in
            let read = file_read 3 r2 f.m f.after f.at f.file in
            subst (λ (k : Log). LogRead q bytes k rest) (sym s.whole) (record {
              presentation = read.presentation;
              limits = read.limits;
              field = refl;
              count = subst (λ k. k ≤ STEPS) (sym s.count) (at_most STEPS count (l3.fits Sets));
              steps = s.each;
              last = s.cite;
              text = l1.begins.text ∙ ap (λ w. w ++ 10 ∷ r1) l1.spelled
                  ∙ ap (λ w. codes "refutation 1" ++ 10 ∷ w) (l2.begins.text ∙ ap (λ w. w ++ 10 ∷ r2) l2.spelled
                  ∙ ap (λ w. field_text q ++ 10 ∷ w) (read.text
                  ∙ ap (λ w. file_text f.m ++ w) (l3.begins.text ∙ ap (λ w. w ++ 10 ∷ r3) (l3.spelled.1 ∙ ap (λ k. codes "steps " ++ decimal k) (sym s.count))
                  ∙ ap (λ w. (codes "steps " ++ decimal (length s.more)) ++ 10 ∷ w) s.text)))
                  ∙ log_pieces (record { matroid = f.m; q = q; steps = s.more; last = s.last }) rest;
            })
