-- Which steps and ends a line spells.
use Rattle.std.proofs.Common.{◌≡◌, ◌≢◌, ℕ, ◌+◌, ◌<◌, ◌≤◌, List, [], ◌∷◌, ◌++◌, get_or, set, refl, sym, ap, ◌∙◌, arith, append-nil, codes}
use Rattle.std.specs.Prelude.{decimal}
use Rattle.std.specs.List.{join_with_byte}
use Rattle.mr_set.specs.declared.TheConstants.{ELEMENTS}
use Rattle.mr_set.specs.Matroid.{Presentation}
use Rattle.mr_assign.specs.declared.TheConstants.{POSITIONS}
use Rattle.mr_nogood.specs.declared.row.Cite.{Cite}
use Rattle.mr_nogood.specs.declared.row.Row.{Row}
use Rattle.mr_text.specs.declared.TheConstants.{NUMBERS}
use Rattle.mr_text.proofs.Decimals.{decimal_one}
use Rattle.mr_log.specs.Lines.{pair_text, pair_texts, IsLogCite, IsStepLine, IsEndLine}
use Rattle.mr_log.specs.Words.{words_of}
use Rattle.mr_log.specs.Private.Words.{IsClauseFrom, IsCites, or_dash, cite_words, clause_words, position_words, cites_words}
use Rattle.mr_log.proofs.Splitting.{words_of-join, join-words_of}
use Rattle.mr_log.proofs.Pairs.{no_pair, Least, vacant, valued, least}
use Rattle.mr_log.proofs.CiteLists.{step_cites_one, cite_one}
use Rattle.mr_log.proofs.Steps.{space_apart, cite_lacks, end_join, row_words, line_of_words, position_one, pairs_one, step_clause, step_cites, values_below}

-- a line after its first word
abbrev after_first : List (List ℕ) → List (List ℕ)
after_first [] = []
after_first (w ∷ ws) = ws

-- some words with `-` in place of none
undashed : (ts : List (List ℕ)) (t : List ℕ) (us : List (List ℕ)) → ts ≡ t ∷ us → or_dash ts ≡ ts
undashed ts t us is = ap or_dash is ∙ sym is

-- a clause that begins with a pair does not begin with `-`
no_dash : (a : List ℕ) (p v : ℕ) (us r s : List (List ℕ)) → pair_texts 0 a ≡ pair_text p v ∷ us → (or_dash (pair_texts 0 a) ++ codes "by" ∷ []) ++ r ≡ codes "-" ∷ s → ⊥
no_dash a p v us r s texts same =
    let e : pair_text p v ∷ ((us ++ codes "by" ∷ []) ++ r) ≡ codes "-" ∷ s = ap (λ ts. (or_dash ts ++ codes "by" ∷ []) ++ r) (sym texts) ∙ same in
    no_pair (codes "-") p v refl (sym (ap (λ ws. get_or ws 0 []) e))

-- words that begin with a clause
pub clause_one : (q : ℕ) (a b : List ℕ) (r s : List (List ℕ)) → q ≤ 9 → IsClauseFrom q 0 a → IsClauseFrom q 0 b → clause_words a ++ r ≡ clause_words b ++ s → (a ≡ b) × (r ≡ s)
clause_one q a b r s nine p t same = by_least (least 0 a) (least 0 b)
  where
    all_pairs : (pair_texts 0 a ++ codes "by" ∷ []) ++ r ≡ (pair_texts 0 b ++ codes "by" ∷ []) ++ s → (a ≡ b) × (r ≡ s)
    all_pairs e = pairs_one 0 a b r s (p.assign.positions ∙ sym t.assign.positions) (let size = p.assign.positions in omega arith) (values_below q a nine p.values) (values_below q b nine t.values) e

    by_least : Least 0 a → Least 0 b → (a ≡ b) × (r ≡ s)
    by_least (vacant none) (vacant nil) = all_pairs (
        ap (λ ts. (ts ++ codes "by" ∷ []) ++ r) none
        ∙ ap after_first (ap (λ ts. (or_dash ts ++ codes "by" ∷ []) ++ r) (sym none) ∙ same ∙ ap (λ ts. (or_dash ts ++ codes "by" ∷ []) ++ s) nil)
        ∙ ap (λ ts. (ts ++ codes "by" ∷ []) ++ s) (sym nil))
    by_least (vacant none) (valued k lt some before texts) =
        absurd (no_dash b (0 + k) (get_or b k 0) (pair_texts 0 (set b k 0)) s (codes "by" ∷ r) texts (sym same ∙ ap (λ ts. (or_dash ts ++ codes "by" ∷ []) ++ r) none))
    by_least (valued k lt some before texts) (vacant nil) =
        absurd (no_dash a (0 + k) (get_or a k 0) (pair_texts 0 (set a k 0)) r (codes "by" ∷ s) texts (same ∙ ap (λ ts. (or_dash ts ++ codes "by" ∷ []) ++ s) nil))
    by_least (valued k lt some before texts) (valued j less more ahead words) = all_pairs (
        ap (λ ts. (ts ++ codes "by" ∷ []) ++ r) (sym (undashed (pair_texts 0 a) (pair_text (0 + k) (get_or a k 0)) (pair_texts 0 (set a k 0)) texts)) ∙ same
        ∙ ap (λ ts. (ts ++ codes "by" ∷ []) ++ s) (undashed (pair_texts 0 b) (pair_text (0 + j) (get_or b j 0)) (pair_texts 0 (set b j 0)) words))

-- a row of these parts
abbrev made : ℕ → ℕ → List ℕ → List Cite → Row
made r p a cs = record { rank = r; at = p; clause = a; cites = cs }

-- two rows with the same parts
pub same_row : (rank at : ℕ) (clause : List ℕ) (cites : List Cite) (row : Row) → row.rank ≡ rank → row.at ≡ at → row.clause ≡ clause → row.cites ≡ cites → row ≡ record { rank = rank; at = at; clause = clause; cites = cites }
same_row rank at clause cites row e1 e2 e3 e4 =
    ap (λ r. made r row.at row.clause row.cites) e1 ∙ ap (λ p. made rank p row.clause row.cites) e2 ∙ ap (λ (a : List ℕ). made rank at a row.cites) e3 ∙ ap (λ (cs : List Cite). made rank at clause cs) e4

-- a number that is no position
pub large_position : (p : ℕ) (old mid new : List (List ℕ)) → old ≡ codes "at" ∷ mid → p < NUMBERS → mid ≡ (decimal p ∷ []) ++ new → POSITIONS ≤ p → (a : ℕ) (rest : List (List ℕ)) → a < POSITIONS → old ≢ position_words a ++ rest
large_position p old mid new first small next large a rest low words =
    let e : decimal a ≡ decimal p = ap (λ ws. get_or ws 0 []) (ap after_first (sym words ∙ first) ∙ next) in
    let same = decimal_one a p (omega arith) small e in
    omega arith

module _ (m : Presentation) (q number : ℕ) (line : List ℕ) (limit : m.elements ≤ ELEMENTS) (low : 2 ≤ q) (nine : q ≤ 9) where
  -- where no position stands first there is no step
  pub no_position : ((p : ℕ) (rest : List (List ℕ)) → p < POSITIONS → words_of line ≢ position_words p ++ rest) → (row : Row) → ¬ (IsStepLine m q number line row)
  no_position never row is = never row.at (clause_words row.clause ++ cites_words q row.cites) is.step.at (row_words m q number line row limit low nine is)

  -- the position that was read is that of the step
  after_position : (at : ℕ) (mid : List (List ℕ)) (row : Row) → at < POSITIONS → words_of line ≡ position_words at ++ mid → IsStepLine m q number line row → (row.at ≡ at) × (clause_words row.clause ++ cites_words q row.cites ≡ mid)
  after_position at mid row small words is = position_one row.at at (clause_words row.clause ++ cites_words q row.cites) mid is.step.at small (sym (row_words m q number line row limit low nine is) ∙ words)

  -- where no clause follows there is no step
  pub no_clause : (at : ℕ) (mid : List (List ℕ)) → at < POSITIONS → words_of line ≡ position_words at ++ mid → ((a : List ℕ) (rest : List (List ℕ)) → IsClauseFrom q 0 a → mid ≢ clause_words a ++ rest) → (row : Row) → ¬ (IsStepLine m q number line row)
  no_clause at mid small words never row is = never row.clause (cites_words q row.cites) (step_clause m q number row is.step) (sym (after_position at mid row small words is).1)

  -- the clause that was read is that of the step
  after_clause : (at : ℕ) (clause : List ℕ) (mid rest : List (List ℕ)) (row : Row) → at < POSITIONS → words_of line ≡ position_words at ++ mid → IsClauseFrom q 0 clause → mid ≡ clause_words clause ++ rest → IsStepLine m q number line row
      → (row.at ≡ at) × (row.clause ≡ clause) × (cites_words q row.cites ≡ rest)
  after_clause at clause mid rest row small words given more is =
      let first = after_position at mid row small words is in
      let second = clause_one q row.clause clause (cites_words q row.cites) rest nine (step_clause m q number row is.step) given (first.1 ∙ more) in
      (first.0, second.0, second.1)

  -- where a cite is missing there is no step
  pub no_cites : (at : ℕ) (clause : List ℕ) (mid rest : List (List ℕ)) → at < POSITIONS → words_of line ≡ position_words at ++ mid → IsClauseFrom q 0 clause → mid ≡ clause_words clause ++ rest
      → ((cs : List Cite) (after : List (List ℕ)) → IsCites m q cs → rest ≢ cites_words q cs ++ after) → (row : Row) → ¬ (IsStepLine m q number line row)
  no_cites at clause mid rest small words given more never row is =
      never row.cites [] (step_cites m q number row is.step) (sym (after_clause at clause mid rest row small words given more is).2 ∙ sym (append-nil (cites_words q row.cites)))

  -- the cites that were read are those of the step, and no word is left
  after_cites : (at : ℕ) (clause : List ℕ) (cites : List Cite) (mid rest after : List (List ℕ)) (row : Row) → at < POSITIONS → words_of line ≡ position_words at ++ mid → IsClauseFrom q 0 clause → mid ≡ clause_words clause ++ rest
      → IsCites m q cites → rest ≡ cites_words q cites ++ after → IsStepLine m q number line row → (row.at ≡ at) × (row.clause ≡ clause) × (row.cites ≡ cites) × ([] ≡ after)
  after_cites at clause cites mid rest after row small words given more are end is =
      let two = after_clause at clause mid rest row small words given more is in
      let last = step_cites_one m q row.cites cites [] after limit nine (step_cites m q number row is.step) are (append-nil (cites_words q row.cites) ∙ two.2 ∙ end) in
      (two.0, two.1, last.0, last.1)

  -- where a word is left there is no step
  pub words_left_over : (at : ℕ) (clause : List ℕ) (cites : List Cite) (mid rest after : List (List ℕ)) → at < POSITIONS → words_of line ≡ position_words at ++ mid → IsClauseFrom q 0 clause → mid ≡ clause_words clause ++ rest
      → IsCites m q cites → rest ≡ cites_words q cites ++ after → (after ≡ [] → ⊥) → (row : Row) → ¬ (IsStepLine m q number line row)
  words_left_over at clause cites mid rest after small words given more are end some row is = some (sym (after_cites at clause cites mid rest after row small words given more are end is).3)

  -- the step that was read
  pub step_read : (at : ℕ) (clause : List ℕ) (cites : List Cite) (mid rest after : List (List ℕ)) → at < POSITIONS → words_of line ≡ position_words at ++ mid → IsClauseFrom q 0 clause → mid ≡ clause_words clause ++ rest
      → IsCites m q cites → rest ≡ cites_words q cites ++ after → after ≡ [] → IsStepLine m q number line (record { rank = number; at = at; clause = clause; cites = cites })
  step_read at clause cites mid rest after small words given more are end none =
      line_of_words m q number line (record { rank = number; at = at; clause = clause; cites = cites }) low
      (record { rank = refl; at = small; clause = given.assign; values = given.values; count = are.count; cites = are.cites; others = are.others })
      (words ∙ ap (λ z. position_words at ++ z) (more ∙ ap (λ z. clause_words clause ++ z) (end ∙ ap (λ z. cites_words q cites ++ z) none ∙ append-nil (cites_words q cites))))

  -- a line spells one step
  pub step_one : (a b : Row) → IsStepLine m q number line a → IsStepLine m q number line b → a ≡ b
  step_one a b p t =
      let words = row_words m q number line b limit low nine t in
      let parts = after_cites b.at b.clause b.cites (clause_words b.clause ++ cites_words q b.cites) (cites_words q b.cites) [] a t.step.at words (step_clause m q number b t.step) refl (step_cites m q number b t.step) (sym (append-nil (cites_words q b.cites))) p in
      same_row b.rank b.at b.clause b.cites a (p.step.rank ∙ sym t.step.rank) parts.0 parts.1 parts.2

-- the words of the end
pub end_words : (m : Presentation) (line : List ℕ) (c : Cite) → m.elements ≤ ELEMENTS → IsEndLine m line c → words_of line ≡ codes "end" ∷ cite_words c
end_words m line c limit is = ap words_of (is.text ∙ sym (end_join c)) ∙ words_of-join (codes "end") (cite_words c) (refl, cite_lacks m 32 c space_apart limit is.cite)

-- where the first word is another there is no end
pub no_end : (m : Presentation) (line : List ℕ) → m.elements ≤ ELEMENTS → ((rest : List (List ℕ)) → words_of line ≢ codes "end" ∷ rest) → (c : Cite) → ¬ (IsEndLine m line c)
no_end m line limit never c is = never (cite_words c) (end_words m line c limit is)

-- where no cite follows there is none either
pub no_end_cite : (m : Presentation) (line : List ℕ) (mid : List (List ℕ)) → m.elements ≤ ELEMENTS → words_of line ≡ codes "end" ∷ mid → ((c : Cite) (rest : List (List ℕ)) → IsLogCite m c → mid ≢ cite_words c ++ rest) → (c : Cite) → ¬ (IsEndLine m line c)
no_end_cite m line mid limit words never c is = never c [] is.cite (ap after_first (sym words ∙ end_words m line c limit is) ∙ sym (append-nil (cite_words c)))

-- the cite that was read is that of the end, and no word is left
after_end : (m : Presentation) (line : List ℕ) (cite : Cite) (mid after : List (List ℕ)) (c : Cite) → m.elements ≤ ELEMENTS → words_of line ≡ codes "end" ∷ mid → IsLogCite m cite → mid ≡ cite_words cite ++ after → IsEndLine m line c → (c ≡ cite) × ([] ≡ after)
after_end m line cite mid after c limit words given more is =
    cite_one m c cite [] after limit is.cite given (append-nil (cite_words c) ∙ ap after_first (sym (end_words m line c limit is) ∙ words) ∙ more)

-- where a word is left there is no end
pub end_left_over : (m : Presentation) (line : List ℕ) (cite : Cite) (mid after : List (List ℕ)) → m.elements ≤ ELEMENTS → words_of line ≡ codes "end" ∷ mid → IsLogCite m cite → mid ≡ cite_words cite ++ after → (after ≡ [] → ⊥) → (c : Cite) → ¬ (IsEndLine m line c)
end_left_over m line cite mid after limit words given more some c is = some (sym (after_end m line cite mid after c limit words given more is).1)

-- the end that was read
pub end_read : (m : Presentation) (line : List ℕ) (cite : Cite) (mid after : List (List ℕ)) → words_of line ≡ codes "end" ∷ mid → IsLogCite m cite → mid ≡ cite_words cite ++ after → after ≡ [] → IsEndLine m line cite
end_read m line cite mid after words given more none = record {
  cite = given;
  text = sym (join-words_of line) ∙ ap (join_with_byte 32) (words ∙ ap (λ z. codes "end" ∷ z) (more ∙ ap (λ z. cite_words cite ++ z) none ∙ append-nil (cite_words cite))) ∙ end_join cite;
}

-- a line spells one end
pub end_one : (m : Presentation) (line : List ℕ) (c d : Cite) → m.elements ≤ ELEMENTS → IsEndLine m line c → IsEndLine m line d → c ≡ d
end_one m line c d limit p q = (after_end m line d (cite_words d) [] c limit (end_words m line d limit q) q.cite (sym (append-nil (cite_words d))) p).0
