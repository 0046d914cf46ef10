-- A step and an end by the words of their lines.
use Rattle.std.proofs.Common.{◌≡◌, ℕ, zero, suc, ◌+◌, ◌-◌, ◌<◌, ◌≤◌, List, [], ◌∷◌, ◌++◌, length, take, get_or, refl, sym, ap, subst, ◌∙◌, arith, append_assoc, append-nil, codes, map}
use Rattle.std.specs.Prelude.{All, decimal}
use Rattle.std.specs.List.{join_with_byte}
use Rattle.std.proofs.lemmas.List.{length-append}
use Rattle.mr_set.specs.declared.TheConstants.{ELEMENTS}
use Rattle.mr_set.specs.Matroid.{Presentation}
use Rattle.mr_set.proofs.Sorted.{all_head, all_tail}
use Rattle.mr_assign.specs.declared.TheConstants.{POSITIONS}
use Rattle.mr_text.specs.Text.{Lacks}
use Rattle.mr_text.proofs.Decimals.{decimal_without, decimal_one}
use Rattle.mr_nogood.specs.declared.row.Cite.{Cite}
use Rattle.mr_nogood.specs.declared.row.Cite.TheVariants.{Nothing, Test, Slot}
use Rattle.mr_nogood.specs.declared.row.Row.{Row}
use Rattle.mr_log.specs.Lines.{pair_text, pair_texts, words_text, clause_text, cite_text, step_text, IsLogCite, IsLogStep, IsStepLine}
use Rattle.mr_log.specs.Words.{words_of}
use Rattle.mr_log.specs.Private.Words.{IsClauseFrom, IsCites, or_dash, cite_words, clause_words, position_words, cites_words, step_words}
use Rattle.mr_log.proofs.Splitting.{AllLack, words_of-join, join-words_of, join-append, all_lack-append}
use Rattle.mr_log.proofs.Pairs.{pair_one, pair_lacks, no_pair, pair_texts-some, Least, vacant, valued, least}
use Rattle.mr_log.proofs.CiteLists.{AreCites, list_words, front, front_cites}

-- two groups of words with a space between them
join-two : (a b : List (List ℕ)) → 0 < length a → 0 < length b → join_with_byte 32 (a ++ b) ≡ join_with_byte 32 a ++ 32 ∷ join_with_byte 32 b
join-two [] b p q = absurd (omega arith)
join-two (x ∷ a) [] p q = absurd (omega arith)
join-two (x ∷ a) (y ∷ b) p q = join-append x a y b

-- the words of a cite are its text
cite_join : (c : Cite) → join_with_byte 32 (cite_words c) ≡ cite_text c
cite_join Nothing = refl
cite_join (Test []) = refl
cite_join (Test (e ∷ es)) = refl
cite_join (Slot s) = refl

-- and they are some
cite_some : (c : Cite) → 0 < length (cite_words c)
cite_some Nothing = omega arith
cite_some (Test []) = omega arith
cite_some (Test (e ∷ es)) = omega arith
cite_some (Slot s) = omega arith

-- so are those of several cites
cites_some : (c : Cite) (cs : List Cite) → 0 < length (list_words (c ∷ cs))
cites_some c cs = let some = cite_some c in let both = length-append (cite_words c) (list_words cs) in omega arith

-- the words of several cites are their text
cites_join : (c : Cite) (cs : List Cite) → join_with_byte 32 (list_words (c ∷ cs)) ≡ join_with_byte 32 (map cite_text (c ∷ cs))
cites_join c [] = ap (join_with_byte 32) (append-nil (cite_words c)) ∙ cite_join c
cites_join c (d ∷ cs) =
    join-two (cite_words c) (list_words (d ∷ cs)) (cite_some c) (cites_some d cs)
    ∙ ap (λ w. w ++ 32 ∷ join_with_byte 32 (list_words (d ∷ cs))) (cite_join c)
    ∙ ap (λ w. cite_text c ++ 32 ∷ w) (cites_join d cs)

-- the words of a clause are its text
clause_join : (ts : List (List ℕ)) → join_with_byte 32 (or_dash ts) ≡ words_text ts
clause_join [] = refl
clause_join (t ∷ ts) = refl

-- and they are some
clause_length : (ts : List (List ℕ)) → 0 < length (or_dash ts)
clause_length [] = omega arith
clause_length (t ∷ ts) = omega arith

-- the pieces of a step's text, grouped by words
step_pieces : (d clause cites : List ℕ) → (codes "at" ++ 32 ∷ (d ++ 32 ∷ codes "if")) ++ 32 ∷ ((clause ++ 32 ∷ codes "by") ++ 32 ∷ cites) ≡ codes "at " ++ d ++ codes " if " ++ clause ++ codes " by " ++ cites
step_pieces d clause cites = simp append_assoc

-- the words of a step with these cites in front are its text
joined : (at : ℕ) (ts : List (List ℕ)) (c : Cite) (cs : List Cite)
    → join_with_byte 32 (position_words at ++ ((or_dash ts ++ codes "by" ∷ []) ++ list_words (c ∷ cs))) ≡ codes "at " ++ decimal at ++ codes " if " ++ words_text ts ++ codes " by " ++ join_with_byte 32 (map cite_text (c ∷ cs))
joined at ts c cs =
    let some = clause_length ts in
    let more = length-append (or_dash ts) (codes "by" ∷ []) in
    let all = length-append (or_dash ts ++ codes "by" ∷ []) (list_words (c ∷ cs)) in
    join-two (position_words at) ((or_dash ts ++ codes "by" ∷ []) ++ list_words (c ∷ cs)) (omega arith) (omega arith)
    ∙ ap (λ w. join_with_byte 32 (position_words at) ++ 32 ∷ w) (
    join-two (or_dash ts ++ codes "by" ∷ []) (list_words (c ∷ cs)) (omega arith) (cites_some c cs)
    ∙ ap (λ w. w ++ 32 ∷ join_with_byte 32 (list_words (c ∷ cs))) (join-two (or_dash ts) (codes "by" ∷ []) some (omega arith) ∙ ap (λ w. w ++ 32 ∷ codes "by") (clause_join ts))
    ∙ ap (λ w. (words_text ts ++ 32 ∷ codes "by") ++ 32 ∷ w) (cites_join c cs))
    ∙ step_pieces (decimal at) (words_text ts) (join_with_byte 32 (map cite_text (c ∷ cs)))

-- the words of a step are its text
pub step_join : (q : ℕ) (row : Row) → 2 ≤ q → 0 < length row.cites → join_with_byte 32 (step_words q row) ≡ step_text q row
step_join q row low some = by_cites (front q row.cites) (cut (q - 1) row.cites (omega arith) some)
  where
    cut : (k : ℕ) (list : List Cite) → 0 < k → 0 < length list → 0 < length (take k list)
    cut zero list p t = absurd (omega arith)
    cut (suc k) [] p t = absurd (omega arith)
    cut (suc k) (c ∷ list) p t = omega arith

    by_cites : (list : List Cite) → 0 < length list → join_with_byte 32 (position_words row.at ++ (clause_words row.clause ++ list_words list)) ≡ codes "at " ++ decimal row.at ++ codes " if " ++ clause_text row.clause ++ codes " by " ++ join_with_byte 32 (map cite_text list)
    by_cites [] p = absurd (omega arith)
    by_cites (c ∷ cs) p = joined row.at (pair_texts 0 row.clause) c cs

-- the words of an end are its text
pub end_join : (c : Cite) → join_with_byte 32 (codes "end" ∷ cite_words c) ≡ codes "end " ++ cite_text c
end_join c = join-two (codes "end" ∷ []) (cite_words c) (omega arith) (cite_some c) ∙ ap (λ w. codes "end" ++ 32 ∷ w) (cite_join c)

-- a byte that no word of a log holds
pub record IsApart (c : ℕ) : Type 0 where
  pub low : c < 48
  pub at : Lacks c (codes "at")
  pub «if» : Lacks c (codes "if")
  pub by : Lacks c (codes "by")
  pub dash : Lacks c (codes "-")
  pub test : Lacks c (codes "t")
  pub slot : Lacks c (codes "s")
  pub end : Lacks c (codes "end")

-- a space is one
pub space_apart : IsApart 32
space_apart = record { low = omega arith; at = refl; «if» = refl; by = refl; dash = refl; test = refl; slot = refl; end = refl }

-- so is a newline
pub newline_apart : IsApart 10
newline_apart = record { low = omega arith; at = refl; «if» = refl; by = refl; dash = refl; test = refl; slot = refl; end = refl }

-- small numbers
numbers_lack : (c : ℕ) (x : List ℕ) → c < 48 → All (λ e. e < ELEMENTS) x → AllLack c (map decimal x)
numbers_lack c [] low small = tt
numbers_lack c (e ∷ es) low small =
    let h = all_head (λ k. k < ELEMENTS) e es small in
    (decimal_without c e low (omega arith), numbers_lack c es low (all_tail (λ k. k < ELEMENTS) e es small))

-- a cite
pub cite_lacks : (m : Presentation) (c : ℕ) (d : Cite) → IsApart c → m.elements ≤ ELEMENTS → IsLogCite m d → AllLack c (cite_words d)
cite_lacks m c Nothing apart limit is = absurd is
cite_lacks m c (Test []) apart limit is = (apart.test, (apart.dash, tt))
cite_lacks m c (Test (e ∷ es)) apart limit is = (apart.test, numbers_lack c (e ∷ es) apart.low (λ k d lt. let h = is.set.elements k d lt in omega arith))
cite_lacks m c (Slot s) apart limit is = (apart.slot, (decimal_without c s apart.low is, tt))

-- several cites
cites_lack : (m : Presentation) (c : ℕ) (list : List Cite) → IsApart c → m.elements ≤ ELEMENTS → AreCites m list → AllLack c (list_words list)
cites_lack m c [] apart limit are = tt
cites_lack m c (d ∷ list) apart limit are = all_lack-append c (cite_words d) (list_words list) (cite_lacks m c d apart limit are.0) (cites_lack m c list apart limit are.1)

-- pairs
pairs_lack : (c s : ℕ) (a : List ℕ) → c < 48 → s + length a ≤ POSITIONS → All (λ v. v < 9) a → AllLack c (pair_texts s a)
pairs_lack c s [] low fits small = tt
pairs_lack c s (zero ∷ a) low fits small = pairs_lack c (s + 1) a low (omega arith) (all_tail (λ v. v < 9) 0 a small)
pairs_lack c s (suc v ∷ a) low fits small =
    let h = all_head (λ w. w < 9) (suc v) a small in
    subst (AllLack c) (sym (pair_texts-some s (suc v) a (λ e. omega arith)))
    (pair_lacks c s (suc v) low (omega arith) (omega arith), pairs_lack c (s + 1) a low (omega arith) (all_tail (λ w. w < 9) (suc v) a small))

-- a clause
clause_lacks : (c : ℕ) (ts : List (List ℕ)) → IsApart c → AllLack c ts → AllLack c (or_dash ts)
clause_lacks c [] apart all = (apart.dash, tt)
clause_lacks c (t ∷ ts) apart all = all

-- the clause of a step
pub step_clause : (m : Presentation) (q number : ℕ) (row : Row) → IsLogStep m q number row → IsClauseFrom q 0 row.clause
step_clause m q number row is = record { assign = is.clause; values = is.values; none = λ p lt. absurd (omega arith) }

-- the cites of a step
pub step_cites : (m : Presentation) (q number : ℕ) (row : Row) → IsLogStep m q number row → IsCites m q row.cites
step_cites m q number row is = record { count = is.count; cites = is.cites; others = is.others }

-- small values
pub values_below : (q : ℕ) (a : List ℕ) → q ≤ 9 → All (λ v. v < q) a → All (λ v. v < 9) a
values_below q a nine small k d lt = let h = small k d lt in omega arith

-- the words of a step hold no such byte
pub step_lacks : (m : Presentation) (c q number : ℕ) (row : Row) → IsApart c → m.elements ≤ ELEMENTS → q ≤ 9 → IsLogStep m q number row → AllLack c (step_words q row)
step_lacks m c q number row apart limit nine is =
    let place = is.at in
    let size = is.clause.positions in (
      apart.at,
      (
        decimal_without c row.at apart.low (omega arith),
        (
          apart.«if»,
          all_lack-append c (clause_words row.clause) (cites_words q row.cites)
              (all_lack-append c (or_dash (pair_texts 0 row.clause)) (codes "by" ∷ [])
              (clause_lacks c (pair_texts 0 row.clause) apart (pairs_lack c 0 row.clause apart.low (omega arith) (values_below q row.clause nine is.values))) (apart.by, tt))
              (cites_lack m c (front q row.cites) apart limit (front_cites m q row.cites nine (step_cites m q number row is))),
        ),
      ),
    )

-- the words of a line are those of its step
pub row_words : (m : Presentation) (q number : ℕ) (line : List ℕ) (row : Row) → m.elements ≤ ELEMENTS → 2 ≤ q → q ≤ 9 → IsStepLine m q number line row → words_of line ≡ step_words q row
row_words m q number line row limit low nine is =
    let size = is.step.count in
    ap words_of (is.text ∙ sym (step_join q row low (omega arith)))
    ∙ words_of-join (codes "at") (decimal row.at ∷ codes "if" ∷ (clause_words row.clause ++ cites_words q row.cites)) (step_lacks m 32 q number row space_apart limit nine is.step)

-- a line with the words of a step is that step's
pub line_of_words : (m : Presentation) (q number : ℕ) (line : List ℕ) (row : Row) → 2 ≤ q → IsLogStep m q number row → words_of line ≡ step_words q row → IsStepLine m q number line row
line_of_words m q number line row low is words = record { step = is; text = sym (join-words_of line) ∙ ap (join_with_byte 32) words ∙ step_join q row low (let size = is.count in omega arith) }

-- words that begin with a position
pub position_one : (p k : ℕ) (r s : List (List ℕ)) → p < POSITIONS → k < POSITIONS → position_words p ++ r ≡ position_words k ++ s → (p ≡ k) × (r ≡ s)
position_one p k r s low high same = (decimal_one p k (omega arith) (omega arith) (let h : decimal p ≡ decimal k = ap (λ ws. get_or ws 1 []) same in h), let h : r ≡ s = ap third same in h)
  where
    third : List (List ℕ) → List (List ℕ)
    third (a ∷ b ∷ c ∷ ws) = ws
    third ws = ws

-- pairs from a later position on are no earlier pair
later : (s : ℕ) (a : List ℕ) (w : ℕ) (r t : List (List ℕ)) → s + 1 + length a ≤ POSITIONS → All (λ v. v < 9) a → w < 9 → (pair_texts (s + 1) a ++ codes "by" ∷ []) ++ r ≡ pair_text s w ∷ t → ⊥
later s a w r t fits small value same = by_least (least (s + 1) a)
  where
    by_least : Least (s + 1) a → ⊥
    by_least (vacant empty) =
        let e : codes "by" ∷ r ≡ pair_text s w ∷ t = ap (λ ts. (ts ++ codes "by" ∷ []) ++ r) (sym empty) ∙ same in
        no_pair (codes "by") s w refl (let h : codes "by" ≡ pair_text s w = ap (λ ws. get_or ws 0 []) e in h)
    by_least (valued k lt some before texts) =
        let e : pair_text (s + 1 + k) (get_or a k 0) ≡ pair_text s w = ap (λ ws. get_or ws 0 []) (ap (λ ts. (ts ++ codes "by" ∷ []) ++ r) (sym texts) ∙ same) in
        let h = small k 0 lt in
        let both = pair_one (s + 1 + k) (get_or a k 0) s w (omega arith) (omega arith) (omega arith) (omega arith) e in
        let no_more = both.0 in
        omega arith

-- words that begin with pairs
pub pairs_one : (s : ℕ) (a b : List ℕ) (r t : List (List ℕ)) → length a ≡ length b → s + length a ≤ POSITIONS → All (λ v. v < 9) a → All (λ v. v < 9) b → (pair_texts s a ++ codes "by" ∷ []) ++ r ≡ (pair_texts s b ++ codes "by" ∷ []) ++ t → (a ≡ b) × (r ≡ t)
pairs_one s [] [] r t size fits p q same = (refl, ap (λ ws. tail ws) same)
  where
    tail : List (List ℕ) → List (List ℕ)
    tail [] = []
    tail (w ∷ ws) = ws
pairs_one s [] (w ∷ b) r t size fits p q same = absurd (omega arith)
pairs_one s (v ∷ a) [] r t size fits p q same = absurd (omega arith)
pairs_one s (zero ∷ a) (zero ∷ b) r t size fits p q same =
    let rest = pairs_one (s + 1) a b r t (omega arith) (omega arith) (all_tail (λ v. v < 9) 0 a p) (all_tail (λ v. v < 9) 0 b q) same in
    (ap (λ z. 0 ∷ z) rest.0, rest.1)
pairs_one s (zero ∷ a) (suc w ∷ b) r t size fits p q same =
    let value = all_head (λ v. v < 9) (suc w) b q in
    absurd (later s a (suc w) r ((pair_texts (s + 1) b ++ codes "by" ∷ []) ++ t) (omega arith) (all_tail (λ v. v < 9) 0 a p) value
    (same ∙ ap (λ ts. (ts ++ codes "by" ∷ []) ++ t) (pair_texts-some s (suc w) b (λ e. omega arith))))
pairs_one s (suc v ∷ a) (zero ∷ b) r t size fits p q same =
    let value = all_head (λ w. w < 9) (suc v) a p in
    absurd (later s b (suc v) t ((pair_texts (s + 1) a ++ codes "by" ∷ []) ++ r) (omega arith) (all_tail (λ w. w < 9) 0 b q) value
    (sym same ∙ ap (λ ts. (ts ++ codes "by" ∷ []) ++ r) (pair_texts-some s (suc v) a (λ e. omega arith))))
pairs_one s (suc v ∷ a) (suc w ∷ b) r t size fits p q same =
    let left = all_head (λ k. k < 9) (suc v) a p in
    let right = all_head (λ k. k < 9) (suc w) b q in
    let both : pair_text s (suc v) ∷ ((pair_texts (s + 1) a ++ codes "by" ∷ []) ++ r) ≡ pair_text s (suc w) ∷ ((pair_texts (s + 1) b ++ codes "by" ∷ []) ++ t) =
    ap (λ ts. (ts ++ codes "by" ∷ []) ++ r) (sym (pair_texts-some s (suc v) a (λ e. omega arith))) ∙ same ∙ ap (λ ts. (ts ++ codes "by" ∷ []) ++ t) (pair_texts-some s (suc w) b (λ e. omega arith)) in
    let heads : pair_text s (suc v) ≡ pair_text s (suc w) = ap (λ ws. get_or ws 0 []) both in
    let value = pair_one s (suc v) s (suc w) (omega arith) (omega arith) (omega arith) (omega arith) heads in
    let rest = pairs_one (s + 1) a b r t (omega arith) (omega arith) (all_tail (λ k. k < 9) (suc v) a p) (all_tail (λ k. k < 9) (suc w) b q) (ap (λ ws. tail ws) both) in
    (ap (λ k. k ∷ a) value.1 ∙ ap (λ z. suc w ∷ z) rest.0, rest.1)
  where
    tail : List (List ℕ) → List (List ℕ)
    tail [] = []
    tail (x ∷ ws) = ws
