-- The text of a log, piece by piece.
use Rattle.std.proofs.Common.{◌≡◌, ◌≢◌, ℕ, zero, suc, ◌+◌, ◌*◌, ◌<◌, ◌≤◌, List, [], ◌∷◌, ◌++◌, length, take, get_or, map, refl, sym, ap, ◌∙◌, Bool, true, false, arith, append_assoc, append-nil, codes, Result, Ok, Err}
use Rattle.std.specs.Prelude.{◌/◌, ◌%◌, decimal, OnOk}
use Rattle.std.specs.List.{join_with_byte}
use Rattle.std.proofs.lemmas.List.{take_more, map-append, length-take-le}
use Rattle.mr_assign.specs.declared.TheConstants.{POSITIONS}
use Rattle.mr_assign.specs.Assign.{IsAssign}
use Rattle.mr_assign.specs.Packing.{map_words}
use Rattle.mr_assign.proofs.Maps.{value-view, no_nibble}
use Rattle.mr_assign.proofs.Masks.{nibbles-map_words}
use Rattle.mr_text.specs.Text.{text_of_lines}
use Rattle.mr_text.proofs.Listings.{lines-append}
use Rattle.mr_file.specs.File.{file_lines, file_text}
use Rattle.mr_nogood.specs.declared.row.Cite.{Cite}
use Rattle.mr_nogood.specs.declared.row.Row.{Row}
use Rattle.mr_log.specs.Lines.{pair_text, pair_texts, cite_text, step_text}
use Rattle.mr_log.specs.Log.{log_lines, log_text}
use Rattle.mr_log.specs.Private.Written.{gap, steps_text, log_head}
use Rattle.mr_log.specs.declared.log.Log.{Log}
use Rattle.mr_log.proofs.Splitting.{join-append}
use Rattle.mr_log.proofs.Pairs.{pair_texts-some}

-- nothing is written yet, or these words with spaces between them
abbrev pub Joined : Bool → List (List ℕ) → List ℕ → List ℕ → Type 0
Joined true ws old new = (ws ≡ []) × (new ≡ old)
Joined false ws old new = (ws ≢ []) × (new ≡ old ++ join_with_byte 32 ws)

-- one word more was written
pub push : (first : Bool) (ws : List (List ℕ)) (old new after w : List ℕ) → Joined first ws old new → after ≡ new ++ (gap first ++ w) → Joined false (ws ++ w ∷ []) old after
push true [] old new after w h is = (λ e. cc, is ∙ ap (λ z. z ++ w) h.1)
push true (x ∷ ws) old new after w h is = absurd (let e = h.0 in cc)
push false [] old new after w h is = absurd (h.0 refl)
push false (x ∷ ws) old new after w h is = (
  λ e. cc,
  is ∙ ap (λ z. z ++ 32 ∷ w) h.1 ∙ append_assoc old (join_with_byte 32 (x ∷ ws)) (32 ∷ w) ∙ ap (λ z. old ++ z) (sym (join-append x ws w [])),
)

-- the pairs of a list are those of its parts
pair_texts-append : (s : ℕ) (a b : List ℕ) → pair_texts s (a ++ b) ≡ pair_texts s a ++ pair_texts (s + length a) b
pair_texts-append s [] b = let e : s ≡ s + 0 = omega arith in ap (λ k. pair_texts k b) e
pair_texts-append s (zero ∷ a) b = let e : s + 1 + length a ≡ s + suc (length a) = omega arith in pair_texts-append (s + 1) a b ∙ ap (λ k. pair_texts (s + 1) a ++ pair_texts k b) e
pair_texts-append s (suc v ∷ a) b =
    let e : s + 1 + length a ≡ s + suc (length a) = omega arith in
    pair_texts-some s (suc v) (a ++ b) (λ z. omega arith)
    ∙ ap (λ ts. pair_text s (suc v) ∷ ts) (pair_texts-append (s + 1) a b ∙ ap (λ k. pair_texts (s + 1) a ++ pair_texts k b) e)
    ∙ ap (λ ts. ts ++ pair_texts (s + suc (length a)) b) (sym (pair_texts-some s (suc v) a (λ z. omega arith)))

-- one value more
pair_texts-take : (a : List ℕ) (p : ℕ) → p < length a → pair_texts 0 (take (p + 1) a) ≡ pair_texts 0 (take p a) ++ pair_texts p (get_or a p 0 ∷ [])
pair_texts-take a p lt =
    ap (pair_texts 0) (take_more a p 0 lt) ∙ pair_texts-append 0 (take p a) (get_or a p 0 ∷ [])
    ∙ ap (λ k. pair_texts 0 (take p a) ++ pair_texts k (get_or a p 0 ∷ [])) (let n = length-take-le p a (omega arith) in let e : 0 + length (take p a) ≡ p = omega arith in e)

-- a value that is none
pub pairs_same : (a : List ℕ) (p v : ℕ) → p < length a → v ≡ get_or a p 0 → v ≡ 0 → pair_texts 0 (take (p + 1) a) ≡ pair_texts 0 (take p a)
pairs_same a p v lt is none = pair_texts-take a p lt ∙ ap (λ x. pair_texts 0 (take p a) ++ pair_texts p (x ∷ [])) (sym is ∙ none) ∙ append-nil (pair_texts 0 (take p a))

-- values that are none
pub pairs_none : (a : List ℕ) (p n : ℕ) → p + n ≤ length a → ((k : ℕ) → k < n → get_or a (p + k) 0 ≡ 0) → pair_texts 0 (take (p + n) a) ≡ pair_texts 0 (take p a)
pairs_none a p zero le none = ap (λ k. pair_texts 0 (take k a)) (let e : p + 0 ≡ p = omega arith in e)
pairs_none a p (suc n) le none =
    ap (λ k. pair_texts 0 (take k a)) (let e : p + suc n ≡ (p + n) + 1 = omega arith in e)
    ∙ pairs_same a (p + n) (get_or a (p + n) 0) (omega arith) refl (none n (omega arith))
    ∙ pairs_none a p n (omega arith) (λ k lt. none k (omega arith))

-- a word of zeros gives no value
pub zero_word : (a : List ℕ) → IsAssign a → (p : ℕ) → p % 16 ≡ 0 → p + 16 ≤ POSITIONS → get_or (map_words a) (p / 16) 0 ≡ 0 → (k : ℕ) → k < 16 → get_or a (p + k) 0 ≡ 0
zero_word a h p start small none k low =
    let word : (p + k) / 16 ≡ p / 16 = omega arith in
    sym (value-view (map_words a) a (p + k) (nibbles-map_words a h) (omega arith))
    ∙ no_nibble (map_words a) (p + k) (ap (λ (i : ℕ). get_or (map_words a) i 0) word ∙ none)

-- so it has no pairs
pub pairs_of_zeros : (a : List ℕ) → IsAssign a → (p : ℕ) → p % 16 ≡ 0 → p + 16 ≤ POSITIONS → get_or (map_words a) (p / 16) 0 ≡ 0 → pair_texts 0 (take (p + 16) a) ≡ pair_texts 0 (take p a)
pairs_of_zeros a h p start small none = pairs_none a p 16 (let n = h.positions in omega arith) (zero_word a h p start small none)

-- a value that is one
pub pairs_more : (a : List ℕ) (p v : ℕ) → p < length a → v ≡ get_or a p 0 → v ≢ 0 → pair_texts 0 (take (p + 1) a) ≡ pair_texts 0 (take p a) ++ pair_text p v ∷ []
pairs_more a p v lt is some = pair_texts-take a p lt ∙ ap (λ x. pair_texts 0 (take p a) ++ pair_texts p (x ∷ [])) (sym is) ∙ ap (λ ts. pair_texts 0 (take p a) ++ ts) (pair_texts-some p v [] some)

-- one cite more
pub cites_more : (cites : List Cite) (k : ℕ) (c : Cite) → k < length cites → c ≡ get_or cites k c → map cite_text (take (k + 1) cites) ≡ map cite_text (take k cites) ++ cite_text c ∷ []
cites_more cites k c lt is =
    ap (map cite_text) (take_more cites k c lt) ∙ map-append cite_text (take k cites) (get_or cites k c ∷ []) ∙ ap (λ (d : Cite). map cite_text (take k cites) ++ cite_text d ∷ []) (sym is)

-- the text before the steps, by its pieces
log_head-parts : (l : Log) → log_head l ≡ codes "refutation 1" ++ 10 ∷ (((codes "field " ++ decimal l.q) ++ 10 ∷ []) ++ (file_text l.matroid ++ (((codes "steps " ++ decimal (length l.steps)) ++ 10 ∷ []) ++ [])))
log_head-parts l =
    ap (λ w. codes "refutation 1" ++ 10 ∷ (((codes "field " ++ decimal l.q) ++ 10 ∷ []) ++ w)) (lines-append (file_lines l.matroid) ((codes "steps " ++ decimal (length l.steps)) ∷ []))

-- the pieces as they are written
head_pieces : (old d f n : List ℕ)
    → ((((((old ++ (codes "refutation 1" ++ 10 ∷ codes "field ")) ++ d) ++ 10 ∷ []) ++ f) ++ codes "steps ") ++ n) ++ 10 ∷ [] ≡ old ++ (codes "refutation 1" ++ 10 ∷ (((codes "field " ++ d) ++ 10 ∷ []) ++ (f ++ (((codes "steps " ++ n) ++ 10 ∷ []) ++ []))))
head_pieces old d f n =
    simp (append_assoc, append-nil) (ap (λ w. old ++ (codes "refutation 1" ++ 10 ∷ (codes "field " ++ w))) (sym (append_assoc d (10 ∷ []) (f ++ (codes "steps " ++ (n ++ 10 ∷ []))))))

-- the text before the steps was appended
pub head_written : {A E : Type 0} (r : Result A E) (l : Log) (old o1 o2 o3 o4 o5 o6 o7 : List ℕ) (q c : ℕ) → q ≡ l.q → c ≡ length l.steps → o1 ≡ old ++ (codes "refutation 1" ++ 10 ∷ codes "field ") → o2 ≡ o1 ++ decimal q → o3 ≡ o2 ++ 10 ∷ [] → o4 ≡ o3 ++ file_text l.matroid → o5 ≡ o4 ++ codes "steps " → o6 ≡ o5 ++ decimal c
    → OnOk r (o7 ≡ o6 ++ 10 ∷ []) → OnOk r (o7 ≡ old ++ log_head l)
head_written (Err e) l old o1 o2 o3 o4 o5 o6 o7 q c same long p1 p2 p3 p4 p5 p6 p7 = tt
head_written (Ok x) l old o1 o2 o3 o4 o5 o6 o7 q c same long p1 p2 p3 p4 p5 p6 p7 =
    p7 ∙ ap (λ w. w ++ 10 ∷ []) (p6 ∙ ap (λ k. o5 ++ decimal k) long ∙ ap (λ w. w ++ decimal (length l.steps)) (p5 ∙ ap (λ w. w ++ codes "steps ") (p4 ∙ ap (λ w. w ++ file_text l.matroid) (p3 ∙ ap (λ w. w ++ 10 ∷ []) (p2 ∙ ap (λ k. o1 ++ decimal k) same ∙ ap (λ w. w ++ decimal l.q) p1)))))
    ∙ head_pieces old (decimal l.q) (file_text l.matroid) (decimal (length l.steps))
    ∙ ap (λ w. old ++ w) (sym (log_head-parts l))

-- the pieces of a step as they are written
step_pieces : (old d c s : List ℕ)
    → ((((((old ++ codes "at ") ++ d) ++ codes " if ") ++ c) ++ codes " by ") ++ s) ++ 10 ∷ [] ≡ old ++ ((codes "at " ++ d ++ codes " if " ++ c ++ codes " by " ++ s) ++ 10 ∷ [])
step_pieces old d c s = simp append_assoc

-- a log is what stands before the steps, the steps and the end
log_text-written : (l : Log) → log_text l ≡ log_head l ++ (steps_text l.q l.steps ++ ((codes "end " ++ cite_text l.last) ++ 10 ∷ []))
log_text-written l =
    ap text_of_lines (lines l)
    ∙ lines-append (head_lines l) (map (step_text l.q) l.steps ++ (codes "end " ++ cite_text l.last) ∷ [])
    ∙ ap (λ w. log_head l ++ w) (lines-append (map (step_text l.q) l.steps) ((codes "end " ++ cite_text l.last) ∷ []) ∙ ap (λ w. steps_text l.q l.steps ++ w) (append-nil ((codes "end " ++ cite_text l.last) ++ 10 ∷ [])))
  where
    head_lines : Log → List (List ℕ)
    head_lines k = codes "refutation 1" ∷ (codes "field " ++ decimal k.q) ∷ (file_lines k.matroid ++ (codes "steps " ++ decimal (length k.steps)) ∷ [])

    lines : (k : Log) → log_lines k ≡ head_lines k ++ (map (step_text k.q) k.steps ++ (codes "end " ++ cite_text k.last) ∷ [])
    lines k = ap (λ z. codes "refutation 1" ∷ (codes "field " ++ decimal k.q) ∷ z) (sym (append_assoc (file_lines k.matroid) ((codes "steps " ++ decimal (length k.steps)) ∷ []) (map (step_text k.q) k.steps ++ (codes "end " ++ cite_text k.last) ∷ [])))

-- the log was written
pub log_written : (l : Log) (o0 o1 o2 o3 : List ℕ) (rows : List Row) → o0 ≡ [] → rows ≡ l.steps → o1 ≡ o0 ++ log_head l → o2 ≡ o1 ++ steps_text l.q rows → o3 ≡ o2 ++ ((codes "end " ++ cite_text l.last) ++ 10 ∷ []) → o3 ≡ log_text l
log_written l o0 o1 o2 o3 rows nothing same p q r =
    let e = codes "end " ++ cite_text l.last in
    r ∙ ap (λ w. w ++ (e ++ 10 ∷ [])) (q ∙ ap (λ (s : List Row). o1 ++ steps_text l.q s) same ∙ ap (λ w. w ++ steps_text l.q l.steps) (p ∙ ap (λ w. w ++ log_head l) nothing))
    ∙ append_assoc (log_head l) (steps_text l.q l.steps) (e ++ 10 ∷ []) ∙ sym (log_text-written l)
