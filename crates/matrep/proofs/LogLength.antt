-- How long the log of a refutation may be.
use Rattle.std.proofs.Common.{◌≡◌, ℕ, zero, suc, ◌+◌, ◌-◌, ◌*◌, ◌^◌, ◌<◌, ◌≤◌, Bool, true, false, cond, eqb, List, [], ◌∷◌, ◌++◌, length, take, map, get_or, min, refl, sym, ap, subst, ◌∙◌, arith, codes}
use Rattle.std.specs.Prelude.{All, decimal, slice_get, Some}
use Rattle.std.specs.List.{join_with_byte}
use Rattle.std.proofs.Math.Nat.{mul-suc}
use Rattle.std.proofs.lemmas.Fmt.{length-decimal-le}
use Rattle.std.proofs.lemmas.List.{length-append, length-map, length-take, nil_from_length}
use Rattle.std.proofs.lemmas.List.Concat.{flat_map-append}
use Rattle.std.proofs.lemmas.List.Elements.{All-nil, All-cons, All-head, All-tail}
use Rattle.mr_set.specs.Subsets.{IsSetOf}
use Rattle.mr_set.specs.Matroid.{Presentation}
use Rattle.mr_field.specs.Gf.{Gf, order}
use Rattle.mr_field.proofs.Lookups.{order-le}
use Rattle.mr_text.specs.Text.{set_text, text_of_lines}
use Rattle.mr_file.specs.File.{file_lines, file_text}
use Rattle.mr_file.proofs.Lengths.{line_length, keyed_length, set_length, file_length}
use Rattle.mr_nogood.specs.Row.{cite_for}
use Rattle.mr_nogood.specs.declared.row.Cite.{Cite}
use Rattle.mr_nogood.specs.declared.row.Cite.TheVariants.{Nothing, Test, Slot}
use Rattle.mr_nogood.specs.declared.row.Row.{Row}
use Rattle.mr_log.specs.Lines.{pair_text, pair_texts, words_text, clause_text, cite_text, step_text, IsLogCite, IsLogStep}
use Rattle.mr_log.specs.Log.{IsLog, log_lines, log_text}
use Rattle.mr_log.specs.declared.log.Log.{Log}

-- words that are each shorter than c, with single spaces between them
join_length : (c : ℕ) (ws : List (List ℕ)) → All (λ w. length w < c) ws → length (join_with_byte 32 ws) ≤ c * length ws
join_length c [] all = omega arith
join_length c (w ∷ []) all =
    let first : length w < c = all 0 w (omega arith) in
    let one : c * suc 0 ≡ c * 0 + c = mul-suc c 0 in
    omega arith
join_length c (w ∷ v ∷ ws) all =
    let first : length w < c = all 0 w (omega arith) in
    let rest : length (join_with_byte 32 (v ∷ ws)) ≤ c * length (v ∷ ws) = join_length c (v ∷ ws) (All-tail (λ (x : List ℕ). length x < c) w (v ∷ ws) all) in
    let whole : length (w ++ (32 ∷ join_with_byte 32 (v ∷ ws))) ≡ length w + length (32 ∷ join_with_byte 32 (v ∷ ws)) = length-append w (32 ∷ join_with_byte 32 (v ∷ ws)) in
    let more : c * suc (length (v ∷ ws)) ≡ c * length (v ∷ ws) + c = mul-suc c (length (v ∷ ws)) in
    omega arith

-- a pair
pair_length : (p v : ℕ) → p < 100 → v < 10 → length (pair_text p v) < 5
pair_length p v low small =
    let first = length-decimal-le 2 p (omega arith) (omega arith) (omega arith) in
    let second = length-decimal-le 1 v (omega arith) (omega arith) (omega arith) in
    let front = length-append (decimal p) (codes ":") in
    let whole = length-append (decimal p ++ codes ":") (decimal v) in
    omega arith

-- there are at most so many words, and each is shorter than 5
pub record AreShort (most : ℕ) (ws : List (List ℕ)) : Type 0 where
  pub count : length ws ≤ most
  pub each : All (λ w. length w < 5) ws

-- a word or none before short ones
short_more : (b : Bool) (w : List ℕ) (ws : List (List ℕ)) (most : ℕ) → length w < 5 → AreShort most ws → AreShort (suc most) (cond b ws (w ∷ ws))
short_more true w ws most first rest = let count = rest.count in record { count = omega arith; each = rest.each }
short_more false w ws most first rest = let count = rest.count in record { count = omega arith; each = All-cons (λ (x : List ℕ). length x < 5) w ws first rest.each }

-- the pairs of a clause
pairs_short : (p : ℕ) (vs : List ℕ) → p + length vs ≤ 100 → All (λ v. v < 10) vs → AreShort (length vs) (pair_texts p vs)
pairs_short p [] low all = record { count = omega arith; each = All-nil (λ (x : List ℕ). length x < 5) }
pairs_short p (v ∷ vs) low all =
    let small : v < 10 = all 0 v (omega arith) in
    short_more (eqb v 0) (pair_text p v) (pair_texts (p + 1) vs) (length vs) (pair_length p v (omega arith) small) (pairs_short (p + 1) vs (omega arith) (All-tail (λ (x : ℕ). x < 10) v vs all))

-- at most 96 short words
words_length : (ws : List (List ℕ)) → AreShort 96 ws → length (words_text ws) ≤ 480
words_length [] short = omega arith
words_length (w ∷ ws) short =
    let count = short.count in
    let joined : length (join_with_byte 32 (w ∷ ws)) ≤ 5 * length (w ∷ ws) = join_length 5 (w ∷ ws) short.each in
    omega arith

-- a cite of a log
cite_length : (m : Presentation) (cite : Cite) → m.elements ≤ 32 → m.rank ≤ 32 → IsLogCite m cite → length (cite_text cite) < 99
cite_length m Nothing wide high is = absurd is
cite_length m (Test x) wide high is =
    let set = set_length m.elements m.rank x wide high is in
    let whole = length-append (codes "t ") (set_text x) in
    omega arith
cite_length m (Slot s) wide high is =
    let whole = keyed_length (codes "s ") s is in
    omega arith

-- the cites that are taken
cites_short : (m : Presentation) (n : ℕ) (cites : List Cite) → m.elements ≤ 32 → m.rank ≤ 32 → ((k : ℕ) → k < n → IsLogCite m (get_or cites k Nothing)) → All (λ w. length w < 99) (map cite_text (take n cites))
cites_short m zero cites wide high each = All-nil (λ (x : List ℕ). length x < 99)
cites_short m (suc n) [] wide high each = All-nil (λ (x : List ℕ). length x < 99)
cites_short m (suc n) (c ∷ cites) wide high each =
    All-cons (λ (x : List ℕ). length x < 99) (cite_text c) (map cite_text (take n cites)) (cite_length m c wide high (each 0 (omega arith)))
    (cites_short m n cites wide high (λ k lt. each (suc k) (omega arith)))

-- the parts of a step's line
step_sum : (n a at b clause c cites : ℕ) → n ≡ a + at + b + clause + c + cites → a ≤ 3 → at ≤ 2 → b ≤ 4 → clause ≤ 480 → c ≤ 4 → cites ≤ 792 → n ≤ 1300
step_sum n a at b clause c cites is p q r s t u = omega arith

-- six parts, one after another
six_parts : (a b c d e f : List ℕ) → length (a ++ b ++ c ++ d ++ e ++ f) ≡ length a + length b + length c + length d + length e + length f
six_parts a b c d e f =
    length-append (a ++ b ++ c ++ d ++ e) f
    ∙ ap (λ n. n + length f) (length-append (a ++ b ++ c ++ d) e
    ∙ ap (λ n. n + length e) (length-append (a ++ b ++ c) d
    ∙ ap (λ n. n + length d) (length-append (a ++ b) c
    ∙ ap (λ n. n + length c) (length-append a b))))

-- the line of a step
step_length : (m : Presentation) (q number : ℕ) (row : Row) → m.elements ≤ 32 → m.rank ≤ 32 → q ≤ 9 → IsLogStep m q number row → length (step_text q row) ≤ 1300
step_length m q number row wide high order is =
    let at = is.at in
    let position = length-decimal-le 2 row.at (omega arith) (omega arith) (omega arith) in
    let size = is.clause.positions in
    let short : AreShort (length row.clause) (pair_texts 0 row.clause) = pairs_short 0 row.clause (omega arith) (λ k d lt. (let small = is.clause.values k d lt in omega arith)) in
    let count = short.count in
    let clause : length (clause_text row.clause) ≤ 480 = words_length (pair_texts 0 row.clause) (record { count = omega arith; each = short.each }) in
    let each = cites_short m (q - 1) row.cites wide high (λ k lt. is.cites k (omega arith)) in
    let joined : length (join_with_byte 32 (map cite_text (take (q - 1) row.cites))) ≤ 99 * length (map cite_text (take (q - 1) row.cites)) = join_length 99 (map cite_text (take (q - 1) row.cites)) each in
    let mapped = length-map (take (q - 1) row.cites) cite_text in
    let taken = length-take (q - 1) row.cites in
    step_sum (length (step_text q row)) (length (codes "at ")) (length (decimal row.at)) (length (codes " if ")) (length (clause_text row.clause)) (length (codes " by ")) (length (join_with_byte 32 (map cite_text (take (q - 1) row.cites))))
    (six_parts (codes "at ") (decimal row.at) (codes " if ") (clause_text row.clause) (codes " by ") (join_with_byte 32 (map cite_text (take (q - 1) row.cites))))
    (omega arith) position (omega arith) clause (omega arith) (omega arith)

-- lines of at most 1300 bytes
steps_length : (q : ℕ) (rows : List Row) → ((j : ℕ) (row : Row) → slice_get rows j ≡ Some row → length (step_text q row) ≤ 1300) → length (text_of_lines (map (step_text q) rows)) ≤ 1301 * length rows
steps_length q [] each = omega arith
steps_length q (row ∷ rows) each =
    let first : length (step_text q row) ≤ 1300 = each 0 row refl in
    let rest = steps_length q rows (λ j r is. each (suc j) r is) in
    let line = line_length (step_text q row) (map (step_text q) rows) in
    omega arith

-- two lines, the file, a line, the steps, and the last line
parts_length : (a b c d : List ℕ) (file steps : List (List ℕ)) → length (text_of_lines (a ∷ b ∷ (file ++ c ∷ (steps ++ d ∷ [])))) ≡ length a + 1 + (length b + 1 + (length (text_of_lines file) + (length c + 1 + (length (text_of_lines steps) + (length d + 1)))))
parts_length a b c d file steps =
    let tail : List (List ℕ) = c ∷ (steps ++ d ∷ []) in
    let split : (xs ys : List (List ℕ)) → length (text_of_lines (xs ++ ys)) ≡ length (text_of_lines xs) + length (text_of_lines ys) =
    λ xs ys. ap length (flat_map-append (λ (w : List ℕ). w ++ 10 ∷ []) xs ys) ∙ length-append (text_of_lines xs) (text_of_lines ys) in
    let l1 = line_length a (b ∷ (file ++ tail)) in
    let l2 = line_length b (file ++ tail) in
    let l3 = split file tail in
    let l4 = line_length c (steps ++ d ∷ []) in
    let l5 = split steps (d ∷ []) in
    let l6 = line_length d [] in
    omega arith

-- the parts of a log
log_sum : (n a b f c s d steps : ℕ) → n ≡ a + 1 + (b + 1 + (f + (c + 1 + (s + (d + 1))))) → a ≤ 12 → b ≤ 15 → f ≤ 1048576 → c ≤ 15 → s ≤ 1301 * steps → d ≤ 102 → steps ≤ 200585 → n ≤ 268435456
log_sum n a b f c s d steps is p q r t u v w = omega arith

-- a log with no more steps than there are nodes and proper prefixes is within the checker's limit
pub log_length : (f : Gf) (l : Log) → IsLog l → l.q ≡ order f → length l.steps ≤ 200585 → length (log_text l) ≤ 268435456
log_length f l log field few =
    let wide = log.limits.elements in
    let rank = log.matroid.presentation.rank in
    let order = order-le f in
    let file = file_length l.matroid log.matroid.presentation log.limits in
    let second : length (codes "field " ++ decimal l.q) ≤ 15 = (let h = keyed_length (codes "field ") l.q (omega arith) in omega (arith, h)) in
    let third : length (codes "steps " ++ decimal (length l.steps)) ≤ 15 = (let h = keyed_length (codes "steps ") (length l.steps) (omega arith) in omega (arith, h)) in
    let last = cite_length l.matroid l.last wide (omega arith) log.last in
    let end = length-append (codes "end ") (cite_text l.last) in
    log_sum (length (log_text l)) (length (codes "refutation 1")) (length (codes "field " ++ decimal l.q)) (length (file_text l.matroid)) (length (codes "steps " ++ decimal (length l.steps)))
    (length (text_of_lines (map (step_text l.q) l.steps))) (length (codes "end " ++ cite_text l.last)) (length l.steps)
    (parts_length (codes "refutation 1") (codes "field " ++ decimal l.q) (codes "steps " ++ decimal (length l.steps)) (codes "end " ++ cite_text l.last) (file_lines l.matroid) (map (step_text l.q) l.steps))
    (omega arith) second file third
    (steps_length l.q l.steps (λ j row is. step_length l.matroid l.q j row wide (omega arith) (omega arith) (log.steps j row is)))
    (omega arith) few
