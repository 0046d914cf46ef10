-- How long the file of a matroid may be.
use Rattle.std.proofs.Common.{◌≡◌, ℕ, suc, ◌+◌, ◌*◌, ◌<◌, ◌≤◌, List, [], ◌∷◌, ◌++◌, length, map, ap, arith, codes}
use Rattle.std.specs.Prelude.{All, decimal}
use Rattle.std.proofs.lemmas.Fmt.{length-decimal-le}
use Rattle.std.proofs.lemmas.List.{length-append}
use Rattle.std.proofs.lemmas.List.Concat.{flat_map-cons}
use Rattle.mr_set.specs.declared.TheConstants.{ELEMENTS, SETS}
use Rattle.mr_set.specs.Subsets.{IsSetOf, choose}
use Rattle.mr_set.proofs.Counting.{no_more_sets}
use Rattle.mr_text.specs.declared.TheConstants.{NUMBERS}
use Rattle.mr_text.specs.Text.{numbers_text, set_text, text_of_lines}
use Rattle.mr_file.specs.Laws.{FileLength}

-- a line and its newline
pub line_length : (l : List ℕ) (ls : List (List ℕ)) → length (text_of_lines (l ∷ ls)) ≡ length l + 1 + length (text_of_lines ls)
line_length l ls =
    let parts = ap length (flat_map-cons (λ (w : List ℕ). w ++ 10 ∷ []) l ls) in
    let whole = length-append (l ++ 10 ∷ []) (text_of_lines ls) in
    let here = length-append l (10 ∷ []) in
    omega arith

-- a key and a number
pub keyed_length : (key : List ℕ) (v : ℕ) → v < NUMBERS → length (key ++ decimal v) ≤ length key + 9
keyed_length key v small =
    let short = length-decimal-le 9 v (omega arith) small (omega arith) in
    let both = length-append key (decimal v) in
    omega arith

-- numbers of elements
pub numbers_length : (x : List ℕ) → All (λ e. e < ELEMENTS) x → length (numbers_text x) ≤ 3 * length x
numbers_length [] all = omega arith
numbers_length (e ∷ []) all =
    let low : e < ELEMENTS = all 0 e (omega arith) in
    let short = length-decimal-le 2 e (omega arith) (omega arith) (omega arith) in
    omega arith
numbers_length (e ∷ d ∷ es) all =
    let low : e < ELEMENTS = all 0 e (omega arith) in
    let short = length-decimal-le 2 e (omega arith) (omega arith) (omega arith) in
    let others = numbers_length (d ∷ es) (λ k c lt. all (suc k) c (omega arith)) in
    let both = length-append (decimal e) (32 ∷ numbers_text (d ∷ es)) in
    omega arith

-- a set
pub set_length : (n r : ℕ) (x : List ℕ) → n ≤ ELEMENTS → r ≤ ELEMENTS → IsSetOf n r x → length (set_text x) ≤ 96
set_length n r [] limit most is = omega arith
set_length n r (e ∷ es) limit most is =
    let size = is.size in
    let numbers = numbers_length (e ∷ es) (λ k d lt. let low = is.set.elements k d lt in omega arith) in
    omega arith

-- sets and the last line
sets_length : (n r : ℕ) (sets : List (List ℕ)) → n ≤ ELEMENTS → r ≤ ELEMENTS → All (IsSetOf n r) sets → length (text_of_lines (map set_text sets ++ codes "end" ∷ [])) ≤ 97 * length sets + 4
sets_length n r [] limit most all = let line = line_length (codes "end") [] in omega arith
sets_length n r (x ∷ sets) limit most all =
    let here = set_length n r x limit most (all 0 x (omega arith)) in
    let line = line_length (set_text x) (map set_text sets ++ codes "end" ∷ []) in
    let others = sets_length n r sets limit most (λ k d lt. all (suc k) d (omega arith)) in
    omega arith

-- numbers and sets within the limits have a short file
pub file_length : FileLength
file_length m is limits =
    let elements : m.elements ≤ ELEMENTS = limits.elements in
    let sets : choose m.elements m.rank ≤ SETS = limits.sets in
    let rank = is.rank in
    let count = no_more_sets m.elements m.rank m.nonbases is.sets is.increasing in
    let last = map set_text m.nonbases ++ codes "end" ∷ [] in
    let l2 = codes "elements " ++ decimal m.elements in
    let l3 = codes "rank " ++ decimal m.rank in
    let l4 = codes "nonbases " ++ decimal (length m.nonbases) in
    let one = line_length (codes "matroid 1") (l2 ∷ l3 ∷ l4 ∷ last) in
    let two = line_length l2 (l3 ∷ l4 ∷ last) in
    let three = line_length l3 (l4 ∷ last) in
    let four = line_length l4 last in
    let k2 = keyed_length (codes "elements ") m.elements (omega arith) in
    let k3 = keyed_length (codes "rank ") m.rank (omega arith) in
    let k4 = keyed_length (codes "nonbases ") (length m.nonbases) (omega arith) in
    let tail = sets_length m.elements m.rank m.nonbases elements (omega arith) is.sets in
    omega arith
