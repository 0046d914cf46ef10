-- Matroid files, line by line, and whole.
use Rattle.std.specs.Prelude.{◌≡◌, ℕ, zero, suc, ◌<◌, ◌≤◌, List, [], ◌∷◌, ◌++◌, length, map, codes, decimal, Option, Some, None, IfSome}
use Rattle.mr_set.specs.Matroid.{Presentation, IsMatroid}
use Rattle.mr_set.specs.Subsets.{IsSetOf, IsBefore, choose}
use Rattle.mr_set.specs.declared.TheConstants.{ELEMENTS, SETS}
use Rattle.mr_matroid.specs.Exchange.{IsWithinLimits}
use Rattle.mr_text.specs.Text.{set_text, text_of_lines}
use Rattle.mr_text.specs.Format.{Table, Format, line_of}
use Rattle.mr_text.specs.Tables.{never, fixed, keyed}
use Rattle.mr_file.specs.declared.fault.Measure.{Measure}
use Rattle.mr_file.specs.declared.fault.Measure.TheVariants.{Elements, Rank, Sets, Nonbases}

-- by which measure a number of elements is too large
abbrev pub ElementsExceed : ℕ → Measure → Type 0
ElementsExceed n Elements = ELEMENTS < n
ElementsExceed n Rank = ⊥
ElementsExceed n Sets = ⊥
ElementsExceed n Nonbases = ⊥

-- by which measure a rank of n elements is too large
abbrev pub RankExceeds : ℕ → ℕ → Measure → Type 0
RankExceeds n r Elements = ⊥
RankExceeds n r Rank = n < r
RankExceeds n r Sets = (r ≤ n) × (SETS < choose n r)
RankExceeds n r Nonbases = ⊥

-- by which measure a number of nonbases of rank r on n elements is too large
abbrev pub CountExceeds : ℕ → ℕ → ℕ → Measure → Type 0
CountExceeds n r k Elements = ⊥
CountExceeds n r k Rank = ⊥
CountExceeds n r k Sets = ⊥
CountExceeds n r k Nonbases = choose n r < k

-- the line is a set of r of the first n elements, which stands after the last one
pub record IsSetLine (n r : ℕ) (last : Option (List ℕ)) (line x : List ℕ) : Type 0 where
  pub set : IsSetOf n r x
  pub after : IfSome last (λ y. IsBefore y x)
  pub text : line ≡ set_text x

-- a line of such a set
abbrev pub set_table : ℕ → ℕ → Option (List ℕ) → Table Measure (List ℕ)
set_table n r last = record { spells = IsSetLine n r last; exceeds = never }

-- so many more lines of sets, after those of these sets
unfoldable pub set_lines : {X : Type 0} → ℕ → ℕ → ℕ → List (List ℕ) → Option (List ℕ) → (List (List ℕ) → Format Measure X) → Format Measure X
set_lines n r zero sets last due = due sets
set_lines n r (suc count) sets last due = line_of (set_table n r last) (λ x. set_lines n r count (sets ++ x ∷ []) (Some x) due)

-- the lines of a matroid file, and then what is due after it
abbrev pub file : {X : Type 0} → (Presentation → Format Measure X) → Format Measure X
file due =
    line_of (fixed (codes "matroid 1")) (λ _.
    line_of (keyed (codes "elements ") ElementsExceed) (λ n.
    line_of (keyed (codes "rank ") (RankExceeds n)) (λ r.
    line_of (keyed (codes "nonbases ") (CountExceeds n r)) (λ k.
    set_lines n r k [] None (λ sets.
    line_of (fixed (codes "end")) (λ _.
    due (record { elements = n; rank = r; nonbases = sets })))))))

-- the lines of the file of these numbers and sets
abbrev pub file_lines : Presentation → List (List ℕ)
file_lines m =
    codes "matroid 1"
    ∷ (codes "elements " ++ decimal m.elements)
    ∷ (codes "rank " ++ decimal m.rank)
    ∷ (codes "nonbases " ++ decimal (length m.nonbases))
    ∷ (map set_text m.nonbases ++ codes "end" ∷ [])

-- the bytes of the file of these numbers and sets
abbrev pub file_text : Presentation → List ℕ
file_text m = text_of_lines (file_lines m)

-- the bytes are the file of the matroid m, which is within the limits
pub record IsFileOf (bytes : List ℕ) (m : Presentation) : Type 0 where
  pub text : bytes ≡ file_text m
  pub matroid : IsMatroid m
  pub limits : IsWithinLimits m
