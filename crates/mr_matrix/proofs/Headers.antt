-- The first line of a matrix block, and its rows.
use Rattle.std.proofs.Common.{◌≡◌, Option, Some, None, ◌≢◌, ℕ, ◌<◌, ◌≤◌, List, [], ◌∷◌, ◌++◌, length, take, drop, get_or, true, false, refl, sym, ap, subst, ◌∙◌, ⊎_elim, arith, codes}
use Rattle.std.specs.Prelude.{All, nat_eq, MatchOption, slice_index}
use Rattle.std.proofs.lemmas.Bool.{cases_lt}
use Rattle.std.specs.Cmp.Lexicographic.{pointwise, same_text, other_text}
use Rattle.std.proofs.lemmas.List.{take_at, take-append-drop, append_cancel_left}
use Rattle.mr_field.specs.Gf.{Gf, order}
use Rattle.mr_set.proofs.Sorted.{all_head, all_tail, all_cons, all_none}
use Rattle.mr_set.specs.Subsets.{choose}
use Rattle.mr_set.specs.declared.TheConstants.{ELEMENTS, SETS}
use Rattle.mr_text.specs.declared.TheConstants.{NUMBERS}
use Rattle.mr_text.specs.Text.{numbers_text}
use Rattle.mr_file.specs.declared.fault.Measure.{Measure}
use Rattle.mr_file.specs.declared.fault.Measure.TheVariants.{Elements, Rank, Sets, Nonbases}
use Rattle.mr_matrix.specs.Private.Numbers.{AreNumbers}
use Rattle.mr_matrix.specs.Block.{IsHeaderLine, ShapeExceeds, IsRowLine}
use Rattle.mr_matrix.specs.declared.shape.Shape.{Shape}
use Rattle.mr_matrix.proofs.NumberLines.{same_listing}

-- a line that doesn't begin with the key
pub no_front : (line key rest : List ℕ) → pointwise nat_eq (take (length key) line) key ≡ false → line ≡ key ++ rest → ⊥
no_front line key rest other is = other_text (take (length key) line) key (sym other) (ap (take (length key)) is ∙ take_at key rest (length key) refl)

-- the key and what follows it
pub front_found : (line key word : List ℕ) → pointwise nat_eq (take (length key) line) key ≡ true → word ≡ drop (length key) line → line ≡ key ++ word
front_found line key word same is = sym (take-append-drop (length key) line) ∙ ap (λ w. w ++ drop (length key) line) (same_text (take (length key) line) key (sym same)) ∙ ap (λ w. key ++ w) (sym is)

-- the numbers of a first line
pub header_numbers : (q : ℕ) (line words : List ℕ) (s : Shape) → q < NUMBERS → line ≡ codes "matrix " ++ words → IsHeaderLine q line s → AreNumbers 3 words (q ∷ s.rows ∷ s.cols ∷ [])
header_numbers q line words s small is header = record {
  size = refl;
  small = all_cons (λ v. v < NUMBERS) q (s.rows ∷ s.cols ∷ []) small (all_cons (λ v. v < NUMBERS) s.rows (s.cols ∷ []) header.rows (all_cons (λ v. v < NUMBERS) s.cols [] header.cols (all_none (λ v. v < NUMBERS))));
  text = append_cancel_left (codes "matrix ") words (numbers_text (q ∷ s.rows ∷ s.cols ∷ [])) (sym is ∙ header.text);
}

-- a line of three numbers of which the first is the order
pub numbers_header : (q : ℕ) (line words list : List ℕ) (s : Shape) → line ≡ codes "matrix " ++ words → AreNumbers 3 words list → list ≡ q ∷ s.rows ∷ s.cols ∷ [] → IsHeaderLine q line s
numbers_header q line words list s is are named =
    let there : AreNumbers 3 words (q ∷ s.rows ∷ s.cols ∷ []) = subst (AreNumbers 3 words) named are in
    let rest = all_tail (λ v. v < NUMBERS) q (s.rows ∷ s.cols ∷ []) there.small in
    record {
      rows = all_head (λ v. v < NUMBERS) s.rows (s.cols ∷ []) rest;
      cols = all_head (λ v. v < NUMBERS) s.cols [] (all_tail (λ v. v < NUMBERS) s.rows (s.cols ∷ []) rest);
      text = is ∙ ap (λ w. codes "matrix " ++ w) there.text;
    }

-- two lists of numbers on one line
pub one_listing : (k : ℕ) (line xs ys : List ℕ) → AreNumbers k line xs → AreNumbers k line ys → xs ≡ ys
one_listing k line xs ys p q = same_listing xs ys (p.size ∙ sym q.size) p.small q.small (sym p.text ∙ q.text)

-- the numbers name the shape, or the first isn't the order
pub named_is : (list : List ℕ) (q a r n : ℕ) → length list ≡ 3 → a ≡ get_or list 0 a → r ≡ get_or list 1 r → n ≡ get_or list 2 n → a ≡ q → list ≡ q ∷ r ∷ n ∷ []
named_is [] q a r n size p0 p1 p2 is = absurd (omega arith)
named_is (x ∷ []) q a r n size p0 p1 p2 is = absurd (omega arith)
named_is (x ∷ y ∷ []) q a r n size p0 p1 p2 is = absurd (omega arith)
named_is (x ∷ y ∷ z ∷ []) q a r n size p0 p1 p2 is = ap (λ v. v ∷ y ∷ z ∷ []) (sym p0 ∙ is) ∙ ap (λ v. q ∷ v ∷ z ∷ []) (sym p1) ∙ ap (λ v. q ∷ r ∷ v ∷ []) (sym p2)
named_is (x ∷ y ∷ z ∷ w ∷ ws) q a r n size p0 p1 p2 is = absurd (omega arith)

-- a shape within the limits exceeds none of them
pub shape_fits : (s : Shape) → s.cols ≤ ELEMENTS → s.rows ≤ s.cols → choose s.cols s.rows ≤ SETS → (m : Measure) → ShapeExceeds s m → ⊥
shape_fits s wide flat few Elements h = omega arith
shape_fits s wide flat few Rank h = let g = h.1 in omega arith
shape_fits s wide flat few Sets h = let g = h.2 in omega arith
shape_fits s wide flat few Nonbases h = h

-- a row is numbers below the order
pub row_numbers : (f : Gf) (n : ℕ) (line row : List ℕ) → order f < NUMBERS → IsRowLine f n line row → AreNumbers n line row
row_numbers f n line row small is = record { size = is.of_field.size; small = λ k d l. let h = is.of_field.elements k d l in omega arith; text = is.text }

-- and the other way round
pub numbers_row : (f : Gf) (n : ℕ) (line row : List ℕ) → AreNumbers n line row → All (λ v. v < order f) row → IsRowLine f n line row
numbers_row f n line row are below = record { of_field = record { size = are.size; elements = below }; text = are.text }

-- what is answered for a line of three numbers
pub shape_answer : (q : ℕ) (line words list : List ℕ) (r : Option Shape) → q < NUMBERS → line ≡ codes "matrix " ++ words → AreNumbers 3 words list → MatchOption r (slice_index list 0 ≢ q) (λ s. list ≡ q ∷ s.rows ∷ s.cols ∷ [])
    → MatchOption r ((s : Shape) → IsHeaderLine q line s → ⊥) (IsHeaderLine q line)
shape_answer q line words list None small is are answer = λ s header. answer (ap (λ (w : List ℕ). slice_index w 0) (one_listing 3 words list (q ∷ s.rows ∷ s.cols ∷ []) are (header_numbers q line words s small is header)))
shape_answer q line words list (Some s) small is are answer = numbers_header q line words list s is are answer

-- a line with a number that is no element
pub row_too_large : (f : Gf) (n q : ℕ) (line list row : List ℕ) → order f < NUMBERS → q ≡ order f → AreNumbers n line list → (All (λ v. v < q) list → ⊥) → IsRowLine f n line row → ⊥
row_too_large f n q line list row small is are above here =
    let same = one_listing n line row list (row_numbers f n line row small here) are in
    above (subst (λ (w : List ℕ). All (λ v. v < q) w) same (subst (λ k. All (λ v. v < k) row) (sym is) here.of_field.elements))

-- what isn't greater is at most as great
at_most : (a b : ℕ) → (a < b → ⊥) → b ≤ a
at_most a b no_less = ⊎_elim (λ (lt : a < b). absurd (no_less lt)) (λ (le : b ≤ a). le) (cases_lt a b)

-- a shape that exceeds nothing isn't too wide
pub shape_wide : (s : Shape) → ((m : Measure) → ShapeExceeds s m → ⊥) → s.cols ≤ ELEMENTS
shape_wide s fits = at_most ELEMENTS s.cols (fits Elements)

-- and has no more rows than columns
pub shape_flat : (s : Shape) → ((m : Measure) → ShapeExceeds s m → ⊥) → s.rows ≤ s.cols
shape_flat s fits = at_most s.cols s.rows (λ less. fits Rank (shape_wide s fits, less))
