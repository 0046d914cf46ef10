-- Rows that are added for prefixes, at most one for each.
use Rattle.std.proofs.Common.{◌≡◌, ◌≢◌, ℕ, zero, suc, ◌+◌, ◌-◌, ◌<◌, ◌≤◌, List, [], ◌∷◌, ◌++◌, length, map, get_or, Option, Some, refl, sym, ap, subst, ◌∙◌, inl, inr, arith, length-append, append_assoc, append-nil}
use Rattle.std.specs.Prelude.{AllPairs}
use Rattle.std.proofs.lemmas.Bool.{cases_lt}
use Rattle.std.proofs.lemmas.Cmp.{nat_list_cmp_total}
use Rattle.std.proofs.lemmas.List.{get_or_append_left, get_or-append_right, length_push, map-append, length-map}
use Rattle.std.proofs.lemmas.List.Elements.{All-append, All-weaker, All-push, All-nil}
use Rattle.std.proofs.lemmas.List.Quantifiers.{all_pairs_push}
use Rattle.std.proofs.lemmas.Option.{same_Some}
use Rattle.mr_set.specs.Subsets.{IsBefore}
use Rattle.mr_set.proofs.Ordered.{not_before_itself}
use Rattle.mr_frame.specs.Frame.{Framed, IsFrame}
use Rattle.mr_nogood.specs.declared.row.Row.{Row}
use Rattle.mr_exchange.specs.Cubes.{IsCube, cube_at, cube_count}
use Rattle.mr_exchange.proofs.CubesInOrder.{cube_else, cubes_are_in_order}
use Rattle.mr_merge.specs.Table.{TableIs, table_is, all_rows}
use Rattle.mr_merge.specs.Prefixes.{IsPrefixRow, HaveRanksFrom}
use Rattle.mr_merge.specs.Private.Prefixes.{prefix_count, IsRowAt, IsRowBelow, HaveAdded, HasAdded, AreAddedFrom}

-- the rows with one that was added
pub all_rows-push : (t : TableIs) (row : Row) → all_rows (table_is t.board (t.added ++ row ∷ [])) ≡ all_rows t ++ Some row ∷ []
all_rows-push t row = ap (λ (xs : List (Option Row)). t.board ++ xs) (map-append (λ (r : Row). Some r) t.added (row ∷ [])) ∙ sym (append_assoc t.board (map (λ (r : Row). Some r) t.added) (Some row ∷ []))

-- there are as many as both have
pub length-all_rows : (t : TableIs) → length (all_rows t) ≡ length t.board + length t.added
length-all_rows t = omega (arith, length-append t.board (map (λ (r : Row). Some r) t.added), length-map t.added (λ (r : Row). Some r))

-- pairs within two lists and across them
pairs_join : {X : Type 0} (R : X → X → Type 0) (xs ys : List X) → AllPairs R xs → AllPairs R ys → ((i j : ℕ) (d : X) → i < length xs → j < length ys → R (get_or xs i d) (get_or ys j d)) → AllPairs R (xs ++ ys)
pairs_join R xs ys first second across i j d less lt = elim (cases_lt j (length xs)) [
  | inl left ↦
      subst (λ v. R v (get_or (xs ++ ys) j d)) (sym (get_or_append_left xs ys d i (omega arith)))
      (subst (R (get_or xs i d)) (sym (get_or_append_left xs ys d j left)) (first i j d less left))
  | inr right ↦
      let long = length-append xs ys in
      let there : get_or (xs ++ ys) j d ≡ get_or ys (j - length xs) d = get_or-append_right xs ys (length xs) j d refl right in
      elim (cases_lt i (length xs)) [
        | inl left ↦
            subst (λ v. R v (get_or (xs ++ ys) j d)) (sym (get_or_append_left xs ys d i left))
            (subst (R (get_or xs i d)) (sym there) (across i (j - length xs) d left (omega arith)))
        | inr past ↦
            subst (λ v. R v (get_or (xs ++ ys) j d)) (sym (get_or-append_right xs ys (length xs) i d refl past))
            (subst (R (get_or ys (i - length xs) d)) (sym there) (second (i - length xs) (j - length xs) d (omega arith) (omega arith)))
      ]
]

-- of no rows
pub ranks_none : (n : ℕ) → HaveRanksFrom n []
ranks_none n i row is = cc

-- of one row
ranks_one : (n : ℕ) (row : Row) → row.rank ≡ n → HaveRanksFrom n (row ∷ [])
ranks_one n row rank zero other is = let same = ap (λ (r : Row). r.rank) (same_Some row other is) in omega arith
ranks_one n row rank (suc i) other is = cc

-- of rows, and those after them
pub ranks_append : (n : ℕ) (xs ys : List Row) → HaveRanksFrom n xs → HaveRanksFrom (n + length xs) ys → HaveRanksFrom n (xs ++ ys)
ranks_append n [] ys first second i row is = let rank = second i row is in omega arith
ranks_append n (x ∷ xs) ys first second zero row is = first zero row is
ranks_append n (x ∷ xs) ys first second (suc i) row is =
    let rank = ranks_append (n + 1) xs ys (λ j r at. (let e = first (suc j) r at in omega arith)) (λ j r at. (let e = second j r at in omega arith)) i row is in
    omega arith

-- at first none was added
pub added_none : (f : Framed) (level : ℕ) (t : TableIs) → HaveAdded f level 0 t t
added_none f level t = record {
  more = [];
  is = ap (λ (xs : List Row). table_is t.board xs) (sym (append-nil t.added));
  each = All-nil (IsRowBelow f level 0);
  once = λ i j d less lt. absurd (omega arith);
  ranks = ranks_none (length (all_rows t));
  few = omega arith;
}

module _ (f : Framed) (frame : IsFrame f) (level c : ℕ) (free : level ≤ length f.places) (low : c < cube_count f level) where
  -- a row of an earlier assignment has another clause
  apart : (row : Row) (other : Row) → IsRowBelow f level c row → IsRowAt f level c other → row.clause ≢ other.clause
  apart row other (b, less, at) there same =
      let before : IsBefore (cube_at f level b) (cube_at f level c) = (cubes_are_in_order f level frame free).order b c less low in
      not_before_itself nat_list_cmp_total (cube_at f level c) (subst (λ (x : List ℕ). IsBefore x (cube_at f level c)) (sym at.clause ∙ same ∙ there.clause) before)

  -- one assignment more was seen to
  pub added_more : (before t after : TableIs) → HaveAdded f level c before t → HasAdded f level c t after → HaveAdded f level (c + 1) before after
  added_more before t after have (inl same) = record {
    more = have.more;
    is = same ∙ have.is;
    each = All-weaker (IsRowBelow f level c) (IsRowBelow f level (c + 1)) (λ row at. (at.0, (let lt = at.1 in omega arith), at.2)) have.more have.each;
    once = have.once;
    ranks = have.ranks;
    few = let few = have.few in omega arith;
  }
  added_more before t after have (inr (row, is, at, rank)) = record {
    more = have.more ++ row ∷ [];
    is = is ∙ ap (λ (x : TableIs). table_is x.board (x.added ++ row ∷ [])) have.is ∙ ap (λ (xs : List Row). table_is before.board xs) (append_assoc before.added have.more (row ∷ []));
    each = All-push (IsRowBelow f level (c + 1)) have.more row (All-weaker (IsRowBelow f level c) (IsRowBelow f level (c + 1)) (λ r b. (b.0, (let lt = b.1 in omega arith), b.2)) have.more have.each) (c, omega arith, at);
    once = all_pairs_push (λ (x : Row) (y : Row). x.clause ≢ y.clause) have.more row have.once (λ k d lt. apart (get_or have.more k d) row (have.each k d lt) at);
    ranks =
        let board : length t.board ≡ length before.board = ap (λ (x : TableIs). length x.board) have.is in
        let some : length t.added ≡ length (before.added ++ have.more) = ap (λ (x : TableIs). length x.added) have.is in
        let here = length-all_rows t in
        let start = length-all_rows before in
        let both = length-append before.added have.more in
        let last : row.rank ≡ length (all_rows before) + length have.more = omega arith in
        ranks_append (length (all_rows before)) have.more (row ∷ []) have.ranks (ranks_one (length (all_rows before) + length have.more) row last);
    few = let few = have.few in omega (arith, length_push have.more row);
  }

-- at first there are no added rows
pub added_at_first : (f : Framed) (depth : ℕ) → AreAddedFrom f depth depth []
added_at_first f depth = record {
  rows = record { each = All-nil (IsPrefixRow f depth); once = λ i j d less lt. absurd (omega arith) };
  low = All-nil (λ (row : Row). depth ≤ row.at);
  few = omega arith;
}

-- one level more was seen to
pub added_level : (f : Framed) (depth level : ℕ) (before after : TableIs) → IsFrame f → level < depth → depth ≤ length f.places → AreAddedFrom f depth (suc level) before.added → HaveAdded f level (cube_count f level) before after → AreAddedFrom f depth level after.added
unfolding prefix_count
added_level f depth level before after frame less free from have = subst (AreAddedFrom f depth level) (ap (λ (t : TableIs). t.added) (sym have.is)) (record {
  rows = record {
    each = All-append (IsPrefixRow f depth) before.added have.more from.rows.each (All-weaker (IsRowBelow f level (cube_count f level)) (IsPrefixRow f depth) (λ row at. (record {
      shorter = (let e = at.2.at in omega arith);
      clause = subst (λ (i : ℕ). IsCube f i row.clause) (sym at.2.at) (subst (IsCube f level) (sym at.2.clause) ((cubes_are_in_order f level frame (omega arith)).each at.0 at.1));
    })) have.more have.each);
    once = pairs_join (λ (x : Row) (y : Row). x.clause ≢ y.clause) before.added have.more from.rows.once have.once (λ i j d first second. longer (get_or before.added i d) (get_or have.more j d) (from.rows.each i d first) (from.low i d first) (have.each j d second));
  };
  low = All-append (λ (row : Row). level ≤ row.at) before.added have.more (All-weaker (λ (row : Row). suc level ≤ row.at) (λ (row : Row). level ≤ row.at) (λ row le. omega arith) before.added from.low)
      (All-weaker (IsRowBelow f level (cube_count f level)) (λ (row : Row). level ≤ row.at) (λ row at. (let e = at.2.at in omega arith)) have.more have.each);
  few = let old = from.few in let new = have.few in omega (arith, length-append before.added have.more);
})
  where
    longer : (row other : Row) → IsPrefixRow f depth row → suc level ≤ row.at → IsRowBelow f level (cube_count f level) other → row.clause ≢ other.clause
    longer row other prefix le (c, lt, at) same =
        (prefix.clause.just level).1 (omega arith) (ap (λ (a : List ℕ). get_or a level 0) (same ∙ at.clause) ∙ cube_else f level c level (omega arith))
