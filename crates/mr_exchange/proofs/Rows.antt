-- Rows of which there is one more: what still follows, least ranks, and how many there are.
use Rattle.std.proofs.Common.{◌≡◌, ◌≢◌, ℕ, zero, suc, ◌+◌, ◌<◌, ◌≤◌, ◌⊎◌, if◌then◌else◌, true, cond, is_some, Option, Some, None, IsSome, true≢false, sym, refl, ap, ◌∙◌, inl, inr, ⊎_elim, subst, arith}
use native.Mathlib.Decide.{ℕ_discrete}
use Rattle.std.proofs.lemmas.Option.{none-some, same_Some}
use Rattle.std.proofs.lemmas.List.Sums.{sum_by_push}
use Rattle.mr_set.specs.Elements.{is_element, numbers_below}
use Rattle.mr_frame.specs.Frame.{Framed}
use Rattle.mr_nogood.specs.declared.row.Row.{Row}
use Rattle.mr_nogood.specs.Follows.{Rows, Follows}
use Rattle.mr_nogood.proofs.Excluding.{more_rows_keep_what_follows, cited_rows_have_smaller_ranks}
use Rattle.mr_exchange.specs.State.{Pass, State, known_rows, row_count}
use Rattle.mr_exchange.specs.Rank.{HasLeastRank}
use Rattle.mr_exchange.specs.Events.{with_row}
use Rattle.mr_exchange.specs.Sound.{AreProved}
use Rattle.mr_exchange.proofs.Totals.{bool_cases, eq_cases}

-- each of the rows is one of the others
abbrev pub AreAmong : Rows → Rows → Type 0
AreAmong rows more = (slot : ℕ) (row : Row) → rows slot ≡ Some row → more slot ≡ Some row

-- the new row stands in its slot
pub row_here : (rows : Rows) (slot : ℕ) (row : Row) → with_row rows slot row slot ≡ Some row
row_here rows slot row = eq_cases slot slot (λ b. (if b then Some row else rows slot) ≡ Some row) (λ e. refl) (λ n. absurd (n refl))

-- the other slots are as before
pub row_else : (rows : Rows) (slot other : ℕ) (row : Row) → other ≢ slot → with_row rows slot row other ≡ rows other
row_else rows slot other row n = eq_cases other slot (λ b. (if b then Some row else rows other) ≡ rows other) (λ e. absurd (n e)) (λ d. refl)

-- a row is the new one, or was there
pub row_cases : (rows : Rows) (slot other : ℕ) (row found : Row) → with_row rows slot row other ≡ Some found → ((other ≡ slot) × (row ≡ found)) ⊎ (rows other ≡ Some found)
row_cases rows slot other row found = eq_cases other slot (λ b. (if b then Some row else rows other) ≡ Some found → ((other ≡ slot) × (row ≡ found)) ⊎ (rows other ≡ Some found)) (λ e h. inl (e, same_Some row found h)) (λ n h. inr h)

-- rows stay
pub among_more : (rows : Rows) (slot : ℕ) (row : Row) → rows slot ≡ None → AreAmong rows (with_row rows slot row)
among_more rows slot row free other found h = row_else rows slot other row (λ e. none-some found (sym free ∙ ap rows (sym e) ∙ h)) ∙ h

-- what a pass knows is there
pub known_among : (s : State) (p : Pass) → AreAmong (known_rows s p) s.rows
known_among s p slot row = bool_cases (is_element p.known slot) (λ b. (if b then s.rows slot else None) ≡ Some row → s.rows slot ≡ Some row) (λ e h. h) (λ e h. absurd (none-some row h))

-- a slot that has a row still has one
pub still_some : (rows more : Rows) → AreAmong rows more → (slot : ℕ) → IsSome (rows slot) → IsSome (more slot)
still_some rows more among slot h = read (rows slot) refl h
  where
    read : (o : Option Row) → rows slot ≡ o → IsSome o → IsSome (more slot)
    read None e h = absurd (let apart : is_some {T = Row} None ≡ true = h in true≢false (sym apart))
    read (Some row) e h = subst IsSome (sym (among slot row e)) refl

-- the rank of a row that follows is the same among more rows
pub rank_more : (f : Framed) (rows more : Rows) (row : Row) → AreAmong rows more → Follows f rows row → HasLeastRank rows row → HasLeastRank more row
rank_more f rows more row among follows rank = record {
  above = λ k slot cited cites given. (let known = cited_rows_have_smaller_ranks f rows row k slot follows cites in
      let same : known.0 ≡ cited = same_Some known.0 cited (sym (among slot known.0 known.1) ∙ given) in
      rank.above k slot cited cites (known.1 ∙ ap Some same));
  least = λ n above. rank.least n (λ k slot cited cites given. above k slot cited cites (among slot cited given));
}

-- 1 for a row, and else 0
abbrev one_for : Option Row → ℕ
one_for found = cond (is_some found) 1 0

-- one more number, one more slot
row_count-suc : (n : ℕ) (rows : Rows) → row_count (suc n) rows ≡ row_count n rows + one_for (rows n)
row_count-suc n rows = sum_by_push (λ slot. one_for (rows slot)) (numbers_below n) n

-- the number of rows is told by the slots
same_count : (n : ℕ) (rows more : Rows) → ((slot : ℕ) → slot < n → more slot ≡ rows slot) → row_count n more ≡ row_count n rows
same_count zero rows more h = refl
same_count (suc n) rows more h =
    let a = same_count n rows more (λ slot lt. h slot (omega arith)) in
    let b = ap one_for (h n (omega arith)) in
    omega (arith, row_count-suc n rows, row_count-suc n more)

-- there is one row more
pub row_count-with : (n slot : ℕ) (rows : Rows) (row : Row) → slot < n → rows slot ≡ None → row_count n (with_row rows slot row) ≡ row_count n rows + 1
row_count-with zero slot rows row lt free = absurd (omega arith)
row_count-with (suc n) slot rows row lt free = by_place (ℕ_discrete slot n) (λ below. row_count-with n slot rows row below free)
  where
    by_place : Dec (slot ≡ n) → (slot < n → row_count n (with_row rows slot row) ≡ row_count n rows + 1) → row_count (suc n) (with_row rows slot row) ≡ row_count (suc n) rows + 1
    by_place (yes e) below =
        let a = same_count n rows (with_row rows slot row) (λ other l. row_else rows slot other row (λ z. omega arith)) in
        let b = ap one_for (ap (with_row rows slot row) (sym e) ∙ row_here rows slot row) in
        let c = ap one_for (ap rows (sym e) ∙ free) in
        omega (arith, row_count-suc n rows, row_count-suc n (with_row rows slot row))
    by_place (no d) below =
        let lt' : slot < n = omega arith in
        let a = below lt' in
        let b = ap one_for (row_else rows slot n row (λ z. d (sym z))) in
        omega (arith, row_count-suc n rows, row_count-suc n (with_row rows slot row))

-- with a row that follows from some of them and has the least rank, all rows are proved as before
pub proved_more : (f : Framed) (nodes : ℕ) (known rows : Rows) (slot : ℕ) (row : Row) → AreProved f nodes rows → AreAmong known rows → slot < nodes → rows slot ≡ None → Follows f known row → HasLeastRank known row → AreProved f nodes (with_row rows slot row)
proved_more f nodes known rows slot row proved among lt free follows rank =
    let more = among_more rows slot row free in
    let all : AreAmong known (with_row rows slot row) = λ other found h. more other found (among other found h) in
    let count = row_count-with nodes slot rows row lt free in
    let low : row.rank ≤ row_count nodes rows = rank.least (row_count nodes rows) (λ k other cited cites given. proved.low other cited (among other cited given)) in record {
      follows = λ other found h. ⊎_elim (λ (x : (other ≡ slot) × (row ≡ found)). subst (Follows f (with_row rows slot row)) x.1 (more_rows_keep_what_follows f known (with_row rows slot row) row all follows))
          (λ (x : rows other ≡ Some found). more_rows_keep_what_follows f rows (with_row rows slot row) found more (proved.follows other found x)) (row_cases rows slot other row found h);
      rank = λ other found h. ⊎_elim (λ (x : (other ≡ slot) × (row ≡ found)). subst (HasLeastRank (with_row rows slot row)) x.1 (rank_more f known (with_row rows slot row) row all follows rank))
          (λ (x : rows other ≡ Some found). rank_more f rows (with_row rows slot row) found more (proved.follows other found x) (proved.rank other found x)) (row_cases rows slot other row found h);
      low = λ other found h. ⊎_elim (λ (x : (other ≡ slot) × (row ≡ found)). (let same = ap (λ (r : Row). r.rank) x.1 in omega arith))
          (λ (x : rows other ≡ Some found). (let before = proved.low other found x in omega arith)) (row_cases rows slot other row found h);
    }
