-- The first place where two matrices differ decides their order.
use Rattle.std.proofs.Common.{ℕ, zero, suc, ◌<◌, ◌≡◌, ◌⊎◌, List, [], ◌∷◌, ◌++◌, length, get_or, refl, sym, ap, subst, ◌∙◌, ⊎_elim, inl, inr, arith}
use Rattle.std.specs.Prelude.{flat_map}
use Rattle.std.specs.Ordering.{nat_cmp, ordering_then}
use Rattle.std.specs.declared.cmp.Ordering.TheVariants.{Less}
use Rattle.std.proofs.lemmas.Bool.{cases_order}
use Rattle.std.proofs.lemmas.Cmp.{nat_cmp_total, tied_itself}
use Rattle.std.proofs.lemmas.List.{same_lists, get_or_default}
use Rattle.mr_set.specs.Subsets.{list_cmp}
use Rattle.mr_set.proofs.Members.{cmp_from_less}
use Rattle.mr_linear.specs.Columns.{Entries}
use Rattle.mr_linear.specs.Matrix.{Grid, IsGrid, height, entry, grid_cmp}
use Rattle.mr_linear.proofs.Grids.{Same, SameShape}
use Rattle.mr_graph.specs.Forest.{IsEarlierPlace}

-- at the first place where they differ, row after row and in a row by column, a has the smaller number
pub record IsSmaller (r n : ℕ) (a b : Entries) : Type 0 where
  pub row : ℕ
  pub col : ℕ
  pub row_in_range : row < r
  pub col_in_range : col < n
  pub before : (i j : ℕ) → i < r → j < n → IsEarlierPlace i j row col → a i j ≡ b i j
  pub less : a row col < b row col

-- equal beginnings decide nothing
cmp_front : (xs u v : List ℕ) → list_cmp (xs ++ u) (xs ++ v) ≡ list_cmp u v
cmp_front [] u v = refl
cmp_front (x ∷ xs) u v = ap (λ o. ordering_then o (list_cmp (xs ++ u) (xs ++ v))) (tied_itself nat_cmp_total x) ∙ cmp_front xs u v

-- the first difference decides
pub cmp_first : (xs ys u v : List ℕ) (j : ℕ) → j < length xs → j < length ys → ((k : ℕ) → k < j → get_or xs k 0 ≡ get_or ys k 0) → get_or xs j 0 < get_or ys j 0 → list_cmp (xs ++ u) (ys ++ v) ≡ Less
cmp_first [] ys u v j l m same lt = absurd (omega arith)
cmp_first (x ∷ xs) [] u v j l m same lt = absurd (omega arith)
cmp_first (x ∷ xs) (y ∷ ys) u v zero l m same lt = ap (λ o. ordering_then o (list_cmp (xs ++ u) (ys ++ v))) (cmp_from_less x y lt)
cmp_first (x ∷ xs) (y ∷ ys) u v (suc j) l m same lt =
    let e : x ≡ y = same 0 (omega arith) in
    ap (λ o. ordering_then o (list_cmp (xs ++ u) (ys ++ v))) (ap (nat_cmp x) (sym e) ∙ tied_itself nat_cmp_total x) ∙
    cmp_first xs ys u v j (omega arith) (omega arith) (λ k h. same (suc k) (omega arith)) lt

-- the same for rows of one length
rows_first : (xs ys : List (List ℕ)) (i j : ℕ) → i < length xs → i < length ys → ((k : ℕ) → k < i → get_or xs k [] ≡ get_or ys k []) →
    j < length (get_or xs i []) → j < length (get_or ys i []) → ((k : ℕ) → k < j → get_or (get_or xs i []) k 0 ≡ get_or (get_or ys i []) k 0) → get_or (get_or xs i []) j 0 < get_or (get_or ys i []) j 0 →
    list_cmp (flat_map (λ row. row) xs) (flat_map (λ row. row) ys) ≡ Less
rows_first [] ys i j l m above p q same lt = absurd (omega arith)
rows_first (x ∷ xs) [] i j l m above p q same lt = absurd (omega arith)
rows_first (x ∷ xs) (y ∷ ys) zero j l m above p q same lt = cmp_first x y (flat_map (λ row. row) xs) (flat_map (λ row. row) ys) j p q same lt
rows_first (x ∷ xs) (y ∷ ys) (suc i) j l m above p q same lt =
    ap (λ (row : List ℕ). list_cmp (x ++ flat_map (λ row. row) xs) (row ++ flat_map (λ row. row) ys)) (sym (above 0 (omega arith))) ∙
    cmp_front x (flat_map (λ row. row) xs) (flat_map (λ row. row) ys) ∙
    rows_first xs ys i j (omega arith) (omega arith) (λ k h. above (suc k) (omega arith)) p q same lt

-- a smaller matrix comes first
pub smaller-less : (a b : Grid) → IsGrid a → IsGrid b → SameShape a b → IsSmaller (height a) a.cols (entry a) (entry b) → grid_cmp a b ≡ Less
smaller-less a b g h s x =
    rows_first a.rows b.rows x.row x.col x.row_in_range (subst (λ k. x.row < k) s.rows x.row_in_range) rows
    (subst (λ k. x.col < k) (sym (size_a x.row x.row_in_range)) x.col_in_range)
    (subst (λ k. x.col < k) (sym (size_b x.row x.row_in_range)) x.col_in_range)
    (λ k l. x.before x.row k x.row_in_range (let c = x.col_in_range in omega arith) (inr (refl, l)))
    x.less
  where
    size_a : (i : ℕ) → i < height a → length (get_or a.rows i []) ≡ a.cols
    size_a i l = (g.each i [] l).size

    size_b : (i : ℕ) → i < height a → length (get_or b.rows i []) ≡ a.cols
    size_b i l = (h.each i [] (subst (λ k. i < k) s.rows l)).size ∙ sym s.cols

    rows : (i : ℕ) → i < x.row → get_or a.rows i [] ≡ get_or b.rows i []
    rows i l =
        let here : i < height a = (let r = x.row_in_range in omega arith) in
        same_lists (get_or a.rows i []) (get_or b.rows i []) (size_a i here ∙ sym (size_b i here)) (λ k d m.
        let col : k < a.cols = (let e = size_a i here in omega arith) in
        let col_b : k < length (get_or b.rows i []) = (let e = size_b i here in omega arith) in
        get_or_default (get_or a.rows i []) k d 0 m ∙ x.before i k here col (inl l) ∙ get_or_default (get_or b.rows i []) k 0 d col_b)

-- two rows are equal, or there is a first place where they differ
row_compare : (n : ℕ) (a b : ℕ → ℕ) → ((j : ℕ) → j < n → a j ≡ b j) ⊎ ((j : ℕ) × (j < n) × ((y : ℕ) → y < j → a y ≡ b y) × ((a j < b j) ⊎ (b j < a j)))
row_compare zero a b = inl (λ j l. absurd (omega arith))
row_compare (suc n) a b = ⊎_elim
    (λ (same : (j : ℕ) → j < n → a j ≡ b j). ⊎_elim
    (λ (e : a n ≡ b n). inl (λ j l. last j n same e l))
    (λ (o : (a n < b n) ⊎ (b n < a n)). inr (n, omega arith, same, o)) (order (a n) (b n)))
    (λ (d : (j : ℕ) × (j < n) × ((y : ℕ) → y < j → a y ≡ b y) × ((a j < b j) ⊎ (b j < a j))). inr (d.0, omega (arith, d.1), d.2, d.3))
    (row_compare n a b)
  where
    order : (x y : ℕ) → (x ≡ y) ⊎ ((x < y) ⊎ (y < x))
    order x y = cases_order x y

    last : (j n : ℕ) → ((j : ℕ) → j < n → a j ≡ b j) → a n ≡ b n → j < suc n → a j ≡ b j
    last j n same e l = ⊎_elim (λ (p : j ≡ n). rw p e) (λ (o : (j < n) ⊎ (n < j)). ⊎_elim (λ (p : j < n). same j p) (λ (p : n < j). absurd (omega arith)) o) (order j n)

-- two matrices are equal, or one is smaller
pub compare : (r n : ℕ) (a b : Entries) → Same r n a b ⊎ (IsSmaller r n a b ⊎ IsSmaller r n b a)
compare zero n a b = inl (λ i j l m. absurd (omega arith))
compare (suc r) n a b = ⊎_elim
    (λ (same : Same r n a b). ⊎_elim
    (λ (row : (j : ℕ) → j < n → a r j ≡ b r j). inl (λ i j l m. rows same row i j l m))
    (λ (d : (j : ℕ) × (j < n) × ((y : ℕ) → y < j → a r y ≡ b r y) × ((a r j < b r j) ⊎ (b r j < a r j))). inr (⊎_elim
    (λ (lt : a r d.0 < b r d.0). inl (at a b same d.0 d.1 d.2 lt))
    (λ (lt : b r d.0 < a r d.0). inr (at b a (λ i j l m. sym (same i j l m)) d.0 d.1 (λ y l. sym (d.2 y l)) lt)) d.3))
    (row_compare n (a r) (b r)))
    (λ (o : IsSmaller r n a b ⊎ IsSmaller r n b a). inr (⊎_elim (λ (x : IsSmaller r n a b). inl (more a b x)) (λ (x : IsSmaller r n b a). inr (more b a x)) o))
    (compare r n a b)
  where
    split : (i : ℕ) → i < suc r → (i < r) ⊎ (i ≡ r)
    split i l = ⊎_elim (λ (p : i ≡ r). inr p) (λ (o : (i < r) ⊎ (r < i)). ⊎_elim (λ (p : i < r). inl p) (λ (p : r < i). absurd (omega arith)) o) (cases_order i r)

    rows : Same r n a b → ((j : ℕ) → j < n → a r j ≡ b r j) → (i j : ℕ) → i < suc r → j < n → a i j ≡ b i j
    rows same row i j l m = ⊎_elim (λ (p : i < r). same i j p m) (λ (p : i ≡ r). rw p (row j m)) (split i l)

    at : (a b : Entries) → Same r n a b → (j : ℕ) → j < n → ((y : ℕ) → y < j → a r y ≡ b r y) → a r j < b r j → IsSmaller (suc r) n a b
    at a b same j l row lt = record {
      row = r;
      col = j;
      row_in_range = omega arith;
      col_in_range = l;
      before = λ i y il yl q. ⊎_elim (λ (p : i < r). same i y p yl) (λ (p : (i ≡ r) × (y < j)). rw (p.0) (row y p.1)) q;
      less = lt;
    }

    more : (a b : Entries) → IsSmaller r n a b → IsSmaller (suc r) n a b
    more a b x = record {
      row = x.row;
      col = x.col;
      row_in_range = omega (arith, x.row_in_range);
      col_in_range = x.col_in_range;
      before = λ i y il yl q. x.before i y (let r' = x.row_in_range in ⊎_elim (λ (p : i < x.row). omega arith) (λ (p : (i ≡ x.row) × (y < x.col)). (let e = p.0 in omega arith)) q) yl q;
      less = x.less;
    }
