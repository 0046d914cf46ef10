-- The least slot with a row in a node, from what was found among some of the rows.
use Rattle.std.proofs.Common.{ℕ, ◌+◌, ◌≡◌, ◌≢◌, ◌<◌, ◌≤◌, ◌⊎◌, ◌↔◌, min, List, length, get_or, set, Option, Some, None, refl, sym, ap, subst, ◌∙◌, inl, inr, ⊎_elim, arith, true≢false}
use Rattle.std.specs.Prelude.{IsNone, IfSome, slice_get}
use Rattle.std.proofs.lemmas.Bool.{cases_eq, cases_lt}
use Rattle.std.proofs.lemmas.Option.{none-some, same_Some}
use Rattle.std.proofs.lemmas.List.{get_or-set_same, get_or-set_other}
use Rattle.mr_assign.specs.Assign.{IsAssign, IsPartOf, no_values}
use Rattle.mr_assign.specs.declared.TheConstants.{POSITIONS}
use Rattle.mr_frame.specs.Frame.{Framed}
use Rattle.mr_nogood.specs.declared.row.Row.{Row}
use Rattle.mr_nogood.specs.declared.row.Cite.{Cite}
use Rattle.mr_nogood.specs.declared.row.Cite.TheVariants.{Nothing, Test, Slot}
use Rattle.mr_nogood.specs.Follows.{Rows}
use Rattle.mr_propagate.specs.Index.{NothingInside, IsLeastInside, NoneFailsAt, IsFirstFailingAt, IsExcludedBy, IsOpenAt, IsFilledBelow}
use Rattle.mr_propagate.specs.declared.trie.Branch.{Branch}
use Rattle.mr_propagate.specs.Private.Pairs.{IsPair, pair_number, IsStart}
use Rattle.mr_propagate.specs.Private.Trie.{pairs_of, IsTrie, Below, itself, under, KeepsBelow, IsHolding, IsLeastBelow}
use Rattle.mr_propagate.specs.Private.Found.{IsLeastAmong, IsLeastFound, EndsAt, EndsBefore, lesser, cite_of}
use Rattle.mr_nogood.proofs.Excluding.{part_with}
use Rattle.mr_propagate.proofs.Branches.{below_part, below_wider}
use Rattle.mr_assign.proofs.Maps.{get_or-no_values}
use Rattle.mr_propagate.proofs.Numbered.{no_value_past}

module _ (rows : Rows) (node : List ℕ) where
  -- what is found among rows that have all in the node which are of another kind
  pub found_of : (K L : List ℕ → Type 0) (found : Option ℕ) → ((s : ℕ) (row : Row) → rows s ≡ Some row → L row.clause → IsPartOf row.clause node → K row.clause) → IsLeastFound rows K node found → IsLeastFound rows L node found
  found_of K L None among none = λ s row has kind part. none s row has (among s row has kind part) part
  found_of K L (Some s) among is = record {
    row = is.row;
    has = is.has;
    inside = is.inside;
    least = λ t other has kind part. is.least t other has (among t other has kind part) part;
  }

  -- what is found among rows of two kinds
  pub found_either : (K L : List ℕ → Type 0) (a b : Option ℕ) → IsLeastFound rows K node a → IsLeastFound rows L node b → IsLeastFound rows (λ c. K c ⊎ L c) node (lesser a b)
  found_either K L None None first second = λ s row has kind part. ⊎_elim (λ (k : K row.clause). first s row has k part) (λ (l : L row.clause). second s row has l part) kind
  found_either K L None (Some y) first second = record {
    row = second.row;
    has = second.has;
    inside = second.inside;
    least = λ t other has kind part. ⊎_elim (λ (k : K other.clause). absurd (first t other has k part)) (λ (l : L other.clause). second.least t other has l part) kind;
  }
  found_either K L (Some x) None first second = record {
    row = first.row;
    has = first.has;
    inside = first.inside;
    least = λ t other has kind part. ⊎_elim (λ (k : K other.clause). first.least t other has k part) (λ (l : L other.clause). absurd (second t other has l part)) kind;
  }
  found_either K L (Some x) (Some y) first second = ⊎_elim
      (λ (lt : x < y).
      let same : x ≡ min x y = omega arith in
      subst (IsLeastAmong rows (λ c. K c ⊎ L c) node) same (record {
        row = first.row;
        has = first.has;
        inside = first.inside;
        least = λ t other has kind part. ⊎_elim (λ (k : K other.clause). first.least t other has k part) (λ (l : L other.clause). let le = second.least t other has l part in omega arith) kind;
      }))
      (λ (le : y ≤ x).
      let same : y ≡ min x y = omega arith in
      subst (IsLeastAmong rows (λ c. K c ⊎ L c) node) same (record {
        row = second.row;
        has = second.has;
        inside = second.inside;
        least = λ t other has kind part. ⊎_elim (λ (k : K other.clause). let low = first.least t other has k part in omega arith) (λ (l : L other.clause). second.least t other has l part) kind;
      }))
      (cases_lt x y)

  -- where all rows in the node are of the kind, nothing or the least slot of all
  pub found_all : (K : List ℕ → Type 0) (found : Option ℕ) → ((s : ℕ) (row : Row) → rows s ≡ Some row → IsPartOf row.clause node → K row.clause) → IsLeastFound rows K node found →
      (IsNone found ↔ NothingInside rows node) × IfSome found (IsLeastInside rows node)
  found_all K None all none = (((λ e s row has part. none s row has (all s row has part) part), (λ nothing. refl)), tt)
  found_all K (Some s) all is = (
    ((λ e. absurd (true≢false e)), (λ nothing. absurd (nothing s is.row is.has is.inside))),
    record {
      row = is.row;
      has = is.has;
      inside = is.inside;
      least = λ t other has part. is.least t other has (all t other has part) part;
    },
  )

  -- a map in the node that ends at a position without a value there ends before it
  pub ends_before : (p : ℕ) (c : List ℕ) → get_or node p 0 ≡ 0 → EndsBefore (p + 1) c → IsPartOf c node → EndsBefore p c
  ends_before p c none ends part q le = ⊎_elim
      (λ (same : q ≡ p). ⊎_elim
      (λ (zero : get_or c q 0 ≡ 0). zero)
      (λ (some : get_or c q 0 ≢ 0). absurd (some (sym (part q some) ∙ ap (λ (k : ℕ). get_or node k 0) same ∙ none)))
      (cases_eq (get_or c q 0) 0))
      (λ (other : q ≢ p). ends q (omega arith))
      (cases_eq q p)

  -- a map in the node that ends at a position ends there with the node's value, or before it
  pub ends_there : (p v : ℕ) (c : List ℕ) → v ≡ get_or node p 0 → EndsBefore (p + 1) c → IsPartOf c node → EndsBefore p c ⊎ EndsAt (pair_number p v) c
  ends_there p v c value ends part = ⊎_elim
      (λ (zero : get_or c p 0 ≡ 0). inl (λ q le. ⊎_elim (λ (same : q ≡ p). ap (λ (k : ℕ). get_or c k 0) same ∙ zero) (λ (other : q ≢ p). ends q (omega arith)) (cases_eq q p)))
      (λ (some : get_or c p 0 ≢ 0).
      let is : get_or c p 0 ≡ v = sym (part p some) ∙ sym value in
      inr (inr (p, v, refl, record { value = is; some = λ zero. some (is ∙ zero); greatest = λ q lt. ends q (omega arith) })))
      (cases_eq (get_or c p 0) 0)

-- the map that ends before position 0 is empty
pub ends_nowhere : (c : List ℕ) → EndsBefore 0 c → EndsAt 0 c
ends_nowhere c ends = inl (refl, λ q. ends q (omega arith))

-- a map in a node ends where the node does
pub ends_with : (node : List ℕ) (p : ℕ) (c : List ℕ) → ((q : ℕ) → p ≤ q → get_or node q 0 ≡ 0) → IsPartOf c node → EndsBefore p c
ends_with node p c none part q le = ⊎_elim
    (λ (zero : get_or c q 0 ≡ 0). zero)
    (λ (some : get_or c q 0 ≢ 0). absurd (some (sym (part q some) ∙ none q le)))
    (cases_eq (get_or c q 0) 0)

-- all maps end
pub ends : (c : List ℕ) → IsAssign c → EndsBefore POSITIONS c
ends c map q le = no_value_past c q map le

-- a map in a node with one pair more, but not in the node, has this one as its greatest
pub ends_new : (node : List ℕ) (p v : ℕ) (c : List ℕ) → p < length node → v ≢ 0 → IsFilledBelow node p → (IsPartOf c node → ⊥) → IsPartOf c (set node p v) → EndsAt (pair_number p v) c
ends_new node p v c within some filled not part = inr (p, v, refl, record { value = value; some = some; greatest = greatest })
  where
    greatest : (q : ℕ) → p < q → get_or c q 0 ≡ 0
    greatest q lt = ⊎_elim
        (λ (zero : get_or c q 0 ≡ 0). zero)
        (λ (has : get_or c q 0 ≢ 0).
        let there : get_or node q 0 ≡ get_or c q 0 = sym (get_or-set_other node p q v 0 (omega arith)) ∙ part q has in
        let low : q < p = (filled q).0 (λ zero. has (sym there ∙ zero)) in
        absurd (omega arith))
        (cases_eq (get_or c q 0) 0)

    value : get_or c p 0 ≡ v
    value = ⊎_elim
        (λ (zero : get_or c p 0 ≡ 0). absurd (not (λ q has. ⊎_elim
        (λ (same : q ≡ p). absurd (has (ap (λ (k : ℕ). get_or c k 0) same ∙ zero)))
        (λ (other : q ≢ p). sym (get_or-set_other node p q v 0 other) ∙ part q has)
        (cases_eq q p))))
        (λ (has : get_or c p 0 ≢ 0). sym (part p has) ∙ get_or-set_same node p v 0 within)
        (cases_eq (get_or c p 0) 0)

-- no position after the new one has a value
pub last_filled : (node : List ℕ) (p v q : ℕ) → IsFilledBelow node p → p < q → get_or (set node p v) q 0 ≡ 0
last_filled node p v q filled lt = get_or-set_other node p q v 0 (omega arith) ∙ ⊎_elim
    (λ (zero : get_or node q 0 ≡ 0). zero)
    (λ (some : get_or node q 0 ≢ 0). let low = (filled q).0 some in absurd (omega arith))
    (cases_eq (get_or node q 0) 0)

-- the branches that the number's pair leads to hold the rows in the node
pub found_trie : (rows : Rows) (node : List ℕ) (bs : List Branch) (k : ℕ) (found : Option ℕ) → IsTrie bs → IsHolding rows bs → IsStart node k → IsLeastBelow bs node k found → IsLeastFound rows (EndsAt k) node found
found_trie rows node bs k found trie holding start is = result found refl
  where
    root_part : (b : Branch) → slice_get bs k ≡ Some b → IsPartOf (pairs_of b) node
    root_part b there = ⊎_elim
        (λ (zero : k ≡ 0). subst (λ (xs : List ℕ). IsPartOf xs node) (sym (trie.empty b (ap (slice_get bs) (sym zero) ∙ there))) (λ q some. absurd (some (get_or-no_values q))))
        (λ (at : (p : ℕ) × (v : ℕ) × IsPair p v × (k ≡ pair_number p v) × (get_or node p 0 ≡ v)).
        let (p, v, pair, number, has) = at in
        let none : IsPartOf no_values node = λ q some. absurd (some (get_or-no_values q)) in
        let one : IsPartOf (set no_values p (get_or node p 0)) node = part_with no_values node p none in
        subst (λ (xs : List ℕ). IsPartOf xs node) (sym (trie.roots p v b pair (ap (slice_get bs) (sym number) ∙ there))) (subst (λ (x : ℕ). IsPartOf (set no_values p x) node) has one))
        start

    root : (j s : ℕ) → KeepsBelow bs node k j s → (row : Row) × (rows s ≡ Some row) × IsPartOf row.clause node
    root j s keeps =
        let (row, has, clause) = holding.sound j s keeps.branch keeps.there keeps.keeps in
        let (b, there) = first_branch j keeps.below keeps.branch keeps.there in
        (row, has, subst (λ (xs : List ℕ). IsPartOf xs node) (sym clause) (below_part bs trie node keeps.below b keeps.branch there keeps.there (root_part b there)))
      where
        first_branch : (j : ℕ) → Below bs node k j → (d : Branch) → slice_get bs j ≡ Some d → (b : Branch) × (slice_get bs k ≡ Some b)
        first_branch j itself d there = (d, there)
        first_branch j (under b e there some along at agrees rest) d last = (b, there)

    least : (t : ℕ) (other : Row) → rows t ≡ Some other → EndsAt k other.clause → IsPartOf other.clause node → (u : ℕ) × (found ≡ Some u) × (u ≤ t)
    least t other has kind part =
        let (j, s, keeps, le) = holding.complete t other k has kind in
        let wide : KeepsBelow bs node k j s = record { below = below_wider bs trie node other.clause part keeps.below; branch = keeps.branch; there = keeps.there; keeps = keeps.keeps } in
        let (u, at, low) = is.least j s wide in
        (u, at, omega arith)

    result : (o : Option ℕ) → found ≡ o → IsLeastFound rows (EndsAt k) node o
    result None at = λ s row has kind part. let (u, there, le) = least s row has kind part in none-some u (sym at ∙ there)
    result (Some s) at =
        let (j, keeps) = is.kept s at in
        let (row, has, inside) = root j s keeps in
        record { row = row; has = has; inside = inside; least = λ t other there kind part. let (u, e, le) = least t other there kind part in let same = same_Some s u (sym at ∙ e) in omega arith }

-- what excludes a node leaves it not open
pub excluded_not_open : (f : Framed) (rows : Rows) (node : List ℕ) (p v : ℕ) (cite : Cite) → IsExcludedBy f rows node p v cite → IsOpenAt f rows node p v → ⊥
excluded_not_open f rows node p v Nothing is open_at = is
excluded_not_open f rows node p v (Test x) is open_at = open_at.0 x is.needs is.fails
excluded_not_open f rows node p v (Slot s) is open_at = open_at.1 s is.1.row is.1.has is.1.inside

module _ (f : Framed) (rows : Rows) (node : List ℕ) (p v : ℕ) where
  -- a set that fails excludes
  pub excluded_by_test : (x : List ℕ) → IsFirstFailingAt f (set node p v) p x → IsNone (Some (Test x)) ↔ IsOpenAt f rows node p v
  excluded_by_test x is = ((λ e. absurd (true≢false e)), (λ open_at. absurd (excluded_not_open f rows node p v (Test x) is open_at)))

  -- where none fails the rows decide
  pub excluded_by_rows : (found : Option ℕ) → NoneFailsAt f (set node p v) p → (IsNone found ↔ NothingInside rows (set node p v)) → IfSome found (IsLeastInside rows (set node p v)) →
      (IsNone (cite_of found) ↔ IsOpenAt f rows node p v) × IfSome (cite_of found) (IsExcludedBy f rows node p v)
  excluded_by_rows None none iff least = (((λ e. (none, iff.0 refl)), (λ open_at. refl)), tt)
  excluded_by_rows (Some s) none iff least = (((λ e. absurd (true≢false e)), (λ open_at. absurd (true≢false (iff.1 open_at.1)))), (none, least))

  -- where none fails and nothing is in the node, the rows with the new pair decide
  pub excluded_by_new : (found : Option ℕ) → p < length node → 0 < v → IsFilledBelow node p → NothingInside rows node → NoneFailsAt f (set node p v) p → IsLeastFound rows (EndsAt (pair_number p v)) (set node p v) found →
      (IsNone (cite_of found) ↔ IsOpenAt f rows node p v) × IfSome (cite_of found) (IsExcludedBy f rows node p v)
  excluded_by_new found within some filled nothing none is =
      let all = found_all rows (set node p v) (EndsAt (pair_number p v)) found (λ s row has part. ends_new node p v row.clause within (omega arith) filled (nothing s row has) part) is in
      excluded_by_rows found none all.0 all.1
