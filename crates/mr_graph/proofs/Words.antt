-- Edges as bits of words.
use Rattle.std.proofs.Common.{◌≡◌, ◌≢◌, ℕ, zero, suc, ◌*◌, ◌%◌, ◌^◌, ◌<◌, ◌⊎◌, ◌↔◌, List, length, set, get_or, replicate, refl, sym, ap, ◌∙◌, inl, inr, ⊎_elim, arith, get_or-set_same, get_or-set_other}
use Rattle.std.specs.Prelude.{bit_or}
use Rattle.std.specs.Int.{bit_at, w64}
use Rattle.std.proofs.lemmas.Bool.{cases_eq}
use Rattle.std.proofs.lemmas.Nat.Bits.{bit_at-zero, bit_at_set_same, bit_at_set_other}
use Rattle.mr_graph.specs.Graph.{Graph, IsEdge}

-- a list of zeros has 0 everywhere
get_or-zeros : (n i : ℕ) → ◌≡◌ {A = ℕ} (get_or (replicate n 0) i 0) 0
get_or-zeros zero i = refl
get_or-zeros (suc n) zero = refl
get_or-zeros (suc n) (suc i) = get_or-zeros n i

-- the graph of so many rows and columns, and these words
abbrev pub graph : ℕ → ℕ → List ℕ → Graph
graph rows cols ws = record { rows = rows; cols = cols; columns = ws }

-- empty words have no edge
pub no_edge : (rows cols n i e : ℕ) → IsEdge (graph rows cols (replicate n 0)) i e → ⊥
no_edge rows cols n i e x =
    let none : bit_at (get_or (replicate n 0) i 0) e ≡ 0 = ap (λ w. bit_at w e) (get_or-zeros n i) ∙ bit_at-zero e in
    let one = x.set in
    absurd (omega arith)

-- the words with the bit of an edge
abbrev pub words_with : List ℕ → ℕ → ℕ → List ℕ
words_with ws r c = set ws r (bit_or (get_or ws r 0) (1 * 2 ^ c % 2 ^ 64))

-- one more bit is one more edge
pub edge_with : (rows cols : ℕ) (ws : List ℕ) (r c : ℕ) → r < rows → c < cols → r < length ws → c < 64 → (i e : ℕ) →
    IsEdge (graph rows cols (words_with ws r c)) i e ↔ (IsEdge (graph rows cols ws) i e ⊎ ((i ≡ r) × (e ≡ c)))
edge_with rows cols ws r c rlt clt within small i e = (
  λ x. elim (cases_eq i r) [
    | inl same ↦ elim (cases_eq e c) [
      | inl here ↦ inr (same, here)
      | inr other ↦ inl (record {
        row = x.row;
        col = x.col;
        set = ap (λ k. bit_at (get_or ws k 0) e) same ∙ sym (bit_at_set_other w64 (get_or ws r 0) c small e other) ∙ sym (at_row same) ∙ x.set;
      })
    ]
    | inr other ↦ inl (record { row = x.row; col = x.col; set = sym (at_other other) ∙ x.set })
  ],
  λ s. ⊎_elim
      (λ (x : IsEdge (graph rows cols ws) i e). elim (cases_eq i r) as (λ _. IsEdge (graph rows cols (words_with ws r c)) i e) [
        | inl same ↦ elim (cases_eq e c) as (λ _. IsEdge (graph rows cols (words_with ws r c)) i e) [
          | inl here ↦ new same here
          | inr other ↦ record {
            row = x.row;
            col = x.col;
            set = at_row same ∙ bit_at_set_other w64 (get_or ws r 0) c small e other ∙ sym (ap (λ k. bit_at (get_or ws k 0) e) same) ∙ x.set;
          }
        ]
        | inr other ↦ record { row = x.row; col = x.col; set = at_other other ∙ x.set }
      ])
      (λ (p : (i ≡ r) × (e ≡ c)). new p.0 p.1) s,
)
  where
    at_row : i ≡ r → bit_at (get_or (words_with ws r c) i 0) e ≡ bit_at (bit_or (get_or ws r 0) (1 * 2 ^ c % 2 ^ 64)) e
    at_row same = ap (λ k. bit_at (get_or (words_with ws r c) k 0) e) same ∙ ap (λ w. bit_at w e) (get_or-set_same ws r (bit_or (get_or ws r 0) (1 * 2 ^ c % 2 ^ 64)) 0 within)

    at_other : i ≢ r → bit_at (get_or (words_with ws r c) i 0) e ≡ bit_at (get_or ws i 0) e
    at_other other = ap (λ w. bit_at w e) (get_or-set_other ws r i (bit_or (get_or ws r 0) (1 * 2 ^ c % 2 ^ 64)) 0 other)

    new : i ≡ r → e ≡ c → IsEdge (graph rows cols (words_with ws r c)) i e
    new same here = record {
      row = omega arith;
      col = omega arith;
      set = at_row same ∙ ap (bit_at (bit_or (get_or ws r 0) (1 * 2 ^ c % 2 ^ 64))) here ∙ bit_at_set_same w64 (get_or ws r 0) c small;
    }
