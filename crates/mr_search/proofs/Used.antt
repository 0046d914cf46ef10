-- The pairs of a node that cites rest on.
use Rattle.std.proofs.Common.{◌≡◌, ◌≢◌, ℕ, ◌+◌, ◌<◌, List, length, get_or, set, sym, ap, subst, ◌∙◌, ⊎_elim, arith, length-set, get_or-set_same, get_or-set_other}
use Rattle.std.proofs.lemmas.Bool.{cases_eq}
use Rattle.mr_assign.specs.Assign.{IsPartOf, no_values}
use Rattle.mr_assign.specs.declared.TheConstants.{POSITIONS}
use Rattle.mr_frame.specs.Frame.{Framed}
use Rattle.mr_nogood.specs.Follows.{Rows}
use Rattle.mr_nogood.specs.declared.row.Cite.{Cite}
use Rattle.mr_search.specs.Private.Citing.{IsUsed}
use Rattle.mr_search.proofs.Children.{part_none, empty_value, empty_length}

-- the clause has just the pairs of the node at the positions before n that are used
pub record HasUsedTo (f : Framed) (rows : Rows) (cites : List Cite) (node clause : List ℕ) (n : ℕ) : Type 0 where
  pub inside : IsPartOf clause node
  pub long : length clause ≡ POSITIONS
  pub used : (q : ℕ) → q < n → IsUsed f rows cites q → get_or clause q 0 ≡ get_or node q 0
  pub only : (q : ℕ) → get_or clause q 0 ≢ 0 → IsUsed f rows cites q

module _ (f : Framed) (rows : Rows) (cites : List Cite) (node : List ℕ) where
  -- at first it has none
  pub used_none : (clause : List ℕ) → clause ≡ no_values → HasUsedTo f rows cites node clause 0
  used_none clause is = record {
    inside = part_none clause node (empty_value clause is);
    long = empty_length clause is;
    used = λ q lt used. absurd (omega arith);
    only = λ q some. absurd (some (empty_value clause is q));
  }

  module _ (clause : List ℕ) (n : ℕ) (has : HasUsedTo f rows cites node clause n) where
    -- a pair that isn't used is left out
    pub used_past : ¬ (IsUsed f rows cites n) → HasUsedTo f rows cites node clause (n + 1)
    used_past not = record {
      inside = has.inside;
      long = has.long;
      used = λ q lt used. ⊎_elim (λ (same : q ≡ n). absurd (not (subst (IsUsed f rows cites) same used))) (λ (other : q ≢ n). has.used q (omega arith) used) (cases_eq q n);
      only = has.only;
    }

    -- one that is used is put in
    pub used_more : (v : ℕ) → n < POSITIONS → IsUsed f rows cites n → v ≡ get_or node n 0 → HasUsedTo f rows cites node (set clause n v) (n + 1)
    used_more v within uses is =
        let long = has.long in
        let here : get_or (set clause n v) n 0 ≡ v = get_or-set_same clause n v 0 (omega arith) in
        let else_at : (q : ℕ) → q ≢ n → get_or (set clause n v) q 0 ≡ get_or clause q 0 = λ q other. get_or-set_other clause n q v 0 other in
        record {
          inside = λ q some. ⊎_elim
              (λ (same : q ≡ n). ap (λ (i : ℕ). get_or node i 0) same ∙ sym is ∙ sym here ∙ ap (λ (i : ℕ). get_or (set clause n v) i 0) (sym same))
              (λ (other : q ≢ n). has.inside q (λ none. some (else_at q other ∙ none)) ∙ sym (else_at q other))
              (cases_eq q n);
          long = length-set clause n v ∙ has.long;
          used = λ q lt used. ⊎_elim
              (λ (same : q ≡ n). ap (λ (i : ℕ). get_or (set clause n v) i 0) same ∙ here ∙ is ∙ ap (λ (i : ℕ). get_or node i 0) (sym same))
              (λ (other : q ≢ n). else_at q other ∙ has.used q (omega arith) used)
              (cases_eq q n);
          only = λ q some. ⊎_elim
              (λ (same : q ≡ n). subst (IsUsed f rows cites) (sym same) uses)
              (λ (other : q ≢ n). has.only q (λ none. some (else_at q other ∙ none)))
              (cases_eq q n);
        }
