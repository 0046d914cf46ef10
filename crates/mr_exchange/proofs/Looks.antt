-- What a look shows is told by the head of the slot.
use Rattle.std.proofs.Common.{◌≡◌, ℕ, ◌^◌, ◌<◌, ◌↔◌, if◌then◌else◌, Option, Some, None, IfSome, refl, sym, ◌∙◌, subst, arith}
use Rattle.mr_nogood.specs.declared.row.Row.{Row}
use Rattle.mr_nogood.specs.Packing.{head_of}
use Rattle.mr_exchange.specs.declared.TheConstants.{SHORT}
use Rattle.mr_exchange.specs.declared.event.Look.{Look}
use Rattle.mr_exchange.specs.declared.event.Look.TheVariants.{Empty, Long, Short}
use Rattle.mr_exchange.specs.State.{pair_count, head_at}
use Rattle.mr_exchange.specs.Events.{seen}
use Rattle.mr_exchange.specs.Board.{pairs_shown}
use Rattle.mr_exchange.proofs.Holdings.{le_cases}

-- a slot is empty just where its head is 0
pub seen-Empty : (slot : ℕ) (found : Option Row) → (seen slot found ≡ Empty) ↔ (head_at found ≡ 0)
seen-Empty slot None = ((λ _. refl), λ _. refl)
seen-Empty slot (Some row) = (
  (λ e. absurd (le_cases (pair_count row.clause) SHORT (λ b. (if b then Short slot row else Long) ≡ Empty → ⊥) (λ _ h. cc) (λ _ h. cc) e)),
  λ (none : head_of row ≡ 0). absurd (omega arith),
)

-- a head shows how many pairs there are
pairs_of-head_of : (row : Row) → (row.rank < 2 ^ 32) × (row.at < 2 ^ 8) → pairs_shown (head_of row) ≡ pair_count row.clause
pairs_of-head_of row is = let rank = is.0 in let place = is.1 in omega arith

-- the clause of its row is long just where the head shows more pairs than that
pub seen-Long : (slot : ℕ) (found : Option Row) → IfSome found (λ row. (row.rank < 2 ^ 32) × (row.at < 2 ^ 8)) → (seen slot found ≡ Long) ↔ (SHORT < pairs_shown (head_at found))
seen-Long slot None is = ((λ (e : Empty ≡ Long). absurd cc), λ (more : SHORT < pairs_shown 0). absurd (omega arith))
seen-Long slot (Some row) is =
    let pairs = pairs_of-head_of row is in
    le_cases (pair_count row.clause) SHORT (λ b. ((if b then Short slot row else Long) ≡ Long) ↔ (SHORT < pairs_shown (head_of row)))
    (λ le. ((λ (e : Short slot row ≡ Long). absurd cc), λ (more : SHORT < pairs_shown (head_of row)). absurd (omega arith)))
    (λ lt. ((λ _. omega arith), λ _. refl))

-- the same of what a look answered and of the head that it loaded
pub shows_empty : (slot : ℕ) (found : Option Row) (look : Look) (head : ℕ) → look ≡ seen slot found → head ≡ head_at found → (look ≡ Empty) ↔ (head ≡ 0)
shows_empty slot found look head is loaded = let h = seen-Empty slot found in ((λ e. loaded ∙ h.0 (sym is ∙ e)), λ none. is ∙ h.1 (sym loaded ∙ none))

-- and of long clauses
pub shows_long : (slot : ℕ) (found : Option Row) → IfSome found (λ row. (row.rank < 2 ^ 32) × (row.at < 2 ^ 8)) → (look : Look) (head : ℕ) → look ≡ seen slot found → head ≡ head_at found → (look ≡ Long) ↔ (SHORT < pairs_shown head)
shows_long slot found row look head is loaded = let h = seen-Long slot found row in (
  (λ e. subst (λ (n : ℕ). SHORT < pairs_shown n) (sym loaded) (h.0 (sym is ∙ e))),
  λ more. is ∙ h.1 (subst (λ (n : ℕ). SHORT < pairs_shown n) loaded more),
)
