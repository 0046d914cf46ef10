-- Parts from the front of a text that are appended.
use Rattle.std.proofs.Common.{◌≡◌, ℕ, ◌+◌, List, [], ◌∷◌, ◌++◌, length, take, refl, sym, ap, ◌∙◌, append-nil, append_assoc, zero, suc}
use Rattle.std.proofs.Math.Seq.{take-append_seam, take-append-add}
use Rattle.mr_text.specs.Text.{AppendsPrefix}

-- nothing of it was appended
pub none_appended : (old new text : List ℕ) → new ≡ old → AppendsPrefix old new text
none_appended old new text is = (0, is ∙ sym (append-nil old))

-- all of it was appended, and something may follow in the text
pub all_appended : (old new front rest : List ℕ) → new ≡ old ++ front → AppendsPrefix old new (front ++ rest)
all_appended old new front rest is = (length front, is ∙ ap (λ z. old ++ z) (sym (take-append_seam front rest)))

-- a part of what follows was appended after all of the front
pub more_appended : (old mid new front rest : List ℕ) → mid ≡ old ++ front → AppendsPrefix mid new rest → AppendsPrefix old new (front ++ rest)
more_appended old mid new front rest is later =
    (length front + later.0, later.1 ∙ ap (λ z. z ++ take later.0 rest) is ∙ append_assoc old front (take later.0 rest) ∙ ap (λ z. old ++ z) (sym (take-append-add front rest later.0)))

-- a part of the front was appended, and something may follow in the text
pub part_appended : (old new front rest : List ℕ) → AppendsPrefix old new front → AppendsPrefix old new (front ++ rest)
part_appended old new front rest is = let part = take_within is.0 front rest in (part.0, is.1 ∙ ap (λ z. old ++ z) part.1)
  where
    take_within : (n : ℕ) (a b : List ℕ) → (m : ℕ) × (take n a ≡ take m (a ++ b))
    take_within zero a b = (0, refl)
    take_within (suc n) [] b = (0, refl)
    take_within (suc n) (x ∷ a) b = let more = take_within n a b in (suc more.0, ap (λ z. x ∷ z) more.1)
