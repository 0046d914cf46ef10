-- Each text stands for a value of a format or has a first fault.
use Rattle.std.proofs.Common.{◌≡◌, ℕ, ◌+◌, List, [], ◌∷◌, refl, sym, ap, ◌∙◌, inl, inr, Bool, true, false, ◌||◌}
use Rattle.std.specs.Prelude.{nat_eq, ◌⊎◌}
use Rattle.std.proofs.lemmas.Bool.Decides.{Decides-eqb}
use Rattle.mr_set.specs.Elements.{is_element}
use Rattle.mr_text.specs.Text.{Lacks, BeginsWith}
use Rattle.mr_text.specs.Format.{FirstFault, grammar, size, Format, done, line_of, IsLineOf, IsFirstFault, StandsFor, IsTextOf, IsFirstFaultOf}

-- a first line
record FirstLine (bytes : List ℕ) : Type 0 where
  line : List ℕ
  rest : List ℕ
  begins : BeginsWith bytes line rest

-- there is a first line that is ended, or no newline
next_line : (bytes : List ℕ) → Lacks 10 bytes ⊎ FirstLine bytes
next_line [] = inl refl
next_line (b ∷ bs) = by_test (nat_eq 10 b) refl (next_line bs)
  where
    by_test : (t : Bool) → nat_eq 10 b ≡ t → Lacks 10 bs ⊎ FirstLine bs → Lacks 10 (b ∷ bs) ⊎ FirstLine (b ∷ bs)
    by_test true e later = inr (record { line = []; rest = bs; begins = record { text = ap (λ c. c ∷ bs) (sym ((Decides-eqb 10 b).0 e)); whole = refl } })
    by_test false e (inl none) = inl (ap (λ t. t || is_element bs 10) e ∙ none)
    by_test false e (inr f) = inr (record { line = b ∷ f.line; rest = f.rest; begins = record { text = ap (λ w. b ∷ w) f.begins.text; whole = ap (λ t. t || is_element f.line 10) e ∙ f.begins.whole } })

-- lines have a fault or stand for a value
complete : {M X : Type 0} (format : Format M X) (number : ℕ) (bytes : List ℕ) → ((fault : FirstFault M) → IsFirstFault format number bytes fault → ⊥) → ((x : X) (rest : List ℕ) (next : ℕ) → StandsFor format number bytes x rest next → ⊥) → ⊥
complete (done x) number bytes sound none = none x bytes number (refl, refl, refl)
complete {M} {X} (line_of {A} table due) number bytes sound none = by_line (next_line bytes) (λ a rest h g. complete (due a) (number + 1) rest h g)
  where
    line_at : (f : FirstLine bytes) (a : A) → table.spells f.line a → IsLineOf table bytes a f.rest
    line_at f a spelled = record { line = f.line; begins = f.begins; spelled = spelled; fits = λ m large. sound (size number m) (inl (refl, record { line = f.line; rest = f.rest; value = a; begins = f.begins; spelled = spelled; exceeds = large })) }

    by_line : Lacks 10 bytes ⊎ FirstLine bytes → ((a : A) (rest : List ℕ) → ((fault : FirstFault M) → IsFirstFault (due a) (number + 1) rest fault → ⊥) → ((x : X) (r : List ℕ) (k : ℕ) → StandsFor (due a) (number + 1) rest x r k → ⊥) → ⊥) → ⊥
    by_line (inl short) on = sound (grammar number) (inl (refl, inl short))
    by_line (inr f) on = sound (grammar number) (inl (refl, inr (record { line = f.line; rest = f.rest; begins = f.begins; stray = λ a spelled. on a f.rest (λ fault h. sound fault (inr (a, f.rest, line_at f a spelled, h))) (λ x r k h. none x r k (a, f.rest, line_at f a spelled, h)) })))

-- a whole text stands for a value or has a fault
pub stands_or_is_at_fault : {M X : Type 0} (format : Format M X) (bytes : List ℕ) → ((fault : FirstFault M) → IsFirstFaultOf format bytes fault → ⊥) → ((x : X) → IsTextOf format bytes x → ⊥) → ⊥
stands_or_is_at_fault {M} {X} format bytes sound none = complete format 1 bytes (λ fault h. sound fault (inl h)) by_rest
  where
    by_rest : (x : X) (rest : List ℕ) (next : ℕ) → StandsFor format 1 bytes x rest next → ⊥
    by_rest x [] next h = none x (next, h)
    by_rest x (b ∷ bs) next h = sound (grammar next) (inr (x, b ∷ bs, next, h, (λ e. cc), refl))
