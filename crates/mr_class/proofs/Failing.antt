-- A matrix that an assignment fills represents the matroid just where no set fails.
use Rattle.std.proofs.Common.{ℕ, ◌≡◌, ◌↔◌, List, sym, subst, ⊎_elim, inl, inr}
use Rattle.std.proofs.lemmas.Option.{slice_get_within}
use Rattle.mr_set.specs.Elements.{IsSet}
use Rattle.mr_set.specs.Subsets.{IsSetOf}
use Rattle.mr_set.specs.Matroid.{IsBasis, IsIndependent}
use Rattle.mr_linear.specs.Matrix.{Grid, AreIndependent, PartIsIndependent, PartIsDependent}
use Rattle.mr_linear.specs.Representation.{Represents}
use Rattle.mr_linear.proofs.LawsOfMatrices.{bases-decide, basis-from_independent, basis-independent}
use Rattle.mr_linear.proofs.Exchanges.{parts-decide}
use Rattle.mr_frame.specs.Frame.{Framed, IsFrame}
use Rattle.mr_frame.specs.Test.{IsFilledBy, IsFull, SetFails}
use Rattle.mr_frame.proofs.OneVerdict.{one_filled_matrix}
use Rattle.mr_class.proofs.Classes.{basis-columns}

module _ (f : Framed) (frame : IsFrame f) (c : List ℕ) (g : Grid) (filled : IsFilledBy f c g) where
  -- the columns of a set are independent just where its part's are
  parts : (x : List ℕ) → IsSet f.matroid.elements x → AreIndependent g x ↔ PartIsIndependent g f.basis x
  parts x s = parts-decide g f.basis x filled.fits.grid (basis-columns f.matroid f.basis frame.basis g filled.fits) filled.identity (subst (λ n. IsSet n x) (sym filled.fits.cols) s)

  -- where the matrix represents the matroid no set fails
  pub none_fails : Represents g f.matroid → (x : List ℕ) → SetFails f c x → ⊥
  none_fails r x h =
      let same : h.matrix ≡ g = one_filled_matrix f c h.matrix g h.filled filled in
      ⊎_elim
      (λ (p : (IsBasis f.matroid x → ⊥) × PartIsIndependent h.matrix f.basis x).
      p.0 (basis-from_independent f.matroid x h.size ((r.agrees x h.size.set).0 ((parts x h.size.set).1 (subst (λ (z : Grid). PartIsIndependent z f.basis x) same p.1)))))
      (λ (p : IsBasis f.matroid x × PartIsDependent h.matrix f.basis x).
      (parts x h.size.set).0 ((r.agrees x h.size.set).1 (basis-independent f.matroid x p.0)) (subst (λ (z : Grid). PartIsDependent z f.basis x) same p.1))
      h.fails

  -- where no set fails it represents the matroid
  pub represents-from_none : IsFull f c → ((x : List ℕ) → SetFails f c x → ⊥) → Represents g f.matroid
  represents-from_none full none = bases-decide f.matroid g frame.matroid (record { fits = filled.fits; agrees = λ x s. (there x s, back x s) })
    where
      there : (x : List ℕ) → IsSetOf f.matroid.elements f.matroid.rank x → AreIndependent g x → IsIndependent f.matroid x
      there x s independent = basis-independent f.matroid x (
        s,
        λ listed. none x (record {
          size = s;
          decided = λ p needs. full p (slice_get_within f.places p needs.place needs.is);
          matrix = g;
          filled = filled;
          fails = inl ((λ basis. basis.1 listed), (parts x s.set).0 independent);
        }),
      )

      back : (x : List ℕ) → IsSetOf f.matroid.elements f.matroid.rank x → IsIndependent f.matroid x → AreIndependent g x
      back x s independent = (parts x s.set).1 (λ dependent. none x (record {
        size = s;
        decided = λ p needs. full p (slice_get_within f.places p needs.place needs.is);
        matrix = g;
        filled = filled;
        fails = inr (basis-from_independent f.matroid x s independent, dependent);
      }))
