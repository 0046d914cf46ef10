-- From what a search over the frame of a plane ends with to what is told of the plane.
use Rattle.std.proofs.Common.{◌≡◌, ℕ, zero, suc, ◌≤◌, List, length, refl, sym, ap, subst, ◌∙◌, arith}
use Rattle.std.proofs.lemmas.Slice.Zip.{AllZip-long}
use Rattle.mr_field.specs.Gf.{Gf}
use Rattle.mr_set.specs.Matroid.{Presentation}
use Rattle.mr_set.specs.Subsets.{choose}
use Rattle.mr_set.specs.declared.TheConstants.{SETS}
use Rattle.mr_linear.specs.Matrix.{Grid}
use Rattle.mr_linear.specs.Representation.{Represents, IsAnswer}
use Rattle.mr_frame.specs.Frame.{Framed, IsFrame}
use Rattle.mr_frame.specs.Test.{IsFilledBy}
use Rattle.mr_log.specs.declared.log.Log.{Log}
use Rattle.mr_minor.proofs.Sizes.{choose-smaller}
use Rattle.mr_matrix.proofs.ColumnBases.{matrix-represents}
use Rattle.mr_exchange.specs.declared.TheConstants.{NODES}
use Rattle.mr_merge.proofs.Answering.{forms_give_the_answer, forms_have_matrices}
use Rattle.matrep.specs.Texts.{plane_line, stopped_text}
use Rattle.matrep.specs.Answering.{IsPlaneMatroid, CountsPlane}
use Rattle.matrep.specs.Solving.{IsOutOfNodes}
use Rattle.matrep.specs.Private.Searched.{AreForms, IsRefutedBy, IsSpentOn}
use Rattle.matrep.proofs.Solved.{refutes, out_of_nodes}

-- a plane has few sets of three points
pub few_triples : (n r : ℕ) → n ≤ 32 → r ≡ 3 → choose n r ≤ SETS
few_triples n r le three =
    let same : choose n r ≡ choose n 3 = ap (choose n) three in
    let most : choose 32 3 ≡ 4960 = refl in
    omega (arith, same, most, few n le)
  where
    few : (k : ℕ) → k ≤ 32 → choose k 3 ≤ choose 32 3
    few zero le = omega arith
    few (suc zero) le = omega arith
    few (suc (suc zero)) le = omega arith
    few (suc (suc (suc k))) le = choose-smaller (suc (suc (suc k))) 3 32 3 (omega arith) (omega arith) (omega arith) (omega arith)

module _ (f : Gf) (m : Presentation) (plane : IsPlaneMatroid f m) (frame : Framed) (is : IsFrame frame) (matroid : frame.matroid ≡ m) (over : frame.field ≡ f) where
  -- no log refutes its matroid, which its matrix represents
  pub plane_not_refuted : (log : Log) → IsRefutedBy frame NODES log → ⊥
  plane_not_refuted log refuted =
      (refutes frame NODES log (omega arith) is refuted).none plane.matrix (plane.plane.field ∙ sym over)
      (subst (λ (k : Presentation). Represents plane.matrix k) (sym matroid) (matrix-represents plane.matrix m plane.plane.grid plane.of_matrix))

  -- the forms are as many as the classes
  pub classes_counted : (forms : List (List ℕ)) (k : Presentation) (classes : ℕ) (text : List ℕ) → AreForms frame NODES forms → k ≡ frame.matroid → classes ≡ length forms → text ≡ plane_line f k.elements (length k.nonbases) classes → CountsPlane f text
  classes_counted forms k classes text all same size told =
      let made = forms_have_matrices frame forms is all.are in
      let answer : IsAnswer frame.matroid frame.field made.0 = forms_give_the_answer frame forms made.0 is all.are made.1 in
      record {
        plane = m;
        is_plane = plane;
        answer = made.0;
        is_answer = subst (λ (g : Gf). IsAnswer m g made.0) over (subst (λ (l : Presentation). IsAnswer l frame.field made.0) matroid answer);
        text_is = told ∙ ap (λ (l : Presentation). plane_line f l.elements (length l.nonbases) classes) (same ∙ matroid)
            ∙ ap (plane_line f m.elements (length m.nonbases)) (size ∙ sym (AllZip-long (IsFilledBy frame) forms made.0 made.1));
      }

  -- the search was stopped
  pub plane_stopped : (opened : ℕ) (text : List ℕ) → IsSpentOn frame NODES 0 opened → text ≡ stopped_text opened → (l : Presentation) × IsPlaneMatroid f l × IsOutOfNodes f l NODES 0 opened text
  plane_stopped opened text spent told =
      let out = out_of_nodes frame NODES 0 opened is spent in
      (m, plane, subst (λ (g : Gf). IsOutOfNodes g m NODES 0 opened text) over (subst (λ (l : Presentation). IsOutOfNodes frame.field l NODES 0 opened text) matroid (subst (λ (t : List ℕ). IsOutOfNodes frame.field frame.matroid NODES 0 opened t) (sym told) out)))
