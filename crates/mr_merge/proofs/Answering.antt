-- The matrices of all forms are the answer.
use Rattle.std.proofs.Common.{◌≡◌, ℕ, List, [], ◌∷◌, subst}
use Rattle.std.specs.Prelude.{Contains}
use Rattle.std.specs.List.{AllZip}
use Rattle.mr_set.proofs.Ordered.{member_first, member_later}
use Rattle.mr_linear.specs.Matrix.{Grid}
use Rattle.mr_frame.specs.Frame.{Framed, IsFrame}
use Rattle.mr_frame.specs.Test.{IsFilledBy}
use Rattle.mr_frame.proofs.Filled.{assignments_fill}
use Rattle.mr_frame.proofs.OneVerdict.{one_filled_matrix}
use Rattle.mr_class.specs.Forms.{IsForm}
use Rattle.mr_class.proofs.FormsAndMatrices.{matrix_in, form_in, matrices_rise}
use Rattle.mr_class.proofs.LawsOfForms.{each_has_one_form, forms_are_members, members_come_from_one_form}
use Rattle.mr_merge.specs.Laws.{FormsGiveTheAnswer, FormsHaveMatrices, NoFormNoRepresentation}

-- the matrices of all forms, in order, are the answer
pub forms_give_the_answer : FormsGiveTheAnswer
forms_give_the_answer f forms answer frame all zip = record {
  increasing = matrices_rise f frame forms answer zip (λ d inside. (all.exactly d).0 inside) all.increasing;
  exactly = λ g. (
    (λ inside. (let found = form_in f forms answer zip g inside in forms_are_members f found.0 g frame ((all.exactly found.0).0 found.1) found.2)),
    λ member.
        let source = members_come_from_one_form f g frame member in
        let found = matrix_in f forms answer zip source.form ((all.exactly source.form).1 source.is) in
        let same : found.0 ≡ g = one_filled_matrix f source.form found.0 g found.2 source.filled in
        subst (Contains answer) same found.1,
  );
}

-- forms have matrices, one by one
fill_all : (f : Framed) → IsFrame f → (forms : List (List ℕ)) → ((c : List ℕ) → Contains forms c → IsForm f c) → (answer : List Grid) × AllZip (IsFilledBy f) forms answer
fill_all f frame [] is = ([], tt)
fill_all f frame (c ∷ cs) is =
    let here = assignments_fill f c frame (is c (member_first c cs)).assignment in
    let rest = fill_all f frame cs (λ d inside. is d (member_later c cs d inside)) in
    (here.0 ∷ rest.0, (here.1, rest.1))

-- each list of forms has its matrices
pub forms_have_matrices : FormsHaveMatrices
forms_have_matrices f forms frame all = fill_all f frame forms (λ c inside. (all.exactly c).0 inside)

-- where there is no form, no matrix represents the matroid
pub no_form_no_representation : NoFormNoRepresentation
no_form_no_representation f frame none a size represents =
    let form = each_has_one_form f a frame size represents in
    none form.form form.is.is_form
