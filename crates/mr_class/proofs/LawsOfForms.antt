-- Each representation has one form, forms are members, and members come from one form.
use Rattle.std.proofs.Common.{ℕ, ◌≡◌, List, sym, subst, ◌∙◌}
use Rattle.mr_linear.specs.Matrix.{Grid}
use Rattle.mr_linear.specs.Operations.{AreEquivalent}
use Rattle.mr_linear.specs.Representation.{Represents, IsChosen}
use Rattle.mr_linear.proofs.Leads.{leads-shape}
use Rattle.mr_linear.proofs.Undo.{equivalent-sym}
use Rattle.mr_linear.proofs.Unique.{identity-standard, one-chosen}
use Rattle.mr_frame.specs.Frame.{Framed, IsFrame}
use Rattle.mr_frame.specs.Test.{IsFilledBy}
use Rattle.mr_class.specs.Forms.{HasOnes, IsForm, IsFormOf}
use Rattle.mr_class.specs.Laws.{EachRepresentationHasOneForm, FormsAreMembers, MembersComeFromOneForm, ChosenMatricesHaveOnes}
use Rattle.mr_class.specs.Private.Scaling.{IsScaledOn}
use Rattle.mr_class.proofs.Classes.{equivalence-trans, scaled, scaled-same, ones-chosen}
use Rattle.mr_class.proofs.Failing.{represents-from_none}
use Rattle.mr_class.proofs.Reading.{reading, read_off, filled-ones, assignments_same, reading-filled, reading-form}

-- each representation has one form
pub each_has_one_form : EachRepresentationHasOneForm
each_has_one_form f a frame field rep = record {
  form = reading f.places c;
  is = record {
    is_form = reading-form f frame c is c_field (reading f.places c) (read_off f frame c);
    matrix = c;
    filled = reading-filled f frame c is c_field (reading f.places c) (read_off f frame c);
    equivalent = to;
  };
  only = λ d h. only d h;
}
  where
    c : Grid
    c = (scaled f.matroid f.basis frame.basis f.forest frame.forest a rep).0

    to : AreEquivalent a c
    to = (scaled f.matroid f.basis frame.basis f.forest frame.forest a rep).1

    is : IsScaledOn f.matroid f.basis f.forest c
    is = (scaled f.matroid f.basis frame.basis f.forest frame.forest a rep).2

    c_field : c.field ≡ f.field
    c_field = (leads-shape to.0 a c rep.fits.grid to.1).field ∙ field

    only : (d : List ℕ) → IsFormOf f d a → d ≡ reading f.places c
    only d h =
        let same : c ≡ h.matrix =
        scaled-same f.matroid f.basis frame.basis f.forest frame.forest c h.matrix is.represents is.identity is.ones h.filled.identity (filled-ones f frame d h.matrix h.filled)
        (equivalence-trans c a h.matrix (equivalent-sym a c rep.fits.grid to) h.equivalent) in
        let form = reading-form f frame c is c_field (reading f.places c) (read_off f frame c) in
        assignments_same f frame d (reading f.places c) c h.is_form.map form.map h.is_form.assignment form.assignment (subst (IsFilledBy f d) (sym same) h.filled)
        (reading-filled f frame c is c_field (reading f.places c) (read_off f frame c))

-- the matrix of a form is a member
pub forms_are_members : FormsAreMembers
forms_are_members f c g frame form filled = record {
  field = filled.field;
  chosen = ones-chosen f.matroid f.basis frame.basis f.forest frame.forest g rep filled.identity (filled-ones f frame c g filled);
  represents = rep;
}
  where
    rep : Represents g f.matroid
    rep = represents-from_none f frame c g filled form.full form.holds

-- a chosen matrix has ones on the forest
chosen-ones : (f : Framed) (a : Grid) → IsFrame f → Represents a f.matroid → IsChosen f.matroid a → HasOnes f.forest a
chosen-ones f a frame rep chosen =
    let c = scaled f.matroid f.basis frame.basis f.forest frame.forest a rep in
    let same : a ≡ c.0 = one-chosen f.matroid a c.0 chosen (ones-chosen f.matroid f.basis frame.basis f.forest frame.forest c.0 c.2.represents c.2.identity c.2.ones) c.1 in
    subst (HasOnes f.forest) (sym same) c.2.ones

-- a standard representation is chosen just where it has ones on the forest
pub chosen_have_ones : ChosenMatricesHaveOnes
chosen_have_ones f a frame rep standard = (
  (λ chosen. chosen-ones f a frame rep chosen),
  (λ ones. ones-chosen f.matroid f.basis frame.basis f.forest frame.forest a rep (identity-standard f.matroid a f.basis standard frame.basis) ones),
)

-- each member comes from one form
pub members_come_from_one_form : MembersComeFromOneForm
members_come_from_one_form f g frame member = record {
  form = reading f.places g;
  is = form;
  filled = filled;
  only = λ c is fills. assignments_same f frame c (reading f.places g) g is.map form.map is.assignment form.assignment fills filled;
}
  where
    field : g.field ≡ f.field
    field = member.field

    is : IsScaledOn f.matroid f.basis f.forest g
    is = record {
      represents = member.represents;
      identity = identity-standard f.matroid g f.basis member.chosen.standard frame.basis;
      ones = chosen-ones f g frame member.represents member.chosen;
    }

    form : IsForm f (reading f.places g)
    form = reading-form f frame g is field (reading f.places g) (read_off f frame g)

    filled : IsFilledBy f (reading f.places g) g
    filled = reading-filled f frame g is field (reading f.places g) (read_off f frame g)
