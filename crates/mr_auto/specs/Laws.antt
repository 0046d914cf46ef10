-- What holds of the images of every form, and of orbits.
use Rattle.std.specs.Prelude.{◌≡◌, ◌↔◌, ℕ, List, Contains, map}
use Rattle.std.specs.List.{AllZip}
use Rattle.mr_field.specs.Gf.{Gf}
use Rattle.mr_linear.specs.Matrix.{Grid}
use Rattle.mr_frame.specs.Frame.{Framed, IsFrame}
use Rattle.mr_frame.specs.Test.{IsFilledBy}
use Rattle.mr_class.specs.Forms.{IsForm}
use Rattle.mr_auto.specs.declared.orbit.Orbit.{Orbit}
use Rattle.mr_auto.specs.Images.{image, image_of_matrix}
use Rattle.mr_auto.specs.Orbits.{leasts, AreOrbits, AreOrbitsOfAnswer}

-- the images of a form are forms
abbrev pub ImagesAreForms : Type 0
ImagesAreForms = (f : Framed) (c : List ℕ) (k : ℕ) → IsFrame f → IsForm f c → IsForm f (image f.field k c)

-- the image of an assignment fills the image of its matrix
abbrev pub ImagesFillImages : Type 0
ImagesFillImages = (f : Framed) (c : List ℕ) (g : Grid) (k : ℕ) → IsFrame f → IsFilledBy f c g → IsFilledBy f (image f.field k c) (image_of_matrix k g)

-- the least matrices of the orbits of all forms, and the sizes of these orbits, are the orbits of the answer
abbrev pub OrbitsOfFormsAreOrbitsOfMatrices : Type 0
OrbitsOfFormsAreOrbitsOfMatrices =
    (f : Framed) (forms : List (List ℕ)) (orbits : List Orbit) (matrices : List Grid) →
    IsFrame f → ((c : List ℕ) → Contains forms c ↔ IsForm f c) → AreOrbits f.field forms orbits → AllZip (IsFilledBy f) (leasts orbits) matrices →
    AreOrbitsOfAnswer f.matroid f.field matrices (map (λ o. o.size) orbits)

-- forms have one list of orbits
abbrev pub OneListOfOrbits : Type 0
OneListOfOrbits = (f : Gf) (forms : List (List ℕ)) (a b : List Orbit) → AreOrbits f forms a → AreOrbits f forms b → a ≡ b
