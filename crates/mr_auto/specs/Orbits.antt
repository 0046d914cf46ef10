-- The orbits of a list of forms.
use Rattle.std.specs.Prelude.{◌≡◌, ◌↔◌, ℕ, List, Contains, map}
use Rattle.std.specs.List.{AllZip}
use Rattle.std.specs.List.Sorted.{IsStrictlySortedBy}
use Rattle.mr_field.specs.Gf.{Gf, order}
use Rattle.mr_set.specs.Subsets.{list_cmp}
use Rattle.mr_set.specs.Matroid.{Presentation}
use Rattle.mr_linear.specs.Matrix.{Grid, grid_cmp}
use Rattle.mr_linear.specs.Representation.{IsMember}
use Rattle.mr_auto.specs.declared.orbit.Orbit.{Orbit}
use Rattle.mr_auto.specs.Images.{IsInOrbit, HasSize, IsLeast, HasMatrixSize, IsLeastMatrix}

-- the least members
abbrev pub leasts : List Orbit → List (List ℕ)
leasts orbits = map (λ o. o.least) orbits

-- for each of the forms that is the least member of its orbit one entry with the orbit's size, in increasing order
pub record AreOrbits (f : Gf) (forms : List (List ℕ)) (orbits : List Orbit) : Type 0 where
  pub increasing : IsStrictlySortedBy list_cmp (leasts orbits)
  pub exactly : (c : List ℕ) → Contains (leasts orbits) c ↔ (Contains forms c × IsLeast f c)
  pub sizes : (o : Orbit) → Contains orbits o → HasSize f o.least o.size

-- c is in the orbit of one of the entries, and of no other
pub record IsInOneOrbit (f : Gf) (orbits : List Orbit) (c : List ℕ) : Type 0 where
  pub orbit : Orbit
  pub listed : Contains orbits orbit
  pub inside : IsInOrbit f orbit.least c
  pub only : (o : Orbit) → Contains orbits o → IsInOrbit f o.least c → o ≡ orbit

-- The orbits of the answer of the matroid m over the field f: the members of the answer that are the least of their orbits, in
-- increasing order, and the sizes of these orbits.
pub record AreOrbitsOfAnswer (m : Presentation) (f : Gf) (leasts : List Grid) (sizes : List ℕ) : Type 0 where
  pub increasing : IsStrictlySortedBy grid_cmp leasts
  pub exactly : (g : Grid) → Contains leasts g ↔ (IsMember m f g × IsLeastMatrix g)
  pub sizes_are : AllZip HasMatrixSize leasts sizes
