-- the orbits of all forms are the orbits of the answer
use Rattle.std.proofs.Common.{ℕ, ◌≤◌, List, sym, ap, subst, length, arith, rules}
use Rattle.std.specs.Prelude.{All}
use Rattle.mr_class.specs.Forms.{IsForm}
use Rattle.mr_auto.specs.declared.orbit.Orbit.{Orbit}
use Rattle.matrep.specs.Private.Listing.{AppendsOrbits}
use Rattle.matrep.proofs.Listed.{least_forms, few_orbits, orbits_listed}
use Rattle.matrep.proofs.listing.list_orbits.Goals as goal

pub overflow_cast-list : goal.overflow_cast-list
overflow_cast-list c =
    let few : length c.in_ok-found.found ≤ 200000 = few_orbits c.args.frame.now c.args.forms.now c.in_ok-found.found c.requires c.in_ok-found.ensures.orbits in
    let same = ap length c.as_slice-list.ensures in
    omega arith

pub put_orbits-requires : goal.put_orbits-requires
put_orbits-requires c =
    subst (All (λ (o : Orbit). IsForm c.args.frame.now o.least)) (sym c.as_slice-list.ensures) (least_forms c.args.frame.now c.args.forms.now c.in_ok-found.found c.requires c.in_ok-found.ensures.orbits)

pub returns-clause-text : goal.returns-clause-text
returns-clause-text c = λ nodes few.
    let f = c.args.frame.now in
    let forms = c.args.forms.now in
    let orbits = c.in_ok-found.found in
    orbits_listed f forms orbits c.requires c.in_ok-found.ensures.orbits nodes (length c.as_slice-list.result.now) c.new-text.result c.put_count.new.text c.put_orbits.new.text c.basis-basis.ensures.frame c.in_ok-found.ensures.each c.in_ok-found.ensures.sizes few
    (ap length c.as_slice-list.ensures) c.new-text.ensures c.in_ok-put_count.ensures
    (subst (λ (os : List Orbit). AppendsOrbits f os c.put_count.new.text c.put_orbits.new.text) c.as_slice-list.ensures c.in_ok-put_orbits.ensures)
