-- Enough nodes suffice, and how many are enough is told of each matroid.
use Rattle.std.proofs.Common.{◌≡◌, ◌⊎◌, ℕ, ◌+◌, ◌≤◌, List, length, refl, sym, ap, subst, ◌∙◌, inl, inr, arith}
use Rattle.std.specs.Prelude.{min}
use Rattle.mr_field.specs.Gf.{Gf, order}
use Rattle.mr_set.specs.Matroid.{Presentation}
use Rattle.mr_frame.specs.Frame.{Framed}
use Rattle.mr_frame.proofs.OneFrame.{one_frame}
use Rattle.mr_class.proofs.SomeFrame.{matroids_have_frames}
use Rattle.mr_file.proofs.Accepting.{one_file}
use Rattle.mr_search.specs.Nodes.{IsNode, HoldsOfMany, enough}
use Rattle.mr_search.proofs.Needing.{at_most}
use Rattle.mr_search.proofs.Enough.{there_is_a_need, need_is_at_most_enough}
use Rattle.matrep.specs.Solving.{HasMoreNodes}
use Rattle.matrep.specs.Laws.{IsNeedOf, IsEnoughFor, EnoughNodesSuffice, PowersSuffice, MatroidsHaveNeeds}
use Rattle.matrep.specs.declared.outcome.Exit.TheVariants.{Refused, Stopped}
use Rattle.matrep.specs.declared.outcome.Fault.{Fault}
use Rattle.matrep.specs.declared.outcome.Fault.TheVariants.{TooLong}
use Rattle.matrep.proofs.OneAnswer.{same_field}
use Rattle.matrep.proofs.Solved.{solved_stopped}

-- a refusal isn't the exit of a stop
not_stopped : (opened : ℕ) (fault : Fault) → Stopped opened ≡ Refused fault → ⊥
not_stopped opened fault is = cc

-- more nodes than there are can't be opened
too_many : (f g : Gf) (m k : Presentation) (nodes split need : ℕ) → HasMoreNodes g k nodes split → g ≡ f → k ≡ m → IsNeedOf f m split need → need ≤ nodes → ⊥
too_many f g m k nodes split need more field file needs le =
    let same : more.frame ≡ needs.frame = one_frame more.frame needs.frame more.is_frame.frame needs.is_frame.frame (more.is_frame.matroid ∙ file ∙ sym needs.is_frame.matroid) (more.is_frame.over ∙ field ∙ sym needs.is_frame.over) in
    let many = subst (λ (h : Framed). HoldsOfMany (IsNode h (min split (length h.places))) (nodes + 1)) same more.more in
    let most = at_most (IsNode needs.frame (min split (length needs.frame.places))) (nodes + 1) need many needs.need in
    omega arith

-- enough nodes suffice
pub enough_nodes_suffice : EnoughNodesSuffice
enough_nodes_suffice q workers nodes split opened need orbits f m bytes text over file needs le (inl long) = not_stopped opened TooLong long.1
enough_nodes_suffice q workers nodes split opened need orbits f m bytes text over file needs le (inr (few, (g, size, inr refused))) = not_stopped opened refused.0 refused.2
enough_nodes_suffice q workers nodes split opened need orbits f m bytes text over file needs le (inr (few, (g, size, inl (k, other, solves)))) =
    too_many f g m k nodes split need (solved_stopped g nodes split opened orbits k text solves).more (same_field g f (size ∙ sym over))
    (one_file k m other.matroid.presentation file.matroid.presentation other.limits file.limits (sym other.text ∙ file.text)) needs le

-- the frame's need, no more than the powers add up to
need_of : (f : Gf) (m : Presentation) (split e : ℕ) → IsEnoughFor f m split e → (n : ℕ) × IsNeedOf f m split n × (n ≤ e)
need_of f m split e powers =
    let frame = powers.frame in
    let depth = min split (length frame.places) in
    let low : depth ≤ length frame.places = omega arith in
    let need = there_is_a_need frame depth powers.is_frame.frame low in
    let most = need_is_at_most_enough frame depth need.0 powers.is_frame.frame low need.1 in
    let sum : enough (order frame.field) (length frame.places) depth ≡ e = ap (λ (g : Gf). enough (order g) (length frame.places) depth) powers.is_frame.over ∙ sym powers.is in
    (need.0, record { frame = frame; is_frame = powers.is_frame; need = need.1 }, omega arith)

-- so as many nodes as the powers add up to suffice
pub powers_suffice : PowersSuffice
powers_suffice q workers nodes split opened e orbits f m bytes text over file powers le =
    let need = need_of f m split e powers in
    let most = need.2 in
    enough_nodes_suffice q workers nodes split opened need.0 orbits f m bytes text over file need.1 (omega arith)

-- and both numbers are there for each matroid
pub matroids_have_needs : MatroidsHaveNeeds
matroids_have_needs f m split matroid limits =
    let given = matroids_have_frames m f matroid limits in
    let frame = given.0 in
    let powers : IsEnoughFor f m split (enough (order f) (length frame.places) (min split (length frame.places))) = record { frame = frame; is_frame = given.1; is = refl } in
    let need = need_of f m split (enough (order f) (length frame.places) (min split (length frame.places))) powers in
    (need.0, enough (order f) (length frame.places) (min split (length frame.places)), need.1, powers, need.2)
