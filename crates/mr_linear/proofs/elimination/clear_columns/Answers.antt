-- the column is cleared or passed
use Rattle.std.proofs.Common.{ℕ, ◌≡◌, ◌∙◌, Some, refl, sym, subst, true}
use Rattle.std.specs.Prelude.{slice_get}
use Rattle.mr_set.specs.Elements.{is_element}
use Rattle.mr_set.proofs.Members.{Contains-from_element, is_element-from_Contains}
use Rattle.mr_set.proofs.Tests.{element-lt}
use Rattle.mr_set.proofs.Lowest.{first_inside, first_shorter}
use Rattle.mr_linear.proofs.Opening.{cleared-none, clear-zero, clear-more, none_left}
use Rattle.mr_linear.proofs.elimination.clear_columns.Goals as goal

pub loop-e-init : goal.loop-e-init
loop-e-init c = cleared-none c.args.field.now c.args.r c.args.n c.args.k c.args.columns c.args.w.now c.requires.shape.0 c.requires.elements

pub mul-requires-clause-first : goal.mul-requires-clause-first
mul-requires-clause-first c = c.loop-e.invariant.elements _

pub add_multiple-requires-clause-shape : goal.add_multiple-requires-clause-shape
add_multiple-requires-clause-shape c =
    let is : Some c.in-Some.e ≡ slice_get c.loop-e.left 0 = sym c.in-Some.is ∙ c.first.ensures.least in
    let inside : is_element c.args.columns c.in-Some.e ≡ true = c.loop-e.invariant.within c.in-Some.e (is_element-from_Contains c.loop-e.left c.in-Some.e (first_inside c.loop-e.left c.in-Some.e is)) in (
      c.loop-e.invariant.len,
      c.requires.shape.1,
      c.requires.shape.2,
      c.in-Some.ensures.bound,
      λ p. c.requires.outside (Contains-from_element c.args.columns c.args.n (subst (λ (j : ℕ). is_element c.args.columns j ≡ true) p inside)),
    )

pub add_multiple-requires-clause-elements : goal.add_multiple-requires-clause-elements
add_multiple-requires-clause-elements c = c.loop-e.invariant.elements

pub loop-e-smaller-then-entry-ne0 : goal.loop-e-smaller-then-entry-ne0
loop-e-smaller-then-entry-ne0 c = rw c.without-left.ensures (first_shorter c.loop-e.left c.in-Some.e (sym c.in-Some.is ∙ c.first.ensures.least))

pub loop-e-smaller : goal.loop-e-smaller
loop-e-smaller c = rw c.without-left.ensures (first_shorter c.loop-e.left c.in-Some.e (sym c.in-Some.is ∙ c.first.ensures.least))

pub loop-e-preserved-then-entry-ne0 : goal.loop-e-preserved-then-entry-ne0
loop-e-preserved-then-entry-ne0 c =
    let is : Some c.in-Some.e ≡ slice_get c.loop-e.left 0 = sym c.in-Some.is ∙ c.first.ensures.least in
    let here : is_element c.loop-e.left c.in-Some.e ≡ true = is_element-from_Contains c.loop-e.left c.in-Some.e (first_inside c.loop-e.left c.in-Some.e is) in
    let inside : is_element c.args.columns c.in-Some.e ≡ true = c.loop-e.invariant.within c.in-Some.e here in
    clear-more c.args.field.now c.args.r c.args.n c.args.k c.args.columns c.args.w.now c.loop-e.w c.loop-e.left c.without-left.result c.in-Some.e c.loop-e.invariant
    c.without-left.ensures here c.in-Some.ensures.bound c.add_multiple.new.w c.mul.result c.mul-scale.result c.requires.shape.2
    (λ p. c.requires.outside (Contains-from_element c.args.columns c.args.n (subst (λ (j : ℕ). is_element c.args.columns j ≡ true) p inside)))
    c.add_multiple.auto.w c.add_multiple.ensures.column c.add_multiple.ensures.others c.add_multiple.ensures.elements
    c.mul.ensures.value (c.mul-scale.ensures.value ∙ rw (c.neg.ensures.value, c.inv-inverse.ensures.value) refl)
    (λ j h. element-lt 32 c.args.columns c.mask-mask.ensures.set j h)

pub loop-e-preserved : goal.loop-e-preserved
loop-e-preserved c =
    let is : Some c.in-Some.e ≡ slice_get c.loop-e.left 0 = sym c.in-Some.is ∙ c.first.ensures.least in
    let here : is_element c.loop-e.left c.in-Some.e ≡ true = is_element-from_Contains c.loop-e.left c.in-Some.e (first_inside c.loop-e.left c.in-Some.e is) in
    clear-zero c.args.field.now c.args.r c.args.n c.args.k c.args.columns c.args.w.now c.loop-e.w c.loop-e.left c.without-left.result c.in-Some.e c.loop-e.invariant
    c.without-left.ensures here c.in-Some.ensures.bound c.if-entry-ne0.false

pub returns-clause-cleared : goal.returns-clause-cleared
returns-clause-cleared c = λ i j il inside.
    let none = none_left c.loop-e.left c.first.result c.first.ensures.least c.in_default.not-Some in
    c.loop-e.invariant.done i j il (is_element-from_Contains c.args.columns j inside) (rw none refl)

pub returns-clause-elements : goal.returns-clause-elements
returns-clause-elements c = c.loop-e.invariant.elements
