-- a list is one number, or a number and a list
use Rattle.std.proofs.Common.{◌≡◌, ℕ, ◌+◌, ◌*◌, ◌%◌, List, ◌∷◌, ◌++◌, sym, subst, ◌∙◌, arith}
use Rattle.std.specs.Prelude.{◌^◌, bit_or}
use Rattle.std.proofs.lemmas.Fmt.{decimal_injective}
use Rattle.mr_set.specs.Elements.{elements_below}
use Rattle.matrep.specs.Private.Operands.{IsListFrom}
use Rattle.matrep.proofs.Lists.{one_from, more_from, lone_number, split_list, lone_bit, front_bit}
use Rattle.matrep.proofs.values.+elements_from.Goals as goal

pub returns-in-None-element_in : goal.returns-in-None-element_in
returns-in-None-element_in t c = λ xs are.
    let found = lone_number c.args.low c.args.text.now xs c.in-None.ensures are in
    c.in-None-element_in.ensures found.0 found.1 found.2 found.3

pub returns-in-Some-element_in : goal.returns-in-Some-element_in
returns-in-Some-element_in t c =
    let e = c.in-Some-element_in.e in
    let is = c.in-Some-element_in.ensures in
    subst (λ (xs : List ℕ). IsListFrom c.args.low c.args.text.now xs) (sym (lone_bit e is.1)) (one_from c.args.low e c.args.text.now is.0 is.1 is.2)

pub returns-in-None-element_in-2 : goal.returns-in-None-element_in-2
returns-in-None-element_in-2 t c = λ xs are.
    let parts = split_list c.args.low c.args.text.now c.in-Some.parts.0.now c.in-Some.parts.1.now xs c.in-Some.ensures.0 c.in-Some.ensures.1 are in
    c.in-None-element_in-2.ensures parts.0 parts.2 parts.3 parts.4

pub returns-in-None-elements_from : goal.returns-in-None-elements_from
returns-in-None-elements_from t c = λ xs are.
    let is = c.in-Some-element_in-2.ensures in
    let parts = split_list c.args.low c.args.text.now c.in-Some.parts.0.now c.in-Some.parts.1.now xs c.in-Some.ensures.0 c.in-Some.ensures.1 are in
    let small = is.1 in
    let low = parts.3 in
    let same : parts.0 ≡ c.in-Some-element_in-2.e = decimal_injective parts.0 c.in-Some-element_in-2.e (omega (arith, low)) (omega (arith, small)) (sym parts.4 ∙ is.2) in
    c.in-None-elements_from.ensures parts.1 (subst (λ (e : ℕ). IsListFrom (e + 1) c.in-Some.parts.1.now parts.1) same parts.5)

pub returns-in-Some-elements_from : goal.returns-in-Some-elements_from
returns-in-Some-elements_from t c =
    let e = c.in-Some-element_in-2.e in
    let is = c.in-Some-element_in-2.ensures in
    let others = c.in-Some-elements_from.others in
    let rest = c.in-Some-elements_from.ensures in
    subst (λ (text : List ℕ). IsListFrom c.args.low text (elements_below 64 (bit_or others (1 * 2 ^ e % 2 ^ 64)))) (sym c.in-Some.ensures.0)
    (subst (λ (xs : List ℕ). IsListFrom c.args.low (c.in-Some.parts.0.now ++ 44 ∷ c.in-Some.parts.1.now) xs) (sym (front_bit others e c.args.low c.in-Some.parts.1.now is.1 rest)) (more_from c.args.low e c.in-Some.parts.0.now c.in-Some.parts.1.now (elements_below 64 others) is.0 is.1 is.2 rest))
