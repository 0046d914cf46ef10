-- a label takes the number of its first place, or the next number
use Rattle.std.proofs.Common.{rules, ℕ, List, ◌≡◌, ◌≢◌, ◌<◌, ◌+◌, ap, sym, subst, ◌∙◌, length, get_or, take, arith}
use Rattle.std.proofs.lemmas.List.{get_or-take, get_or_default, length-take-le}
use Rattle.mr_graph.specs.Private.Components.{IsNumbered}
use Rattle.mr_graph.proofs.Numbering.{numbered_old, numbered_new}
use Rattle.mr_graph.proofs.components.number_next.Goals as goal

pub returns-in_ok-push-in-Some-clause-numbered : goal.returns-in_ok-push-in-Some-clause-numbered
returns-in_ok-push-in-Some-clause-numbered c =
    let ns : List ℕ = c.args.numbers.now.items in
    let n : c.len-n.result ≡ length ns = search rules in
    let short : length (take c.len-n.result c.args.labels.now) ≡ c.len-n.result = length-take-le c.len-n.result c.args.labels.now (omega arith) in
    let lt : c.in-Some.k < length ns = let l = c.in-Some.ensures.0 in omega arith in
    let found : get_or c.args.labels.now c.in-Some.k 0 ≡ get_or c.args.labels.now (length ns) 0 =
    sym (get_or-take c.len-n.result c.args.labels.now c.in-Some.k 0 (omega arith)) ∙ c.in-Some.ensures.1 ∙ ap (λ k. get_or c.args.labels.now k 0) n in
    let number : c.index-number.result.now ≡ get_or ns c.in-Some.k 0 = c.index-number.ensures ∙ get_or_default ns c.in-Some.k c.index-number.result.now 0 lt in
    subst (λ (xs : List ℕ). IsNumbered c.args.labels.now xs c.args.count (length ns + 1)) (sym c.in_ok-push-in-Some.ensures.items)
    (numbered_old c.args.labels.now ns c.args.count (length ns) c.in-Some.k c.requires.numbered lt found c.index-number.result.now number)

pub returns-in_ok-push-in-None-clause-numbered : goal.returns-in_ok-push-in-None-clause-numbered
returns-in_ok-push-in-None-clause-numbered c =
    let ns : List ℕ = c.args.numbers.now.items in
    let n : c.len-n.result ≡ length ns = search rules in
    let short : length (take c.len-n.result c.args.labels.now) ≡ c.len-n.result = length-take-le c.len-n.result c.args.labels.now (omega arith) in
    let none : (i : ℕ) → i < length ns → get_or c.args.labels.now i 0 ≢ get_or c.args.labels.now (length ns) 0 =
    λ i lt same. c.in-None.ensures i (omega arith)
    (get_or-take c.len-n.result c.args.labels.now i 0 (omega arith) ∙ same ∙ sym (ap (λ k. get_or c.args.labels.now k 0) n)) in
    subst (λ (xs : List ℕ). IsNumbered c.args.labels.now xs (c.args.count + 1) (length ns + 1)) (sym c.in_ok-push-in-None.ensures.items)
    (numbered_new c.args.labels.now ns c.args.count (length ns) c.requires.numbered none)
