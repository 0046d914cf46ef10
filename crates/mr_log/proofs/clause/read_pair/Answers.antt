-- The two numbers round the colon.
use Rattle.std.proofs.Common.{sym, ap, ◌∙◌, ◌++◌, ◌∷◌}
use Rattle.std.specs.Prelude.{◌≡◌, Some, decimal}
use Rattle.mr_log.proofs.Pairs.{colon_parts, pair_text-parts}
use Rattle.mr_log.proofs.clause.read_pair.Goals as goal

pub returns-in-None-number : goal.returns-in-None-number
returns-in-None-number c p v sp sv is =
    let parts = colon_parts c.args.word.now c.in-Some.left.now c.in-Some.right.now p v (c.in-Some.ensures.0) (c.in-Some.ensures.1) sp is in
    let yes : c.number.result ≡ Some p = (c.number.ensures p).1 (sp, parts.0) in
    let none = c.in-None-number.is in cc

pub returns-in-None-number-2 : goal.returns-in-None-number-2
returns-in-None-number-2 c p v sp sv is =
    let parts = colon_parts c.args.word.now c.in-Some.left.now c.in-Some.right.now p v (c.in-Some.ensures.0) (c.in-Some.ensures.1) sp is in
    let yes : c.number-in-Some-number.result ≡ Some v = (c.number-in-Some-number.ensures v).1 (sv, parts.1) in
    let none = c.in-None-number-2.is in cc

pub returns-in-Some-number-2 : goal.returns-in-Some-number-2
returns-in-Some-number-2 c =
    let first = (c.number.ensures c.in-Some-number.p).0 c.in-Some-number.is in
    let second = (c.number-in-Some-number.ensures c.in-Some-number-2.v).0 c.in-Some-number-2.is in
    (first.0, second.0, c.in-Some.ensures.0 ∙ ap (λ w. w ++ 58 ∷ c.in-Some.right.now) first.1 ∙ ap (λ w. decimal c.in-Some-number.p ++ 58 ∷ w) second.1 ∙ sym (pair_text-parts c.in-Some-number.p c.in-Some-number-2.v))
