-- The three numbers after the key.
use Rattle.std.proofs.Common.{◌∷◌, [], List, ℕ, sym, subst, codes, arith}
use Rattle.mr_matrix.specs.Private.Numbers.{AreNumbers}
use Rattle.mr_matrix.proofs.Headers.{front_found, header_numbers, shape_answer}
use Rattle.mr_matrix.proofs.header.shape_on.Goals as goal

pub returns-in-None-numbers : goal.returns-in-None-numbers
returns-in-None-numbers c = λ s header.
    c.in-None-numbers.ensures (c.args.q ∷ s.rows ∷ s.cols ∷ [])
    (header_numbers c.args.q c.args.line.now c.in-Some.words.now s (omega arith) (front_found c.args.line.now (codes "matrix ") c.in-Some.words.now c.in-Some.ensures.cases.0 c.in-Some.ensures.cases.1) header)

pub returns-in-Some-numbers : goal.returns-in-Some-numbers
returns-in-Some-numbers c =
    shape_answer c.args.q c.args.line.now c.in-Some.words.now c.as_slice.result.now c.named.result (omega arith) (front_found c.args.line.now (codes "matrix ") c.in-Some.words.now c.in-Some.ensures.cases.0 c.in-Some.ensures.cases.1)
    (subst (λ (w : List ℕ). AreNumbers 3 c.in-Some.words.now w) (sym c.as_slice.ensures.value) c.in-Some-numbers.ensures) c.named.ensures
