-- cell by cell
use Rattle.std.proofs.Common.{◌≡◌, ◌≢◌, ◌<◌, ◌+◌, ◌*◌, ◌∙◌, get_or, length, length-set, get_or-set_same, get_or-set_other, arith, ⊎_elim}
use Rattle.std.proofs.lemmas.Bool.{cases_eq}
use Rattle.mr_linear.proofs.Working.{InField-set}
use Rattle.mr_linear.proofs.small.copy_rows.Goals as goal

pub loop-k-preserved : goal.loop-k-preserved
loop-k-preserved c =
    let xs = c.loop-k.copy in
    let k = c.loop-k.k in
    let v = get_or c.args.full.now k 0 in
    let size : length xs ≡ 1024 = c.loop-k.invariant.len in
    let within : k < length xs = omega arith in
    record {
      len = length-set xs k v ∙ size;
      same = λ x l. ⊎_elim
          (λ (p : x ≡ k). rw p (get_or-set_same xs k v 0 within))
          (λ (o : x ≢ k). get_or-set_other xs k x v 0 o ∙ c.loop-k.invariant.same x (omega arith))
          (cases_eq x k);
      elements = λ f whole was. InField-set f xs k v within (c.loop-k.invariant.elements f whole was) (whole k);
    }

pub returns-clause-same : goal.returns-clause-same
returns-clause-same c = λ i j il jl. c.loop-k.invariant.same (i * 32 + j) (omega arith)

pub returns-clause-elements : goal.returns-clause-elements
returns-clause-elements c = c.loop-k.invariant.elements

pub returns-clause-size : goal.returns-clause-size
returns-clause-size c =
    let size = c.loop-k.invariant.len in
    let was = c.requires.1 in
    omega arith
