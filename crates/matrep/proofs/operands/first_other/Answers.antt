-- place by place
use Rattle.std.proofs.Common.{◌≡◌, ℕ, ◌<◌, ◌≤◌, true, List, length, take, sym, subst, arith}
use Rattle.matrep.specs.Words.{texts, IsOperand, AreOperands}
use Rattle.matrep.proofs.Scanning.{length-texts, before_right, few_before, operand_there, one_more}
use Rattle.matrep.proofs.operands.first_other.Goals as goal

pub is_operand-requires : goal.is_operand-requires
is_operand-requires c = before_right c.args.name c.args.operands.now c.loop-place.place (omega arith) c.loop-place.invariant

pub overflow_cast-result : goal.overflow_cast-result
overflow_cast-result c = let few = few_before c.args.name c.args.operands.now c.loop-place.place (omega arith) c.loop-place.invariant in omega (arith, few)

pub returns-then-not-is_operand : goal.returns-then-not-is_operand
returns-then-not-is_operand c =
    let words = c.args.operands.now in
    let place = c.loop-place.place in
    let there = operand_there c.args.name words c.index-operands-place.result place (omega arith) c.index-operands-place.is in (
      omega arith,
      few_before c.args.name words place (omega arith) c.loop-place.invariant,
      c.loop-place.invariant,
      λ op.
          let yes : c.is_operand.result ≡ true = c.is_operand.ensures.1 (subst (λ (w : List ℕ). IsOperand c.args.name (texts (take place words)) w) (sym c.as_bytes.ensures.value) (there.1 op)) in
          cc,
    )

pub loop-place-preserved : goal.loop-place-preserved
loop-place-preserved c =
    let words = c.args.operands.now in
    let place = c.loop-place.place in
    let there = operand_there c.args.name words c.index-operands-place.result place (omega arith) c.index-operands-place.is in
    let yes : c.is_operand.result ≡ true = cc in
    one_more c.args.name (texts words) place c.loop-place.invariant
    (there.0 (subst (λ (w : List ℕ). IsOperand c.args.name (texts (take place words)) w) c.as_bytes.ensures.value (c.is_operand.ensures.0 yes)))

pub returns : goal.returns
returns c =
    let words = c.args.operands.now in
    let size = length-texts words in
    let at : c.loop-place.place ≡ length (texts words) = omega (arith, size) in
    (subst (λ (n : ℕ). AreOperands c.args.name (texts words) n) at c.loop-place.invariant, (let few = few_before c.args.name words c.loop-place.place (omega arith) c.loop-place.invariant in omega (arith, few, at)))
