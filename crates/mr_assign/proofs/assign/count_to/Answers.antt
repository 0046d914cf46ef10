-- a position counts one where it has a value
use Rattle.std.proofs.Common.{◌≡◌, ◌+◌, ◌*◌, ℕ, ap, sym, ◌∙◌, subst, ◌<◌, ◌≤◌, arith}
use Rattle.mr_assign.proofs.Maps.{count_below, count_below_yes, count_below_no, count_below_skip, count_below-le}
use Rattle.mr_assign.proofs.assign.count_to.Goals as goal
use Rattle.mr_assign.proofs.assign.count_to.Goals.{then-nibble_at-gt0, else-nibble_at-gt0}

pub overflow_add-count : goal.overflow_add-count
overflow_add-count c =
    let le = count_below-le c.args.words.now c.loop-p.p (omega arith) in
    omega arith

pub loop-p-preserved : goal.loop-p-preserved
loop-p-preserved c = elim c.if-nibble_at-gt0.branch [
  | then-nibble_at-gt0 w ↦
      let more = count_below_yes c.args.words.now c.loop-p.p (omega arith) (subst (λ (n : ℕ). 0 < n) c.nibble_at.ensures w.if-nibble_at-gt0.true) in
      w.count-is ∙ ap (λ n. n + 1) c.loop-p.invariant ∙ sym more
  | else-nibble_at-gt0 w ↦
      let same = count_below_no c.args.words.now c.loop-p.p (omega arith) (subst (λ (n : ℕ). n ≤ 0) c.nibble_at.ensures w.if-nibble_at-gt0.false) in
      w.count-is ∙ c.loop-p.invariant ∙ sym same
]

pub returns : goal.returns
returns c =
    let top = c.loop-p.auto.p-end (omega arith) in
    let end : c.loop-p.p ≡ 16 * c.args.i + 16 = omega (arith, c.loop-p-test.false) in
    c.loop-p.invariant ∙ ap (count_below c.args.words.now) end

pub returns-then-words-i-eq0 : goal.returns-then-words-i-eq0
returns-then-words-i-eq0 c = c.requires.before ∙ sym (count_below_skip c.args.words.now c.args.i 16 c.requires.word (omega arith) c.if-words-i-eq0.true)
