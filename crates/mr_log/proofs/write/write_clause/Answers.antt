-- A value more, or none.
use Rattle.std.proofs.Common.{◌≡◌, ◌+◌, ◌<◌, ◌≤◌, ℕ, List, length, get_or, ap, sym, ◌∙◌, arith, take}
use Rattle.std.specs.Prelude.{◌/◌, ◌%◌}
use Rattle.mr_assign.specs.declared.TheConstants.{POSITIONS}
use Rattle.mr_assign.specs.Packing.{map_words}
use Rattle.mr_log.specs.Lines.{pair_text, pair_texts}
use Rattle.mr_log.proofs.Pieces.{push, pairs_same, pairs_of_zeros, pairs_more}
use Rattle.mr_log.proofs.write.write_clause.Goals as goal
use Rattle.mr_log.proofs.write.write_clause.Goals.{then-v-ne0+in_ok-write_pair, else-v-ne0}

pub loop-p-preserved-then-words-p-eq0 : goal.loop-p-preserved-then-words-p-eq0
loop-p-preserved-then-words-p-eq0 c =
    let start : c.loop-p.p % 16 ≡ 0 = c.if-p-eq0.true in
    let room : c.loop-p.p + 16 ≤ POSITIONS = omega arith in
    let none : get_or (map_words c.args.a.now) (c.loop-p.p / 16) 0 ≡ 0 = ap (λ (ws : List ℕ). get_or ws (c.loop-p.p / 16) 0) (sym c.words-words.ensures.packing) ∙ c.if-words-p-eq0.true in
    (room, rw (pairs_of_zeros c.args.a.now c.requires c.loop-p.p start room none) c.loop-p.invariant.1)

pub loop-p-preserved : goal.loop-p-preserved
loop-p-preserved c =
    let inside : c.loop-p.p < length c.args.a.now = (let n = c.requires.positions in omega arith) in (
      omega arith,
      elim c.if-v-ne0.branch [
        | then-v-ne0+in_ok-write_pair w ↦
            rw (w.first-is, w.out-is, pairs_more c.args.a.now c.loop-p.p c.get-v.result inside c.get-v.ensures.value w.if-v-ne0.true)
            (push c.loop-p.first (pair_texts 0 (take c.loop-p.p c.args.a.now)) c.args.out.now c.loop-p.out w.write_pair.new.out (pair_text c.loop-p.p c.get-v.result) c.loop-p.invariant.1 w.in_ok-write_pair.ensures)
        | else-v-ne0 w ↦ rw (w.first-is, w.out-is, pairs_same c.args.a.now c.loop-p.p c.get-v.result inside c.get-v.ensures.value w.if-v-ne0.false) c.loop-p.invariant.1
      ],
    )
