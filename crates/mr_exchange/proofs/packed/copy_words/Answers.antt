-- One word more is written.
use Rattle.std.proofs.Common.{◌≡◌, ◌≢◌, ◌<◌, ◌+◌, ◌*◌, ◌∙◌, sym, length-set, get_or, get_or-set_same, get_or-set_other, arith, inl, inr, ⊎_elim}
use Rattle.std.proofs.lemmas.Bool.{cases_eq, cases_lt}
use Rattle.mr_nogood.specs.declared.TheConstants.{ROW_WORDS}
use Rattle.mr_exchange.proofs.RowWords.{words_are, words_same}
use Rattle.mr_exchange.proofs.packed.copy_words.Goals as goal

pub loop-j-preserved : goal.loop-j-preserved
loop-j-preserved c =
    let xs = c.loop-j.words.items in
    let j = c.loop-j.j in
    let v = get_or c.args.row.now j 0 in
    let size = c.loop-j.invariant.size in
    let room = c.requires in
    let at = ROW_WORDS * c.args.slot + j in
    record {
      size = length-set xs at v ∙ size;
      here = λ k l. ⊎_elim
          (λ (p : k ≡ j). rw p (get_or-set_same xs at v 0 (omega arith)))
          (λ (o : k ≢ j). get_or-set_other xs at (ROW_WORDS * c.args.slot + k) v 0 (λ e. o (omega arith)) ∙ c.loop-j.invariant.here k (omega arith))
          (cases_eq k j);
      others = λ i outside. get_or-set_other xs at i v 0 (λ e. ⊎_elim (λ (l : i < ROW_WORDS * c.args.slot). omega arith) (λ r. omega arith) outside) ∙ c.loop-j.invariant.others i outside;
    }

pub returns-clause-here : goal.returns-clause-here
returns-clause-here c =
    let size = c.loop-j.invariant.size in
    let room = c.requires in
    sym (words_are c.loop-j.words.items (ROW_WORDS * c.args.slot) c.args.row.now (omega arith) (omega arith) (λ j lt. sym (c.loop-j.invariant.here j (omega arith))))

pub returns-clause-others : goal.returns-clause-others
returns-clause-others c = λ other apart. words_same c.loop-j.words.items c.args.words.now.items (ROW_WORDS * other) c.loop-j.invariant.size (λ j lt. c.loop-j.invariant.others (ROW_WORDS * other + j) (elim (cases_lt other c.args.slot) [
  | inl before ↦ inl (omega arith)
  | inr after ↦ inr (omega arith)
]))
