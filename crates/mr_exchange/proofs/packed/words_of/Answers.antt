-- One word more is read.
use Rattle.std.proofs.Common.{◌≡◌, ◌≢◌, ◌+◌, ◌*◌, ◌∙◌, length-set, get_or, get_or-set_same, get_or-set_other, arith, ⊎_elim}
use Rattle.std.proofs.lemmas.Bool.{cases_eq}
use Rattle.mr_nogood.specs.declared.TheConstants.{ROW_WORDS}
use Rattle.mr_exchange.proofs.RowWords.{words_are}
use Rattle.mr_exchange.proofs.packed.words_of.Goals as goal

pub loop-j-preserved : goal.loop-j-preserved
loop-j-preserved c =
    let xs = c.loop-j.row in
    let j = c.loop-j.j in
    let v = get_or c.args.words.now (ROW_WORDS * c.args.slot + j) 0 in
    let size = c.loop-j.invariant.size in
    record {
      size = length-set xs j v ∙ size;
      read = λ k l. ⊎_elim
          (λ (p : k ≡ j). rw p (get_or-set_same xs j v 0 (omega arith)))
          (λ (o : k ≢ j). get_or-set_other xs j k v 0 o ∙ c.loop-j.invariant.read k (omega arith))
          (cases_eq k j);
    }

pub returns : goal.returns
returns c = words_are c.args.words.now (ROW_WORDS * c.args.slot) c.loop-j.row c.loop-j.invariant.size c.requires (λ j lt. c.loop-j.invariant.read j (omega arith))
