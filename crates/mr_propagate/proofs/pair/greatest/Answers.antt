-- the words from the last one down
use Rattle.std.proofs.Common.{◌≡◌, ◌+◌, ◌-◌, ◌*◌, ◌<◌, ℕ, List, get_or, ap, sym, subst, refl, ◌∙◌, arith}
use Rattle.mr_assign.specs.declared.TheConstants.{POSITIONS}
use Rattle.mr_assign.specs.Packing.{nibble, map_words}
use Rattle.mr_propagate.proofs.Words.{IsEmptyFrom, after_nibble, zero_word, value_of_word}
use Rattle.mr_propagate.proofs.pair.greatest.Goals as goal

pub loop-i-preserved : goal.loop-i-preserved
loop-i-preserved c =
    let a = c.args.a.now in
    let few = c.loop-i.invariant.0 in
    let next : c.loop-i.i ≡ (c.loop-i.i - 1) + 1 = omega arith in
    let later : IsEmptyFrom a ((c.loop-i.i - 1) + 1) = subst (λ (n : ℕ). IsEmptyFrom a n) next c.loop-i.invariant.1 in
    let none : get_or (map_words a) (c.loop-i.i - 1) 0 ≡ 0 = ap (λ (ws : List ℕ). get_or ws (c.loop-i.i - 1) 0) (sym c.words-words.ensures.packing) ∙ c.if-words-i-ne0.false in
    (omega arith, zero_word a c.words-words.ensures.assign (c.loop-i.i - 1) (omega arith) later none)

pub returns-then-words-i-ne0 : goal.returns-then-words-i-ne0
returns-then-words-i-ne0 c =
    let a = c.args.a.now in
    let map = c.words-words.ensures.assign in
    let k = c.top_nibble.result in
    let low : k < 16 = c.top_nibble.ensures.0 in
    let few = c.loop-i.invariant.0 in
    let next : c.loop-i.i ≡ (c.loop-i.i - 1) + 1 = omega arith in
    let later : IsEmptyFrom a ((c.loop-i.i - 1) + 1) = subst (λ (n : ℕ). IsEmptyFrom a n) next c.loop-i.invariant.1 in
    let word : get_or c.words-words.result (c.loop-i.i - 1) 0 ≡ get_or (map_words a) (c.loop-i.i - 1) 0 = ap (λ (ws : List ℕ). get_or ws (c.loop-i.i - 1) 0) c.words-words.ensures.packing in
    let inside : 16 * (c.loop-i.i - 1) + k < POSITIONS = omega arith in
    let value = value_of_word a map (c.loop-i.i - 1) k low inside in (
      inside,
      record {
        value = refl;
        some = λ none. c.top_nibble.ensures.1 (ap (λ (w : ℕ). nibble w k) word ∙ value ∙ none);
        greatest = after_nibble a map (c.loop-i.i - 1) k (omega arith) later (λ j lt. ap (λ (w : ℕ). nibble w j) (sym word) ∙ c.top_nibble.ensures.2 j lt);
      },
    )
