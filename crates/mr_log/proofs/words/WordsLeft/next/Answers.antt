-- The last word, and one before others.
use Rattle.std.proofs.Common.{sym, ap, ◌∙◌}
use Rattle.std.specs.Prelude.{option_copied}
use Rattle.mr_log.specs.Words.{words_of, words_left}
use Rattle.mr_log.proofs.Splitting.{words_of-space, words_of-word}
use Rattle.mr_log.proofs.words.WordsLeft.next.Goals as goal

pub returns-in-None-split_once : goal.returns-in-None-split_once
returns-in-None-split_once c =
    sym c.self.view_is ∙ ap (λ r. words_left (option_copied r)) c.in-Some.is ∙ words_of-word c.in-Some.line.now c.in-None-split_once.ensures

pub returns-in-Some-split_once : goal.returns-in-Some-split_once
returns-in-Some-split_once c =
    sym c.self.view_is ∙ ap (λ r. words_left (option_copied r)) c.in-Some.is ∙ ap words_of c.in-Some-split_once.ensures.0 ∙ words_of-space c.in-Some-split_once.word.now c.in-Some-split_once.after.now c.in-Some-split_once.ensures.1
