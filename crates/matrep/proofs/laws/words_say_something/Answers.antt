-- what is read of words is what they say, or the place that offends
use Rattle.std.proofs.Common.{List, ℕ, Result, Ok, Err, inl, inr}
use Rattle.std.specs.Prelude.{MatchResult}
use Rattle.matrep.specs.Words.{Says, IsFirstOffence}
use Rattle.matrep.specs.Laws.{SaysOrOffends}
use Rattle.matrep.specs.declared.words.Command.{Command}
use Rattle.matrep.specs.declared.words.BadWord.{BadWord}
use Rattle.matrep.proofs.laws.words_say_something.Goals as goal

by : (words : List (List ℕ)) (read : Result Command BadWord) → MatchResult read (Says words) (λ e. IsFirstOffence words e.word) → SaysOrOffends words
by words (Ok command) says = inl (command, says)
by words (Err bad) offends = inr (bad.word, offends)

pub returns : goal.returns
returns c = by _ c.read_words-read.result c.read_words-read.ensures.says
