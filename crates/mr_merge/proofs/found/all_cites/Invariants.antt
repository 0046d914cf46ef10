-- the cites of the cubes before this one
use Rattle.std.proofs.Common.{◌≡◌, take, map}
use Rattle.mr_merge.specs.Private.Answers.{cite_of}
use Rattle.mr_merge.proofs.found.all_cites.Given as goal

abbrev pub invariant-loop-answer : goal.invariant-loop-answer
invariant-loop-answer l = l.cites.items ≡ map cite_of (take l.answer-index l.answers)
