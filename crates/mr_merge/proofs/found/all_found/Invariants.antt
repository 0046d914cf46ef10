-- what was found of the cubes before this one
use Rattle.std.proofs.Common.{◌≡◌, take}
use Rattle.std.specs.Prelude.{flat_map}
use Rattle.mr_merge.specs.Private.Answers.{found_of}
use Rattle.mr_merge.proofs.found.all_found.Given as goal

abbrev pub invariant-loop-answer : goal.invariant-loop-answer
invariant-loop-answer l = l.forms ≡ flat_map found_of (take l.answer-index l.answers)
