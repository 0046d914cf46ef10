use Rattle.std.proofs.Common.{◌∙◌, length}
use Rattle.mr_set.proofs.Steps.{next_answer}
use Rattle.mr_set.proofs.subsets.next_subset.Goals as goal

pub returns : goal.returns
returns c = next_answer c.args.n (length c.args.s) c.args.s c.as_slice.result.now c.next_from.result (c.as_slice.ensures.value ∙ c.elements.ensures) c.requires.set c.next_from.ensures
