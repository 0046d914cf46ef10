use Rattle.std.proofs.Common.{◌∙◌, ap, sym}
use Rattle.mr_set.specs.Elements.{with_element}
use Rattle.mr_set.proofs.Lexicographic.{run_none, run_more}
use Rattle.mr_set.proofs.subsets.+run_of.Goals as goal

pub returns-then-count-eq0 : goal.returns-then-count-eq0
returns-then-count-eq0 t c = c.empty.ensures ∙ sym (run_none c.args.low c.args.count c.if-count-eq0.true)

pub returns-else-count-eq0 : goal.returns-else-count-eq0
returns-else-count-eq0 t c = c.with.ensures ∙ ap (with_element c.args.low) c.run_of.ensures ∙ sym (run_more c.args.low c.args.count c.if-count-eq0.false c.requires)
