-- the merged answers are all forms, or a refutation
use Rattle.std.proofs.Common.{◌≡◌, ◌+◌, ◌≤◌, [], length}
use Rattle.mr_assign.specs.Assign.{no_values}
use Rattle.mr_nogood.specs.declared.row.Cite.TheVariants.{Test}
use Rattle.mr_log.specs.declared.log.Log.{Log}
use Rattle.mr_exchange.specs.Right.{AreCompletions}
use Rattle.mr_merge.specs.declared.TheConstants.{PREFIXES}
use Rattle.mr_merge.specs.Answers.{HasFound}
use Rattle.mr_merge.specs.Merged.{IsRefutationOf}
use Rattle.matrep.proofs.Found.{few_forms, merged_forms, merged_log}
use Rattle.matrep.proofs.Shortest.{short_log_is}
use Rattle.matrep.proofs.searching.merge_answers.Goals as goal

pub returns-in-Forms : goal.returns-in-Forms
returns-in-Forms c = λ split.
    let f = c.args.frame.now in
    let told = merged_forms f c.in_ok-merged.merged c.in-Forms.forms c.in-Forms.is c.in_ok-merged.ensures.forms in
    record {
      are = told.1;
      some = told.0;
      few = few_forms f c.args.problem c.args.answer.now.closed c.args.answer.now.answers c.in-Forms.forms c.requires.closed c.opened-opened.ensures.shown c.requires.answers c.requires.found told.1;
    }

pub returns-in-Refuted : goal.returns-in-Refuted
returns-in-Refuted c = λ split.
    let f = c.args.frame.now in
    let log = c.in-Refuted.log in
    let answers = c.args.answer.now.answers in
    let refutation = merged_log c.in_ok-merged.merged log (λ forms. Unit {0}) (IsRefutationOf f) c.in-Refuted.is c.in_ok-merged.ensures.refutation in
    let steps = merged_log c.in_ok-merged.merged log (λ forms. Unit {0}) (λ (l : Log). length l.steps ≤ c.args.problem.nodes + PREFIXES) c.in-Refuted.is c.in_ok-merged.ensures.steps in
    record {
      none = merged_log c.in_ok-merged.merged log _ (λ (l : Log). AreCompletions f no_values []) c.in-Refuted.is c.in_ok-merged.ensures.forms;
      refutation = refutation;
      few = steps;
      short = λ two. short_log_is f c.args.problem c.args.answer.now.closed answers c.requires.problem c.requires.closed c.opened-opened.ensures.shown c.requires.answers c.requires.first two log refutation
          (merged_log c.in_ok-merged.merged log (λ forms. HasFound answers) (λ (l : Log). HasFound answers → ⊥) c.in-Refuted.is c.in_ok-merged.ensures.found)
          (λ x depth is. merged_log c.in_ok-merged.merged log (λ forms. Unit {0}) (λ (l : Log). (l.steps ≡ []) × (l.last ≡ Test x)) c.in-Refuted.is (c.in_ok-merged.ensures.set x depth is));
    }
