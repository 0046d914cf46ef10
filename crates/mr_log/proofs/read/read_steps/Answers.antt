-- A line of a step more, and the last line.
use Rattle.std.proofs.Common.{◌+◌, ◌-◌, ◌∷◌, [], ◌∙◌, List, length, ap, sym, subst, arith}
use Rattle.std.proofs.lemmas.List.{length-append}
use Rattle.mr_text.specs.Format.{IsLineFault}
use Rattle.mr_text.proofs.Formats.{shorter}
use Rattle.mr_text.proofs.Leads.{Leads}
use Rattle.mr_file.specs.Reading.{listing}
use Rattle.mr_nogood.specs.declared.row.Row.{Row}
use Rattle.mr_log.specs.Lines.{step_table, end_table}
use Rattle.mr_log.specs.Private.Stages.{from_steps}
use Rattle.mr_log.proofs.Outcomes.{line_named, Start, steps_on, steps_fault, steps_end, end_fault, end_value}
use Rattle.mr_log.proofs.read.read_steps.Goals as goal

pub returns-in-Err : goal.returns-in-Err
returns-in-Err c =
    steps_fault c.args.q (listing c.args.listed) c.args.count (c.args.count - c.loop-number.number) (c.args.count - (c.loop-number.number + 1)) c.args.line_number c.args.bytes.now c.loop-number.steps c.loop-number.number c.loop-number.at c.loop-number.rest.now c.in-Err.e
    (omega arith) c.loop-number.invariant.count c.loop-number.invariant.leads (line_named (IsLineFault (step_table (listing c.args.listed) c.args.q c.loop-number.number) c.loop-number.at c.loop-number.rest.now) c.in-Err.e c.in-Err.ensures)

pub loop-number-preserved : goal.loop-number-preserved
loop-number-preserved c =
    let m = listing c.args.listed in
    let less = shorter (step_table m c.args.q c.loop-number.number) c.loop-number.rest.now c.in-Ok.found.0 c.in-Ok.found.1.now c.in-Ok.ensures in
    let numbers = c.loop-number.invariant.numbers in
    let more = length-append c.loop-number.steps (c.in-Ok.found.0 ∷ []) in
    let long = c.loop-number.invariant.count in
    record {
      numbers = omega (arith, less, numbers);
      count = ap length c.in_ok-push-in-Ok.ensures.ok ∙ omega (arith, more, long);
      leads =
          subst (λ (s : List Row). Leads (Start c.args.q m c.args.count) c.args.line_number c.args.bytes.now (from_steps c.args.q m (c.args.count - (c.loop-number.number + 1)) s) (c.loop-number.at + 1) c.in-Ok.found.1.now)
          (sym c.in_ok-push-in-Ok.ensures.ok)
          (steps_on c.args.q m c.args.count (c.args.count - c.loop-number.number) (c.args.count - (c.loop-number.number + 1)) c.args.line_number c.args.bytes.now c.loop-number.steps c.loop-number.number c.loop-number.at c.loop-number.rest.now c.in-Ok.found.0 c.in-Ok.found.1.now
          (omega arith) c.loop-number.invariant.count c.loop-number.invariant.leads c.in-Ok.ensures);
    }

pub returns-in-Err-end_line : goal.returns-in-Err-end_line
returns-in-Err-end_line c =
    end_fault c.args.q (listing c.args.listed) c.args.count c.args.line_number c.args.bytes.now c.loop-number.steps c.loop-number.at c.loop-number.rest.now c.in-Err-end_line.e
    (steps_end c.args.q (listing c.args.listed) c.args.count (c.args.count - c.loop-number.number) c.args.line_number c.args.bytes.now c.loop-number.steps c.loop-number.at c.loop-number.rest.now (omega arith) c.loop-number.invariant.leads)
    (line_named (IsLineFault (end_table (listing c.args.listed)) c.loop-number.at c.loop-number.rest.now) c.in-Err-end_line.e c.in-Err-end_line.ensures)

pub returns : goal.returns
returns c =
    end_value c.args.q (listing c.args.listed) c.args.count c.args.line_number c.args.bytes.now c.loop-number.steps c.loop-number.at c.loop-number.rest.now c.in-Ok-end_line.found.0 c.in-Ok-end_line.found.1.now
    (steps_end c.args.q (listing c.args.listed) c.args.count (c.args.count - c.loop-number.number) c.args.line_number c.args.bytes.now c.loop-number.steps c.loop-number.at c.loop-number.rest.now (omega arith) c.loop-number.invariant.leads)
    c.in-Ok-end_line.ensures
