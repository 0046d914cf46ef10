-- What is due after the steps so far is due of the whole.
use Rattle.std.proofs.Common.{◌≡◌, ◌+◌, ◌-◌, ◌<◌, ◌^◌, length}
use Rattle.mr_text.proofs.Leads.{Leads}
use Rattle.mr_file.specs.Reading.{listing}
use Rattle.mr_log.specs.Private.Stages.{from_steps}
use Rattle.mr_log.proofs.Outcomes.{Start}
use Rattle.mr_log.proofs.read.read_steps.Given as goal

abbrev pub invariant-loop-number : goal.invariant-loop-number
invariant-loop-number l =
    record {
      numbers : l.at + length l.rest < 2 ^ 32;
      count : length l.steps ≡ l.number;
      leads : Leads (Start l.q (listing l.listed) l.count) l.line_number l.bytes (from_steps l.q (listing l.listed) (l.count - l.number) l.steps) l.at l.rest;
    }
