-- Nothing follows the last line.
use Rattle.std.proofs.Common.{List, ℕ, length, sym, subst, ◌∙◌}
use Rattle.std.proofs.lemmas.Bool.Decides.{Decides-eqb}
use Rattle.mr_text.specs.Format.{StandsFor}
use Rattle.mr_file.proofs.Making.{empty}
use Rattle.mr_log.specs.Log.{log_format}
use Rattle.mr_log.specs.Private.Stages.{found_log}
use Rattle.mr_log.proofs.read.read_lines.Goals as goal

pub returns-then-is_empty : goal.returns-then-is_empty
returns-then-is_empty c =
    let none = empty c.in_ok-found.rest.now ((Decides-eqb (length c.in_ok-found.rest.now) 0).0 (sym c.is_empty.ensures ∙ c.if-is_empty.true)) in
    (c.in_ok-found.line, subst (λ (w : List ℕ). StandsFor (log_format c.args.q) 1 c.args.bytes.now (found_log c.args.q c.in_ok-found.found) w c.in_ok-found.line) none c.in_ok-found.ensures)
