-- Nothing follows the block.
use Rattle.std.proofs.Common.{List, ℕ, length, sym, subst, ◌∙◌}
use Rattle.std.proofs.lemmas.Bool.Decides.{Decides-eqb}
use Rattle.mr_text.specs.Format.{StandsFor}
use Rattle.mr_file.proofs.Making.{empty}
use Rattle.mr_matrix.specs.Pairs.{pair_format}
use Rattle.mr_matrix.specs.Private.Pairs.{found_pair}
use Rattle.mr_matrix.proofs.pair.read_parts.Goals as goal

pub returns-then-is_empty : goal.returns-then-is_empty
returns-then-is_empty c =
    let none = empty c.in_ok-found.rest.now ((Decides-eqb (length c.in_ok-found.rest.now) 0).0 (sym c.is_empty.ensures ∙ c.if-is_empty.true)) in
    (c.in_ok-found.line, subst (λ (w : List ℕ). StandsFor (pair_format c.args.field) 1 c.args.bytes.now (found_pair c.in_ok-found.found) w c.in_ok-found.line) none c.in_ok-found.ensures)
