-- A set with elements, and the empty set.
use Rattle.std.proofs.Common.{◌≡◌, sym, subst, ◌∙◌, Some, arith}
use Rattle.std.specs.Prelude.{◌↔◌, List, ℕ}
use Rattle.mr_file.specs.Private.Numbers.{SpellsSet}
use Rattle.std.specs.Cmp.Lexicographic.{same_text}
use Rattle.mr_file.proofs.Sets.{set_line, empty_line}
use Rattle.mr_file.proofs.set_line.read_set.Goals as goal

pub returns-then-rank-gt0 : goal.returns-then-rank-gt0
returns-then-rank-gt0 c x = set_line c.args.elements c.args.rank c.args.line.now x c.read_elements.result c.if-rank-gt0.true c.read_elements.ensures

pub returns-then-eq : goal.returns-then-eq
returns-then-eq c x =
    let h = c.eq.ensures in let j = c.as_slice.ensures in
    subst (λ (s : List ℕ). (Some s ≡ Some x) ↔ SpellsSet c.args.elements c.args.rank c.args.line.now x) (sym c.empty.ensures)
    (empty_line c.args.elements c.args.rank c.args.line.now x (omega arith) (same_text c.args.line.now c.as_slice.result.now (sym c.if-eq.true ∙ c.eq.ensures) ∙ c.as_slice.ensures))
