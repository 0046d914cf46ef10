-- The elements from the least one on.
use Rattle.std.proofs.Common.{◌≡◌, ◌++◌, List, ℕ, [], sym, subst, refl, arith, map}
use Rattle.std.specs.Prelude.{decimal}
use Rattle.mr_log.specs.Private.Words.{IsSetFrom}
use Rattle.mr_log.proofs.Clauses.{untrue}
use Rattle.mr_log.proofs.Cites.{no_elements, no_first, number_out, no_more, element_read}
use Rattle.mr_log.proofs.cite.+read_elements.Goals as goal

pub returns-then-count-eq0 : goal.returns-then-count-eq0
returns-then-count-eq0 t c =
    subst (λ (x : List ℕ). IsSetFrom c.args.low c.args.elements c.args.count x × (c.args.words.now ≡ map decimal x ++ c.args.words.now)) (sym c.empty.ensures)
    (subst (λ r. IsSetFrom c.args.low c.args.elements r []) (sym c.if-count-eq0.true) (no_elements c.args.low c.args.elements), refl)

pub returns-in-None : goal.returns-in-None
returns-in-None t c = no_first c.args.low c.args.elements c.args.count c.args.words.now c.requires (omega arith) c.in-None.ensures

pub returns-else-is_within : goal.returns-else-is_within
returns-else-is_within t c =
    number_out c.args.low c.args.elements c.args.count c.in-Some.e c.args.words.now c.read_number.new.words c.requires (omega arith) c.in-Some.ensures.0 c.in-Some.ensures.1 (untrue c.is_within.result c.is_within.ensures c.if-is_within.false)

pub returns-in-None-read_elements : goal.returns-in-None-read_elements
returns-in-None-read_elements t c =
    no_more c.args.low c.args.elements c.args.count c.in-Some.e c.args.words.now c.read_number.new.words c.requires (omega arith) c.in-Some.ensures.0 c.in-Some.ensures.1 c.in-None-read_elements.ensures

pub returns-in-Some-read_elements : goal.returns-in-Some-read_elements
returns-in-Some-read_elements t c =
    let within = c.is_within.ensures.0 c.if-is_within.true in
    subst (λ (x : List ℕ). IsSetFrom c.args.low c.args.elements c.args.count x × (c.args.words.now ≡ map decimal x ++ c.read_elements.new.words)) (sym c.with.ensures)
    (element_read c.args.low c.args.elements c.args.count c.in-Some.e c.in-Some-read_elements.others c.args.words.now c.read_number.new.words c.read_elements.new.words (omega arith) within.0 within.1 c.in-Some.ensures.1
    c.in-Some-read_elements.ensures.0 c.in-Some-read_elements.ensures.1)
