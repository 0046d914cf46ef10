-- a new pass that claimed two cubes has the second
use Rattle.std.proofs.lemmas.Bool.{OnTrue_from, eqb-true}
use Rattle.mr_exchange.specs.Plain.{plain_holding}
use Rattle.mr_search_tests.specs.Private.Answered.{HasCube}
use Rattle.mr_search_tests.proofs.Answered.{two_claimed}
use Rattle.mr_search_tests.proofs.merge_tests.claims_two.Goals as goal

pub returns-in-Some-clause-cube : goal.returns-in-Some-clause-cube
returns-in-Some-clause-cube c = OnTrue_from _ (HasCube (plain_holding c.claim-2.new.self)) (λ one.
    two_claimed (plain_holding c.args.board.now) (plain_holding c.claim.new.self) (plain_holding c.claim-2.new.self) c.in-Some-eq0.field-0 c.in-Some.cube c.requires c.in-Some-eq0.ensures.moves c.in-Some.ensures.moves (eqb-true c.in-Some.cube 1 one))
