-- The row of the node may be published, and is learnt.
use Rattle.std.proofs.lemmas.Result.{IfOk-weaker}
use Rattle.mr_search.proofs.Stepping.{ranks_low, cites_learnt, can_publish, stands_published}
use Rattle.mr_search.proofs.publishing.publish.Goals as goal

pub deduced-row-requires-clause-ranks : goal.deduced-row-requires-clause-ranks
deduced-row-requires-clause-ranks g c = ranks_low (g.B.Board.holding c.args.board.now) c.args.index.now c.requires.stands

pub deduced-row-requires-clause-cites : goal.deduced-row-requires-clause-cites
deduced-row-requires-clause-cites g c = cites_learnt (g.B.Board.holding c.args.board.now) c.args.index.now c.frame.result.now c.args.node.now c.args.p c.args.cites c.requires.stands c.frame.ensures.frame c.requires.cites

pub publish-requires : goal.publish-requires
publish-requires g c = can_publish (g.B.Board.holding c.args.board.now) c.args.index.now c.frame.result.now c.args.ticket c.deduced-row.result c.requires.stands c.frame.ensures.frame c.requires.own c.requires.unknown c.deduced-row.ensures.follows c.deduced-row.ensures.rank

pub returns-clause-ok : goal.returns-clause-ok
returns-clause-ok g c = IfOk-weaker c.learn.result _ _ (λ x learns. stands_published (g.B.Board.holding c.args.board.now) (g.B.Board.holding c.publish.new.self) c.args.index.now c.learn.new.self c.args.ticket c.deduced-row.result c.requires.stands c.publish.ensures.moves c.problem-problem.ensures.facts learns) c.learn.ensures.ok
