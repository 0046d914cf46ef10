-- an edge is taken just where its ends are not joined yet
use Rattle.std.proofs.Common.{List, ◌≡◌, ◌+◌, ◌++◌, [], ◌∷◌, ap, sym, subst, arith}
use Rattle.std.proofs.lemmas.Result.{on_ok_weaker}
use Rattle.mr_graph.specs.Graph.{Graph, IsEdge}
use Rattle.mr_graph.specs.Private.Grown.{IsGrown}
use Rattle.mr_graph.specs.declared.edge.Edge.{Edge}
use Rattle.mr_graph.proofs.Growth.{grown_united, grown_more}
use Rattle.mr_graph.proofs.bipartite.Bipartite.take.Goals as goal

pub returns-then-not-unite : goal.returns-then-not-unite
returns-then-not-unite c =
    let rows : c.self.inside.rows ≡ c.args.self.now.rows = ap (λ (g : Graph). g.rows) c.self.view_is in
    let edge : IsEdge c.args.self.now c.args.e.row c.args.e.col = c.has.ensures.0 c.if-not-has.false in
    grown_united c.args.self.now c.args.labels.now c.unite.new.labels c.args.forest.now c.args.e.row c.args.e.col c.unite.result c.requires.grown edge c.if-not-unite.true (omega arith)
    (rw rows at c.unite.ensures.apart)
    (rw rows at c.unite.ensures.same)

pub returns : goal.returns
returns c =
    let rows : c.self.inside.rows ≡ c.args.self.now.rows = ap (λ (g : Graph). g.rows) c.self.view_is in
    let edge : IsEdge c.args.self.now c.args.e.row c.args.e.col = c.has.ensures.0 c.if-not-has.false in
    let differs = rw rows at (c.unite.ensures.apart.0 c.if-not-unite.false) in
    let more : IsGrown c.args.self.now c.unite.new.labels (c.args.forest.now ++ c.args.e ∷ []) c.args.e.row (c.args.e.col + 1) =
    grown_more c.args.self.now c.args.labels.now c.unite.new.labels c.args.forest.now c.args.e c.requires.grown edge (λ p. differs (sym p)) (omega arith) (rw rows at c.unite.ensures.same) in
    on_ok_weaker _ (λ is. subst (λ (xs : List Edge). IsGrown c.args.self.now c.unite.new.labels xs c.args.e.row (c.args.e.col + 1)) (sym is) more) c.push.ensures.ok
