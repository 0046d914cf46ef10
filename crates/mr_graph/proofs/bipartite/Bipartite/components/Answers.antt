-- the numbers of the forest's labels, rows and columns apart
use Rattle.std.proofs.Common.{ℕ, List, ◌≡◌, ap, subst, ◌∙◌, length, take, drop}
use Rattle.std.proofs.lemmas.List.{take_rest}
use Rattle.mr_graph.specs.Private.Components.{IsNumbered}
use Rattle.mr_graph.proofs.Numbering.{components_numbered}
use Rattle.mr_graph.proofs.bipartite.Bipartite.components.Goals as goal

pub returns : goal.returns
returns c =
    let ns : List ℕ = c.in_ok-numbered.numbered.numbers.items in
    let r : ℕ = c.row_count-rows.result in
    let rows : c.of_vec.result ≡ take c.args.self.now.rows ns =
    c.of_vec.ensures ∙ c.in_ok-of_rows.ensures.items_if_clones_equal (λ x y e. e) ∙ ap (take r) c.as_slice-numbers.ensures.value ∙ ap (λ k. take k ns) c.row_count-rows.ensures in
    let cols : c.of_vec-2.result ≡ drop c.args.self.now.rows ns =
    c.of_vec-2.ensures ∙ c.in_ok-of_cols.ensures.items_if_clones_equal (λ x y e. e) ∙ take_rest c.as_slice-numbers.result.now r
    ∙ ap (drop r) c.as_slice-numbers.ensures.value ∙ ap (λ k. drop k ns) c.row_count-rows.ensures in
    let numbered : IsNumbered c.in_ok-grown.grown.labels.items ns c.in_ok-numbered.numbered.count (length c.in_ok-grown.grown.labels.items) =
    subst (λ (xs : List ℕ). IsNumbered xs ns c.in_ok-numbered.numbered.count (length xs)) c.deref.ensures.value c.in_ok-numbered.ensures in
    rw (rows, cols, c.from.ensures) (components_numbered c.args.self.now c.in_ok-grown.grown.labels.items c.in_ok-grown.grown.forest ns c.in_ok-numbered.numbered.count c.in_ok-grown.ensures.grown numbered)
