-- from the matrix of zeros to the filled one
use Rattle.std.proofs.Common.{◌≡◌, ◌∙◌, ℕ, ap, arith}
use Rattle.mr_field.specs.Gf.{Gf}
use Rattle.mr_linear.specs.Matrix.{grid_of}
use Rattle.mr_frame.specs.Frame.{Framed}
use Rattle.mr_frame.specs.Private.Filling.{HasEntry}
use Rattle.mr_frame.proofs.Entries.{filled_none, filled_by}
use Rattle.mr_frame.proofs.Keeping.{kept_now}
use Rattle.mr_frame.proofs.frame.Frame.matrix_of.Goals as goal

pub loop-row-init : goal.loop-row-init
loop-row-init c =
    let kept = kept_now c.self.view_is c.self.invariant.0 in
    let made : c.in_ok-g.g ≡ grid_of c.args.self.now.field c.args.self.now.matroid.rank c.args.self.now.matroid.elements (λ _ _. 0) =
    c.in_ok-g.ensures
    ∙ ap (λ (f : Gf). grid_of f c.rank.result c.elements.result (λ _ _. 0)) (ap (λ (f : Framed). f.field) c.self.view_is)
    ∙ ap (λ (r : ℕ). grid_of c.args.self.now.field r c.elements.result (λ _ _. 0)) (c.rank.ensures ∙ ap (λ (f : Framed). f.matroid.rank) c.self.view_is)
    ∙ ap (λ (n : ℕ). grid_of c.args.self.now.field c.args.self.now.matroid.rank n (λ _ _. 0)) (c.elements.ensures.value ∙ ap (λ (f : Framed). f.matroid.elements) c.self.view_is) in
    filled_none c.args.self.now.matroid c.args.self.now.field (HasEntry c.args.self.now c.args.a.now) c.in_ok-g.g kept.frame.matroid.presentation.rank made

pub returns : goal.returns
returns c =
    let kept = kept_now c.self.view_is c.self.invariant.0 in
    let rank : c.rank-row-end.result ≡ c.args.self.now.matroid.rank = c.rank-row-end.ensures ∙ ap (λ (f : Framed). f.matroid.rank) c.self.view_is in
    filled_by c.args.self.now kept.frame c.args.a.now c.loop-row.g c.loop-row.invariant.fits c.loop-row.invariant.field (λ i e row col. c.loop-row.invariant.rows i e (omega arith) col)
