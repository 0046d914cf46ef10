-- A cite more.
use Rattle.std.proofs.Common.{◌<◌, ◌++◌, length, map, take, ap, sym, ◌∙◌, arith, append_assoc}
use Rattle.mr_nogood.specs.declared.row.Cite.{Cite}
use Rattle.mr_log.specs.Lines.{cite_text}
use Rattle.mr_log.specs.Private.Written.{gap}
use Rattle.mr_log.proofs.Pieces.{push, cites_more}
use Rattle.mr_log.proofs.write.write_cites.Goals as goal

pub loop-k-preserved : goal.loop-k-preserved
loop-k-preserved c =
    let cite = c.index-cites-k.result in
    let inside : c.loop-k.k < length c.args.cites.now = omega arith in
    rw (cites_more c.args.cites.now c.loop-k.k cite inside c.index-cites-k.is)
    (push c.loop-k.first (map cite_text (take c.loop-k.k c.args.cites.now)) c.args.out.now c.loop-k.out c.write_cite.new.out (cite_text cite) c.loop-k.invariant
    (c.in_ok-write_cite.ensures ∙ ap (λ (d : Cite). c.write_gap.new.out ++ cite_text d) (sym c.index-cites-k.is) ∙ ap (λ w. w ++ cite_text cite) c.in_ok-write_gap.ensures ∙ append_assoc c.loop-k.out (gap c.loop-k.first) (cite_text cite)))
