-- One more mask gives one more set.
use Rattle.std.proofs.Common.{◌<◌, ◌^◌}
use Rattle.std.proofs.lemmas.List.{map_more}
use Rattle.std.proofs.lemmas.List.Elements.{All-more}
use Rattle.mr_set.specs.Elements.{elements_below}
use Rattle.mr_set.specs.declared.TheConstants.{ELEMENTS}
use Rattle.mr_set.proofs.listed.each_set.Goals as goal

pub loop-mask-preserved : goal.loop-mask-preserved
loop-mask-preserved c =
    let masks = c.args.masks.now in
    let i = c.loop-mask.mask-index in (
      All-more (λ mask. mask < 2 ^ ELEMENTS) masks i 0 c.loop-mask-test.true c.loop-mask.invariant.0 c.in-Some.ensures.0,
      (let more = map_more (elements_below ELEMENTS) masks i 0 c.loop-mask-test.true in let sets = c.loop-mask.invariant.1 in let this = c.in-Some.ensures.1 in let pushed = c.in_ok-push-in-Some.ensures.items in cc),
    )
