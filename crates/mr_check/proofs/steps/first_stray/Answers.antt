-- the first step that doesn't follow
use Rattle.mr_check.proofs.Walk.{follow_more, first_stray, all_follow}
use Rattle.mr_check.proofs.steps.first_stray.Goals as goal

pub loop-j-preserved : goal.loop-j-preserved
loop-j-preserved c = follow_more c.args.frame.now c.args.steps.now c.loop-j.j c.index-steps-j.result c.loop-j-test.true c.index-steps-j.is c.loop-j.invariant (c.follows_steps.ensures.0 c.if-not-follows_steps.false)

pub returns : goal.returns
returns c = all_follow c.args.frame.now c.args.steps.now c.loop-j.j c.loop-j-test.false c.loop-j.invariant

pub returns-then-not-follows_steps : goal.returns-then-not-follows_steps
returns-then-not-follows_steps c =
    first_stray c.args.frame.now c.args.steps.now c.loop-j.j c.index-steps-j.result c.loop-j-test.true c.index-steps-j.is c.loop-j.invariant
    (λ follows. let yes = c.follows_steps.ensures.1 follows in let no = c.if-not-follows_steps.true in cc)
