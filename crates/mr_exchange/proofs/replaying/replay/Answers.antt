-- the event at the place is refused, or leads on
use Rattle.std.proofs.Common.{◌≡◌, ◌<◌, length, refl, subst, arith}
use Rattle.mr_exchange.specs.State.{new_state}
use Rattle.mr_exchange.specs.Events.{IsFirstRefused}
use Rattle.mr_exchange.proofs.OneByOne.{refused_at, replayed_further}
use Rattle.mr_exchange.proofs.replaying.replay.Goals as goal

pub returns-in-Err-NotAllowed-clause-not_allowed : goal.returns-in-Err-NotAllowed-clause-not_allowed
returns-in-Err-NotAllowed-clause-not_allowed c = λ place err.
    let same : c.loop-place.place ≡ place = cc in
    let within : c.loop-place.place < length c.args.events.now = let test = c.loop-place-test.true in omega arith in
    let refused = rw c.in-Err-NotAllowed.field-0-is at c.in-Err-NotAllowed.ensures.not_allowed in
    subst (IsFirstRefused (new_state c.args.frame.now c.args.problem c.args.passes) c.args.events.now) same
    (refused_at c.args.frame.now (new_state c.args.frame.now c.args.problem c.args.passes) c.args.events.now c.loop-place.place c.loop-place.state c.index-events-place.result c.loop-place.invariant within c.index-events-place.is (refused refl))

pub loop-place-preserved : goal.loop-place-preserved
loop-place-preserved c =
    let within : c.loop-place.place < length c.args.events.now = let test = c.loop-place-test.true in omega arith in
    replayed_further c.args.frame.now (new_state c.args.frame.now c.args.problem c.args.passes) c.args.events.now c.loop-place.place c.loop-place.state c.step.new.self c.index-events-place.result c.loop-place.invariant within c.index-events-place.is
    c.in-Ok.ensures.allowed c.in-Ok.ensures.after c.in-Ok.ensures.frame
