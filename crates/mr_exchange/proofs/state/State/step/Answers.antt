-- an event that is allowed keeps soundness
use Rattle.std.proofs.Common.{sym, subst}
use Rattle.mr_exchange.specs.Sound.{IsSound}
use Rattle.mr_exchange.specs.Held.{state_of}
use Rattle.mr_exchange.proofs.Runs.{allowed_events_keep_soundness}
use Rattle.mr_exchange.proofs.state.State.step.Goals as goal

pub returns-clause-sound : goal.returns-clause-sound
returns-clause-sound c =
    subst IsSound (sym c.in_ok-reply.ensures.after)
    (allowed_events_keep_soundness (state_of c.args.self.now) c.args.e.now c.problem-problem.ensures.sound (c.in_ok-allowed.ensures.0 c.if-not-allowed.false))
