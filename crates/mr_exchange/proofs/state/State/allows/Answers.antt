-- the event is a publication
use Rattle.mr_exchange.proofs.state.State.allows.Goals as goal

pub returns-in-Publish : goal.returns-in-Publish
returns-in-Publish c = rw c.in-Publish.is c.may_publish.ensures
