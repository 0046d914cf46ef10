use Rattle.std.proofs.Common.{◌≡◌, ◌+◌, length, vec_len}
use Rattle.std.specs.Prelude.{All}
use Rattle.mr_store.specs.Cards.{mark_of}
use Rattle.mr_pool.specs.Private.Desks.{HasGathered, IsDoneDesk}
use Rattle.mr_pool.proofs.gather.gather.Given as goal

-- the passes of the desks that are left are the others
abbrev pub invariant-loop-desk : goal.invariant-loop-desk
invariant-loop-desk l = record {
  gathered : HasGathered l.store l.gathered;
  made : (mark_of l.gathered.card).made ≡ (mark_of l.initial.gathered.card).made;
  joined : length (mark_of l.gathered.card).joined + vec_len l.desks ≡ length (mark_of l.initial.gathered.card).joined + vec_len l.initial.desks;
  others : All (IsDoneDesk l.store) l.desks.items;
}

-- how many desks are left
abbrev pub decreases-loop-desk : goal.decreases-loop-desk
decreases-loop-desk l = vec_len l.desks
