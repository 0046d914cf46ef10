-- maps are equal just where their words are
use Rattle.std.proofs.Common.{ap, sym, ◌∙◌}
use Rattle.mr_assign.specs.Packing.{map_words}
use Rattle.mr_assign.specs.Private.Again.{map_words-nibbles}
use Rattle.mr_assign.proofs.assign.AssignPartialEq.eq.Goals as goal

pub returns : goal.returns
returns c =
    let one = sym (ap map_words c.t1-1.view_is) ∙ map_words-nibbles c.t1-1.inside.words c.t1-1.invariant in
    let two = sym (ap map_words c.t2-1.view_is) ∙ map_words-nibbles c.t2-1.inside.words c.t2-1.invariant in
    rw (one, two) c.eq.ensures
