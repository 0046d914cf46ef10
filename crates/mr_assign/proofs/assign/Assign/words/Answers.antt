-- a map's words are the packing of its values
use Rattle.std.proofs.Common.{sym, ap, ◌∙◌}
use Rattle.mr_assign.specs.Packing.{map_words}
use Rattle.mr_assign.specs.Private.Again.{map_words-nibbles}
use Rattle.mr_assign.proofs.Maps.{assign-view}
use Rattle.mr_assign.proofs.assign.Assign.words.Goals as goal

pub returns-clause-packing : goal.returns-clause-packing
returns-clause-packing c = sym (map_words-nibbles c.self.inside.words c.self.invariant) ∙ ap map_words c.self.view_is

pub returns-clause-assign : goal.returns-clause-assign
returns-clause-assign c = assign-view c.self.inside.words c.args.self.now c.self.view_is c.self.invariant
