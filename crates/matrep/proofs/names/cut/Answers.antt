-- the front of a word names no key
use Rattle.std.proofs.Common.{◌≡◌}
use Rattle.matrep.specs.Words.{key_text}
use Rattle.matrep.proofs.Keys.{cut_front}
use Rattle.matrep.proofs.names.cut.Goals as goal

pub returns-in-None-key_of : goal.returns-in-None-key_of
returns-in-None-key_of c = λ key value is. c.in-None-key_of.ensures key (cut_front c.args.word.now _ _ key value c.in-Some.ensures.0 c.in-Some.ensures.1 is).0
