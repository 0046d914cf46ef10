-- a list that is given is one
use Rattle.matrep.specs.Words.{texts}
use Rattle.matrep.proofs.Given.{given_is_value}
use Rattle.matrep.proofs.meaning.elements_of.Goals as goal

pub unreachable-requires : goal.unreachable-requires
unreachable-requires c =
    let list = c.requires.lists c.in-Some.text.now (given_is_value c.requires.right.0 (texts c.args.operands.now) c.requires.right.1 c.args.key c.in-Some.text.now c.in-Some.ensures) in
    c.in-None-elements_in.ensures list.0 list.1
