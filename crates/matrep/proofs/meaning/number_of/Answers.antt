-- a number that is given is one within the bounds
use Rattle.matrep.specs.Words.{texts}
use Rattle.matrep.proofs.Given.{given_is_value}
use Rattle.matrep.proofs.meaning.number_of.Goals as goal

pub unreachable-requires : goal.unreachable-requires
unreachable-requires c =
    let number = c.requires.values c.in-Some.text.now (given_is_value c.requires.right.0 (texts c.args.operands.now) c.requires.right.1 c.args.key c.in-Some.text.now c.in-Some.ensures) in
    c.in-None-number_in.ensures number.0 number.1 number.2 number.3
