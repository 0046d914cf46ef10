-- words say one thing
use Rattle.matrep.proofs.OneReading.{one_command, no_offence, one_offence}
use Rattle.matrep.proofs.laws.words_say_one_thing.Goals as goal

pub returns-clause-command : goal.returns-clause-command
returns-clause-command c = one_command

pub returns-clause-none : goal.returns-clause-none
returns-clause-none c = no_offence

pub returns-clause-place : goal.returns-clause-place
returns-clause-place c = one_offence
