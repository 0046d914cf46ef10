-- The program's status for each exit.
use Rattle.std.specs.Prelude.{ℕ}
use Rattle.matrep.specs.declared.outcome.Exit.{Exit}
use Rattle.matrep.specs.declared.outcome.Exit.TheVariants.{Done, Negative, Refused, Usage, Stopped, Memory, ReadFault, WriteFault}

-- the status for an exit
abbrev pub status_of : Exit → ℕ
status_of Done = 0
status_of Negative = 1
status_of (Refused fault) = 2
status_of (Usage word) = 3
status_of (Stopped opened) = 4
status_of Memory = 5
status_of ReadFault = 6
status_of WriteFault = 7
