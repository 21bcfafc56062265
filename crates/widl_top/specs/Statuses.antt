-- The exit status of the program.
use Rattle.std.specs.Prelude.{ℕ}
use Rattle.widl_top.specs.declared.status.Status.{Status}
use Rattle.widl_top.specs.declared.status.Status.TheVariants.{Done, Memory, Usage, Refused, ScriptRefused, ReadFault, Missing, TooLong, WriteFault, Stopped, Uncaught}

abbrev pub number_of : Status → ℕ
number_of Done = 0
number_of Memory = 1
number_of Usage = 2
number_of Refused = 3
number_of ScriptRefused = 4
number_of ReadFault = 5
number_of Missing = 6
number_of TooLong = 7
number_of WriteFault = 8
number_of Stopped = 9
number_of Uncaught = 10
