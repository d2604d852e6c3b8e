-- What a call of the program keeps of its clients' run.
use Rattle.std.specs.Prelude.{◌≡◌, ℕ, List, Option, None, Some}
use Rattle.ca_cli.specs.Call.{Call, Change, Adds}
use Rattle.ca_cli.specs.Causes.{IsCause}
use Rattle.ca_cli.specs.Run.{HasPlayed}
use Rattle.ca_cli.specs.StatusText.{text_of_status}
use Rattle.ca_cli.specs.Written.{IsCutOff}
use Rattle.ca_client.specs.declared.running.Ran.{Ran}
use Rattle.ca_cli.specs.declared.status.Status.{Status}
use Rattle.ca_cli.specs.declared.status.Status.TheVariants.{Done, Usage, ShelfFault, SinkFault, BadLine, NoMemory, TooLong}

-- With `Done` there is a run, of which the bytes that were taken tell. With `SinkFault` there is one exactly where the call would have been done, and else
-- there is the cause for which it would have ended early; a part was taken of what would have been written. With every other status there is none.
abbrev pub IsKept : Call → Change ℕ → Status → Option Ran → Type 0
IsKept call output Done None = ⊥
IsKept call output Done (Some ran) = (bytes : List ℕ) × HasPlayed call ran bytes × Adds output bytes
IsKept call output SinkFault None = (status : Status) × IsCause call status × IsCutOff output (text_of_status status) SinkFault
IsKept call output SinkFault (Some ran) = (bytes : List ℕ) × HasPlayed call ran bytes × IsCutOff output bytes SinkFault
IsKept call output Usage ran = ran ≡ None
IsKept call output (ShelfFault file) ran = ran ≡ None
IsKept call output (BadLine file line at) ran = ran ≡ None
IsKept call output NoMemory ran = ran ≡ None
IsKept call output (TooLong file) ran = ran ≡ None
