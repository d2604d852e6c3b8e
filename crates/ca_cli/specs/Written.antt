-- What a call of the program leaves behind.
use Rattle.std.specs.Prelude.{◌≡◌, ℕ, ◌<◌, List, length, take, ◌⊎◌, Option, None, Some}
use Rattle.ca_cli.specs.Call.{Call, Change, Adds, HasFailed}
use Rattle.ca_cli.specs.Causes.{IsCause}
use Rattle.ca_cli.specs.Run.{HasPlayed}
use Rattle.ca_cli.specs.StatusText.{text_of_status}
use Rattle.ca_client.specs.declared.running.Ran.{Ran}
use Rattle.ca_cli.specs.declared.status.Status.{Status}
use Rattle.ca_cli.specs.declared.status.Status.TheVariants.{Done, SinkFault}

-- What a call comes to before anything is written: it is done, and there is a run of which the bytes tell; or it ends early, there is a cause for its
-- status, and the bytes are the line that the status comes with.
abbrev pub IsOutcome : Call → Option Ran → Status → List ℕ → Type 0
IsOutcome call (Some ran) status bytes = (status ≡ Done) × HasPlayed call ran bytes
IsOutcome call None status bytes = IsCause call status × (bytes ≡ text_of_status status)

-- All of the bytes were taken in this call.
pub record IsTakenWhole (output : Change ℕ) (bytes : List ℕ) (status result : Status) : Type 0 where
  pub same : result ≡ status
  pub taken : Adds output bytes

-- The sink failed: a part of the bytes was taken from the front, and not all.
pub record IsCutOff (output : Change ℕ) (bytes : List ℕ) (result : Status) : Type 0 where
  pub same : result ≡ SinkFault
  pub count : ℕ
  pub part : count < length bytes
  pub taken : Adds output (take count bytes)
  pub risen : HasFailed output

-- The call comes to this run, or to none, and to this status and these bytes, and so much of them was taken.
pub record HasLeft (call : Call) (output : Change ℕ) (ran : Option Ran) (result status : Status) (bytes : List ℕ) : Type 0 where
  pub outcome : IsOutcome call ran status bytes
  pub written : IsTakenWhole output bytes status result ⊎ IsCutOff output bytes result

-- neither the shelf nor the sink had a fault
pub record IsFaultless (call : Call) (output : Change ℕ) : Type 0 where
  pub shelf : ¬ HasFailed call.shelf
  pub sink : ¬ HasFailed output
