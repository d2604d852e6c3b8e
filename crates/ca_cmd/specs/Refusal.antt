-- When a file is refused.
use Rattle.std.specs.Prelude.{◌≡◌, ℕ, List, Err}
use Rattle.ca_cmd.specs.Content.{IsLine}
use Rattle.ca_cmd.specs.File.{IsRefusedAt}
use Rattle.ca_cmd.specs.declared.fault.FileFault.{FileFault}
use Rattle.ca_cmd.specs.declared.fault.FileFault.TheVariants.{BadLine, NoMemory}

abbrev pub IsCauseIn : List ℕ → FileFault → Type 0
IsCauseIn file (BadLine line at why) = IsRefusedAt file line at why
IsCauseIn file NoMemory = Unit {0}

-- The line of this number is refused.
abbrev pub IsCauseAt : ℕ → List ℕ → FileFault → Type 0
IsCauseAt number text (BadLine line at why) = (line ≡ number) × IsLine text (Err (record { at = at; why = why }))
IsCauseAt number text NoMemory = Unit {0}
