-- The lines of a file as plain data.
use Rattle.std.specs.Prelude.{List, map}
use Rattle.ca_cmd.specs.File.{Numbered}
use Rattle.ca_cmd.specs.declared.line.Line.{Line}

abbrev pub numbered_line : Line → Numbered
numbered_line l = record { number = l.number; command = l.cmd }

abbrev pub numbered : List Line → List Numbered
numbered lines = map numbered_line lines
