-- A read that was interrupted leaves the file and the piece's length as they were.
use Rattle.std.proofs.Common.{◌≡◌, length}
use Rattle.std.specs.Io.KnownBytes.{Keeps}
use Rattle.ca_outside.proofs.dir_shelf.read_piece.Given as goal

abbrev pub invariant-loop : goal.invariant-loop
invariant-loop g l = (length l.piece ≡ length l.initial.piece) × Keeps (g.F.Read.remaining l.initial.file) (g.F.Read.remaining l.file)
