use Rattle.std.proofs.Common.{◌≡◌, ℕ, ◌≤◌, List, length, map, take, drop, vec_len, vec_capacity}
use Rattle.std.specs.Prelude.{IsSome}
use Rattle.std.specs.String.{string_bytes}
use Rattle.ca_cmd.specs.Lines.{numbered}
use Rattle.ca_cli.specs.Call.{change_of}
use Rattle.ca_cli.specs.Accepted.{most_bytes}
use Rattle.ca_cli.specs.Complete.{AreHeld}
use Rattle.ca_cli.proofs.Accepted.{IsReading}
use Rattle.ca_cli.proofs.files.read_all.Given as goal

abbrev pub invariant-loop-name : goal.invariant-loop-name
invariant-loop-name g l = record {
  number : l.number ≡ l.name-index;
  reading : IsReading (g.F.Shelf.content l.initial.shelf)
      (change_of (g.F.Shelf.fetches l.initial.shelf) (g.F.Shelf.fetches l.shelf) (g.F.Shelf.faults l.initial.shelf) (g.F.Shelf.faults l.shelf))
      (map string_bytes (take l.name-index l.names)) (map numbered l.all.items) l.room;
  held : AreHeld (g.F.Shelf.content l.initial.shelf) (map string_bytes l.names) most_bytes
      → AreHeld (g.F.Shelf.content l.initial.shelf) (map string_bytes (drop l.name-index l.names)) l.room;
  count : vec_len l.all ≡ l.name-index;
  spare : length l.names ≤ vec_capacity l.all;
  later : g.F.Shelf.faults l.initial.shelf ≤ g.F.Shelf.faults l.shelf;
  told : IsSome (g.F.Shelf.fetches l.initial.shelf) → IsSome (g.F.Shelf.fetches l.shelf);
  same : (n : List ℕ) → g.F.Shelf.content l.shelf n ≡ g.F.Shelf.content l.initial.shelf n;
}
