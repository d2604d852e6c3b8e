use Rattle.std.proofs.Common.{◌≡◌, ℕ, ◌+◌, ◌<◌, ◌≤◌, drop, get_or, vec_len}
use mathlib.Core.Option.{some}
use Rattle.ca_rows.specs.Kept.{AreKeptBut, kept_of, nobody}
use Rattle.ca_rows.specs.Reclaiming.{Reclaims}
use Rattle.ca_rows.specs.Told.{IsOnly}
use Rattle.ca_rows.proofs.space.Space.give_old.Given as goal

abbrev pub invariant-loop-at : goal.invariant-loop-at
invariant-loop-at g l = record {
  table : l.pass.seat.table_id ≡ l.fn.pass.seat.table_id;
  id : l.pass.seat.id ≡ l.fn.pass.seat.id;
  number : l.pass.number ≡ l.fn.pass.number;
  tally : l.pass.tally ≡ l.fn.pass.tally;
  list : AreKeptBut l.self.table.shared.key.rows l.at l.end l.pass.seat.me.0.claims
      l.pass.kept.rows;
  pin : l.pass.seat.me.0.pin ≡ l.fn.pass.seat.me.0.pin;
  reclaims : Reclaims l.fn.pass.seat.me l.pass.seat.me;
  freed : l.freed + vec_len l.pass.kept.rows + l.at ≡ vec_len l.fn.pass.kept.rows + l.end;
  lost : l.pass.seat.me.0.lost ≡ l.fn.pass.seat.me.0.lost + l.losses;
  few : l.freed + l.losses + l.at ≤ vec_len l.fn.pass.kept.rows;
  old : (i : ℕ) → i < l.at → (get_or l.pass.kept.rows.items i nobody).at + 2 ≤ l.epoch;
  young : (r t : ℕ) → kept_of (drop l.end l.pass.kept.rows.items) r ≡ some t → l.epoch < t + 2;
  before : l.at ≤ l.end;
  within : l.end ≤ vec_len l.pass.kept.rows;
  only : IsOnly l.fn.pass.seat.me → l.losses ≡ 0;
}

abbrev pub decreases-loop-at : goal.decreases-loop-at
decreases-loop-at g l = l.at
