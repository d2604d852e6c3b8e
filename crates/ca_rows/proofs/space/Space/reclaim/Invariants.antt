use Rattle.std.proofs.Common.{◌≡◌, ◌≢◌, ◌⊎◌, ℕ, ◌+◌, ◌*◌, ◌<◌, ◌≤◌, [], length, vec_len}
use Rattle.std.specs.declared.option.Option.TheVariants.{None}
use mathlib.Core.Option.{some}
use Rattle.ca_rows.specs.Kept.{AreKept, kept_of}
use Rattle.ca_rows.specs.Reclaiming.{Reclaims, IsLag, lag_count}
use Rattle.ca_rows.proofs.space.Space.reclaim.Given as goal
use Rattle.ca_rows.specs.Layout.{row_limit, last_epoch}
use Rattle.ca_rows.specs.Told.{IsOnly}

abbrev pub invariant-loop-left : goal.invariant-loop-left
invariant-loop-left g l = record {
  table : l.pass.seat.table_id ≡ l.fn.pass.seat.table_id;
  id : l.pass.seat.id ≡ l.fn.pass.seat.id;
  number : l.pass.number ≡ l.fn.pass.number;
  tally : l.pass.tally ≡ l.fn.pass.tally;
  list : AreKept l.self.table.shared.key.rows l.pass.seat.me.0.claims l.pass.kept.rows;
  reclaims : Reclaims l.fn.pass.seat.me l.pass.seat.me;
  most : l.pass.seat.me.0.pin.looks + l.left ≤ l.fn.pass.seat.me.0.pin.looks + 3;
  each : 0 < l.left → l.pass.seat.me.0.pin.looks + l.left ≡ l.fn.pass.seat.me.0.pin.looks + 3;
  three : l.left ≡ 0 → l.lag ≡ None → l.pass.seat.me.0.pin.scan < last_epoch
      → (l.pass.kept.rows.items ≡ [])
      ⊎ (l.pass.seat.me.0.pin.looks ≡ l.fn.pass.seat.me.0.pin.looks + 3);
  recent : l.left < 3 → (r t : ℕ) → kept_of l.pass.kept.rows.items r ≡ some t
      → l.pass.seat.me.0.pin.scan ≤ t + 2;
  after_lag : l.left < 3 → l.lag ≢ None → (r t : ℕ) → kept_of l.pass.kept.rows.items r ≡ some t
      → l.pass.seat.me.0.pin.scan < t + 2;
  fresh : 3 ≤ l.left → (l.pass.kept.rows.items ≡ l.fn.pass.kept.rows.items) × (l.losses ≡ 0);
  idle : l.fn.pass.kept.rows.items ≡ [] → l.left < 3
      → (l.left ≡ 0) × (l.pass.seat.me.0.pin.looks ≡ l.fn.pass.seat.me.0.pin.looks + 1)
      × (l.lag ≡ None) × (l.losses ≡ 0);
  looked : l.left < 3 → l.fn.pass.seat.me.0.pin.looks < l.pass.seat.me.0.pin.looks;
  freed : l.freed + vec_len l.pass.kept.rows ≡ vec_len l.fn.pass.kept.rows;
  lost : l.pass.seat.me.0.lost ≡ l.fn.pass.seat.me.0.lost + l.losses;
  few : l.left ≤ 3;
  only : IsOnly l.fn.pass.seat.me → (l.lag ≡ None) × (l.losses ≡ 0);
  bound : l.losses + row_limit * l.left ≤ 3 * row_limit;
  tried : l.losses ≤ 3 * length l.fn.pass.kept.rows.items + 3;
  tried_twice : 0 < l.left → l.losses ≤ 2 * length l.fn.pass.kept.rows.items + 2;
  tried_once : 1 < l.left → l.losses ≤ length l.fn.pass.kept.rows.items + 1;
  epoch : l.left < 3 → l.epoch ≡ l.pass.seat.me.0.pin.scan;
  lag : l.left < 3
      → IsLag l.self.table.shared.key.passes l.fn.pass.number l.lag l.pass.seat.me.0.pin;
  lags : l.left < 3 → l.pass.seat.me.0.pin.lags ≡ l.fn.pass.seat.me.0.pin.lags + lag_count l.lag;
  unlagged : 0 < l.left → l.left < 3 → l.lag ≡ None;
  at_first : 3 ≤ l.left → l.pass.seat.me.0.pin.lags ≡ l.fn.pass.seat.me.0.pin.lags;
  older : 0 < l.left → l.left < 3 → l.losses ≡ 0 → (r t : ℕ)
      → kept_of l.pass.kept.rows.items r ≡ some t → t + 3 ≤ l.pass.seat.me.0.pin.scan + l.left;
  young : l.left ≡ 0 → l.losses ≡ 0 → (r t : ℕ) → kept_of l.pass.kept.rows.items r ≡ some t
      → l.pass.seat.me.0.pin.scan < t + 2;
  ended : l.left ≡ 0 → l.lag ≡ None → l.losses ≡ 0 → l.pass.seat.me.0.pin.scan < last_epoch
      → l.pass.kept.rows.items ≡ [];
}

abbrev pub decreases-loop-left : goal.decreases-loop-left
decreases-loop-left g l = l.left
