use Rattle.std.proofs.Common.{sym, ap, ◌∙◌, subst}
use Rattle.ca_node.specs.OwnRanges.{IsOpening, opened}
use Rattle.ca_node.specs.Told.{with_upper}
use Rattle.ca_node.specs.TreeView.{Begun}
use Rattle.std.specs.Prelude.{ℕ, ◌<◌}
use Rattle.ca_range.proofs.opening.open_own.Goals as goal

pub open_range-requires-clause-opening : goal.open_range-requires-clause-opening
open_range-requires-clause-opening g c = let n = c.requires.number in let o = c.requires.owner in
    subst (IsOpening c.args.pass.now.seat.me) (sym c.requires.begun) record {
      is_pinned = o.reading.pinned;
      is_pass = subst (λ (x : ℕ). 0 < x) (sym o.same_number) o.some_number;
      quiet = c.requires.quiet;
      last = n.0;
      sequence = n.1;
      next = n.2;
    }

pub open_range-requires-clause-number : goal.open_range-requires-clause-number
open_range-requires-clause-number g c = (ap (λ (b : Begun). b.number) c.requires.begun, c.requires.number.3)

pub returns-clause-opened : goal.returns-clause-opened
returns-clause-opened g c = c.open_range.ensures.opened ∙ ap (λ (b : Begun). with_upper c.args.pass.now.seat.me (opened b c.args.pass.now.seat.me.0.upper)) c.requires.begun
