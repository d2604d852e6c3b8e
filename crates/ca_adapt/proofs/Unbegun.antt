-- No attempt was begun: a join word was loaded, and an exchange of it may have been lost. What
-- stays then.
use Rattle.std.proofs.Common.{◌≡◌, ℕ, ◌+◌, [], Err, sym, refl, ap, ◌∙◌, subst, arith}
use Rattle.ca_base.specs.Counting.{HasMet}
use Rattle.ca_base.specs.Taking.{AreHeld}
use Rattle.ca_node.specs.JoinSteps.{joins_loaded, one_begin_lost, with_joins}
use Rattle.ca_node.specs.Told.{MyTree, with_upper}
use Rattle.ca_node.specs.TreeView.{KnownJoins, Tries, TreeView, one_tried}
use Rattle.ca_rows.specs.Passes.{KeepsList}
use Rattle.ca_rows.specs.declared.sizes.Sizes.{Sizes}
use Rattle.ca_rows.specs.declared.space.Pass.{Pass}
use Rattle.ca_adapt.specs.Carrying.{StaysPinned}
use Rattle.ca_adapt.specs.Joins.{HasBegunAt}
use Rattle.ca_adapt.specs.Trying.{IsJoinSteps}
use Rattle.ca_adapt.specs.declared.adapted.Why.{Why}
use Rattle.ca_adapt.specs.declared.adapted.Why.TheVariants as why
use Rattle.ca_adapt.proofs.JoinHeld.{raised_held}
use Rattle.ca_adapt.proofs.Readied.{pinned_keeps}
use Rattle.ca_adapt.proofs.TrySteps.{no_steps}

-- What the seat knows of joins changed alone, and how many exchanges it lost, and tries it made.
pub record IsUnbegun (m m' : MyTree) : Type 0 where
  pub joins : KnownJoins
  pub lost : ℕ
  pub tries : Tries
  pub now : m' ≡ with_upper m (record (with_joins m.0.upper joins) { lost = lost; tries = tries })

pub unbegun : (route : ℕ) (w : Why) (m m' : MyTree) → HasBegunAt route (Err w) m m' → IsUnbegun m m'
unbegun route why.Root m m' b = absurd b.3
unbegun route why.OneObject m m' b = absurd b.3
unbegun route why.AtLevel m m' b = absurd b.3
unbegun route why.SiblingRoute m m' b = absurd b.3
unbegun route why.TooMany m m' b = absurd b.3
unbegun route why.Taken m m' b =
    record {
      joins = joins_loaded route b.0 m.0.upper.ranges.joins;
      lost = m.0.upper.lost;
      tries =
          m.0.upper.tries;
      now = b.3.1 ∙ b.2.now;
    }
unbegun route why.Lost m m' b = record {
  joins = record (joins_loaded route b.0 m.0.upper.ranges.joins) { next = [] };
  lost = m.0.upper.lost + 1;
  tries = one_tried m.0.upper.tries;
  now = b.3.2 ∙ ap (λ (x : MyTree). with_upper x (one_begin_lost x.0.upper)) b.2.now;
}
unbegun route why.NoRow m m' b = absurd b.3
unbegun route why.Worn m m' b =
    record {
      joins = joins_loaded route b.0 m.0.upper.ranges.joins;
      lost = m.0.upper.lost;
      tries =
          m.0.upper.tries;
      now = b.3.2 ∙ b.2.now;
    }

module _ (m m' : MyTree) (b : IsUnbegun m m') where
  pub unbegun_met : HasMet 0 0 m m'
  unbegun_met = let empty = ap (λ (x : MyTree). x.0.empty) b.now in let worn =
      ap (λ (x : MyTree). x.0.worn) b.now in (omega arith, omega arith)

  pub unbegun_own : m'.0.upper.ranges.own ≡ m.0.upper.ranges.own
  unbegun_own = ap (λ (x : MyTree). x.0.upper.ranges.own) b.now

  pub unbegun_passed : m'.0.upper.turns.passed ≡ m.0.upper.turns.passed
  unbegun_passed = ap (λ (x : MyTree). x.0.upper.turns.passed) b.now

  pub unbegun_inventory : m'.0.upper.inventory ≡ m.0.upper.inventory
  unbegun_inventory = ap (λ (x : MyTree). x.0.upper.inventory) b.now

  pub unbegun_steps : (z : Sizes) → IsJoinSteps z m.0.upper m'.0.upper
  unbegun_steps z = subst (λ (x : MyTree). IsJoinSteps z m.0.upper x.0.upper) (sym b.now) record {
    only = refl;
    seen = (no_steps z m.0.upper).seen;
    known = λ k. record {
      lawful = k.lawful;
      past = k.past;
      edits = k.edits;
      enrolled =
          k.enrolled;
      by_passes = k.by_passes;
    };
  }

module _ {R : Type 0} (pass new : Pass R TreeView) (k : KeepsList pass new)
    (b : IsUnbegun pass.seat.me new.seat.me) where
  pub unbegun_pinned : StaysPinned pass new
  unbegun_pinned = pinned_keeps pass new k (ap (λ (x : MyTree). x.0.sizes) b.now)
      (ap (λ (x : MyTree). x.0.pin) b.now)
      (ap (λ (x : MyTree). x.0.upper.splits) b.now) (ap (λ (x : MyTree). x.0.upper.joins) b.now)

  pub unbegun_held : (rows : ℕ) → AreHeld rows pass.kept.rows pass.seat.me.0 []
      → AreHeld rows new.kept.rows new.seat.me.0 []
  unbegun_held rows h = raised_held rows pass.kept new.kept pass.seat.me new.seat.me []
      (record (with_joins pass.seat.me.0.upper b.joins) { lost = b.lost; tries = b.tries }) k.kept
      refl (omega arith) h b.now
