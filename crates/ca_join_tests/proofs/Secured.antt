-- The attempt of a pass that looked at a base: it is begun, both bases are marked for it, and it is secured.
use Rattle.std.proofs.Common.{◌≡◌, ℕ, ◌<◌, ◌∷◌, [], Some, Ok, refl, sym, ap, ◌∙◌, subst, arith}
use Rattle.ca_adapt.specs.Carrying.{StaysPinned, ordered}
use Rattle.ca_adapt.specs.declared.carrying.Copies.{Copies}
use Rattle.ca_adapt.specs.declared.joining.Attempt.{Attempt}
use Rattle.ca_adapt.specs.declared.looking.Fork.{Fork}
use Rattle.ca_adapt.specs.declared.marking.Pair.{Pair}
use Rattle.ca_adapt.specs.Finishing.{IsHungBy}
use Rattle.ca_adapt.specs.Joins.{HasBegunAt, last_on}
use Rattle.ca_adapt.specs.Pairs.{AreMarkedBoth, IsPair}
use Rattle.ca_adapt.specs.Trying.{FindsSibling, IsForkAt, OnlyLooks}
use Rattle.ca_adapt.proofs.Begun.{is_pair, last_one, last_other}
use Rattle.ca_adapt.proofs.JoinHeld.{relinked_held}
use Rattle.ca_adapt.proofs.LastOn.{shown_first}
use Rattle.ca_adapt.proofs.Looks.{looks_ready}
use Rattle.ca_adapt.proofs.Readied.{pinned_keeps, reading_then}
use Rattle.ca_adapt.proofs.Securing.{hung_still, securable, uniting_both}
use Rattle.ca_adapt.proofs.Tried.{begun_own, begun_ready, begun_ways}
use Rattle.ca_base.specs.Finding.{IsAtCursor, IsBaseShown}
use Rattle.ca_base.specs.Putting.{first_note}
use Rattle.ca_base.specs.Taking.{AreHeld, lent_of}
use Rattle.ca_node.specs.declared.cursor.Cursor.{Cursor}
use Rattle.ca_node.specs.declared.link.Link.{Link}
use Rattle.ca_node.specs.JoinSteps.{attempt_of, securing}
use Rattle.ca_node.specs.Told.{MyTree, IsSettled, link_word}
use Rattle.ca_node.specs.TreeView.{Note, TreeView}
use Rattle.ca_rows.specs.Passes.{KeepsList}
use Rattle.ca_rows.specs.Told.{relinked}
use Rattle.ca_rows.specs.declared.space.Pass.{Pass}
use Rattle.ca_rows.specs.declared.space.Space.{Space}
use Rattle.ca_join_tests.specs.Stopping.{HasBegun, HasLooked, IsPrepared, IsSecured}

-- What it was shown last is what it was shown last on the cursor's link.
module _ {R : Type 0} (space : Space R TreeView) (pass : Pass R TreeView) (cursor : Cursor) (h : HasLooked space pass cursor) where
  abbrev notes_here : Note
  notes_here = last_on (link_word cursor.link) pass.seat.me.0.upper.notes

  same_note : notes_here ≡ first_note pass.seat.me.0.upper.notes
  same_note = shown_first (link_word cursor.link) pass.seat.me.0.upper.notes h.at.link

  pub shown_there : IsBaseShown space.table.shared.key pass.seat.me.0.upper cursor.base notes_here
  shown_there = subst (λ (n : Note). IsBaseShown space.table.shared.key pass.seat.me.0.upper cursor.base n) (sym same_note) h.shown

  pub at_there : IsAtCursor space.table.shared.key notes_here cursor
  at_there = subst (λ (n : Note). IsAtCursor space.table.shared.key n cursor) (sym same_note) h.at

  pub settled_there : IsSettled pass.seat.me.0.upper notes_here.its
  settled_there = subst (λ (n : Note). IsSettled pass.seat.me.0.upper n.its) (sym same_note) h.settled

-- So an attempt was begun behind a look at the sibling.
module _ {R : Type 0} (space : Space R TreeView) (p q n : Pass R TreeView) (cursor : Cursor) (fork : Fork) (row level : ℕ) (x : Attempt)
    (h : HasLooked space p cursor) (is : IsForkAt space.table.shared.key p.seat.me.0.upper cursor.link (Some fork)) (k : KeepsList p q)
    (l : OnlyLooks p.seat.me q.seat.me)
    (f : FindsSibling space.table.shared.key cursor.link (last_on (link_word cursor.link) p.seat.me.0.upper.notes) row p.seat.me q.seat.me)
    (level_is : level ≡ f.look.sibling.place.level) (kn : KeepsList q n) (b : HasBegunAt fork.route (Ok x) q.seat.me n.seat.me) where
  pub has_begun : HasBegun space n (record {
    one = cursor;
    other = record cursor {
      base = row;
      link = fork.other;
      level = level;
    };
    attempt = x;
  }) fork.above
  has_begun = let z = space.table.shared.key in let note = last_on (link_word cursor.link) p.seat.me.0.upper.notes in
      let shown = shown_there space p cursor h in let at = at_there space p cursor h in let settled = settled_there space p cursor h in record {
        ready = begun_ready space q n fork.route x kn b (l.own ∙ h.quiet) (looks_ready space p q k l h.ready);
        pair_is = subst (λ (s : Note × Note). IsPair z n.seat.me.0.upper (record {
          one = cursor;
          other = record cursor {
            base = row;
            link = fork.other;
            level = level;
          };
          attempt = x;
        }) s.0 s.1)
            (λ i. (
              sym (last_one z cursor fork note row level x p.seat.me q.seat.me n.seat.me f b is shown at settled level_is refl) i,
              sym (last_other z cursor fork note row level x p.seat.me q.seat.me n.seat.me f b is shown at settled level_is) i,
            ))
            (is_pair z cursor fork note row level x p.seat.me q.seat.me n.seat.me f b is shown at settled level_is);
        hung = hung_still z p.seat.me.0.upper n.seat.me.0.upper x.route fork.above
            (begun_ways z fork.route x q.seat.me n.seat.me b ∙ ap (λ (y : MyTree). y.0.upper.ways) f.now)
            (subst (λ (r : ℕ). IsHungBy z p.seat.me.0.upper r fork.above) (sym b.0) is.3);
        own = begun_own z fork.route x q.seat.me n.seat.me b;
        number = b.1;
      }

-- Both were marked, and a row was taken.
module _ {R : Type 0} (space : Space R TreeView) (p n : Pass R TreeView) (pair : Pair) (above : Link) (copies : Copies) (h : HasBegun space p pair above) where
  pub is_prepared : StaysPinned p n → (a : AreMarkedBoth space.table.shared.key pair (last_on (link_word pair.one.link) p.seat.me.0.upper.notes)
      (last_on (link_word pair.other.link) p.seat.me.0.upper.notes) (Ok copies.marked) p.seat.me.0.upper n.seat.me.0.upper)
      → AreHeld space.table.shared.key.rows n.kept.rows n.seat.me.0 (copies.new ∷ []) → IsPrepared space n pair above copies
  is_prepared stays a held = let z = space.table.shared.key in let u = p.seat.me.0.upper in record {
    reading = reading_then space p n record { own = h.ready.own; pinned = h.ready.pinned } stays;
    one = a.2.0;
    other = a.2.1;
    securable = securable z p.seat.me n.seat.me pair (last_on (link_word pair.one.link) u.notes) (last_on (link_word pair.other.link) u.notes) copies.marked
        h.pair_is h.ready.number h.own h.number (ap (λ (w : TreeView). w.ways) a.0.only) (ap (λ (w : TreeView). w.number) a.0.only)
        (ap (λ (w : TreeView). w.ranges) a.0.only) a;
    hung = hung_still z u n.seat.me.0.upper pair.attempt.route above (ap (λ (w : TreeView). w.ways) a.0.only) h.hung;
    held = held;
  }

-- It was secured.
module _ {R : Type 0} (space : Space R TreeView) (p n : Pass R TreeView) (pair : Pair) (above : Link) (copies : Copies)
    (h : IsPrepared space p pair above copies) (rows : ℕ × ℕ) (k : KeepsList p n) where
  pub is_secured : n.seat.me ≡ relinked p.seat.me p.seat.me.0.claims (securing (attempt_of pair.attempt.route pair.attempt.number) p.seat.me.0.upper)
      → rows ≡ ordered pair.one.link copies.marked
      → IsSecured space n (record { attempt = pair.attempt; above = above; left = rows.0; right = rows.1; new = copies.new })
  is_secured e in_order = let z = space.table.shared.key in let m = p.seat.me in let x = attempt_of pair.attempt.route pair.attempt.number in
      let both = uniting_both z m pair copies.marked h.one h.other h.securable above rows copies.new n.seat.me.0.upper (ap (λ (y : MyTree). y.0.upper) e) h.hung
      in_order in record {
        reading = reading_then space p n h.reading (pinned_keeps p n k (ap (λ (y : MyTree). y.0.sizes) e) (ap (λ (y : MyTree). y.0.pin) e)
            (ap (λ (y : MyTree). y.0.upper.splits) e) (ap (λ (y : MyTree). y.0.upper.joins) e));
        number = subst (λ (i : ℕ). 0 < i) (sym (ap (λ (y : MyTree). y.0.upper.number) e)) h.securable.is_pass;
        left = both.0;
        right = both.1;
        is_uniting = both.2;
        held = relinked_held z.rows p.kept n.kept m n.seat.me (copies.new ∷ []) (securing x m.0.upper) k.kept (ap lent_of (sym h.securable.own)) (omega arith)
            h.held e;
        own = ap (λ (y : MyTree). y.0.upper.ranges.own) e;
      }
