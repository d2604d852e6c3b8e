-- The exchange by which a join is carried out, of a base that a pass wrote.
use Rattle.std.proofs.Common.{◌≡◌, ℕ, ◌+◌, ◌*◌, ◌<◌, Bool, true, false, not, List, [], ◌∷◌, sym, refl, ap, ◌∙◌, subst, arith}
use mathlib.Core.Option.{some}
use Rattle.ca_node.specs.declared.link.Link.{Link}
use Rattle.ca_node.specs.JoinSteps.{attempt_of}
use Rattle.ca_node.specs.Links.{IsIn}
use Rattle.ca_node.specs.Row.{level}
use Rattle.ca_node.specs.Told.{MyTree, link_word}
use Rattle.ca_node.specs.TreeView.{Note, Way, KnownRanges, TreeView, no_note}
use Rattle.ca_node.specs.Unlinks.{Unlinking, IsMarkedBase, IsUnlinking}
use Rattle.ca_rows.specs.Claims.{claim_of}
use Rattle.ca_rows.specs.Layout.{row_words}
use Rattle.ca_rows.specs.declared.sizes.Sizes.{Sizes}
use Rattle.ca_rows.specs.declared.view.Claim.TheVariants.{Holds}
use Rattle.ca_rows.specs.declared.view.Pin.{Pin}
use Rattle.ca_base.specs.Joined.{SpellsJoined}
use Rattle.ca_base.specs.Putting.{first_note, words_of}
use Rattle.ca_adapt.specs.declared.finishing.Union.{Union}
use Rattle.ca_adapt.specs.Finishing.{AreRowsOf, IsHungBy}
use Rattle.ca_adapt.proofs.Finishes.{AreBoth}
use Rattle.ca_adapt.proofs.HungWays.{IsHungWay, hung_found, hung_way}

-- the base that was shown before the last one
abbrev pub note_before : List Note → Note
note_before [] = no_note
note_before (note ∷ notes) = first_note notes

-- the unlinking by these rows, of a route that the seat remembers on this link, under which it was
-- shown two bases last
abbrev pub unlinking_of : MyTree → Union → Bool → ℕ → Unlinking
unlinking_of m rows counted link = record {
  way = hung_way rows.attempt.route link m.0.upper.ways;
  attempt = rows.attempt.number;
  left = note_before m.0.upper.notes;
  right = first_note m.0.upper.notes;
  its = words_of (claim_of m.0.claims rows.new);
  counts = not counted;
}

-- Both links were loaded, and then the joined base was written.
pub record IsWrittenThen (z : Sizes) (above : Link) (counted : Bool) (m n l : MyTree) (rows : Union)
    (at_level : ℕ) (its : List ℕ) : Type 0 where
  pub both : AreBoth z (attempt_of rows.attempt.route rows.attempt.number) m n rows.left rows.right
  pub hung : IsHungBy z m.0.upper rows.attempt.route above
  pub upper : l.0.upper ≡ n.0.upper
  pub pin : l.0.pin ≡ m.0.pin
  pub pinned : m.0.pin.pinned ≡ true
  pub number : 0 < m.0.upper.number
  pub secured : IsIn (attempt_of rows.attempt.route rows.attempt.number)
      m.0.upper.ranges.joins.secured
  pub decided : counted ≡ true → IsIn (attempt_of rows.attempt.route rows.attempt.number)
      m.0.upper.ranges.joins.decided
  pub levels : (way : Way) → IsIn way n.0.upper.ways → way.row ≡ rows.attempt.route
      → at_level ≡ level way.its
  pub held : claim_of l.0.claims rows.new ≡ some (Holds its)
  pub spells : SpellsJoined both.first both.second at_level its

-- So it is once a row was taken.
pub is_written : (z : Sizes) (above : Link) (counted : Bool) (m n k l : MyTree) (rows : Union)
    (at_level : ℕ) (its : List ℕ)
    → (both : AreBoth z (attempt_of rows.attempt.route rows.attempt.number) m n rows.left
    rows.right) → IsHungBy z m.0.upper rows.attempt.route above
    → k.0.upper ≡ n.0.upper → k.0.pin ≡ n.0.pin → l.0.upper ≡ k.0.upper → l.0.pin ≡ k.0.pin
    → m.0.pin.pinned ≡ true → 0 < m.0.upper.number
    → IsIn (attempt_of rows.attempt.route rows.attempt.number) m.0.upper.ranges.joins.secured
    → (counted ≡ true → IsIn (attempt_of rows.attempt.route rows.attempt.number)
    m.0.upper.ranges.joins.decided)
    → ((way : Way) → IsIn way n.0.upper.ways → way.row ≡ rows.attempt.route
    → at_level ≡ level way.its)
    → claim_of l.0.claims rows.new ≡ some (Holds its)
    → SpellsJoined both.first both.second at_level its
    → IsWrittenThen z above counted m n l rows at_level its
is_written z above counted m n k l rows at_level its both hung upper pin upper' pin' pinned number
    secured decided levels held spells = record {
      both = both;
      hung = hung;
      upper = upper' ∙ upper;
      pin = pin' ∙ (pin ∙ both.pin);
      pinned = pinned;
      number = number;
      secured = secured;
      decided = decided;
      levels = levels;
      held = held;
      spells = spells;
    }

module _ (z : Sizes) (above : Link) (counted : Bool) (m n l : MyTree) (rows : Union) (at_level : ℕ)
    (its : List ℕ)
    (w : IsWrittenThen z above counted m n l rows at_level its) where
  ways_same : l.0.upper.ways ≡ m.0.upper.ways
  ways_same = ap (λ (u : TreeView). u.ways) w.upper ∙ w.both.tried.ways

  found : IsHungWay rows.attempt.route (link_word above) l.0.upper.ways
      (hung_way rows.attempt.route (link_word above) l.0.upper.ways)
  found = hung_found rows.attempt.route (link_word above) l.0.upper.ways w.hung.way record {
    remembered = subst (λ (ways : List Way). IsIn w.hung.way ways) (sym ways_same)
        w.hung.remembered;
    row_is = w.hung.row_is;
    link_is = w.hung.link_is;
    level_is = w.hung.is_route.level_is;
  }

  last : l.0.upper.notes ≡ w.both.second ∷ w.both.first ∷ w.both.last.0
  last = ap (λ (u : TreeView). u.notes) w.upper ∙ w.both.last.1

  left_note : note_before l.0.upper.notes ≡ w.both.first
  left_note = ap note_before last

  right_note : first_note l.0.upper.notes ≡ w.both.second
  right_note = ap first_note last

  abbrev unlinking : Unlinking
  unlinking = record {
    way = hung_way rows.attempt.route (link_word above) l.0.upper.ways;
    attempt = rows.attempt.number;
    left = w.both.first;
    right = w.both.second;
    its = its;
    counts = not counted;
  }

  same : unlinking_of l rows counted (link_word above) ≡ unlinking
  same = λ i. record {
    way = hung_way rows.attempt.route (link_word above) l.0.upper.ways;
    attempt = rows.attempt.number;
    left = left_note i;
    right = right_note i;
    its = words_of (w.held i);
    counts = not counted;
  }

  left_base : IsMarkedBase l unlinking (row_words * unlinking.way.row + 1) w.both.first
  left_base = subst (λ (r : ℕ). IsMarkedBase l
      (record unlinking { way = record unlinking.way { row = r } }) (row_words * r + 1)
      w.both.first)
      (sym found.row_is) record {
        shown = subst (λ (notes : List Note). IsIn w.both.first notes) (sym last) (1, refl);
        is_base = w.both.joinable.left_shown.is_base.is_base;
        marked = w.both.left_marked;
        here = w.both.left_link;
      }

  right_base : IsMarkedBase l unlinking (row_words * unlinking.way.row + 2) w.both.second
  right_base = subst (λ (r : ℕ). IsMarkedBase l
      (record unlinking { way = record unlinking.way { row = r } }) (row_words * r + 2)
      w.both.second)
      (sym found.row_is) record {
        shown = subst (λ (notes : List Note). IsIn w.both.second notes) (sym last) (0, refl);
        is_base = w.both.joinable.right_shown.is_base.is_base;
        marked = w.both.right_marked;
        here = w.both.right_link;
      }

  joins_same : l.0.upper.ranges ≡ m.0.upper.ranges
  joins_same = ap (λ (u : TreeView). u.ranges) w.upper ∙ w.both.tried.ranges

  was_counted : (b : Bool) → not b ≡ false → b ≡ true
  was_counted true e = refl
  was_counted false e = absurd cc

  pub unlinks : IsUnlinking z l rows.new (unlinking_of l rows counted (link_word above))
  unlinks = subst (IsUnlinking z l rows.new) (sym same) record {
    is_pinned = ap (λ (p : Pin). p.pinned) w.pin ∙ w.pinned;
    is_pass = subst (λ (n : ℕ). 0 < n)
        (sym (ap (λ (u : TreeView). u.number) w.upper
        ∙ ap (λ (u : TreeView). u.number) w.both.steps.only)) w.number;
    remembered = found.remembered;
    secured = subst (λ (x : ℕ × KnownRanges). IsIn (attempt_of x.0 rows.attempt.number)
        x.1.joins.secured)
        (λ i. (sym found.row_is i, sym joins_same i)) w.secured;
    left = left_base;
    right = right_base;
    held = w.held;
    is_base = w.spells.is_base;
    level_is = w.spells.level_is
        ∙ (w.levels unlinking.way
        (subst (λ (ways : List Way). IsIn unlinking.way ways)
        (ap (λ (u : TreeView). u.ways) w.upper)
        found.remembered) found.row_is ∙ found.level_is);
    few = let fit = w.both.fit in omega (arith, w.spells.count_is);
    unmarked = w.spells.unmarked;
    calm = w.spells.statistic_is;
    items_are = w.spells.items_are;
    headed = w.spells.headed;
    counted = λ e. subst (λ (x : ℕ × KnownRanges). IsIn (attempt_of x.0 rows.attempt.number)
        x.1.joins.decided)
        (λ i. (sym found.row_is i, sym joins_same i)) (w.decided (was_counted counted e));
  }

  pub rows_are : AreRowsOf (unlinking_of l rows counted (link_word above)) rows
  rows_are = record {
    route = found.row_is;
    left = ap (λ (note : Note). note.row) left_note ∙ w.both.joinable.left_shown.here;
    right = ap (λ (note : Note). note.row) right_note ∙ w.both.joinable.right_shown.here;
  }

  pub link_is : (unlinking_of l rows counted (link_word above)).way.place.link ≡ link_word above
  link_is = found.link_is
