-- The exchange by which an own attempt is carried out, of a base that the pass wrote.
use Rattle.std.proofs.Common.{◌≡◌, ℕ, ◌+◌, ◌*◌, ◌<◌, ◌≤◌, true, false, List, sym, ap, ◌∙◌, subst, arith}
use mathlib.Core.Option.{some}
use Rattle.ca_base.specs.Joined.{AreJoinable, SpellsJoined}
use Rattle.ca_base.specs.Putting.{words_of}
use Rattle.ca_node.specs.JoinSteps.{attempt_of}
use Rattle.ca_node.specs.Links.{IsIn}
use Rattle.ca_node.specs.Row.{level}
use Rattle.ca_node.specs.Told.{MyTree, link_word}
use Rattle.ca_node.specs.TreeView.{Note, Way, TreeView}
use Rattle.ca_node.specs.Unlinks.{Unlinking, IsMarkedBase, IsUnlinking}
use Rattle.ca_rows.specs.Claims.{claim_of}
use Rattle.ca_rows.specs.Layout.{row_words}
use Rattle.ca_rows.specs.declared.sizes.Sizes.{Sizes}
use Rattle.ca_rows.specs.declared.view.Claim.TheVariants.{Holds}
use Rattle.ca_adapt.specs.Carrying.{IsUniting}
use Rattle.ca_adapt.specs.Finishing.{AreRowsOf}
use Rattle.ca_adapt.specs.Joins.{last_on}
use Rattle.ca_adapt.specs.declared.carrying.Uniting.{Uniting}
use Rattle.ca_adapt.specs.declared.finishing.Union.{Union}
use Rattle.ca_adapt.proofs.HungWays.{IsHungWay, hung_found, hung_way}

-- the unlinking by these rows, of a route that the seat remembers on this link, under which these
-- bases were shown last
abbrev pub unlinking_by : MyTree → Union → ℕ → Unlinking
unlinking_by m rows link = record {
  way = hung_way rows.attempt.route link m.0.upper.ways;
  attempt = rows.attempt.number;
  left = last_on (row_words * rows.attempt.route + 1) m.0.upper.notes;
  right = last_on (row_words * rows.attempt.route + 2) m.0.upper.notes;
  its = words_of (claim_of m.0.claims rows.new);
  counts = false;
}

-- Both bases may be joined still, behind loads of words that were shown.
pub joinable_then : (z : Sizes) (m n : MyTree) (x : Uniting) (left right : Note)
    → IsUniting z m.0.upper x left right → n ≡ m → z.leaf ≤ 120
    → AreJoinable z n.0.upper x.left x.right left right
joinable_then z m n x left right i still leaf =
    subst (λ (y : MyTree). AreJoinable z y.0.upper x.left x.right left right) (sym still) record {
      left_shown = i.left_base.shown;
      right_shown = i.right_base.shown;
      few = let fit = i.few in omega arith;
    }

module _ (z : Sizes) (m l : MyTree) (x : Uniting) (left right : Note)
    (i : IsUniting z m.0.upper x left right) (upper : l.0.upper ≡ m.0.upper)
    (pinned : l.0.pin.pinned ≡ true) (number : 0 < m.0.upper.number) (at_level : ℕ) (its : List ℕ)
    (held : claim_of l.0.claims x.new ≡ some (Holds its))
    (spells : SpellsJoined left right at_level its)
    (levels : (way : Way) → IsIn way m.0.upper.ways → way.row ≡ x.attempt.route
    → at_level ≡ level way.its) where
  abbrev rows : Union
  rows = record { attempt = x.attempt; left = x.left; right = x.right; new = x.new }

  found : IsHungWay x.attempt.route (link_word x.above) m.0.upper.ways
      (hung_way x.attempt.route (link_word x.above) m.0.upper.ways)
  found = hung_found x.attempt.route (link_word x.above) m.0.upper.ways i.hung.way record {
    remembered = i.hung.remembered;
    row_is = i.hung.row_is;
    link_is = i.hung.link_is;
    level_is = i.hung.is_route.level_is;
  }

  abbrev unlinking : Unlinking
  unlinking = record {
    way = hung_way x.attempt.route (link_word x.above) m.0.upper.ways;
    attempt = x.attempt.number;
    left = left;
    right = right;
    its = its;
    counts = false;
  }

  same : unlinking_by l rows (link_word x.above) ≡ unlinking
  same = λ k. record {
    way = hung_way x.attempt.route (link_word x.above) (upper k).ways;
    attempt = x.attempt.number;
    left = (ap (λ (u : TreeView). last_on (row_words * x.attempt.route + 1) u.notes) upper
        ∙ i.left_base.last) k;
    right = (ap (λ (u : TreeView). last_on (row_words * x.attempt.route + 2) u.notes) upper
        ∙ i.right_base.last) k;
    its = words_of (held k);
    counts = false;
  }

  pub unlinks : IsUnlinking z l x.new (unlinking_by l rows (link_word x.above))
  unlinks = subst (IsUnlinking z l x.new) (sym same) record {
    is_pinned = pinned;
    is_pass = subst (λ (u : TreeView). 0 < u.number) (sym upper) number;
    remembered = subst (λ (u : TreeView). IsIn unlinking.way u.ways) (sym upper) found.remembered;
    secured = subst (λ (y : ℕ × TreeView). IsIn (attempt_of y.0 x.attempt.number)
        y.1.ranges.joins.secured) (λ k. (sym found.row_is k, sym upper k)) i.secured;
    left = subst (λ (y : ℕ). IsMarkedBase l
        (record unlinking { way = record unlinking.way { row = y } }) (row_words * y + 1) left)
        (sym found.row_is) record {
          shown = subst (λ (u : TreeView). IsIn left u.notes) (sym upper) i.left_base.shown.noted;
          is_base = i.left_base.shown.is_base.is_base;
          marked = i.left_base.marked;
          here = i.left_base.here;
        };
    right = subst (λ (y : ℕ). IsMarkedBase l
        (record unlinking { way = record unlinking.way { row = y } }) (row_words * y + 2) right)
        (sym found.row_is) record {
          shown = subst (λ (u : TreeView). IsIn right u.notes) (sym upper) i.right_base.shown.noted;
          is_base = i.right_base.shown.is_base.is_base;
          marked = i.right_base.marked;
          here = i.right_base.here;
        };
    held = held;
    is_base = spells.is_base;
    level_is = spells.level_is
        ∙ (levels unlinking.way found.remembered found.row_is ∙ found.level_is);
    few = let fit = i.few in omega (arith, spells.count_is);
    unmarked = spells.unmarked;
    calm = spells.statistic_is;
    items_are = spells.items_are;
    headed = spells.headed;
    counted = λ e. subst (λ (y : ℕ × TreeView). IsIn (attempt_of y.0 x.attempt.number)
        y.1.ranges.joins.decided)
        (λ k. (sym found.row_is k, sym upper k)) i.decided;
  }

  pub rows_are : AreRowsOf (unlinking_by l rows (link_word x.above)) rows
  rows_are = subst (λ (y : Unlinking). AreRowsOf y rows) (sym same) record {
    route = found.row_is;
    left = i.left_base.shown.here;
    right = i.right_base.shown.here;
  }

  pub link_is : (unlinking_by l rows (link_word x.above)).way.place.link ≡ link_word x.above
  link_is = ap (λ (y : Unlinking). y.way.place.link) same ∙ found.link_is
