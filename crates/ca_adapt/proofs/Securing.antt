-- Both bases under a route are marked for an own attempt: it may be secured, and the route may be
-- unlinked then.
use Rattle.std.proofs.Common.{◌≡◌, ◌≢◌, ℕ, ◌+◌, ◌*◌, ◌<◌, ◌≤◌, true, ◌∷◌, Ok, sym, refl, ap, ◌∙◌, subst, inl, inr, arith}
use Rattle.ca_base.specs.Finding.{IsBaseShown}
use Rattle.ca_node.specs.JoinSteps.{attempt_of, securing, IsSecuring}
use Rattle.ca_node.specs.Joining.{IsRemembered}
use Rattle.ca_node.specs.Links.{IsIn}
use Rattle.ca_node.specs.Told.{MyTree, IsKnownLink, link_word}
use Rattle.ca_node.specs.Place.{Place, Span}
use Rattle.ca_node.specs.TreeView.{Joining, KnownRanges, Note, TreeView}
use Rattle.ca_node.specs.declared.link.Link.{Link}
use Rattle.ca_node.specs.declared.link.Link.TheVariants as on
use Rattle.ca_rows.specs.Layout.{row_words}
use Rattle.ca_rows.specs.declared.sizes.Sizes.{Sizes}
use Rattle.ca_adapt.specs.Carrying.{IsSecurable, IsUniting, ordered}
use Rattle.ca_adapt.specs.Finishing.{IsHungBy}
use Rattle.ca_adapt.specs.Joins.{last_on}
use Rattle.ca_adapt.specs.Pairs.{AreMarkedBoth, IsPair}
use Rattle.ca_adapt.specs.Trying.{other_link, route_of}
use Rattle.ca_adapt.specs.declared.carrying.Uniting.{Uniting}
use Rattle.ca_adapt.specs.declared.marking.Marked.{Marked}
use Rattle.ca_adapt.specs.declared.marking.Pair.{Pair}
use Rattle.ca_adapt.proofs.LastOn.{behind, first_on}

link_still : (u v : TreeView) (link least : ℕ) (span : Span) → v.ways ≡ u.ways
    → IsKnownLink u link least span → IsKnownLink v link least span
link_still u v link least span same (inl root) = inl root
link_still u v link least span same (inr k) = inr (k.0, subst (IsIn k.0) (sym same) k.1, k.2, k.3)

-- The route hangs where it hung, as long as it is remembered.
pub hung_still : (z : Sizes) (u v : TreeView) (route : ℕ) (above : Link) → v.ways ≡ u.ways
    → IsHungBy z u route above → IsHungBy z v route above
hung_still z u v route above same h = record {
  way = h.way;
  remembered = subst (IsIn h.way) (sym same) h.remembered;
  row_is = h.row_is;
  link_is = h.link_is;
  is_route = h.is_route;
  known = (
    h.known.0,
    h.known.1,
    link_still u v (link_word above) h.known.0 h.known.1 same
        h.known.2,
  );
  inside = h.inside;
}

-- The route is remembered, and is within the table.
pub remembered_by : (z : Sizes) (u : TreeView) (route : ℕ) (above : Link) → IsHungBy z u route above
    → IsRemembered u.ways route
remembered_by z u route above h = (h.way, h.remembered, h.row_is)

pub inside_by : (z : Sizes) (u : TreeView) (route : ℕ) (above : Link) → IsHungBy z u route above
    → route ≤ z.rows
inside_by z u route above h = subst (λ (n : ℕ). n ≤ z.rows) h.row_is h.is_route.in_range

-- Both were marked: the attempt may be secured.
pub securable : (z : Sizes) (m m' : MyTree) (pair : Pair) (note sibling : Note) (marked : Marked)
    (p : IsPair z m.0.upper pair note sibling)
    → 0 < m.0.upper.number → m.0.upper.ranges.own ≡ Joining
    (attempt_of pair.attempt.route pair.attempt.number)
    → pair.attempt.number < 4611686018427387904
    → m'.0.upper.ways ≡ m.0.upper.ways → m'.0.upper.number ≡ m.0.upper.number
    → m'.0.upper.ranges ≡ m.0.upper.ranges
    → (a : AreMarkedBoth z pair note sibling (Ok marked) m.0.upper m'.0.upper)
    → IsSecurable z m' pair marked a.2.0 a.2.1
securable z m m' pair note sibling marked p number own small ways same ranges a = record {
  is_pass = subst (λ (n : ℕ). 0 < n) (sym same) number;
  own = ap (λ (r : KnownRanges). r.own) ranges ∙ own;
  one_shown = record {
    noted = subst (IsIn a.2.0) (sym a.2.2) (1, refl);
    here = a.2.3.row_is;
    is_base = a.2.3.is_base;
  };
  one_marked = a.2.3.marked;
  one_here = ap (λ (x : Place). x.link) a.2.3.place_is ∙ p.one.at.link;
  other_shown = record {
    noted = subst (IsIn a.2.1) (sym a.2.2) (0, refl);
    here = a.2.4.row_is;
    is_base = a.2.4.is_base;
  };
  other_marked = a.2.4.marked;
  other_here = ap (λ (x : Place). x.link) a.2.4.place_is ∙ p.other.at.link;
  one_last = ap (last_on (link_word pair.one.link)) a.2.2
      ∙ (behind (link_word pair.one.link) a.2.1 (a.2.0 ∷ m.0.upper.notes)
      (λ e. p.apart (sym e ∙ (ap (λ (x : Place). x.link) a.2.4.place_is ∙ p.other.at.link)))
      ∙ first_on (link_word pair.one.link) a.2.0 m.0.upper.notes
      (ap (λ (x : Place). x.link) a.2.3.place_is ∙ p.one.at.link));
  other_last = ap (last_on (link_word pair.other.link)) a.2.2
      ∙ first_on (link_word pair.other.link) a.2.1 (a.2.0 ∷ m.0.upper.notes)
      (ap (λ (x : Place). x.link) a.2.4.place_is ∙ p.other.at.link);
  sides = p.sides;
  few = let one = a.2.3.count_is in let two = a.2.4.count_is in let few = p.few in omega arith;
  number = small;
}

module _ (z : Sizes) (m : MyTree) (pair : Pair) (marked : Marked) (one other : Note)
    (s : IsSecurable z m pair marked one other) where
  -- The left one first, and the right one.
  module _ (pinned : m.0.pin.pinned ≡ true)
      (remembered : IsRemembered m.0.upper.ways pair.attempt.route) where
    securing_at : (l : Link) → pair.one.link ≡ l → l ≢ on.Root
        → (left : Note) × (right : Note) × IsSecuring z.leaf m
        (attempt_of pair.attempt.route pair.attempt.number) left right
    securing_at on.Root is some = absurd (some refl)
    securing_at (on.Left route) is some = let same = s.sides.0 ∙ ap route_of is in
        let few = s.few in (
          one,
          other,
          record {
            is_pinned = pinned;
            is_pass = s.is_pass;
            own = s.own;
            remembered = remembered;
            left_shown = s.one_shown.noted;
            left_base = s.one_shown.is_base.is_base;
            left_marked = s.one_marked;
            left_link = s.one_here ∙ (ap link_word is ∙ ap (λ (n : ℕ). row_words * n + 1) (sym same));
            right_shown = s.other_shown.noted;
            right_base = s.other_shown.is_base.is_base;
            right_marked = s.other_marked;
            right_link = s.other_here
                ∙ (ap link_word (s.sides.2 ∙ ap other_link is)
                ∙ ap (λ (n : ℕ). row_words * n + 2) (sym same));
            few = few;
          },
        )
    securing_at (on.Right route) is some = let same = s.sides.0 ∙ ap route_of is in
        let few = s.few in (
          other,
          one,
          record {
            is_pinned = pinned;
            is_pass = s.is_pass;
            own = s.own;
            remembered = remembered;
            left_shown = s.other_shown.noted;
            left_base = s.other_shown.is_base.is_base;
            left_marked = s.other_marked;
            left_link = s.other_here
                ∙ (ap link_word (s.sides.2 ∙ ap other_link is)
                ∙ ap (λ (n : ℕ). row_words * n + 1) (sym same));
            right_shown = s.one_shown.noted;
            right_base = s.one_shown.is_base.is_base;
            right_marked = s.one_marked;
            right_link = s.one_here ∙ (ap link_word is ∙ ap (λ (n : ℕ). row_words * n + 2) (sym same));
            few = omega arith;
          },
        )

    pub securing_both : (left : Note) × (right : Note)
        × IsSecuring z.leaf m (attempt_of pair.attempt.route pair.attempt.number) left right
    securing_both = securing_at pair.one.link refl s.sides.1

  -- Once it is secured the route may be unlinked.
  module _ (above : Link) (rows : ℕ × ℕ) (new : ℕ) (v : TreeView)
      (e : v ≡ securing (attempt_of pair.attempt.route pair.attempt.number) m.0.upper)
      (h : IsHungBy z m.0.upper pair.attempt.route above) where
    abbrev uniting : Uniting
    uniting = record {
      attempt = pair.attempt;
      above = above;
      left = rows.0;
      right =
          rows.1;
      new = new;
    }

    shown_then : (row : ℕ) (note : Note) → IsBaseShown z m.0.upper row note
        → IsBaseShown z v row note
    shown_then row note b = record {
      noted = subst (λ (u : TreeView). IsIn note u.notes) (sym e) b.noted;
      here = b.here;
      is_base = b.is_base;
    }

    last_then : {a b : ℕ} → a ≡ b → (note : Note) → last_on a m.0.upper.notes ≡ note
        → last_on b v.notes ≡ note
    last_then same note last = subst (λ (x : ℕ × TreeView). last_on x.0 x.1.notes ≡ note)
        (λ i. (same i, sym e i)) last

    uniting_at : (l : Link) → pair.one.link ≡ l → l ≢ on.Root → rows ≡ ordered l marked
        → (left : Note) × (right : Note) × IsUniting z v uniting left right
    uniting_at on.Root is some in_order = absurd (some refl)
    uniting_at (on.Left route) is some in_order = let same = s.sides.0 ∙ ap route_of is in
        let few = s.few in (
          one,
          other,
          record {
            hung = hung_still z m.0.upper v pair.attempt.route above
                (ap (λ (u : TreeView). u.ways) e) h;
            secured = subst (λ (u : TreeView). IsIn (attempt_of pair.attempt.route pair.attempt.number)
                u.ranges.joins.secured) (sym e) (0, refl);
            decided = subst (λ (u : TreeView). IsIn (attempt_of pair.attempt.route pair.attempt.number)
                u.ranges.joins.decided) (sym e) (0, refl);
            left_base = record {
              shown = subst (λ (p : ℕ × ℕ). IsBaseShown z v p.0 one) (sym in_order)
                  (shown_then marked.one one s.one_shown);
              marked = s.one_marked;
              here = s.one_here ∙ (ap link_word is ∙ ap (λ (n : ℕ). row_words * n + 1) (sym same));
              last = last_then ((ap link_word is ∙ ap (λ (n : ℕ). row_words * n + 1) (sym same))) one
                  s.one_last;
            };
            right_base = record {
              shown = subst (λ (p : ℕ × ℕ). IsBaseShown z v p.1 other) (sym in_order)
                  (shown_then marked.other other s.other_shown);
              marked = s.other_marked;
              here = s.other_here ∙ (ap link_word (s.sides.2 ∙ ap other_link is)
                  ∙ ap (λ (n : ℕ). row_words * n + 2) (sym same));
              last = last_then ((ap link_word (s.sides.2 ∙ ap other_link is)
                  ∙ ap (λ (n : ℕ). row_words * n + 2) (sym same))) other s.other_last;
            };
            few = few;
          },
        )
    uniting_at (on.Right route) is some in_order = let same = s.sides.0 ∙ ap route_of is in
        let few = s.few in (
          other,
          one,
          record {
            hung = hung_still z m.0.upper v pair.attempt.route above
                (ap (λ (u : TreeView). u.ways) e) h;
            secured = subst (λ (u : TreeView). IsIn (attempt_of pair.attempt.route pair.attempt.number)
                u.ranges.joins.secured) (sym e) (0, refl);
            decided = subst (λ (u : TreeView). IsIn (attempt_of pair.attempt.route pair.attempt.number)
                u.ranges.joins.decided) (sym e) (0, refl);
            left_base = record {
              shown = subst (λ (p : ℕ × ℕ). IsBaseShown z v p.0 other) (sym in_order)
                  (shown_then marked.other other s.other_shown);
              marked = s.other_marked;
              here = s.other_here ∙ (ap link_word (s.sides.2 ∙ ap other_link is)
                  ∙ ap (λ (n : ℕ). row_words * n + 1) (sym same));
              last = last_then ((ap link_word (s.sides.2 ∙ ap other_link is)
                  ∙ ap (λ (n : ℕ). row_words * n + 1) (sym same))) other s.other_last;
            };
            right_base = record {
              shown = subst (λ (p : ℕ × ℕ). IsBaseShown z v p.1 one) (sym in_order)
                  (shown_then marked.one one s.one_shown);
              marked = s.one_marked;
              here = s.one_here ∙ (ap link_word is ∙ ap (λ (n : ℕ). row_words * n + 2) (sym same));
              last = last_then ((ap link_word is ∙ ap (λ (n : ℕ). row_words * n + 2) (sym same))) one
                  s.one_last;
            };
            few = omega arith;
          },
        )

    pub uniting_both : rows ≡ ordered pair.one.link marked → (left : Note) × (right : Note)
        × IsUniting z v uniting left right
    uniting_both in_order = uniting_at pair.one.link refl s.sides.1 in_order
