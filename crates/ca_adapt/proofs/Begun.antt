-- An attempt that was begun behind a look at the sibling: what is known then, and that both bases
-- may be marked for it.
use Rattle.std.proofs.Common.{◌≡◌, ◌≢◌, ◌⊎◌, ℕ, suc, ◌+◌, ◌*◌, ◌/◌, ◌<◌, List, ◌∷◌, ◌++◌, Ok, Some, sym, refl, ap, ◌∙◌, subst, inl, inr, ⊎_elim, arith}
use Rattle.ca_base.specs.Finding.{IsAtCursor, IsBaseShown}
use Rattle.ca_node.specs.JoinSteps.{attempt_of, before, beginning, joins_begun, joins_loaded, with_own, HasLoadedJoin}
use Rattle.ca_node.specs.Links.{IsIn}
use Rattle.ca_node.specs.Marks.{IsMark, IsOfJoin, IsOfRange}
use Rattle.ca_node.specs.Place.{IsLinkOf}
use Rattle.ca_node.specs.Row.{mark, mark_number, mark_owner, IsUnmarked}
use Rattle.ca_node.specs.Told.{MyTree, IsSettled, IsUnjoined, IsUnranged, link_word}
use Rattle.ca_node.specs.TreeView.{Joining, KnownJoins, Note, TreeView, one_tried}
use Rattle.ca_node.specs.declared.cursor.Cursor.{Cursor}
use Rattle.ca_node.specs.declared.link.Link.{Link}
use Rattle.ca_node.specs.declared.link.Link.TheVariants as on
use Rattle.ca_node.proofs.Listing.{in_back}
use Rattle.ca_rows.specs.Layout.{row_words}
use Rattle.ca_rows.specs.declared.sizes.Sizes.{Sizes}
use Rattle.ca_adapt.specs.Joins.{HasBegunAt, last_on}
use Rattle.ca_adapt.specs.Pairs.{IsPair}
use Rattle.ca_adapt.specs.Trying.{FindsSibling, IsForkAt, other_link, route_of}
use Rattle.ca_adapt.specs.declared.joining.Attempt.{Attempt}
use Rattle.ca_adapt.specs.declared.looking.Fork.{Fork}
use Rattle.ca_adapt.specs.declared.marking.Pair.{Pair}
use Rattle.ca_adapt.proofs.Forked.{other_known}
use Rattle.ca_adapt.proofs.LastOn.{behind, first_on}

-- A link is one of one route.
one_route : (a b l : ℕ) → IsLinkOf a l → IsLinkOf b l → a ≡ b
one_route a b l of other = ⊎_elim
    (λ (e : l ≡ row_words * a + 1). ⊎_elim (λ (f : l ≡ row_words * b + 1). omega arith)
    (λ (f : l ≡ row_words * b + 2). omega arith) other)
    (λ (e : l ≡ row_words * a + 2). ⊎_elim (λ (f : l ≡ row_words * b + 1). omega arith)
    (λ (f : l ≡ row_words * b + 2). omega arith) other)
    of

-- The links of a route: each is one of it, and they differ.
pub is_of : (link : Link) → link ≢ on.Root → IsLinkOf (route_of link) (link_word link)
is_of on.Root some = absurd (some refl)
is_of (on.Left route) some = inl refl
is_of (on.Right route) some = inr refl

pub other_is_of : (link : Link) → link ≢ on.Root
    → IsLinkOf (route_of link) (link_word (other_link link))
other_is_of on.Root some = absurd (some refl)
other_is_of (on.Left route) some = inr refl
other_is_of (on.Right route) some = inl refl

pub links_apart : (link : Link) → link ≢ on.Root → link_word link ≢ link_word (other_link link)
links_apart on.Root some e = absurd (some refl)
links_apart (on.Left route) some e = absurd (omega (arith, e))
links_apart (on.Right route) some e = absurd (omega (arith, e))

-- A base that no range has, which hangs on a link of the route and was shown as the join word was
-- loaded, is one that nothing has then.
unjoined_by : (route word : ℕ) (m m' : MyTree) (note : Note) → HasLoadedJoin route m word m'
    → IsIn note m.0.upper.notes → IsMark note.place note.its
    → IsLinkOf route note.place.link → (mark note.its ≢ 2)
    ⊎ ((mark_owner note.its ≡ route) × (mark_number note.its < word / 4 + 1))
unjoined_by route word m m' note load noted marked of = ⊎_elim
    (λ (u : IsUnmarked note.its). inl (λ two. absurd (omega (arith, u, two))))
    (λ r. ⊎_elim (λ (o : IsOfRange note.its). inl
    (λ two. let one = o.0 in absurd (omega (arith, one, two))))
    (λ (j : IsOfJoin note.place note.its). let owner =
    one_route (mark_owner note.its) route note.place.link j.1 of in
    let few = load.marked note noted (mark_number note.its) (j.0, owner, refl) in
    inr (owner, omega arith)) r)
    marked

-- The attempt that was begun.
module _ (z : Sizes) (cursor : Cursor) (fork : Fork) (note : Note) (row level : ℕ) (x : Attempt)
    (m0 m m' : MyTree)
    (f : FindsSibling z cursor.link note row m0 m)
    (b : HasBegunAt fork.route (Ok x) m m') where
  abbrev joins : KnownJoins
  joins = joins_begun (attempt_of x.route x.number)
      (joins_loaded fork.route b.2.0 m.0.upper.ranges.joins)

  -- What is known then.
  pub begun_view : m'.0.upper ≡
      (record (with_own m.0.upper (Joining (attempt_of x.route x.number)) joins)
      { tries = one_tried m.0.upper.tries })
  begun_view = ap (λ (y : MyTree). y.0.upper) b.2.5
      ∙ ap (λ (y : MyTree). beginning (attempt_of x.route x.number) y.0.upper) b.2.2.now

  begun_in : IsIn (attempt_of x.route x.number) m'.0.upper.ranges.joins.begun
  begun_in = subst (λ (u : TreeView). IsIn (attempt_of x.route x.number) u.ranges.joins.begun)
      (sym begun_view) (0, refl)

  abbrev sibling : Note
  sibling = f.look.sibling

  notes_are : m'.0.upper.notes ≡ sibling ∷ m0.0.upper.notes
  notes_are = ap (λ (u : TreeView). u.notes) begun_view ∙ ap (λ (y : MyTree). y.0.upper.notes) f.now

  -- The base is settled still, and the sibling is.
  pub one_settled : IsSettled m0.0.upper note.its → IsSettled m'.0.upper note.its
  one_settled s = subst (λ (u : TreeView). IsSettled u note.its) (sym begun_view)
      (ranged s.0, joined s.1)
    where
      over_is : m.0.upper.ranges.over ≡ f.over ++ m0.0.upper.ranges.over
      over_is = ap (λ (y : MyTree). y.0.upper.ranges.over) f.now

      finished_is : m.0.upper.ranges.joins.finished ≡ m0.0.upper.ranges.joins.finished
      finished_is = ap (λ (y : MyTree). y.0.upper.ranges.joins.finished) f.now

      ranged : IsUnranged m0.0.upper note.its → IsUnranged
          (with_own m.0.upper (Joining (attempt_of x.route x.number)) joins) note.its
      ranged (inl n) = inl n
      ranged (inr r) = inr (
        r.0,
        subst (IsIn r.0) (sym over_is)
            (in_back f.over m0.0.upper.ranges.over r.0 r.1),
        r.2,
        r.3,
      )

      joined : IsUnjoined m0.0.upper note.its → IsUnjoined
          (with_own m.0.upper (Joining (attempt_of x.route x.number)) joins) note.its
      joined (inl n) = inl n
      joined (inr r) = let i = subst (IsIn r.0) (sym finished_is) r.1 in
          inr (r.0, (suc (suc i.0), i.1), r.2, r.3)

  pub other_settled : IsLinkOf fork.route sibling.place.link → IsSettled m'.0.upper sibling.its
  other_settled of = subst (λ (u : TreeView). IsSettled u sibling.its) (sym begun_view) (
    f.unranged,
    ⊎_elim (λ (n : mark sibling.its ≢ 2). inl n)
        (λ (r : (mark_owner sibling.its ≡ fork.route) × (mark_number sibling.its < b.2.0 / 4 + 1)).
        inr (
          before x.route x.number,
          (0, refl),
          r.0 ∙ sym b.0,
          subst (λ (n : ℕ). mark_number sibling.its < n) (sym b.2.4) r.1,
        ))
        (unjoined_by fork.route b.2.0 m b.2.1 sibling b.2.2
        (subst (λ (y : MyTree). IsIn sibling y.0.upper.notes) (sym f.now) (0, refl))
        f.is_base.marked of),
  )

  -- Both may be marked.
  module _ (is : IsForkAt z m0.0.upper cursor.link (Some fork))
      (shown : IsBaseShown z m0.0.upper cursor.base note) (at : IsAtCursor z note cursor)
      (settled : IsSettled m0.0.upper note.its) (level_is : level ≡ sibling.place.level) where
    abbrev pair : Pair
    pair = record {
      one = cursor;
      other = record cursor
          { base = row; link = fork.other; level = level };
      attempt = x;
    }

    route_is : x.route ≡ route_of cursor.link
    route_is = b.0 ∙ is.1

    of_one : IsLinkOf x.route note.place.link
    of_one = subst (λ (p : ℕ × ℕ). IsLinkOf p.0 p.1) (λ i. (sym route_is i, sym at.link i))
        (is_of cursor.link is.0)

    of_other : IsLinkOf (route_of cursor.link) sibling.place.link
    of_other = subst (λ (l : ℕ). IsLinkOf (route_of cursor.link) l) (sym f.hangs)
        (other_is_of cursor.link is.0)

    apart : link_word cursor.link ≢ link_word fork.other
    apart e = links_apart cursor.link is.0 (e ∙ ap link_word is.2)

    pub is_pair : IsPair z m'.0.upper pair note sibling
    is_pair = record {
      one = record {
        shown = record {
          noted = subst (λ (xs : List Note). IsIn note xs) (sym notes_are)
              (suc shown.noted.0, shown.noted.1);
          here = shown.here;
          is_base = shown.is_base;
        };
        at = at;
        settled = one_settled settled;
        is_link = of_one;
        begun = begun_in;
      };
      other = record {
        shown = record {
          noted = subst (λ (xs : List Note). IsIn sibling xs) (sym notes_are) (0, refl);
          here = f.row_is;
          is_base = f.is_base;
        };
        at = record {
          base = f.row_is;
          link = f.hangs ∙ ap link_word (sym is.2);
          level = sym level_is;
          inside = (other_known z m0.0.upper fork cursor.link is.0 is.2 is.1 is.3).1;
        };
        settled = other_settled
            (subst (λ (n : ℕ). IsLinkOf n sibling.place.link) (sym is.1) of_other);
        is_link = subst (λ (n : ℕ). IsLinkOf n sibling.place.link) (sym route_is) of_other;
        begun = begun_in;
      };
      apart = apart;
      sides = (route_is, is.0, is.2);
      few = f.look.found.few;
    }

    -- They are the bases that were shown last on their links.
    pub last_one : last_on (link_word cursor.link) m0.0.upper.notes ≡ note
        → last_on (link_word cursor.link) m'.0.upper.notes ≡ note
    last_one same = ap (last_on (link_word cursor.link)) notes_are
        ∙ (behind (link_word cursor.link) sibling m0.0.upper.notes
        (λ e. apart (sym e ∙ (f.hangs ∙ ap link_word (sym is.2)))) ∙ same)

    pub last_other : last_on (link_word fork.other) m'.0.upper.notes ≡ sibling
    last_other = ap (last_on (link_word fork.other)) notes_are
        ∙ first_on (link_word fork.other) sibling m0.0.upper.notes
        (f.hangs ∙ ap link_word (sym is.2))
