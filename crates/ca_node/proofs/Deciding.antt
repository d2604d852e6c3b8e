-- The exchange by which a range ends, as a step: whoever decides it, or its pass that gives it up.
use Rattle.std.proofs.Common.{◌≡◌, ◌≢◌, ◌⊎◌, ℕ, ◌+◌, ◌*◌, ◌<◌, ◌≤◌, true, eqb, cond, List, [], length, map, set, sym, refl, ap, ◌∙◌, subst, inl, inr, ⊎_elim, arith, eq-eqb, ne_eqb}
use Rattle.std.proofs.lemmas.List.{map-set}
use mathlib.Core.Logic.{dite}
use mathlib.Core.Option.{some}
use native.Mathlib.Decide.{ℕ_discrete}
use lib.ListN.{get_elem?}
use Rattle.atomic_table.specs.Table.{State}
use Rattle.atomic_table.proofs.Lists.{at_set, at_map}
use Rattle.ca_model.specs.History.{after}
use Rattle.ca_model.specs.StoreMap.{StoreMap}
use Rattle.ca_rows.specs.Layout.{row_words}
use Rattle.ca_rows.specs.Rule.{upper_of}
use Rattle.ca_rows.specs.Told.{relinked}
use Rattle.ca_rows.specs.Words.{own_word}
use Rattle.ca_rows.specs.declared.sizes.Sizes.{Sizes}
use Rattle.ca_rows.specs.declared.view.View.{View}
use Rattle.ca_rows.proofs.Relinking.{Change, Stays, Ends, IsChange, relinks}
use Rattle.ca_node.specs.LoneStays.{KeepsOwn, KeepsActive}
use Rattle.ca_node.specs.Endings.{without}
use Rattle.ca_node.specs.Laws.{tree_lends}
use Rattle.ca_node.specs.Links.{IsIn, IsLinked, by_range, IsLent, IsOfOwnRun, IsNoted, by_note, by_item, by_way, by_link, by_link_item, by_border, by_run, by_run_item, by_shown, by_shown_item}
use Rattle.ca_node.specs.Ranging.{IsRanging}
use Rattle.ca_node.specs.Row.{row_at, mark_bound}
use Rattle.ca_node.specs.Scenes.{IsBase}
use Rattle.ca_node.specs.Shape.{Role}
use Rattle.ca_node.specs.Told.{MyTree}
use Rattle.ca_node.specs.Tree.{Knows, IsTree}
use Rattle.ca_node.specs.Inventory.{AreAtMost, row_itself, own_tree}
use Rattle.ca_node.specs.TreeView.{Inventory, TreeView}
use Rattle.ca_node.proofs.Ended.{IsEnd, active_before, shape', border_lent, lent_then, lent_before, border_gone, linked_before, linked_then, runs', true_then, listed'}
use Rattle.ca_node.proofs.Looking.{R}
use Rattle.ca_node.proofs.Listing.{but_shorter}
use Rattle.ca_node.proofs.OwnWord.{else_word, told_same, wide', row_stays, base_linked, noted_before, knows_then, tree_with}

module _ (z : Sizes) (s : State (Unit {0}) (View TreeView)) (r : R z s) (id : ℕ) (me : MyTree) (at : get_elem? s.views id ≡ some me.0)
    (pass number word' : ℕ) (end : IsEnd z s r pass number word') where
  abbrev f : IsTree z r.made s.words (map upper_of s.views)
  f = r.above

  abbrev role : ℕ → Role
  role = r.above.role

  abbrev last : StoreMap
  last = after r.above.history []

  abbrev words' : List ℕ
  words' = set s.words (own_word s.words pass + 1) word'

  abbrev stays : (row : ℕ) → row ≤ z.rows → row_at words' row ≡ row_at s.words row
  stays = row_stays z s r pass word' end.lo end.hi

  -- The seat knows this then.
  module _ (u' : TreeView) (is_pinned : me.0.pin.pinned ≡ true) (is_pass : 0 < me.0.upper.number)
      (keeps_own : KeepsOwn me.0.upper.ranges.own u'.ranges.own) (same_ways : u'.ways ≡ me.0.upper.ways)
      (same_begun : u'.ranges.joins.begun ≡ me.0.upper.ranges.joins.begun)
      (same_tree : own_tree u' ≡ (without (mark_bound (row_at s.words end.base)) me.0.upper.inventory, me.0.upper.splits, me.0.upper.renewal.count))
      (own_notes : (row : ℕ) → IsNoted (set s.words (own_word s.words pass + 1) word') u' row
      → IsNoted s.words me.0.upper row ⊎ IsLinked (set s.words (own_word s.words pass + 1) word') row)
      (own_knows : Knows z r.made (set s.words (own_word s.words pass + 1) word') r.above.role (set (map upper_of s.views) id u') r.above.history id u')
      (own_ranging : IsRanging z (set s.words (own_word s.words pass + 1) word') r.above.role (r.above.ranged.ends u'.number) u'.since r.above.history u'.number
      u'.ranges)
      (same : 0 < u'.number → u'.number ≡ me.0.upper.number) (same_number : u'.number ≡ me.0.upper.number)
      (keeps_active : KeepsActive s.words (set s.words (own_word s.words pass + 1) word') me.0.upper.number me.0.upper.ranges.own u'.ranges.own)
      (other_runs : (j : ℕ) (y : View TreeView) → j ≢ id → get_elem? s.views j ≡ some y → (row : ℕ)
      → IsOfOwnRun (set s.words (own_word s.words pass + 1) word') y.upper row → IsOfOwnRun s.words y.upper row
      ⊎ (IsBase r.above.role row × ((d : ℕ) × IsNoted s.words y.upper d)))
      (others_ranging : (j : ℕ) (y : View TreeView) → j ≢ id → get_elem? s.views j ≡ some y
      → IsRanging z (set s.words (own_word s.words pass + 1) word') r.above.role (r.above.ranged.ends y.upper.number) y.upper.since r.above.history
      y.upper.number y.upper.ranges) where
    abbrev d' : View TreeView
    d' = (relinked me me.0.claims u').0

    abbrev top : ℕ
    top = mark_bound (row_at s.words end.base)

    kind : ℕ → Change
    kind row = cond (eqb row top) Ends Stays

    abbrev IsSo : ℕ → Change → Type 0
    IsSo = IsChange IsLinked IsLent IsNoted IsTree tree_lends z s r id me.0 d' words' kind

    changed : (row : ℕ) → IsSo row (kind row)
    unfolding kind
    changed row = dite (ℕ_discrete row top)
        (λ (e : row ≡ top). subst (IsSo row) (sym (ap (λ b. cond b Ends Stays) (eq-eqb row top e))) (
          subst (IsLent s.words) (sym e) (border_lent z s r pass number word' end),
          (λ l. border_gone z s r pass number word' end (subst (IsLinked words') e l)),
          refl,
        ))
        (λ (ne : row ≢ top). subst (IsSo row) (sym (ap (λ b. cond b Ends Stays) (ne_eqb row top ne))) (
          linked_before z s r pass number word' end row,
          linked_then z s r pass number word' end row ne,
          lent_before z s r pass number word' end row,
          lent_then z s r pass number word' end row ne,
          refl,
        ))

    first : get_elem? (map upper_of s.views) id ≡ some me.0.upper
    first = at_map upper_of s.views id me.0 at

    others : (j : ℕ) (y : View TreeView) → j ≢ id → get_elem? s.views j ≡ some y
        → Knows z r.made words' role (set (map upper_of s.views) id u') r.above.history j y.upper
        × IsRanging z words' role (r.above.ranged.ends y.upper.number) y.upper.since r.above.history y.upper.number y.upper.ranges
    others j y ne here = (
      knows_then z s r pass word' end.lo end.hi id me.0 at (true_then z s r pass number word' end) j y here u' same,
      others_ranging j y ne here,
    )

    -- The row that said up to where the range went was listed, and isn't any more.
    shorter : r.made ≤ 1 → (most : ℕ) → length me.0.upper.inventory.rows ≤ most + 1
        → AreAtMost words' (length (without top me.0.upper.inventory).rows) most
    shorter few most are = let own = (f.only_one id me.0.upper first few is_pass).whole in
        let lent = border_lent z s r pass number word' end in
        let was : IsIn top me.0.upper.inventory.rows = subst (λ (i : Inventory). IsIn top i.rows) (sym own)
        (f.listed.linked top (by_range lent.0 top lent.1 lent.2 lent.3)) in
        let less = but_shorter row_itself top me.0.upper.inventory.rows top was refl in (omega arith, λ _. omega arith)

    tree_now : IsTree z r.made words' (set (map upper_of s.views) id u')
    tree_now = tree_with z s r pass word' end.lo end.hi id me.0 at is_pass u'
        (shape' z s r pass number word' end) f.ranged.ends
        (runs' z s r pass number word' end)
        (λ p n now. f.ranged.made_before p n (active_before z s r pass number word' end p n now).0)
        own_knows own_ranging others (without top) (listed' z s r pass number word' end) same_tree (omega arith) (λ few most are. shorter few most are.0) keeps_own same_ways same_begun
        keeps_active same_number

    pub ends_step : R z record { words = set s.words (own_word s.words pass + 1) word'; homes = s.homes; views = set s.views id (relinked me me.0.claims u').0 }
    ends_step = relinks IsLinked IsLent IsNoted IsTree tree_lends z s r id me.0 d' words' kind record {
      at = at;
      same_sizes = refl;
      same_made = refl;
      same_stage = refl;
      same_lost = refl;
      same_pin = refl;
      wide = wide' z s r pass word' end.lo end.hi ∙ sym r.wide;
      low = λ i l. else_word z s r pass word' end.lo end.hi i (omega arith);
      announcements = told_same z s r pass word' end.lo end.hi;
      unlinked_rows = λ c k lo' hi' n l. else_word z s r pass word' end.lo end.hi (row_words * c + k) (omega arith);
      changes = λ c _ _. changed c;
      in_range = (r.seat id me.0 at).in_range;
      notes = λ j y here c n. ⊎_elim
          (λ (t : (j ≡ id) × (d' ≡ y)). ⊎_elim
          (λ (w : IsNoted s.words me.0.upper c). inl (me.0, ap (get_elem? s.views) t.0 ∙ at, w))
          (λ (l : IsLinked words' c). inr (l, ap (λ (w : View TreeView). w.pin.pinned) (sym t.1) ∙ is_pinned))
          (own_notes c (subst (λ (w : View TreeView). IsNoted words' w.upper c) (sym t.1) n)))
          (λ (t : (j ≢ id) × (get_elem? s.views j ≡ some y)). ⊎_elim (λ w. inl (y, t.1, w))
          (λ l. inr l) (others_noted j y t.0 t.1 c n))
          (at_set s.views id j d' y here);
      above = subst (IsTree z r.made words') (sym (map-set upper_of s.views id d')) tree_now;
    }
      where
        others_noted : (j : ℕ) (y : View TreeView) → j ≢ id → get_elem? s.views j ≡ some y → (c : ℕ) → IsNoted words' y.upper c
            → IsNoted s.words y.upper c ⊎ (IsLinked words' c × (y.pin.pinned ≡ true))
        others_noted j y ne here c n = by n (noted_before z s r pass word' end.lo end.hi j y here (IsLinked words')
            (λ row o. ⊎_elim (λ w. inl w) (λ b. inr (base_linked z s r pass word' end.lo end.hi (shape' z s r pass number word' end) row b.0))
            (other_runs j y ne here row o)) c n)
          where
            pinned_by : (row : ℕ) → IsOfOwnRun words' y.upper row → IsNoted s.words y.upper c ⊎ (y.pin.pinned ≡ true)
            pinned_by row o = ⊎_elim (λ w. inr ((r.seat j y here).noted_pinned row (by_run row w)))
                (λ b. inr ((r.seat j y here).noted_pinned b.1.0 b.1.1)) (other_runs j y ne here row o)

            both : IsLinked words' c → IsNoted s.words y.upper c ⊎ (y.pin.pinned ≡ true)
                → IsNoted s.words y.upper c ⊎ (IsLinked words' c × (y.pin.pinned ≡ true))
            both l k = ⊎_elim (λ w. inl w) (λ p. inr (l, p)) k

            by : IsNoted words' y.upper c → IsNoted s.words y.upper c ⊎ IsLinked words' c
                → IsNoted s.words y.upper c ⊎ (IsLinked words' c × (y.pin.pinned ≡ true))
            by m (inl w) = inl w
            by (by_run row o) (inr l) = both l (pinned_by row o)
            by (by_run_item b row o k) (inr l) = both l (pinned_by b o)
            by (by_note note row i e) (inr l) = inl (by_note note row i e)
            by (by_item note row i b k) (inr l) = inl (by_item note row i b k)
            by (by_way way row i e) (inr l) = inl (by_way way row i e)
            by (by_link way row i under) (inr l) = both l (inr ((r.seat j y here).noted_pinned way.row (by_way way way.row i refl)))
            by (by_link_item way b row i under g k) (inr l) = both l (inr ((r.seat j y here).noted_pinned way.row (by_way way way.row i refl)))
            by (by_border b row i e) (inr l) = inl (by_border b row i e)
            by (by_shown note row i e) (inr l) = inl (by_shown note row i e)
            by (by_shown_item note row i b k) (inr l) = inl (by_shown_item note row i b k)
