-- A copy that a join marked takes the place of a base under its route, by one exchange of the link.
use Rattle.std.proofs.Common.{◌≡◌, ◌≢◌, ◌⊎◌, ℕ, ◌≤◌, eqb, List, [], ◌∷◌, length, map, get_or, set, sym, refl, ap, ◌∙◌, subst, inl, inr, ⊎_elim, arith}
use Rattle.std.proofs.lemmas.List.{length-map}
use mathlib.Core.Option.{some, none, some-ne-none}
use lib.ListN.{get_elem?}
use prog.Atomic.{either}
use Rattle.atomic_table.specs.Table.{State, step, Allows}
use Rattle.atomic_table.proofs.Lists.{at_map}
use Rattle.ca_model.specs.History.{after, state}
use Rattle.ca_rows.specs.Calls.{Relinks}
use Rattle.ca_rows.specs.Claims.{claim_of}
use Rattle.ca_rows.specs.Rule.{upper_of}
use Rattle.ca_rows.specs.Told.{relinked}
use Rattle.ca_rows.specs.declared.sizes.Sizes.{Sizes}
use Rattle.ca_rows.specs.declared.view.Claim.TheVariants.{Holds}
use Rattle.ca_rows.specs.declared.view.View.{View}
use Rattle.ca_runs.specs.Runs.{AreRuns}
use Rattle.ca_runs.proofs.Keeping.{runs_still, replaced_stays}
use Rattle.ca_node.specs.LoneStays.{same_kept}
use Rattle.ca_node.specs.Attempts.{HasAttempt, IsUnderWay}
use Rattle.ca_node.specs.Copies.{Copy, update_of, copy_note, copied, IsCopied, Copies}
use Rattle.ca_node.specs.Inventory.{AreOnce, row_itself}
use Rattle.ca_node.specs.JoinCopies.{IsJoinCopy}
use Rattle.ca_node.specs.Joining.{IsJoining}
use Rattle.ca_node.specs.Laws.{numbered, relisted}
use Rattle.ca_node.specs.Links.{IsIn, IsActive, IsBoundOf, IsLent}
use Rattle.ca_node.specs.Marks.{IsMarkIn, IsBorder}
use Rattle.ca_node.specs.May.{MaySwap}
use Rattle.ca_node.specs.Place.{part, Place, IsLinkOf}
use Rattle.ca_node.specs.Ranging.{IsRanging}
use Rattle.ca_node.specs.Row.{row_at, items, mark as mark_kind, mark_owner, IsMarkedBy, IsMarkedFor, pair}
use Rattle.ca_node.specs.Scenes.{scene_of}
use Rattle.ca_node.specs.Shape.{Role, Base}
use Rattle.ca_node.specs.Told.{MyTree, taken_out, given}
use Rattle.ca_node.specs.Tree.{IsTrue, IsTrueWay, IsLinkOfView, Knows, IsTree}
use Rattle.ca_node.specs.TreeView.{Note, Way, TreeView}
use Rattle.ca_node.proofs.Joined.{unjoined_over}
use Rattle.ca_node.proofs.Exchanging.{IsExchange, settled_over, old_map, new_row, ins_once, new_its, out_linked, out_unlent, note_keeps, way_keeps, ranging_keeps, replaced, new_true, own_notes, exchange_step, joining_keep, joining_more}
use Rattle.ca_node.proofs.Holding.{unclaimed_row}
use Rattle.ca_node.proofs.Looking.{R, of_map, knows_upper, in_more}
use Rattle.ca_node.proofs.Marks.{copies, copies_from}
use Rattle.ca_node.proofs.Members.{in_notes}
use Rattle.ca_node.proofs.Rebased.{with_base}

module _ (z : Sizes) (s : State (Unit {0}) (View TreeView)) (r : R z s) (id : ℕ) (me : MyTree)
    (at : get_elem? s.views id ≡ some me.0) (new : ℕ) (x : Copy) (c : IsJoinCopy z me new x)
    (hit : get_or s.words x.old.place.link 0 ≡ x.old.row) where
  abbrev d : View TreeView
  d = me.0

  abbrev f : IsTree z r.made s.words (map upper_of s.views)
  f = r.above

  abbrev role : ℕ → Role
  role = r.above.role

  abbrev words' : List ℕ
  words' = set s.words x.old.place.link new

  knows : Knows z r.made s.words r.above.role (map upper_of s.views) r.above.history id me.0.upper
  knows = knows_upper z s r id me.0 at

  old_shown : IsIn x.old me.0.upper.notes
  old_shown = in_notes x.old me.0.upper.notes c.shown

  old_true : IsTrue z.rows s.words r.above.role x.old
  old_true = knows.notes x.old old_shown

  -- The copy is an exchange, by which no object comes or goes.
  ex : IsExchange z me new (update_of x)
  ex = record {
    is_pinned = c.is_pinned;
    is_pass = c.is_pass;
    shown = c.shown;
    old_base = c.old_base;
    held = c.held;
    is_base = c.is_base;
    level_is = c.level_is;
    few = c.few;
    as_many = ap (λ (xs : List (List ℕ)). length xs) (sym (old_true.objects_are c.old_base))
        ∙ (length-map (items x.old.its) (λ row. row_at s.words row)
        ∙ ap (λ (xs : List ℕ). length xs) (sym c.same_items));
    headed = c.headed;
    are_objects = λ k row its a b. inl (k, subst (λ xs. get_elem? xs k ≡ some row) c.same_items a, b);
    come = λ row i. absurd (some-ne-none row (sym i.1));
    come_once = tt;
    go = λ row i. absurd (some-ne-none row (sym i.1));
    stay = λ row i. inl (subst (IsIn row) (sym c.same_items) i);
  }

  over : (pass number : ℕ) → IsMarkedBy x.old.its pass number → ¬ IsActive s.words pass number
  over = settled_over z s r id me.0 at x.old.its c.settled.0

  free : (route attempt : ℕ) → IsMarkedFor x.old.its route attempt → ¬ IsUnderWay s.words route attempt
  free = unjoined_over z s r id me.0 at x.old.its c.settled.1

  -- The copy has what the base had, and the mark of a join that was begun; no range marked it.
  has_now : map pair x.old.objects ≡ part x.old.place.span (after r.above.history [])
  has_now = old_map z s r id me at new (update_of x) ex hit over free

  others_have : (b : ℕ) (p : Place) → r.above.role b ≡ Base p → b ≢ x.old.row
      → part p.span (after r.above.history []) ≡ part p.span (after r.above.history [])
  others_have b p is ne = refl

  longer : (i : ℕ) → i ≤ length r.above.history
      → (i ≤ length r.above.history) × (state r.above.history i ≡ state r.above.history i)
  longer i l = (l, refl)

  mark : IsMarkIn s.words x.old.place x.its
  mark = inr (inr (
    (c.marked.0, subst (λ t. IsLinkOf t x.old.place.link) (sym c.marked.1) c.is_link),
    subst (λ (y : ℕ × ℕ). HasAttempt s.words y.0 y.1) (λ i. (sym c.marked.1 i, sym c.marked.2 i))
        (knows.joining.begun _ c.begun).1,
  ))

  unmarked : (pass number : ℕ) → ¬ IsMarkedBy x.its pass number
  unmarked pass number m = let one = m.0 in let two = c.marked.0 in omega arith

  new_unmarked : (border : ℕ) → ¬ IsBoundOf s.words new border
  new_unmarked border b = let two = c.marked.0 in
      let one : mark_kind x.its ≡ 1 = sym (ap mark_kind (new_row z s r id me at new (update_of x) ex hit over free).2) ∙ b.0 in
      omega arith

  bounded : (border : ℕ) → IsBoundOf s.words new border → IsBorder z.rows s.words (mark_owner (row_at s.words new)) border
  bounded border b = absurd (new_unmarked border b)

  serve : (row : ℕ) → IsIn row []
      → ((its : List ℕ) × (claim_of me.0.claims row ≡ some (Holds its))) × IsBoundOf s.words new row
  serve row i = absurd (some-ne-none row (sym i.1))

  once : AreOnce row_itself (new ∷ [])
  once = ins_once z s r id me at new (update_of x) ex hit over free

  new_end : (border : ℕ) → IsBoundOf s.words new border → IsLent s.words border ⊎ IsIn border []
  new_end border b = absurd (new_unmarked border b)

  abbrev role' : ℕ → Role
  role' = with_base r.above.role x.old.place x.old.row new

  abbrev u' : TreeView
  u' = copied [] me.0.upper.ranges new x me.0.upper

  abbrev d' : View TreeView
  d' = (relinked me (taken_out (x.old.row ∷ []) (given (new ∷ []) me.0.claims)) (copied [] me.0.upper.ranges new x me.0.upper)).0

  first : get_elem? (map upper_of s.views) id ≡ some me.0.upper
  first = at_map upper_of s.views id me.0 at

  -- Runs stay as they are: no range had the base that went, and none has the copy.
  runs_now : AreRuns (scene_of words' role') r.above.ranged.ends
  runs_now = runs_still (scene_of s.words role) (scene_of words' role') f.ranged.ends f.ranged.runs
      (replaced_stays (scene_of s.words role) (scene_of words' role') f.ranged.ends x.old.row new f.ranged.runs
      (replaced z s r id me at new (update_of x) ex hit over free r.above.history mark bounded has_now others_have [] serve once new_end)
      (λ pass number m. absurd (unmarked pass number (subst (λ its. IsMarkedBy its pass number)
      (new_its z s r id me at new (update_of x) ex hit over free r.above.history mark bounded has_now others_have [] serve once new_end) m))))

  ranging_now : (j : ℕ) (y : View TreeView) → get_elem? s.views j ≡ some y
      → IsRanging z words' role' (r.above.ranged.ends y.upper.number) y.upper.since r.above.history y.upper.number y.upper.ranges
  ranging_now j y here = ranging_keeps z s r id me at new (update_of x) ex hit over free r.above.history mark bounded has_now others_have [] serve once
      new_end j y here longer (λ number _ _ m. unmarked y.upper.number number m)

  own_knows : Knows z r.made words' role' (set (map upper_of s.views) id u') r.above.history id u'
  own_knows = let k = relisted z r.made s.words role (map upper_of s.views) (set (map upper_of s.views) id u') f.history id me.0.upper
      (numbered (map upper_of s.views) id me.0.upper u' first (λ _. refl)) knows in record {
        made_before = k.made_before;
        alone = k.alone;
        seen_first = k.seen_first;
        since_first = k.since_first;
        lawful = k.lawful;
        past = k.past;
        notes = λ note i. ⊎_elim
            (λ (e : copy_note new x ≡ note). subst (IsTrue z.rows words' role') e
            (new_true z s r id me at new (update_of x) ex hit over free r.above.history mark bounded has_now others_have [] serve once new_end))
            (λ (o : IsIn note me.0.upper.notes). note_keeps z s r id me at new (update_of x) ex hit over free r.above.history mark bounded has_now
            others_have [] serve once new_end id me.0 at note o)
            (in_more (copy_note new x) note me.0.upper.notes i);
        links = λ note i. ⊎_elim
            (λ (e : copy_note new x ≡ note). subst (λ (y : Note). IsLinkOfView me.0.upper y.place.link) e (knows.links x.old old_shown))
            (λ (o : IsIn note me.0.upper.notes). knows.links note o)
            (in_more (copy_note new x) note me.0.upper.notes i);
        ways = way_keeps z s r id me at new (update_of x) ex hit over free r.above.history mark bounded has_now others_have [] serve once new_end id me.0 at longer;
        way_links = k.way_links;
        one_place = k.one_place;
        joining = joining_more z s r id me at new (update_of x) ex hit over free r.above.history mark bounded has_now others_have [] serve once new_end;
        ended = k.ended;
      }

  others_know : (j : ℕ) (v : TreeView) → j ≢ id → get_elem? (map upper_of s.views) j ≡ some v
      → Knows z r.made words' role' (set (map upper_of s.views) id u') r.above.history j v
      × IsRanging z words' role' (r.above.ranged.ends v.number) v.since r.above.history v.number v.ranges
  others_know j v ne here = let y = of_map upper_of s.views j v here in
      let k = relisted z r.made s.words role (map upper_of s.views) (set (map upper_of s.views) id u') f.history j v
      (numbered (map upper_of s.views) id me.0.upper u' first (λ _. refl)) (f.each_seat j v here) in (
        record {
          made_before = k.made_before;
          alone = k.alone;
          seen_first = k.seen_first;
          since_first = k.since_first;
          lawful = k.lawful;
          past = k.past;
          notes = λ note i. note_keeps z s r id me at new (update_of x) ex hit over free r.above.history mark bounded has_now others_have [] serve once new_end
              j y.0 y.1 note (subst (λ (w : TreeView). IsIn note w.notes) (sym y.2) i);
          links = k.links;
          ways = subst (λ (w : TreeView). (way : Way) → IsIn way w.ways → IsTrueWay z words' role' w.since r.above.history way) y.2
              (way_keeps z s r id me at new (update_of x) ex hit over free r.above.history mark bounded has_now others_have [] serve once new_end
              j y.0 y.1 longer);
          way_links = k.way_links;
          one_place = k.one_place;
          joining = subst (λ (w : TreeView). IsJoining words' w.notes w.ways w.ranges.joins) y.2
              (joining_keep z s r id me at new (update_of x) ex hit over free r.above.history mark bounded has_now others_have [] serve once new_end j y.0 y.1);
          ended = k.ended;
        },
        subst (λ (w : TreeView). IsRanging z words' role' (r.above.ranged.ends w.number) w.since r.above.history w.number w.ranges) y.2
            (ranging_now j y.0 y.1),
      )

  own_ranging : IsRanging z words' role' (r.above.ranged.ends u'.number) u'.since r.above.history u'.number u'.ranges
  own_ranging = ranging_now id me.0 at

  -- Where the link names the old base, the exchange puts the copy in its place.
  pub join_copied : R z record {
    words = set s.words x.old.place.link new;
    homes = s.homes;
    views = set s.views id (relinked me (taken_out (x.old.row ∷ []) (given (new ∷ []) me.0.claims)) (copied [] me.0.upper.ranges new x me.0.upper)).0;
  } × IsCopied [] me.0.upper.ranges new x me (
    (relinked me (taken_out (x.old.row ∷ []) (given (new ∷ []) me.0.claims)) (copied [] me.0.upper.ranges new x me.0.upper)).0,
    me.1,
  )
  join_copied = (
    exchange_step z s r id me at new (update_of x) ex hit over free r.above.history mark bounded has_now others_have [] serve once new_end u'
        (own_notes z s r id me at new (update_of x) ex hit over free r.above.history mark bounded has_now others_have [] serve once new_end u'
        refl refl (λ border i. inl i) (λ row o. o) refl)
        me.0.upper.renewal.count refl (inl (omega arith))
        (same_kept me.0.upper.ranges.own) (λ _ _ same. inl same) refl refl refl f.edits f.by_passes runs_now own_knows own_ranging others_know,
    record {
      now = refl;
      unclaimed = unclaimed_row z s r id me.0 at x.old.row
          (out_linked z s r id me at new (update_of x) ex hit over free r.above.history mark bounded has_now others_have [] serve once new_end x.old.row (0, refl))
          (out_unlent z s r id me at new (update_of x) ex hit over free r.above.history mark bounded has_now others_have [] serve once new_end x.old.row
          (0, refl));
    },
  )

module _ (z : Sizes) where
  -- The exchange that marks a base for a join.
  pub marks_for_join : (slots id : ℕ) (me : MyTree) (link old new : ℕ) (x : Copy) → IsJoinCopy z me new x → x.old.row ≡ old → x.old.place.link ≡ link
      → Allows (R z) slots id me link (λ n. either (eqb n old) new n)
      (Relinks MaySwap (Copies [] me.0.upper.ranges x) (step slots link old new none) me)
  marks_for_join slots id me link old new x c same here =
      copies_from z slots id me link old new x [] me.0.upper.ranges same here
      (copies z slots id me new x [] me.0.upper.ranges c.shown
      (λ s r at hit. join_copied z s r id me at new x c hit))
