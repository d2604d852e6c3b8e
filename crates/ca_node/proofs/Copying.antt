-- A copy that a range marked takes the place of a base, by one exchange of the link.
use Rattle.std.proofs.Common.{◌≡◌, ◌≢◌, ◌⊎◌, ℕ, ◌+◌, ◌*◌, ◌/◌, ◌<◌, ◌≤◌, List, [], ◌∷◌, ◌++◌, length, map, get_or, set, sym, refl, ap, ◌∙◌, subst, inl, inr, ⊎_elim, arith}
use Rattle.std.proofs.lemmas.List.{length-map}
use mathlib.Core.Logic.{dite}
use mathlib.Core.Option.{some, some-ne-none}
use native.Mathlib.Decide.{ℕ_discrete}
use lib.ListN.{get_elem?}
use Rattle.atomic_table.specs.Table.{State}
use Rattle.atomic_table.proofs.Lists.{at_map}
use Rattle.ca_model.specs.History.{after, state}
use Rattle.ca_rows.specs.Claims.{claim_of}
use Rattle.ca_rows.specs.Layout.{row_limit}
use Rattle.ca_rows.specs.Rule.{upper_of}
use Rattle.ca_rows.specs.Told.{relinked}
use Rattle.ca_rows.specs.Words.{result_of}
use Rattle.ca_rows.specs.declared.sizes.Sizes.{Sizes}
use Rattle.ca_rows.specs.declared.view.Claim.TheVariants.{Holds}
use Rattle.ca_rows.specs.declared.view.View.{View}
use Rattle.ca_runs.specs.Runs.{AreRuns}
use Rattle.ca_runs.specs.Scenes.{IsFirst, IsNext, Replaces}
use Rattle.ca_runs.proofs.Marking.{marks}
use Rattle.ca_node.specs.LoneStays.{KeepsOwn, MarksActive}
use Rattle.ca_node.specs.Attempts.{IsUnderWay}
use Rattle.ca_node.specs.Copies.{Copy, update_of, copy_note, IsCopy, copied, IsCopied}
use Rattle.ca_node.specs.Inventory.{AreOnce, row_itself, AreCounted}
use Rattle.ca_node.specs.Joining.{IsJoining}
use Rattle.ca_node.specs.Laws.{numbered, relisted}
use Rattle.ca_node.specs.Layout.{sequence_unit}
use Rattle.ca_node.specs.Links.{IsIn, IsActive, HasBegun, IsBoundOf, IsLinked, by_range, IsLent, IsOfOwnRun}
use Rattle.ca_node.specs.Marks.{IsMarkIn, IsBorder}
use Rattle.ca_node.specs.Place.{part, Place}
use Rattle.ca_node.specs.Ranging.{IsRanging}
use Rattle.ca_node.specs.Row.{row_at, items, mark_owner, IsMarkedBy, IsMarkedFor, pair}
use Rattle.ca_node.specs.Scenes.{IsBase, scene_of}
use Rattle.ca_node.specs.Shape.{Role, Base}
use Rattle.ca_node.specs.Told.{MyTree, taken_out, given, lent_out}
use Rattle.ca_node.specs.Tree.{IsTrue, IsTrueWay, IsLinkOfView, Knows, IsTree}
use Rattle.ca_node.specs.TreeView.{Note, Way, Border, KnownRanges, TreeView, KnownJoins}
use Rattle.ca_node.proofs.Joined.{unjoined_over}
use Rattle.ca_node.proofs.Exchanging.{IsExchange, settled_over, old_map, new_its, out_linked, out_unlent, note_keeps, shown_keeps, way_keeps, ranging_keeps, replaced, served_lent, new_true, own_notes, exchange_step, joining_keep, joining_more}
use Rattle.ca_node.proofs.Holding.{unclaimed_row}
use Rattle.ca_node.proofs.Looking.{R, of_map, knows_upper, in_more}
use Rattle.ca_node.proofs.Members.{in_notes}
use Rattle.ca_node.proofs.Ranged.{bases_apart}
use Rattle.ca_node.proofs.Rebased.{with_base}

-- Whether a range is active can be told.
active_or_not : (words : List ℕ) (pass number : ℕ) → 0 < pass → pass ≤ 64
    → IsActive words pass number ⊎ (¬ IsActive words pass number)
active_or_not words pass number lo hi = dite
    (ℕ_discrete (result_of words pass) (sequence_unit * number + row_limit))
    (λ e. inl (lo, hi, e)) (λ n. inr (λ now. n now.2))

-- No pass has two active ranges.
pub one_active : (words : List ℕ) (pass a b : ℕ) → IsActive words pass a → IsActive words pass b → a ≡ b
one_active words pass a b now then = let here = now.2 in let there = then.2 in omega arith

module _ (z : Sizes) (s : State (Unit {0}) (View TreeView)) (r : R z s) (id : ℕ) (me : MyTree)
    (at : get_elem? s.views id ≡ some me.0) (new : ℕ) (x : Copy) (c : IsCopy z me new x)
    (hit : get_or s.words x.old.place.link 0 ≡ x.old.row) where
  abbrev d : View TreeView
  d = me.0

  abbrev f : IsTree z r.made s.words (map upper_of s.views)
  f = r.above

  abbrev role : ℕ → Role
  role = r.above.role

  abbrev words' : List ℕ
  words' = set s.words x.old.place.link new

  pub knows : Knows z r.made s.words r.above.role (map upper_of s.views) r.above.history id
      me.0.upper
  knows = knows_upper z s r id me.0 at

  old_shown : IsIn x.old me.0.upper.notes
  old_shown = in_notes x.old me.0.upper.notes c.shown

  pub old_true : IsTrue z.rows s.words r.above.role x.old
  old_true = knows.notes x.old old_shown

  -- The copy is an exchange, by which no object comes or goes.
  pub ex : IsExchange z me new (update_of x)
  ex = record {
    is_pinned = c.is_pinned;
    is_pass = c.is_pass;
    shown = c.shown;
    old_base = c.old_base;
    held = c.held;
    is_base = c.is_base;
    level_is = c.level_is;
    few = c.few;
    as_many = ap (λ (xs : List (List ℕ)). length xs) (sym (old_true.objects_are c.old_base))
        ∙ (length-map (items x.old.its) (λ row. row_at s.words row)
        ∙ ap (λ (xs : List ℕ). length xs) (sym c.same_items));
    headed = c.headed;
    are_objects = λ k row its a b.
        inl (k, subst (λ xs. get_elem? xs k ≡ some row) c.same_items a, b);
    come = λ row i. absurd (some-ne-none row (sym i.1));
    come_once = tt;
    go = λ row i. absurd (some-ne-none row (sym i.1));
    stay = λ row i. inl (subst (IsIn row) (sym c.same_items) i);
  }

  pub over : (pass number : ℕ) → IsMarkedBy x.old.its pass number → ¬ IsActive s.words pass number
  over = settled_over z s r id me.0 at x.old.its c.settled.0

  pub free : (route attempt : ℕ) → IsMarkedFor x.old.its route attempt → ¬ IsUnderWay s.words route attempt
  free = unjoined_over z s r id me.0 at x.old.its c.settled.1

  -- The copy has what the base had.
  has_now : map pair x.old.objects ≡ part x.old.place.span (after r.above.history [])
  has_now = old_map z s r id me at new (update_of x) ex hit over free

  others_have : (b : ℕ) (p : Place) → r.above.role b ≡ Base p → b ≢ x.old.row
      → part p.span (after r.above.history []) ≡ part p.span (after r.above.history [])
  others_have b p is ne = refl

  longer : (i : ℕ) → i ≤ length r.above.history
      → (i ≤ length r.above.history) × (state r.above.history i ≡ state r.above.history i)
  longer i l = (l, refl)

  -- The copy has the mark of a range that was begun, and where that is active, a row says up to
  -- where it goes; these rows are lent to it.
  module _ (begun : HasBegun s.words x.pass x.number)
      (bounded : (border : ℕ) → IsBoundOf s.words new border
      → IsBorder z.rows s.words (mark_owner (row_at s.words new)) border)
      (served : List ℕ)
      (serve : (row : ℕ) → IsIn row served
      → ((its : List ℕ) × (claim_of me.0.claims row ≡ some (Holds its))) × IsBoundOf s.words new row)
      (served_once : AreOnce row_itself (served ++ new ∷ []))
      (new_end : (border : ℕ) → IsBoundOf s.words new border
      → IsLent s.words border ⊎ IsIn border served) where
    mark : IsMarkIn s.words x.old.place x.its
    mark = inr (inl (
      (
        c.marked.0,
        subst (λ p. 0 < p) (sym c.marked.1) begun.0,
        subst (λ p. p ≤ 64) (sym c.marked.1) begun.1,
      ),
      subst (λ (y : ℕ × ℕ). y.1 ≤ result_of s.words y.0 / sequence_unit)
          (λ i. (sym c.marked.1 i, sym c.marked.2 i)) begun.2,
    ))

    abbrev role' : ℕ → Role
    role' = with_base r.above.role x.old.place x.old.row new

    -- A row that is lent to the range is linked.
    pub serve_linked : (row : ℕ) → IsIn row served → IsLinked (set s.words x.old.place.link new) row
    serve_linked row i = let l = served_lent z s r id me at new (update_of x) ex hit over free r.above.history
        mark bounded has_now others_have served serve served_once new_end row i in
        by_range l.0 row l.1 l.2 l.3

    replaced_now : Replaces (scene_of s.words r.above.role) (scene_of words' role') x.old.row new
    replaced_now = replaced z s r id me at new (update_of x) ex hit over free r.above.history mark bounded
        has_now others_have served serve served_once new_end

    pub new_words : row_at words' new ≡ x.its
    new_words = new_its z s r id me at new (update_of x) ex hit over free r.above.history mark bounded
        has_now others_have served serve served_once new_end

    -- Runs are runs: the range's has one base more, or is over.
    runs_now : (IsActive s.words x.pass x.number
        → IsFirst (scene_of s.words r.above.role) (scene_of words' role') r.above.ranged.ends x.pass
        x.number x.old.row new
        ⊎ ((left : ℕ) × IsNext (scene_of s.words r.above.role) (scene_of words' role') x.pass x.number
        x.old.row new left))
        → AreRuns (scene_of words' role') r.above.ranged.ends
    runs_now fits = marks (scene_of s.words role) (scene_of words' role') f.ranged.ends x.pass x.number
        x.old.row new f.ranged.runs (bases_apart z s.words role (after f.history []) f.shape)
        (one_active s.words) replaced_now
        (subst (λ its. IsMarkedBy its x.pass x.number) (sym new_words) c.marked) begun
        (active_or_not s.words x.pass x.number begun.0 begun.1) fits

    pub ranging_still : (j : ℕ) (y : View TreeView) → get_elem? s.views j ≡ some y
        → ((number : ℕ) → IsActive s.words y.upper.number number
        → ((b : ℕ) → IsBase r.above.role b → ¬ IsMarkedBy (row_at s.words b) y.upper.number number)
        → ¬ IsMarkedBy x.its y.upper.number number)
        → IsRanging z words' role' (r.above.ranged.ends y.upper.number) y.upper.since
        r.above.history y.upper.number y.upper.ranges
    ranging_still j y here unmarked = ranging_keeps z s r id me at new (update_of x) ex hit over free
        r.above.history mark bounded has_now others_have served serve served_once new_end j y here longer
        unmarked

    -- What it was shown of a run says what is so still.
    pub run_keeps : (note : Note) → IsIn note me.0.upper.ranges.run
        → IsTrue z.rows words' role' note
    run_keeps = shown_keeps z s r id me at new (update_of x) ex hit over free r.above.history mark bounded
        has_now others_have served serve served_once new_end id me.0 at

    -- The seat knows this of ranges then.
    module _ (ranges : KnownRanges)
        (fits : IsActive s.words x.pass x.number
        → IsFirst (scene_of s.words r.above.role) (scene_of words' role') r.above.ranged.ends x.pass
        x.number x.old.row new
        ⊎ ((left : ℕ) × IsNext (scene_of s.words r.above.role) (scene_of words' role') x.pass x.number
        x.old.row new left))
        (own : IsRanging z words' role' (r.above.ranged.ends me.0.upper.number) me.0.upper.since
        r.above.history me.0.upper.number ranges)
        (unmarked : (j : ℕ) (y : View TreeView) → j ≢ id → get_elem? s.views j ≡ some y
        → (number : ℕ) → IsActive s.words y.upper.number number
        → ((b : ℕ) → IsBase r.above.role b → ¬ IsMarkedBy (row_at s.words b) y.upper.number number)
        → ¬ IsMarkedBy x.its y.upper.number number)
        (borders : (border : Border) → IsIn border ranges.borders
        → IsIn border me.0.upper.ranges.borders ⊎ IsLinked (set s.words x.old.place.link new) border.row)
        (run : (row : ℕ) → IsOfOwnRun (set s.words x.old.place.link new)
        (copied served ranges new x me.0.upper) row
        → IsOfOwnRun (set s.words x.old.place.link new) me.0.upper row)
        (shown : ranges.run ≡ me.0.upper.ranges.run) (joins : ranges.joins ≡ me.0.upper.ranges.joins)
        (keeps_own : KeepsOwn me.0.upper.ranges.own ranges.own)
        (marks : MarksActive s.words me.0.upper.number me.0.upper.ranges.own ranges.own)
        (counted : AreCounted s.words r.made served (0 + me.0.upper.renewal.count) me.0.upper.renewal.count) where
      abbrev u' : TreeView
      u' = copied served ranges new x me.0.upper

      abbrev d' : View TreeView
      d' = (relinked me (lent_out served (taken_out (x.old.row ∷ []) (given (new ∷ []) me.0.claims)))
          (copied served ranges new x me.0.upper)).0

      first : get_elem? (map upper_of s.views) id ≡ some me.0.upper
      first = at_map upper_of s.views id me.0 at

      note_stays : (j : ℕ) (y : View TreeView) → get_elem? s.views j ≡ some y → (note : Note)
          → IsIn note y.upper.notes → IsTrue z.rows words' role' note
      note_stays = note_keeps z s r id me at new (update_of x) ex hit over free r.above.history mark bounded
          has_now others_have served serve served_once new_end

      own_knows : Knows z r.made words' role' (set (map upper_of s.views) id u') r.above.history
          id u'
      own_knows = let k = relisted z r.made s.words role (map upper_of s.views)
          (set (map upper_of s.views) id u') f.history id me.0.upper
          (numbered (map upper_of s.views) id me.0.upper u' first (λ _. refl)) knows in record {
            made_before = k.made_before;
            alone = k.alone;
            seen_first = k.seen_first;
            since_first = k.since_first;
            lawful = k.lawful;
            past = k.past;
            notes = λ note i. ⊎_elim
                (λ (e : copy_note new x ≡ note). subst (IsTrue z.rows words' role') e
                (new_true z s r id me at new (update_of x) ex hit over free r.above.history mark bounded
                has_now others_have served serve served_once new_end))
                (λ (o : IsIn note me.0.upper.notes). note_stays id me.0 at note o)
                (in_more (copy_note new x) note me.0.upper.notes i);
            links = λ note i. ⊎_elim
                (λ (e : copy_note new x ≡ note). subst
                (λ (y : Note). IsLinkOfView me.0.upper y.place.link) e (knows.links x.old old_shown))
                (λ (o : IsIn note me.0.upper.notes). knows.links note o)
                (in_more (copy_note new x) note me.0.upper.notes i);
            ways = way_keeps z s r id me at new (update_of x) ex hit over free r.above.history mark bounded
                has_now others_have served serve served_once new_end id me.0 at longer;
            way_links = k.way_links;
            one_place = k.one_place;
            joining = subst (λ js. IsJoining words' (copy_note new x ∷ me.0.upper.notes) me.0.upper.ways js) (sym joins)
                (joining_more z s r id me at new (update_of x) ex hit over free r.above.history mark bounded
                has_now others_have served serve served_once new_end);
            ended = k.ended;
          }

      others_know : (j : ℕ) (v : TreeView) → j ≢ id → get_elem? (map upper_of s.views) j ≡ some v
          → Knows z r.made words' role' (set (map upper_of s.views) id u') r.above.history j v
          × IsRanging z words' role' (r.above.ranged.ends v.number) v.since r.above.history
          v.number v.ranges
      others_know j v ne here = let y = of_map upper_of s.views j v here in
          let k = relisted z r.made s.words role (map upper_of s.views)
          (set (map upper_of s.views) id u') f.history j v
          (numbered (map upper_of s.views) id me.0.upper u' first (λ _. refl))
          (f.each_seat j v here) in (
            record {
              made_before = k.made_before;
              alone = k.alone;
              seen_first = k.seen_first;
              since_first = k.since_first;
              lawful = k.lawful;
              past = k.past;
              notes = λ note i. note_stays j y.0 y.1 note
                  (subst (λ (w : TreeView). IsIn note w.notes) (sym y.2) i);
              links = k.links;
              ways = subst (λ (w : TreeView). (way : Way) → IsIn way w.ways → IsTrueWay z words' role' w.since r.above.history way) y.2
                  (way_keeps z s r id me at new (update_of x) ex hit over free r.above.history mark
                  bounded has_now others_have served serve served_once new_end j y.0 y.1 longer);
              way_links = k.way_links;
              one_place = k.one_place;
              joining = subst (λ (w : TreeView). IsJoining words' w.notes w.ways w.ranges.joins) y.2
                  (joining_keep z s r id me at new (update_of x) ex hit over free r.above.history mark bounded
                  has_now others_have served serve served_once new_end j y.0 y.1);
              ended = k.ended;
            },
            subst (λ (w : TreeView). IsRanging z words' role' (r.above.ranged.ends w.number) w.since
                r.above.history w.number w.ranges) y.2
                (ranging_still j y.0 y.1 (unmarked j y.0 ne y.1)),
          )

      -- Where the link names the old base, the exchange puts the copy in its place.
      pub copy_step : R z record { words = words'; homes = s.homes; views = set s.views id d' }
      copy_step = exchange_step z s r id me at new (update_of x) ex hit over free r.above.history mark bounded
          has_now others_have served serve served_once new_end u'
          (own_notes z s r id me at new (update_of x) ex hit over free r.above.history mark bounded has_now
          others_have served serve served_once new_end u' refl refl borders run shown)
          me.0.upper.renewal.count refl counted keeps_own marks refl refl
          (ap (λ (y : KnownJoins). y.begun) joins) f.edits f.by_passes (runs_now fits) own_knows own others_know

      pub copied_now : IsCopied served ranges new x me (d', me.1)
      copied_now = record {
        now = refl;
        unclaimed = unclaimed_row z s r id me.0 at x.old.row
            (out_linked z s r id me at new (update_of x) ex hit over free r.above.history mark bounded has_now
            others_have served serve served_once new_end x.old.row (0, refl))
            (out_unlent z s r id me at new (update_of x) ex hit over free r.above.history mark bounded has_now
            others_have served serve served_once new_end x.old.row (0, refl));
      }
