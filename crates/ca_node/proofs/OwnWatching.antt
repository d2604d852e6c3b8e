-- Loads of the word that says how far the pass's own range is: where another one decided it, its run is shown.
use Rattle.std.proofs.Common.{◌≡◌, ℕ, ◌/◌, ◌<◌, ◌≤◌, true, List, ◌++◌, length, map, get_or, set, sym, refl, ap, ◌∙◌, subst, inl, inr, ⊎_elim, arith}
use mathlib.Core.Option.{some, none, some-injective}
use lib.ListN.{get_elem?}
use Rattle.atomic_table.specs.Table.{State, step, keeps, Allows}
use Rattle.atomic_table.proofs.Lists.{at_map}
use Rattle.ca_model.specs.Edges.{within}
use Rattle.ca_model.specs.History.{History, state}
use Rattle.ca_rows.specs.Calls.{Raises}
use Rattle.ca_rows.specs.Rule.{upper_of}
use Rattle.ca_rows.specs.Words.{result_of}
use Rattle.ca_rows.specs.declared.sizes.Sizes.{Sizes}
use Rattle.ca_rows.specs.declared.view.View.{View}
use Rattle.ca_node.specs.LoneStays.{none_kept, none_by_marking, none_by_quiet, quiet_active, lone_same}
use Rattle.ca_node.specs.Endings.{over_up_to}
use Rattle.ca_node.specs.Laws.{noted_more, noted_alike, numbered, relisted, seat_changed, starts_whole}
use Rattle.ca_node.specs.Layout.{sequence_unit}
use Rattle.ca_node.specs.Links.{IsActive, IsIn, IsOfOwnRun, IsNoted, by_run, by_run_item}
use Rattle.ca_node.specs.May.{MayLoad}
use Rattle.ca_node.specs.Notes.{IsBaseNote}
use Rattle.ca_node.specs.OwnRanges.{ended_with_run, HasFoundRun, numbered_by, IsFoundSo, WatchesOwn}
use Rattle.ca_node.specs.Ranging.{IsOver, objects_of, WasDecided, IsSoFar, IsRanging}
use Rattle.ca_node.specs.RangesStay.{chain_rows, active_undecided}
use Rattle.ca_node.specs.Row.{items}
use Rattle.ca_node.specs.Shape.{Role}
use Rattle.ca_node.specs.Told.{MyTree, with_upper, IsKnown, status_word}
use Rattle.ca_node.specs.Tree.{StartsWith, ArePast, IsTree}
use Rattle.ca_node.specs.TreeView.{Note, Border, Begun, Ranging, Quiet, Unmarked, Marking, Left, Joining, Secured, TreeView}
use Rattle.ca_node.proofs.Looking.{R, looked, knows_upper, knows_ranges, in_more, whole, since_whole, past_whole, known_now, sized}
use Rattle.ca_node.proofs.OwnDeciding.{own_there}
use Rattle.ca_node.proofs.OwnEnding.{over_else}
use Rattle.ca_node.proofs.SameNotes.{same_notes}
use Rattle.ca_node.proofs.ChainLength.{few_chained}

module _ (z : Sizes) (s : State (Unit {0}) (View TreeView)) (r : R z s) (id : ℕ) (me : MyTree) (at : get_elem? s.views id ≡ some me.0)
    (is_pinned : me.0.pin.pinned ≡ true) (is_pass : 0 < me.0.upper.number) (most : me.0.upper.number ≤ 64) (word_at : ℕ)
    (same : result_of s.words me.0.upper.number ≡ get_or s.words word_at 0) where
  abbrev f : IsTree z r.made s.words (map upper_of s.views)
  f = r.above

  abbrev role : ℕ → Role
  role = r.above.role

  abbrev pass : ℕ
  pass = me.0.upper.number

  abbrev u : TreeView
  u = me.0.upper

  abbrev n : ℕ
  n = get_or s.words word_at 0

  first : get_elem? (map upper_of s.views) id ≡ some me.0.upper
  first = at_map upper_of s.views id me.0 at

  abbrev known : IsRanging z s.words r.above.role (r.above.ranged.ends me.0.upper.number) me.0.upper.since r.above.history me.0.upper.number me.0.upper.ranges
  known = f.ranged.each id me.0.upper first

  abbrev After : TreeView → Type 0
  After u' = R z record { words = set s.words word_at (get_or s.words word_at 0); homes = s.homes; views = set s.views id (record me.0 { upper = u' }) }

  -- The seat learns the number of its range.
  number_learnt : After (numbered_by n u)
  number_learnt = let u' : TreeView = numbered_by n u in knows_ranges z s r word_at id me.0 at u'.ranges u.turns u.tries
      (knows_upper z s r id me.0 at).joining
      (λ row m. inl (noted_alike s.words u u' (λ x i. i) (λ x i. i) (λ x i. i) (λ x i. i) (λ x i. i) row m)) (λ _ _ l. l) record {
        over = known.over;
        borders = known.borders;
        own = known.own;
        sequence = λ k lo is. (most, ap (λ v. v / sequence_unit) same ∙ some-injective (n / sequence_unit) k is);
        run = known.run;
      }

  -- Another one decided it.
  module _ (begun : Begun) (border : Border) (own : me.0.upper.ranges.own ≡ Marking begun border)
      (was : WasDecided z s.words r.above.role me.0.upper.since r.above.history me.0.upper.number begun border.its) where
    abbrev more : History
    more = (knows_upper z s r id me.0 at).seen_first.0

    abbrev u' : TreeView
    u' = record me.0.upper {
      seen = me.0.upper.seen ++ (knows_upper z s r id me.0 at).seen_first.0;
      ranges = record (ended_with_run me.0.upper.number begun.number was.notes me.0.upper.ranges) { sequence = some begun.number };
    }

    -- The run was noted by the word alone.
    of_run : (note : Note) → IsIn note was.notes → IsOfOwnRun s.words me.0.upper note.row
    of_run note i = (
      begun.number,
      was.last,
      (begun, border, own, refl),
      was.decided,
      chain_rows z.rows s.words role was.last was.notes was.trues was.run.chained note i,
    )

    noted_still : (row : ℕ) → IsNoted s.words u' row → IsNoted s.words me.0.upper row
    noted_still row m = ⊎_elim (λ (o : IsNoted s.words me.0.upper row). o) (λ (o : IsNoted s.words me.0.upper row). o)
        (noted_more s.words me.0.upper u' (IsNoted s.words me.0.upper) (λ x i. i) (λ x i. i) (λ x i. inl i)
        (λ c o. (let e : Quiet ≡ Marking o.2.0 o.2.1 = o.2.2 in absurd cc))
        (λ note i. inr (
          by_run note.row (of_run note i),
          λ _ c j. by_run_item note.row c (of_run note i) (subst (λ its. IsIn c (items its)) (sym (was.trues note i).spells) j),
        )) row m)

    run_learnt : After u'
    run_learnt = let us : List TreeView = map upper_of s.views in
        let k = relisted z r.made s.words role us (set us id u') f.history id u (numbered us id u u' first (λ _. refl)) (knows_upper z s r id me.0 at) in
        looked z s r word_at id me.0 u' at (λ row m. inl (noted_still row m))
        (seat_changed z r.made s.words us id u u' f first (λ _. refl) (λ _. refl)
        (λ _ _ l. lone_same s.words role u.number u.ranges.own Quiet u.ways u.ways u.ranges.joins.begun u.ranges.joins.begun (λ w i. inl i)
        (none_kept u.ranges.own Quiet (none_by_marking u.ranges.own begun border own) (none_by_quiet Quiet refl))
        (quiet_active s.words s.words u.number u.ranges.own) (inl refl) l) record {
          made_before = k.made_before;
          alone = k.alone;
          seen_first = subst (StartsWith f.history) (whole z s r id me at) (starts_whole f.history);
          since_first = subst (λ (h : History). StartsWith h u.since) (whole z s r id me at) (since_whole z s r id me at);
          lawful = k.lawful;
          past = subst (λ (h : History). ArePast (length h) u.log) (whole z s r id me at) (past_whole z s r id me at);
          notes = k.notes;
          links = k.links;
          ways = k.ways;
          way_links = k.way_links;
          one_place = k.one_place;
          joining = k.joining;
          ended = k.ended;
        } record {
          over = λ x i. ⊎_elim (λ (e : over_up_to pass begun.number ≡ x). subst (IsOver s.words) e
              (over_else z s r id me at is_pinned is_pass begun border own
              (λ hit. active_undecided s.words pass begun.number begun.number was.last (is_pass, most, hit) was.decided)))
              (λ o. known.over x o) (in_more (over_up_to pass begun.number) x u.ranges.over i);
          borders = known.borders;
          own = λ _ k now. active_undecided s.words pass k begun.number was.last now was.decided;
          sequence = λ k lo is. (
            most,
            (let here = was.decided.4 in let l = was.decided.3 in
                let there : result_of s.words pass / sequence_unit ≡ begun.number = omega arith in there ∙ some-injective begun.number k is),
          );
          run = was.trues;
        })

    found_run : HasFoundRun me n (with_upper me u') begun border
    found_run = record {
      last = was.last;
      some_row = was.some_row;
      word = sym same ∙ was.decided.4;
      small = was.decided.3;
      more = more;
      run = was.notes;
      seen = record {
        shown = record {
          chained = was.run.chained;
          at = was.run.at;
          later = was.run.later;
          seen = subst (λ (h : History). was.run.at ≤ length h) (whole z s r id me at) was.run.seen;
          low = was.run.low;
          high = was.run.high;
          before = was.run.before;
          ends = was.run.ends;
          shown = subst (λ (h : History). objects_of was.notes ≡ within was.run.low was.run.high (state h was.run.at)) (whole z s r id me at) was.run.shown;
        };
        bases = sized z s r id me at (λ y. (note : Note) → IsIn note was.notes → IsBaseNote y note) was.bases;
        few = sized z s r id me at (λ y. length was.notes ≤ y.rows) (few_chained z.rows s.words role was.notes was.last was.run.chained was.trues);
        alike = λ note old i seen same. same_notes z.rows s.words role note old (was.bases note i).is_base (was.trues note i)
            ((knows_upper z s r id me.0 at).notes old seen) same;
      };
      whole = was.whole;
      now = refl;
      known = sized z s r id me at (λ y. IsKnown y (record me.0.upper { seen = me.0.upper.seen ++ more }))
          (known_now z s r id me at (record me.0.upper { seen = me.0.upper.seen ++ more }) refl refl refl);
    }

  -- What the load tells, by how far the seat knew its range to be.
  pub found : (o : Ranging) → me.0.upper.ranges.own ≡ o → (u' : TreeView) × (R z record {
    words = set s.words word_at (get_or s.words word_at 0);
    homes = s.homes;
    views = set s.views id (record me.0 { upper = u' });
  }) × IsFoundSo me (get_or s.words word_at 0) (with_upper me u') o
  found Quiet is = (
    numbered_by n u,
    number_learnt,
    (
      λ e. (subst (IsSoFar z s.words role (f.ranged.ends pass) u.since f.history pass u.ranges.borders) is (known.own is_pass)) (n / sequence_unit)
          (is_pass, most, same ∙ omega arith),
      refl,
    ),
  )
  found (Unmarked begun) is = let so = subst (IsSoFar z s.words role (f.ranged.ends pass) u.since f.history pass u.ranges.borders) is (known.own is_pass) in
      (numbered_by n u, number_learnt, (sym same ∙ so.0.0.2, refl))
  found (Marking begun border) is =
      let so = subst (IsSoFar z s.words role (f.ranged.ends pass) u.since f.history pass u.ranges.borders) is (known.own is_pass) in
      ⊎_elim
      (λ on. (
        numbered_by n u,
        number_learnt,
        inl (sym same ∙ on.0.0.2, refl, λ o. (known.over o.0 o.1 begun.number o.3).1 (subst (λ (p : ℕ). IsActive s.words p begun.number) (sym o.2) on.0.0)),
      ))
      (λ (was : WasDecided z s.words r.above.role me.0.upper.since r.above.history me.0.upper.number begun border.its).
      (u' begun border is was, run_learnt begun border is was, inr (found_run begun border is was)))
      so.2
  found Left is = (numbered_by n u, number_learnt, refl)
  found (Joining x) is = (
    numbered_by n u,
    number_learnt,
    (
      λ e. (subst (IsSoFar z s.words role (f.ranged.ends pass) u.since f.history pass u.ranges.borders) is (known.own is_pass)) (n / sequence_unit)
          (is_pass, most, same ∙ omega arith),
      refl,
    ),
  )
  found (Secured x) is = (
    numbered_by n u,
    number_learnt,
    (
      λ e. (subst (IsSoFar z s.words role (f.ranged.ends pass) u.since f.history pass u.ranges.borders) is (known.own is_pass)) (n / sequence_unit)
          (is_pass, most, same ∙ omega arith),
      refl,
    ),
  )

module _ (z : Sizes) where
  -- The load of the word that says how far the seat's own range is.
  pub watches_own : (slots id : ℕ) (me : MyTree) (word_at : ℕ) → me.0.sizes ≡ z → me.0.pin.pinned ≡ true → 0 < me.0.upper.number → me.0.upper.number ≤ 64
      → word_at ≡ status_word z me.0.upper.number
      → Allows (R z) slots id me word_at (λ x. x) (Raises MayLoad WatchesOwn (step slots word_at 0 0 none) me)
  watches_own slots id me word_at sized_so is_pinned lo hi here s r _ at _ =
      let same : result_of s.words me.0.upper.number ≡ get_or s.words word_at 0 =
      ap (λ (i : ℕ). get_or s.words i 0) (own_there z s.words me.0.upper.number word_at r.above.shape.wide lo here) in
      let t = found z s r id me at is_pinned lo hi word_at same me.0.upper.ranges.own refl in
      let told : WatchesOwn (step slots word_at 0 0 none) me (get_or s.words word_at 0) (with_upper me t.0) =
      (lo, here ∙ ap (λ (y : Sizes). status_word y me.0.upper.number) (sym sized_so), t.2) in (
        record me.0 { upper = t.0 },
        keeps,
        tt,
        t.1,
        (refl, inr (inr (inr (inr (inr (inl told))))), told),
      )
