-- The exchange by which a pass decides its own range, and the one by which it gives it up.
use Rattle.std.proofs.Common.{◌≡◌, ◌≢◌, ℕ, ◌+◌, ◌*◌, ◌/◌, ◌%◌, ◌<◌, ◌≤◌, Bool, true, false, eqb, List, ◌++◌, length, map, get_or, set, sym, refl, ap, ◌∙◌, subst, inl, inr, ⊎_elim, arith, eq-eqb, ne_eqb}
use mathlib.Core.Logic.{dite}
use mathlib.Core.Option.{some, none}
use native.Mathlib.Decide.{ℕ_discrete}
use lib.ListN.{get_elem?}
use prog.Atomic.{either}
use Rattle.atomic_table.specs.Table.{State, step, keeps, stepped, Allows}
use Rattle.atomic_table.proofs.Lists.{at_map}
use Rattle.ca_model.specs.Edges.{within}
use Rattle.ca_model.specs.History.{History, state}
use Rattle.ca_rows.specs.Calls.{Relinks}
use Rattle.ca_rows.specs.Layout.{row_limit}
use Rattle.ca_rows.specs.Rule.{upper_of}
use Rattle.ca_rows.specs.Told.{relinked}
use Rattle.ca_rows.specs.Words.{IsWide, own_word, result_of}
use Rattle.ca_rows.specs.declared.sizes.Sizes.{Sizes}
use Rattle.ca_rows.specs.declared.view.View.{View}
use Rattle.ca_rows.proofs.OwnWords.{own_is}
use Rattle.ca_runs.specs.Runs.{BeginsBefore}
use Rattle.ca_node.specs.LoneStays.{none_kept, none_by_marking, none_by_quiet, quiet_active, lone_same}
use Rattle.ca_node.specs.Endings.{active_word, decided_word, over_up_to, without}
use Rattle.ca_node.specs.Laws.{noted_alike, starts_whole}
use Rattle.ca_node.specs.Layout.{sequence_unit}
use Rattle.ca_node.specs.Links.{IsIn, IsActive, IsLinked, IsOnChain, IsOfOwnRun}
use Rattle.ca_node.specs.May.{MaySwap}
use Rattle.ca_node.specs.Notes.{IsBaseNote}
use Rattle.ca_node.specs.OwnRanges.{ended_with_run, IsOwnEnding, IsOwnDecided, own_over, DecidesOwn, HasDecidedOwn, IsGivingUp, IsOvertaken, given_up, aborted, Aborts, HasAborted}
use Rattle.ca_node.specs.Ranging.{IsOver, IsSomeMarked, objects_of, IsRunShown}
use Rattle.ca_node.specs.Reached.{placed_linked, item_linked}
use Rattle.ca_node.specs.Row.{row_at, IsBaseRow, items, IsMarkedBy}
use Rattle.ca_node.specs.Scenes.{IsBase, span_of}
use Rattle.ca_node.specs.Shape.{Role, Base, place_of}
use Rattle.ca_node.specs.States.{IsAlone}
use Rattle.ca_node.specs.Told.{MyTree, IsKnown, status_word}
use Rattle.ca_node.specs.Tree.{StartsWith, ArePast, IsTrue, IsTree}
use Rattle.ca_node.specs.TreeView.{Note, Border, Begun, Quiet, Marking, TreeView}
use Rattle.ca_node.proofs.Ended.{IsEnd, shape', true_then}
use Rattle.ca_node.proofs.Looking.{R, knows_upper, knows_ranges, in_more, whole, long, since_whole, past_whole, known_now, sized, starts_shorter}
use Rattle.ca_node.proofs.OwnEnding.{few, goes, over_else, quiet_else, end_step}
use Rattle.ca_node.proofs.OwnWord.{result_here}
use Rattle.ca_node.proofs.Runs.{run, run_trues, run_bases, run_shown, on_chain}
use Rattle.ca_node.proofs.SameNotes.{same_notes}
use Rattle.ca_node.proofs.ChainLength.{few_chained}

module _ (z : Sizes) (s : State (Unit {0}) (View TreeView)) (r : R z s) (id : ℕ) (me : MyTree)
    (at : get_elem? s.views id ≡ some me.0)
    (begun : Begun) (border : Border) where
  abbrev f : IsTree z r.made s.words (map upper_of s.views)
  f = r.above

  abbrev role : ℕ → Role
  role = r.above.role

  abbrev pass : ℕ
  pass = me.0.upper.number

  first : get_elem? (map upper_of s.views) id ≡ some me.0.upper
  first = at_map upper_of s.views id me.0 at

  -- The seat decides it with this base.
  module _ (last : Note) (k : IsOwnEnding me begun border last)
      (hit : result_of s.words me.0.upper.number ≡ active_word begun.number) where
    last_true : IsTrue z.rows s.words r.above.role last
    last_true = (knows_upper z s r id me.0 at).notes last k.shown

    hi : me.0.upper.number ≤ 64
    hi = few z s r id me at k.is_pinned k.is_pass begun border k.own

    pub now : IsActive s.words me.0.upper.number begun.number
    now = (k.is_pass, hi, hit)

    stands : r.above.role last.row ≡ Base last.place
    stands = (last_true.marks pass begun.number k.marked).1 now

    pub base_is : IsBase r.above.role last.row
    base_is = (last.place, stands)

    pub marked : IsMarkedBy (row_at s.words last.row) me.0.upper.number begun.number
    marked = subst (λ its. IsMarkedBy its pass begun.number) (sym last_true.spells) k.marked

    small : last.row < row_limit
    small = let a = last_true.in_range in let b = r.few in omega arith

    same_number : decided_word begun.number last.row / sequence_unit ≡ begun.number
    same_number = let l = small in omega arith

    is_over : decided_word begun.number last.row % sequence_unit ≢ row_limit
    is_over e = let l = small in omega arith

    end : IsEnd z s r me.0.upper.number begun.number (decided_word begun.number last.row)
    end = record {
      lo = k.is_pass;
      hi = hi;
      hit = hit;
      same_number = same_number;
      is_over = is_over;
      base = last.row;
      base_is = base_is;
      marked = marked;
    }

    abbrev words' : List ℕ
    words' = set s.words (own_word s.words me.0.upper.number + 1)
        (decided_word begun.number last.row)

    abbrev pub the_run : List Note
    the_run = run z r.made s.words (map upper_of s.views) r.above me.0.upper.number begun.number
        last.row now base_is marked

    run_base : (note : Note) → IsIn note the_run → IsTrue z.rows s.words r.above.role note
        × (r.above.role note.row ≡ Base note.place)
    run_base = run_trues z r.made s.words (map upper_of s.views) r.above pass begun.number last.row
        now base_is marked

    run_true : (note : Note) → IsIn note the_run → IsTrue z.rows words' r.above.role note
    run_true note i = true_then z s r pass begun.number
        (decided_word begun.number last.row) end note
        (run_base note i).0

    -- Its run is linked.
    run_linked : (note : Note) → IsIn note the_run → IsLinked words' note.row
        × (IsBaseRow note.its → (row : ℕ) → IsIn row (items note.its) → IsLinked words' row)
    run_linked note i = let b = run_base note i in
        let shape = shape' z s r pass begun.number (decided_word begun.number last.row) end in (
          placed_linked z words' role _ shape note.row note.place (ap place_of b.1),
          λ _ row j. item_linked z words' role _ shape note.row note.place b.1 row
              (subst (λ its. IsIn row (items its)) (sym (run_true note i).spells) j),
        )

    own_run : (row : ℕ) → IsOfOwnRun words' me.0.upper row → IsBase r.above.role row
    own_run row o = let d = o.3 in let here = sym
        (result_here z s r pass (decided_word begun.number last.row) k.is_pass hi) ∙ d.4 in
        let l = small in let l' = d.3 in let same : o.1 ≡ last.row = omega arith in
        on_chain z r.made s.words (map upper_of s.views) r.above pass begun.number last.row now
        base_is marked words' run_true last_true.some_row row
        (subst (λ (c : ℕ). IsOnChain words' c row) same o.4)

    abbrev more : History
    more = (knows_upper z s r id me.0 at).seen_first.0

    pub decide_step : R z record {
      words = words';
      homes = s.homes;
      views = set s.views id (relinked me me.0.claims (record me.0.upper {
        seen = me.0.upper.seen ++ (knows_upper z s r id me.0 at).seen_first.0;
        ranges = ended_with_run me.0.upper.number begun.number the_run me.0.upper.ranges;
        inventory = without border.row me.0.upper.inventory;
      })).0;
    }
    decide_step = end_step z s r id me at k.is_pinned k.is_pass begun border k.own
        (decided_word begun.number last.row) end
        (me.0.upper.seen ++ more)
        (subst (StartsWith f.history) (whole z s r id me at) (starts_whole f.history))
        (subst (λ (h : History). StartsWith h me.0.upper.since) (whole z s r id me at)
        (since_whole z s r id me at))
        (subst (λ (h : History). ArePast (length h) me.0.upper.log) (whole z s r id me at)
        (past_whole z s r id me at))
        the_run run_true (λ note i. inr (run_linked note i)) (λ row o. inr (own_run row o))

    run_now : (w : IsRunShown me.0.upper.since r.above.history
        (r.above.ranged.ends me.0.upper.number).edge last.row the_run)
        × (w.high ≡ (span_of (r.above.role last.row)).high)
    run_now = run_shown z r.made s.words (map upper_of s.views) r.above pass begun.number last.row
        now base_is marked me.0.upper.since
        (let a = long z s r id me at in let b = starts_shorter me.0.upper.seen me.0.upper.since
        (knows_upper z s r id me.0 at).since_first in omega arith)

    edge_is : (r.above.ranged.ends me.0.upper.number).edge ≡ begun.edge
    edge_is = (goes z s r id me at k.is_pinned k.is_pass begun border k.own hit).0.1

    -- It has what the last state has.
    abbrev shown_now : IsRunShown me.0.upper.since
        (me.0.upper.seen ++ (knows_upper z s r id me.0 at).seen_first.0) begun.edge last.row the_run
    shown_now = let w = run_now.0 in record {
      chained = w.chained;
      at = w.at;
      later = w.later;
      seen = subst (λ (h : History). w.at ≤ length h) (whole z s r id me at) w.seen;
      low = w.low;
      high = w.high;
      before = subst (BeginsBefore w.low) edge_is w.before;
      ends = w.ends;
      shown = subst (λ (h : History). objects_of the_run ≡ within w.low w.high (state h w.at))
          (whole z s r id me at) w.shown;
    }

    pub decided_now : IsOwnDecided me (
      (relinked me me.0.claims (record me.0.upper {
        seen = me.0.upper.seen ++ (knows_upper z s r id me.0 at).seen_first.0;
        ranges = ended_with_run me.0.upper.number begun.number the_run me.0.upper.ranges;
        inventory = without border.row me.0.upper.inventory;
      })).0,
      me.1,
    ) begun border last
    decided_now = record {
      more = more;
      run = the_run;
      seen = record {
        shown = shown_now;
        bases = sized z s r id me at (λ y. (note : Note) → IsIn note the_run → IsBaseNote y note)
            (run_bases z r.made s.words (map upper_of s.views) r.above pass begun.number last.row
            now base_is marked);
        few = sized z s r id me at (λ y. length the_run ≤ y.rows)
            (few_chained z.rows s.words role the_run last.row shown_now.chained
            (λ note i. (run_base note i).0));
        alike = λ note old i was same. same_notes z.rows s.words role note old
            (run_bases z r.made s.words (map upper_of s.views) r.above pass begun.number last.row
            now base_is marked note i).is_base
            (run_base note i).0 ((knows_upper z s r id me.0 at).notes old was) same;
      };
      high_is = run_now.1 ∙ ap (λ q. (span_of q).high) stands;
      now = refl;
      known = sized z s r id me at
          (λ y. IsKnown y (record me.0.upper { seen = me.0.upper.seen ++ more }))
          (known_now z s r id me at (record me.0.upper { seen = me.0.upper.seen ++ more }) refl
          refl refl);
    }

  -- That another one ended it a pass that is alone never finds.
  pub overtaken : 0 < me.0.upper.number → me.0.upper.ranges.own ≡ Marking begun border
      → result_of s.words me.0.upper.number ≢ active_word begun.number → IsOvertaken me
  overtaken is_pass own miss = sized z s r id me at (λ y. ¬ IsAlone y me.0.upper)
      (λ (alone : IsAlone z me.0.upper). let one = alone.0 in let within = r.within in
      miss ((f.lone id me.0.upper first (omega arith) is_pass).active begun border own).2)

  -- Another one had decided it, and the seat learns that.
  pub lost_step : (k : (last : Note) × IsOwnEnding me begun border last)
      → result_of s.words me.0.upper.number ≢ active_word begun.number → (i : ℕ)
      → R z record {
        words = set s.words i (get_or s.words i 0);
        homes = s.homes;
        views = set s.views id (record me.0 { upper = own_over begun.number me.0.upper });
      }
  lost_step k miss i = let known = f.ranged.each id me.0.upper first in let u' : TreeView =
      own_over begun.number me.0.upper in
      knows_ranges z s r i id me.0 at u'.ranges me.0.upper.turns me.0.upper.tries
      (knows_upper z s r id me.0 at).joining
      (λ row n. inl (noted_alike s.words me.0.upper u' (λ x m. m) (λ x m. m) (λ x m. m) (λ x m. m)
      (λ x m. m) row n)) (λ _ _ l. l) record {
        over = λ x m. ⊎_elim (λ (e : over_up_to pass begun.number ≡ x). subst (IsOver s.words) e
            (over_else z s r id me at k.1.is_pinned k.1.is_pass begun border k.1.own miss))
            (λ o. known.over x o)
            (in_more (over_up_to pass begun.number) x me.0.upper.ranges.over m);
        borders = known.borders;
        own = known.own;
        sequence = known.sequence;
        run = known.run;
      }

  -- The seat gives it up.
  module _ (k : IsGivingUp me begun border) where
    module _ (hit : result_of s.words me.0.upper.number ≡ active_word begun.number) where
      base : IsSomeMarked s.words r.above.role me.0.upper.number begun.number
      base = (goes z s r id me at k.is_pinned k.is_pass begun border k.own hit).1

      most : me.0.upper.number ≤ 64
      most = few z s r id me at k.is_pinned k.is_pass begun border k.own

      given_end : IsEnd z s r me.0.upper.number begun.number (sequence_unit * begun.number)
      given_end = record {
        lo = k.is_pass;
        hi = most;
        hit = hit;
        same_number = omega arith;
        is_over = λ e. omega arith;
        base = base.0;
        base_is = base.1;
        marked = base.2;
      }

      pub abort_step : R z record {
        words = set s.words (own_word s.words me.0.upper.number + 1) (sequence_unit * begun.number);
        homes = s.homes;
        views = set s.views id
            (relinked me me.0.claims (aborted begun.number border.row me.0.upper)).0;
      }
      abort_step = end_step z s r id me at k.is_pinned k.is_pass begun border k.own
          (sequence_unit * begun.number) given_end me.0.upper.seen
          (knows_upper z s r id me.0 at).seen_first (knows_upper z s r id me.0 at).since_first
          (knows_upper z s r id me.0 at).past me.0.upper.ranges.run
          (λ note i. true_then z s r pass begun.number (sequence_unit * begun.number) given_end note
          ((f.ranged.each id me.0.upper first).run note i))
          (λ note i. inl i)
          (λ row o. let d = o.3 in let here =
          sym (result_here z s r pass (sequence_unit * begun.number) k.is_pass most) ∙ d.4 in
          let l = d.3 in
          absurd (omega arith))

    -- Another one had decided it: it is over either way.
    pub given_step : result_of s.words me.0.upper.number ≢ active_word begun.number → (i : ℕ)
        → R z record {
          words = set s.words i (get_or s.words i 0);
          homes = s.homes;
          views = set s.views id (record me.0 { upper = given_up begun.number me.0.upper });
        }
    given_step miss i = let known = f.ranged.each id me.0.upper first in let u' : TreeView =
        given_up begun.number me.0.upper in
        knows_ranges z s r i id me.0 at u'.ranges me.0.upper.turns me.0.upper.tries
        (knows_upper z s r id me.0 at).joining
        (λ row n. inl (noted_alike s.words me.0.upper u' (λ x m. m) (λ x m. m) (λ x m. m)
        (λ c o. (let e : Quiet ≡ Marking o.2.0 o.2.1 = o.2.2 in absurd cc)) (λ x m. m) row n))
        (λ _ _ l. lone_same s.words f.role me.0.upper.number me.0.upper.ranges.own Quiet me.0.upper.ways
        me.0.upper.ways me.0.upper.ranges.joins.begun
        me.0.upper.ranges.joins.begun (λ w i. inl i)
        (none_kept me.0.upper.ranges.own Quiet
        (none_by_marking me.0.upper.ranges.own begun border k.own) (none_by_quiet Quiet refl))
        (quiet_active s.words s.words me.0.upper.number me.0.upper.ranges.own) (inl refl) l) record {
          over = λ x m. ⊎_elim (λ (e : over_up_to pass begun.number ≡ x). subst (IsOver s.words) e
              (over_else z s r id me at k.is_pinned k.is_pass begun border k.own miss))
              (λ o. known.over x o)
              (in_more (over_up_to pass begun.number) x me.0.upper.ranges.over m);
          borders = known.borders;
          own = λ _. quiet_else z s r id me at k.is_pinned k.is_pass begun border k.own miss;
          sequence = known.sequence;
          run = known.run;
        }

module _ (z : Sizes) where
  -- Where the pass's word stands.
  pub own_there : (words : List ℕ) (pass word_at : ℕ) → IsWide z.rows words → 0 < pass
      → word_at ≡ status_word z pass → own_word words pass + 1 ≡ word_at
  own_there words pass word_at wide lo here = let far = own_is z.rows pass words wide lo in
      omega arith

  -- The exchange of the word of the seat's own range, which decides it,
  pub decides_own : (slots id : ℕ) (me : MyTree) (begun : Begun) (border : Border) (last : Note)
      (word_at : ℕ)
      → word_at ≡ status_word z me.0.upper.number → IsOwnEnding me begun border last
      → Allows (R z) slots id me word_at
      (λ n. either (eqb n (active_word begun.number)) (decided_word begun.number last.row) n)
      (Relinks MaySwap (DecidesOwn begun border last)
      (step slots word_at (active_word begun.number) (decided_word begun.number last.row) none)
      me)
  decides_own slots id me begun border last word_at here k s r _ at _ = let n : ℕ =
      get_or s.words word_at 0 in
      let there = own_there s.words me.0.upper.number word_at r.above.shape.wide k.is_pass here in
      let same : result_of s.words me.0.upper.number ≡ n =
      ap (λ (i : ℕ). get_or s.words i 0) there in
      dite (ℕ_discrete n (active_word begun.number))
      (λ (hit : n ≡ active_word begun.number). let won =
      decided_now z s r id me at begun border last k (same ∙ hit) in
      let d' : View TreeView = (relinked me me.0.claims (record me.0.upper {
        seen = me.0.upper.seen ++ (knows_upper z s r id me.0 at).seen_first.0;
        ranges = ended_with_run me.0.upper.number begun.number
            (the_run z s r id me at begun border last k (same ∙ hit)) me.0.upper.ranges;
        inventory = without border.row me.0.upper.inventory;
      })).0 in
      let told : DecidesOwn begun border last
      (step slots word_at (active_word begun.number) (decided_word begun.number last.row) none)
      me n (d', me.1) =
      ((λ _. won), λ miss. absurd (miss hit)) in (
        d',
        keeps,
        tt,
        subst (λ (y : ℕ). R z (stepped s word_at y id me.1 d' keeps))
            (sym (ap (λ b. either b (decided_word begun.number last.row) n)
            (eq-eqb n (active_word begun.number) hit)))
            (subst (λ (i : ℕ). R z
            record {
              words = set s.words i (decided_word begun.number last.row);
              homes =
                  s.homes;
              views = set s.views id d';
            }) there
            (decide_step z s r id me at begun border last k (same ∙ hit))),
        (
          (λ _. refl),
          (λ miss. absurd (miss hit)),
          inr
              (inr (inr (inr (inl (inl (begun, border, last, told)))))),
          told,
        ),
      ))
      (λ miss. let late : View TreeView = record me.0
      { upper = own_over begun.number me.0.upper } in
      let told : DecidesOwn begun border last
      (step slots word_at (active_word begun.number) (decided_word begun.number last.row) none)
      me n (late, me.1) =
      ((λ hit. absurd (miss hit)), λ _. (refl, overtaken z s r id me at begun border k.is_pass k.own (λ e. miss (sym same ∙ e)))) in (
        late,
        keeps,
        tt,
        subst (λ (y : ℕ). R z (stepped s word_at y id me.1 late keeps))
            (sym (ap (λ b. either b (decided_word begun.number last.row) n)
            (ne_eqb n (active_word begun.number) miss)))
            (lost_step z s r id me at begun border (last, k) (λ e. miss (sym same ∙ e)) word_at),
        (
          (λ hit. absurd (miss hit)),
          (λ _. refl),
          inr
              (inr (inr (inr (inl (inl (begun, border, last, told)))))),
          told,
        ),
      ))

  -- or gives it up.
  pub aborts : (slots id : ℕ) (me : MyTree) (begun : Begun) (border : Border) (word_at : ℕ)
      → word_at ≡ status_word z me.0.upper.number → IsGivingUp me begun border
      → Allows (R z) slots id me word_at
      (λ n. either (eqb n (active_word begun.number)) (sequence_unit * begun.number) n)
      (Relinks MaySwap (Aborts begun border)
      (step slots word_at (active_word begun.number) (sequence_unit * begun.number) none) me)
  aborts slots id me begun border word_at here k s r _ at _ = let n : ℕ =
      get_or s.words word_at 0 in
      let there = own_there s.words me.0.upper.number word_at r.above.shape.wide k.is_pass here in
      let same : result_of s.words me.0.upper.number ≡ n =
      ap (λ (i : ℕ). get_or s.words i 0) there in
      dite (ℕ_discrete n (active_word begun.number))
      (λ (hit : n ≡ active_word begun.number). let d' : View TreeView =
      (relinked me me.0.claims (aborted begun.number border.row me.0.upper)).0 in
      let told : Aborts begun border
      (step slots word_at (active_word begun.number) (sequence_unit * begun.number) none) me n
      (d', me.1) =
      ((λ _. refl), λ miss. absurd (miss hit)) in (
        d',
        keeps,
        tt,
        subst (λ (y : ℕ). R z (stepped s word_at y id me.1 d' keeps))
            (sym (ap (λ b. either b (sequence_unit * begun.number) n)
            (eq-eqb n (active_word begun.number) hit)))
            (subst (λ (i : ℕ). R z record {
              words = set s.words i (sequence_unit * begun.number);
              homes = s.homes;
              views = set s.views id d';
            }) there
            (abort_step z s r id me at begun border k (same ∙ hit))),
        (
          (λ _. refl),
          (λ miss. absurd (miss hit)),
          inr
              (inr (inr (inr (inl (inr (inl (begun, border, told))))))),
          told,
        ),
      ))
      (λ miss. let late : View TreeView = record me.0
      { upper = given_up begun.number me.0.upper } in
      let told : Aborts begun border
      (step slots word_at (active_word begun.number) (sequence_unit * begun.number) none) me n
      (late, me.1) =
      ((λ hit. absurd (miss hit)), λ _. (refl, overtaken z s r id me at begun border k.is_pass k.own (λ e. miss (sym same ∙ e)))) in (
        late,
        keeps,
        tt,
        subst (λ (y : ℕ). R z (stepped s word_at y id me.1 late keeps))
            (sym (ap (λ b. either b (sequence_unit * begun.number) n)
            (ne_eqb n (active_word begun.number) miss)))
            (given_step z s r id me at begun border k (λ e. miss (sym same ∙ e)) word_at),
        (
          (λ hit. absurd (miss hit)),
          (λ _. refl),
          inr
              (inr (inr (inr (inl (inr (inl (begun, border, told))))))),
          told,
        ),
      ))

-- The two ways that each goes.
pub has_decided : (n slots word_at new : ℕ) (begun : Begun) (border : Border) (last : Note)
    (m m' : MyTree)
    → DecidesOwn begun border last (step slots word_at (active_word begun.number) new none) m n m'
    → HasDecidedOwn (eqb n (active_word begun.number)) begun border last m m'
has_decided n slots word_at new begun border last m m' told =
    dite (ℕ_discrete n (active_word begun.number))
    (λ hit. subst (λ (b : Bool). HasDecidedOwn b begun border last m m')
    (sym (eq-eqb n (active_word begun.number) hit)) (told.0 hit))
    (λ miss. subst (λ (b : Bool). HasDecidedOwn b begun border last m m')
    (sym (ne_eqb n (active_word begun.number) miss)) (told.1 miss).0)

pub has_aborted : (n slots word_at new : ℕ) (begun : Begun) (border : Border) (m m' : MyTree)
    → Aborts begun border (step slots word_at (active_word begun.number) new none) m n m'
    → HasAborted (eqb n (active_word begun.number)) begun border m m'
has_aborted n slots word_at new begun border m m' told =
    dite (ℕ_discrete n (active_word begun.number))
    (λ hit. subst (λ (b : Bool). HasAborted b begun border m m')
    (sym (eq-eqb n (active_word begun.number) hit)) (told.0 hit))
    (λ miss. subst (λ (b : Bool). HasAborted b begun border m m')
    (sym (ne_eqb n (active_word begun.number) miss)) (told.1 miss).0)

-- Neither is lost where the pass is the only one.
pub lost_deciding : (n slots word_at new : ℕ) (begun : Begun) (border : Border) (last : Note)
    (m m' : MyTree)
    → DecidesOwn begun border last (step slots word_at (active_word begun.number) new none) m n m'
    → eqb n (active_word begun.number) ≡ false → IsOvertaken m
lost_deciding n slots word_at new begun border last m m' told lost =
    (told.1 (λ hit. let e : true ≡ false = sym (eq-eqb n (active_word begun.number) hit) ∙ lost in absurd cc)).1

pub lost_aborting : (n slots word_at new : ℕ) (begun : Begun) (border : Border) (m m' : MyTree)
    → Aborts begun border (step slots word_at (active_word begun.number) new none) m n m'
    → eqb n (active_word begun.number) ≡ false → IsOvertaken m
lost_aborting n slots word_at new begun border m m' told lost =
    (told.1 (λ hit. let e : true ≡ false = sym (eq-eqb n (active_word begun.number) hit) ∙ lost in absurd cc)).1
