-- A pass ends its own range, for which it marked something: it decides it, or gives it up; or it finds that another one had decided it.
use Rattle.std.proofs.Common.{◌≡◌, ◌≢◌, ◌⊎◌, ℕ, ◌+◌, ◌<◌, ◌≤◌, true, List, length, map, set, sym, refl, ap, ◌∙◌, subst, inl, inr, ⊎_elim, arith}
use mathlib.Core.Option.{some}
use lib.ListN.{get_elem?}
use Rattle.atomic_table.specs.Table.{State}
use Rattle.atomic_table.proofs.Lists.{at_map}
use Rattle.ca_model.specs.History.{History}
use Rattle.ca_rows.specs.Rule.{upper_of}
use Rattle.ca_rows.specs.Told.{relinked}
use Rattle.ca_rows.specs.Words.{own_word, result_of}
use Rattle.ca_rows.specs.declared.sizes.Sizes.{Sizes}
use Rattle.ca_rows.specs.declared.view.View.{View}
use Rattle.ca_runs.specs.Runs.{range_of}
use Rattle.ca_runs.proofs.Keeping.{of_run}
use Rattle.ca_node.specs.LoneStays.{none_kept, none_by_marking, none_by_quiet, quiet_active}
use Rattle.ca_node.specs.Endings.{active_word, over_up_to, without}
use Rattle.ca_node.specs.Laws.{noted_more}
use Rattle.ca_node.specs.Links.{IsIn, IsActive, HasBegun, IsLinked, IsOfOwnRun, IsNoted}
use Rattle.ca_node.specs.OwnRanges.{ended_with_run}
use Rattle.ca_node.specs.Ranging.{IsOver, IsSomeMarked, GoesOn, WasDecided, IsSoFar, IsRanging}
use Rattle.ca_node.specs.RangesStay.{active_undecided}
use Rattle.ca_node.specs.Row.{row_at, IsBaseRow, items, mark_bound}
use Rattle.ca_node.specs.Scenes.{IsBase, scene_of}
use Rattle.ca_node.specs.Shape.{Role}
use Rattle.ca_node.specs.Told.{MyTree}
use Rattle.ca_node.specs.Tree.{StartsWith, ArePast, IsTrue, Knows, IsTree}
use Rattle.ca_node.specs.TreeView.{Note, Border, Begun, Quiet, Marking, TreeView}
use Rattle.ca_node.proofs.Deciding.{ends_step}
use Rattle.ca_node.proofs.Ended.{IsEnd, not_active, began, shape', over_then, true_then, sequence_then, ranging_then}
use Rattle.ca_node.proofs.Helping.{over_behind}
use Rattle.ca_node.proofs.Looking.{R, knows_upper, in_more}
use Rattle.ca_node.proofs.OwnWord.{border_stays, run_before, base_linked, noted_before, knows_then}

module _ (z : Sizes) (s : State (Unit {0}) (View TreeView)) (r : R z s) (id : ℕ) (me : MyTree) (at : get_elem? s.views id ≡ some me.0)
    (is_pinned : me.0.pin.pinned ≡ true) (is_pass : 0 < me.0.upper.number) (begun : Begun) (border : Border)
    (own : me.0.upper.ranges.own ≡ Marking begun border) where
  abbrev f : IsTree z r.made s.words (map upper_of s.views)
  f = r.above

  abbrev role : ℕ → Role
  role = r.above.role

  abbrev pass : ℕ
  pass = me.0.upper.number

  first : get_elem? (map upper_of s.views) id ≡ some me.0.upper
  first = at_map upper_of s.views id me.0 at

  abbrev known : IsRanging z s.words r.above.role (r.above.ranged.ends me.0.upper.number) me.0.upper.since r.above.history me.0.upper.number me.0.upper.ranges
  known = f.ranged.each id me.0.upper first

  pub so : IsIn border me.0.upper.ranges.borders × (border.row ≡ begun.top)
      × ((GoesOn s.words (r.above.ranged.ends me.0.upper.number) me.0.upper.number begun × IsSomeMarked s.words r.above.role me.0.upper.number begun.number)
      ⊎ WasDecided z s.words r.above.role me.0.upper.since r.above.history me.0.upper.number begun border.its)
  so = subst (IsSoFar z s.words r.above.role (r.above.ranged.ends me.0.upper.number) me.0.upper.since r.above.history me.0.upper.number
      me.0.upper.ranges.borders) own (known.own is_pass)

  pub few : me.0.upper.number ≤ 64
  few = ⊎_elim (λ on. on.0.0.1) (λ was. was.decided.1) so.2

  pub had_begun : HasBegun s.words me.0.upper.number begun.number
  had_begun = (is_pass, few, ⊎_elim (λ on. let here = on.0.0.2 in omega arith) (λ was. let here = was.decided.4 in let l = was.decided.3 in omega arith) so.2)

  -- While its word is that of an active range the range goes on; else another one has decided it.
  pub goes : result_of s.words me.0.upper.number ≡ active_word begun.number
      → GoesOn s.words (r.above.ranged.ends me.0.upper.number) me.0.upper.number begun × IsSomeMarked s.words r.above.role me.0.upper.number begun.number
  goes hit = ⊎_elim (λ on. on)
      (λ was. absurd (active_undecided s.words pass begun.number begun.number was.last (is_pass, few, hit) was.decided)) so.2

  pub decided_else : result_of s.words me.0.upper.number ≢ active_word begun.number
      → WasDecided z s.words r.above.role me.0.upper.since r.above.history me.0.upper.number begun border.its
  decided_else miss = ⊎_elim (λ on. absurd (miss on.0.0.2)) (λ was. was) so.2

  -- It is over then.
  pub over_else : result_of s.words me.0.upper.number ≢ active_word begun.number → IsOver s.words (over_up_to me.0.upper.number begun.number)
  over_else miss = over_behind s.words pass begun.number had_begun (λ now. miss now.2)

  pub quiet_else : result_of s.words me.0.upper.number ≢ active_word begun.number → (n : ℕ) → ¬ IsActive s.words me.0.upper.number n
  quiet_else miss n now = let was = decided_else miss in active_undecided s.words pass n begun.number was.last now was.decided

  other_number : (j : ℕ) (y : View TreeView) → j ≢ id → get_elem? s.views j ≡ some y → y.upper.number ≢ me.0.upper.number
  other_number j y ne here same = ne ((knows_upper z s r id me.0 at).alone is_pass j y.upper (at_map upper_of s.views j y here) same)

  -- The exchange by which it ends it, behind which the seat has seen this history, and was shown this run.
  module _ (word' : ℕ) (end : IsEnd z s r me.0.upper.number begun.number word')
      (seen' : History) (seen_first' : StartsWith r.above.history seen') (since_first' : StartsWith seen' me.0.upper.since)
      (past' : ArePast (length seen') me.0.upper.log) (run' : List Note)
      (run_true : (note : Note) → IsIn note run' → IsTrue z.rows (set s.words (own_word s.words me.0.upper.number + 1) word') r.above.role note)
      (run_linked : (note : Note) → IsIn note run' → IsIn note me.0.upper.ranges.run
      ⊎ (IsLinked (set s.words (own_word s.words me.0.upper.number + 1) word') note.row
      × (IsBaseRow note.its → (row : ℕ) → IsIn row (items note.its) → IsLinked (set s.words (own_word s.words me.0.upper.number + 1) word') row)))
      (own_run : (row : ℕ) → IsOfOwnRun (set s.words (own_word s.words me.0.upper.number + 1) word') me.0.upper row
      → IsOfOwnRun s.words me.0.upper row ⊎ IsBase r.above.role row) where
    abbrev words' : List ℕ
    words' = set s.words (own_word s.words me.0.upper.number + 1) word'

    abbrev u' : TreeView
    u' = record me.0.upper {
      seen = seen';
      ranges = ended_with_run me.0.upper.number begun.number run' me.0.upper.ranges;
      inventory = without border.row me.0.upper.inventory;
    }

    -- The row that says up to where the range goes is the one that the seat remembers.
    top_is : border.row ≡ mark_bound (row_at s.words end.base)
    top_is = let on = goes end.hit in so.1 ∙ (sym on.0.2
        ∙ sym (of_run (scene_of s.words role) (range_of f.ranged.ends pass begun.number) (f.ranged.runs.run pass) end.base
        (f.ranged.runs.each pass begun.number (is_pass, few, end.hit))
        (f.ranged.runs.whole pass begun.number end.base (is_pass, few, end.hit) end.base_is end.marked)).ends)

    own_knows : Knows z r.made words' r.above.role (set (map upper_of s.views) id u') r.above.history id u'
    own_knows = let w = knows_then z s r pass word' is_pass few id me.0 at
        (true_then z s r pass begun.number word' end) id me.0 at u' (λ _. refl) in record {
          made_before = w.made_before;
          alone = w.alone;
          seen_first = seen_first';
          since_first = since_first';
          lawful = w.lawful;
          past = past';
          notes = w.notes;
          links = w.links;
          ways = w.ways;
          way_links = w.way_links;
          one_place = w.one_place;
          joining = w.joining;
          ended = w.ended;
        }

    own_ranging : IsRanging z words' r.above.role (r.above.ranged.ends u'.number) u'.since r.above.history u'.number u'.ranges
    own_ranging = record {
      over = λ x i. ⊎_elim
          (λ (e : over_up_to pass begun.number ≡ x). subst (IsOver words') e (over_behind words' pass begun.number
          (began z s r pass begun.number word' end pass begun.number had_begun)
          (not_active z s r pass begun.number word' end begun.number)))
          (λ o. over_then z s r pass begun.number word' end x (known.over x o))
          (in_more (over_up_to pass begun.number) x me.0.upper.ranges.over i);
      borders = λ b i. border_stays z s r pass word' is_pass few b (known.borders b i);
      own = λ _ n. not_active z s r pass begun.number word' end n;
      sequence = λ n lo is. sequence_then z s r pass begun.number word' end pass n lo (known.sequence n lo is);
      run = run_true;
    }

    no_run : (row : ℕ) → ¬ IsOfOwnRun words' u' row
    no_run row o = let e : Quiet ≡ Marking o.2.0 o.2.1 = o.2.2 in absurd cc

    own_notes : (row : ℕ) → IsNoted words' u' row → IsNoted s.words me.0.upper row ⊎ IsLinked words' row
    own_notes row n = ⊎_elim
        (λ w. noted_before z s r pass word' is_pass few id me.0 at (IsLinked words')
        (λ c o. ⊎_elim (λ v. inl v) (λ b. inr (base_linked z s r pass word' is_pass few
        (shape' z s r pass begun.number word' end) c b)) (own_run c o)) row w)
        (λ l. inr l)
        (noted_more words' me.0.upper u' (IsLinked words') (λ x i. i) (λ x i. i) (λ x i. inl i) (λ c o. absurd (no_run c o)) run_linked row n)

    pub end_step : R z record {
      words = set s.words (own_word s.words me.0.upper.number + 1) word';
      homes = s.homes;
      views = set s.views id (relinked me me.0.claims (record me.0.upper {
        seen = seen';
        ranges = ended_with_run me.0.upper.number begun.number run' me.0.upper.ranges;
        inventory = without border.row me.0.upper.inventory;
      })).0;
    }
    end_step = ends_step z s r id me at pass begun.number word' end u' is_pinned is_pass
        (none_kept me.0.upper.ranges.own Quiet (none_by_marking me.0.upper.ranges.own begun border own) (none_by_quiet Quiet refl)) refl refl
        (ap (λ b. (without b me.0.upper.inventory, me.0.upper.splits, me.0.upper.renewal.count)) top_is) own_notes own_knows own_ranging (λ _. refl) refl
        (quiet_active s.words words' me.0.upper.number me.0.upper.ranges.own)
        (λ j y ne here row o. inl (run_before z s r pass word' is_pass few j y here (other_number j y ne here) row o))
        (λ j y ne here. ranging_then z s r pass begun.number word' end j y.upper
        (at_map upper_of s.views j y here) (other_number j y ne here))
