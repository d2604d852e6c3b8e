-- A pass helps another one's range to its end: it decides it with a base that has all keys up to where the range goes.
use Rattle.std.proofs.Common.{◌≡◌, ◌≢◌, ℕ, ◌+◌, ◌*◌, ◌/◌, ◌%◌, ◌<◌, ◌≤◌, Bool, eqb, List, length, map, get_or, set, sym, refl, ap, ◌∙◌, subst, inl, inr, ⊎_elim, arith, eq-eqb, ne_eqb}
use mathlib.Core.Logic.{dite}
use mathlib.Core.Option.{some, none}
use native.Mathlib.Decide.{ℕ_discrete}
use lib.ListN.{get_elem?}
use prog.Atomic.{either}
use Rattle.atomic_table.specs.Table.{State, step, keeps, stepped, Allows}
use Rattle.atomic_table.proofs.Lists.{at_map}
use Rattle.ca_model.specs.Edges.{Bound}
use Rattle.ca_rows.specs.Calls.{Relinks}
use Rattle.ca_rows.specs.Layout.{row_limit}
use Rattle.ca_rows.specs.Rule.{upper_of}
use Rattle.ca_rows.specs.Told.{relinked}
use Rattle.ca_rows.specs.Words.{own_word, result_of}
use Rattle.ca_rows.specs.declared.sizes.Sizes.{Sizes}
use Rattle.ca_rows.specs.declared.view.View.{View}
use Rattle.ca_rows.proofs.OwnWords.{own_is}
use Rattle.ca_runs.specs.Runs.{range_of}
use Rattle.ca_runs.proofs.Keeping.{of_run}
use Rattle.ca_node.specs.LoneStays.{same_kept, same_active}
use Rattle.ca_node.specs.Endings.{active_word, decided_word, IsHelping, over_up_to, without, helped, too_late, IsHelpStep, Helps, HasHelped}
use Rattle.ca_node.specs.Laws.{noted_alike}
use Rattle.ca_node.specs.Layout.{sequence_unit}
use Rattle.ca_node.specs.Links.{IsIn, IsActive, HasBegun, IsDecided, IsOnChain, IsOfOwnRun, IsNoted, by_border}
use Rattle.ca_node.specs.May.{MaySwap}
use Rattle.ca_node.specs.Ranging.{IsOver, IsRunShown, GoesOn, IsSomeMarked, IsSoFar, IsRanging, Reaches}
use Rattle.ca_node.specs.RangesStay.{active_undecided}
use Rattle.ca_node.specs.Row.{row_at, mark_bound, IsMarkedBy}
use Rattle.ca_node.specs.Scenes.{IsBase, span_of, scene_of}
use Rattle.ca_node.specs.Shape.{Role, Base}
use Rattle.ca_node.specs.Told.{MyTree, status_word}
use Rattle.ca_node.specs.Tree.{IsTrue, Knows, IsTree}
use Rattle.ca_node.specs.TreeView.{Note, Border, Ranging, Quiet, Unmarked, Marking, Left, Joining, Secured, TreeView}
use Rattle.ca_node.proofs.Copying.{one_active}
use Rattle.ca_node.proofs.Deciding.{ends_step}
use Rattle.ca_node.proofs.Ended.{IsEnd, not_active, began, over_then, true_then, sequence_then, ranging_then}
use Rattle.ca_node.proofs.Looking.{R, knows_upper, knows_ranges, starts_shorter, in_more}
use Rattle.ca_node.proofs.OwnWord.{else_then, result_here, border_stays, run_before, noted_same, knows_then}
use Rattle.ca_node.proofs.Runs.{run, run_trues, run_bases, run_shown, on_chain}

-- A range that was begun and isn't active is over, and so are those before.
pub over_behind : (words : List ℕ) (pass number : ℕ) → HasBegun words pass number → ¬ IsActive words pass number → IsOver words (over_up_to pass number)
over_behind words pass number begun ended n less = let b = begun.2 in (
  (begun.0, begun.1, omega arith),
  λ now. dite (ℕ_discrete n number)
      (λ (e : n ≡ number). ended (subst (λ k. IsActive words pass k) e now))
      (λ (ne : n ≢ number). let here = now.2 in ne (omega arith)),
)

module _ (z : Sizes) (s : State (Unit {0}) (View TreeView)) (r : R z s) (id : ℕ) (me : MyTree) (at : get_elem? s.views id ≡ some me.0)
    (pass number : ℕ) (last : Note) (border : Border) (k : IsHelping me pass number last border) where
  abbrev f : IsTree z r.made s.words (map upper_of s.views)
  f = r.above

  abbrev role : ℕ → Role
  role = r.above.role

  last_true : IsTrue z.rows s.words r.above.role last
  last_true = (knows_upper z s r id me.0 at).notes last k.ending.shown

  pub begun : HasBegun s.words pass number
  begun = (last_true.marks pass number k.ending.marked).0

  first : get_elem? (map upper_of s.views) id ≡ some me.0.upper
  first = at_map upper_of s.views id me.0 at

  -- While the range is active, its word is exchanged.
  module _ (hit : result_of s.words pass ≡ sequence_unit * number + row_limit) where
    now : IsActive s.words pass number
    now = (begun.0, begun.1, hit)

    stands : r.above.role last.row ≡ Base last.place
    stands = (last_true.marks pass number k.ending.marked).1 now

    base_is : IsBase r.above.role last.row
    base_is = (last.place, stands)

    marked : IsMarkedBy (row_at s.words last.row) pass number
    marked = subst (λ its. IsMarkedBy its pass number) (sym last_true.spells) k.ending.marked

    abbrev word' : ℕ
    word' = decided_word number last.row

    small : last.row < row_limit
    small = let a = last_true.in_range in let b = r.few in omega arith

    same_number : decided_word number last.row / sequence_unit ≡ number
    same_number = let l = small in omega arith

    is_over : decided_word number last.row % sequence_unit ≢ row_limit
    is_over e = let l = small in omega arith

    abbrev end : IsEnd z s r pass number (decided_word number last.row)
    end = record {
      lo = begun.0;
      hi = begun.1;
      hit = hit;
      same_number = same_number;
      is_over = is_over;
      base = last.row;
      base_is = base_is;
      marked = marked;
    }

    abbrev words' : List ℕ
    words' = set s.words (own_word s.words pass + 1) (decided_word number last.row)

    abbrev u' : TreeView
    u' = helped pass number (mark_bound last.its) me.0.upper

    border_same : mark_bound (row_at s.words last.row) ≡ mark_bound last.its
    border_same = ap mark_bound last_true.spells

    own_run_before : (row : ℕ) → IsOfOwnRun words' me.0.upper row → IsOfOwnRun s.words me.0.upper row
    own_run_before = run_before z s r pass word' begun.0 begun.1 id me.0 at
        (λ e. k.other (sym e))

    over_now : IsOver words' (over_up_to pass number)
    over_now = over_behind words' pass number
        (began z s r pass number word' end pass number begun)
        (not_active z s r pass number word' end number)

    -- The run, which its pass is shown from now on.
    abbrev the_run : List Note
    the_run = run z r.made s.words (map upper_of s.views) r.above pass number last.row now base_is marked

    run_true : (note : Note) → IsIn note the_run → IsTrue z.rows words' r.above.role note
    run_true note i = true_then z s r pass number word' end note
        (run_trues z r.made s.words (map upper_of s.views) r.above pass number last.row now base_is marked note i).0

    decided_now : IsDecided words' pass number last.row
    decided_now = (
      begun.0,
      begun.1,
      last_true.some_row,
      small,
      result_here z s r pass word' begun.0 begun.1,
    )

    -- Each row of the run is a base.
    run_base : (row : ℕ) → IsOnChain words' last.row row → IsBase r.above.role row
    run_base = on_chain z r.made s.words (map upper_of s.views) r.above pass number last.row now base_is marked words' run_true last_true.some_row

    -- The seat whose range it is goes on to know how far it is.
    module _ (j : ℕ) (y : View TreeView) (here : get_elem? s.views j ≡ some y) (mine : y.upper.number ≡ pass) where
      known : IsRanging z s.words r.above.role (r.above.ranged.ends y.upper.number) y.upper.since r.above.history y.upper.number y.upper.ranges
      known = f.ranged.each j y.upper (at_map upper_of s.views j y here)

      active_mine : (n : ℕ) → IsActive s.words y.upper.number n → n ≡ number
      active_mine n act = one_active s.words pass n number (subst (λ p. IsActive s.words p n) mine act) now

      now_mine : IsActive s.words y.upper.number number
      now_mine = subst (λ p. IsActive s.words p number) (sym mine) now

      top_is : (r.above.ranged.ends y.upper.number).top ≡ mark_bound last.its
      top_is = ap (λ p. (r.above.ranged.ends p).top) mine
          ∙ (sym (of_run (scene_of s.words role) (range_of f.ranged.ends pass number) (f.ranged.runs.run pass) last.row
          (f.ranged.runs.each pass number now) (f.ranged.runs.whole pass number last.row now base_is marked)).ends ∙ border_same)

      shorter : length y.upper.since ≤ length r.above.history
      shorter = let w = knows_upper z s r j y here in let a = starts_shorter r.above.history y.upper.seen w.seen_first in
          let b = starts_shorter y.upper.seen y.upper.since w.since_first in omega arith

      -- Its own row says the same as the one that the helper was shown.
      same_border : (b : Border) → IsIn b y.upper.ranges.borders → b.row ≡ mark_bound last.its → b.its ≡ border.its
      same_border b i e = sym (known.borders b i).spells ∙ (ap (row_at s.words) (e ∙ sym k.border_is)
          ∙ ((f.ranged.each id me.0.upper first).borders border k.border_shown).spells)

      so_far : (own : Ranging) → y.upper.ranges.own ≡ own
          → IsSoFar z s.words r.above.role (r.above.ranged.ends y.upper.number) y.upper.since r.above.history y.upper.number y.upper.ranges.borders own
          → IsSoFar z words' r.above.role (r.above.ranged.ends y.upper.number) y.upper.since r.above.history y.upper.number y.upper.ranges.borders own
      so_far Quiet is so = absurd (so number now_mine)
      so_far (Unmarked b) is so = absurd (so.1 last.row base_is (marked.0, marked.1 ∙ sym mine, marked.2 ∙ sym (active_mine b.number so.0.0)))
      so_far (Marking b c) is so = ⊎_elim
          (λ (goes : GoesOn s.words (r.above.ranged.ends y.upper.number) y.upper.number b × IsSomeMarked s.words r.above.role y.upper.number b.number).
          let on = goes.0 in
          let shown = run_shown z r.made s.words (map upper_of s.views) r.above pass number last.row now base_is marked y.upper.since shorter in
          let its = same_border c so.0 (so.1 ∙ (sym on.2 ∙ top_is)) in (
            so.0,
            so.1,
            inr record {
              last = last.row;
              some_row = last_true.some_row;
              decided = subst (λ (q : ℕ × ℕ). IsDecided words' q.0 q.1 last.row) (λ i. (sym mine i, sym (active_mine b.number on.0) i)) decided_now;
              notes = the_run;
              trues = run_true;
              bases = run_bases z r.made s.words (map upper_of s.views) r.above pass number last.row now base_is marked;
              run = subst (λ (e : Bound). IsRunShown y.upper.since r.above.history e last.row the_run)
                  (ap (λ p. (r.above.ranged.ends p).edge) (sym mine) ∙ on.1) shown.0;
              whole = whole_of c its (ap (λ p. (r.above.ranged.ends p).edge) (sym mine) ∙ on.1) shown.0 shown.1;
            },
          ))
          (λ was. absurd (active_undecided s.words y.upper.number number b.number was.last now_mine was.decided))
          so.2
        where
          whole_of : (c : Border) → c.its ≡ border.its → {a e : Bound} (same : a ≡ e)
              (shown : IsRunShown y.upper.since r.above.history a last.row the_run)
              → shown.high ≡ (span_of (r.above.role last.row)).high
              → Reaches c.its (subst (λ (b : Bound). IsRunShown y.upper.since r.above.history b last.row the_run) same shown).high
          whole_of c its same shown high = subst (λ (h : Bound). Reaches c.its h) (sym (high_of same shown ∙ (high ∙ ap (λ q. (span_of q).high) stands)))
              (subst (λ t. Reaches t last.place.span.high) (sym its) k.reaches)
            where
              high_of : {a e : Bound} (same : a ≡ e) (shown : IsRunShown y.upper.since r.above.history a last.row the_run)
                  → (subst (λ (b : Bound). IsRunShown y.upper.since r.above.history b last.row the_run) same shown).high ≡ shown.high
              high_of same shown = refl
      so_far Left is so = tt
      so_far (Joining x) is so = absurd (so number now_mine)
      so_far (Secured x) is so = absurd (so number now_mine)

      ranging_mine : IsRanging z words' r.above.role (r.above.ranged.ends y.upper.number) y.upper.since r.above.history y.upper.number y.upper.ranges
      ranging_mine = record {
        over = λ x i. over_then z s r pass number word' end x (known.over x i);
        borders = λ b i. border_stays z s r pass word' begun.0 begun.1 b (known.borders b i);
        own = λ some_pass. so_far y.upper.ranges.own refl (known.own some_pass);
        sequence = λ n some_pass is. sequence_then z s r pass number word' end y.upper.number n
            some_pass (known.sequence n some_pass is);
        run = λ note i. true_then z s r pass number word' end note (known.run note i);
      }

      run_mine : (row : ℕ) → IsOfOwnRun words' y.upper row → IsBase r.above.role row × ((d : ℕ) × IsNoted s.words y.upper d)
      run_mine row o = let decided = subst (λ p. IsDecided words' p o.0 o.1) mine o.3 in
          let here' = sym (result_here z s r pass word' begun.0 begun.1) ∙ decided.4 in
          let l = small in let l' = decided.3 in
          let same : o.1 ≡ last.row = omega arith in
          let so = subst (IsSoFar z s.words r.above.role (r.above.ranged.ends y.upper.number) y.upper.since r.above.history y.upper.number
          y.upper.ranges.borders) o.2.2 (known.own (subst (λ p. 0 < p) (sym mine) begun.0)) in (
            run_base row (subst (λ c. IsOnChain words' c row) same o.4),
            (o.2.1.row, by_border o.2.1 o.2.1.row so.0 refl),
          )

    own_knows : Knows z r.made words' r.above.role (set (map upper_of s.views) id u') r.above.history id u'
    own_knows = let w = knows_then z s r pass word' begun.0 begun.1 id me.0 at (true_then z s r pass number word' end) id me.0 at u' (λ _. refl) in record {
      made_before = w.made_before;
      alone = w.alone;
      seen_first = w.seen_first;
      since_first = w.since_first;
      lawful = w.lawful;
      past = w.past;
      notes = w.notes;
      links = w.links;
      ways = w.ways;
      way_links = w.way_links;
      one_place = w.one_place;
      joining = w.joining;
      ended = w.ended;
    }

    own_ranging_now : IsRanging z words' r.above.role (r.above.ranged.ends u'.number) u'.since r.above.history u'.number u'.ranges
    own_ranging_now = let w = ranging_then z s r pass number word' end id me.0.upper first
        (λ e. k.other (sym e)) in record {
          over = λ x i. ⊎_elim (λ (e : over_up_to pass number ≡ x). subst (IsOver words') e over_now)
              (λ o. w.over x o) (in_more (over_up_to pass number) x me.0.upper.ranges.over i);
          borders = w.borders;
          own = w.own;
          sequence = w.sequence;
          run = w.run;
        }

    pub help_step : R z record { words = words'; homes = s.homes; views = set s.views id (relinked me me.0.claims u').0 }
    help_step = ends_step z s r id me at pass number word' end u' k.ending.is_pinned
        k.ending.is_pass (same_kept me.0.upper.ranges.own) refl refl (ap (λ b. (without b me.0.upper.inventory, me.0.upper.splits, me.0.upper.renewal.count)) (sym border_same))
        (λ row n. inl (noted_same z s r pass word' begun.0 begun.1 id me.0 at own_run_before row
        (noted_alike words' me.0.upper u' (λ x i. i) (λ x i. i) (λ x i. i) (λ x i. i) (λ x i. i) row n)))
        own_knows own_ranging_now (λ _. refl) refl
        (same_active s.words words' me.0.upper.number me.0.upper.ranges.own
        (λ n now. else_then z s r pass word' begun.0 begun.1 me.0.upper.number n (λ e. k.other (sym e)) now))
        (λ j y ne here row o. dite (ℕ_discrete y.upper.number pass)
        (λ e. inr (run_mine j y here e row o))
        (λ other. inl (run_before z s r pass word' begun.0 begun.1 j y here other row o)))
        (λ j y ne here. dite (ℕ_discrete y.upper.number pass)
        (λ e. ranging_mine j y here e)
        (λ other. ranging_then z s r pass number word' end j y.upper
        (at_map upper_of s.views j y here) other))

  -- Where another one had ended it, the seat learns that.
  module _ (miss : result_of s.words pass ≢ sequence_unit * number + row_limit) (i : ℕ) where
    abbrev late : TreeView
    late = too_late pass number me.0.upper

    pub late_step : R z record { words = set s.words i (get_or s.words i 0); homes = s.homes; views = set s.views id (record me.0 { upper = late }) }
    late_step = let known = f.ranged.each id me.0.upper first in knows_ranges z s r i id me.0 at late.ranges late.turns late.tries
        (knows_upper z s r id me.0 at).joining
        (λ row n. inl (noted_alike s.words me.0.upper late (λ x m. m) (λ x m. m) (λ x m. m) (λ x m. m) (λ x m. m) row n)) (λ _ _ l. l) record {
          over = λ x m. ⊎_elim (λ (e : over_up_to pass number ≡ x). subst (IsOver s.words) e
              (over_behind s.words pass number begun (λ now. miss now.2)))
              (λ o. known.over x o) (in_more (over_up_to pass number) x me.0.upper.ranges.over m);
          borders = known.borders;
          own = known.own;
          sequence = known.sequence;
          run = known.run;
        }

module _ (z : Sizes) where
  -- The exchange of the word of another pass's range, which decides it.
  pub helps : (slots id : ℕ) (me : MyTree) (pass number : ℕ) (last : Note) (border : Border) (word_at : ℕ) → 0 < pass
      → word_at ≡ status_word z pass → me.0.sizes ≡ z → IsHelping me pass number last border
      → Allows (R z) slots id me word_at
      (λ n. either (eqb n (active_word number)) (decided_word number last.row) n)
      (Relinks MaySwap (Helps pass number (mark_bound last.its)) (step slots word_at (active_word number) (decided_word number last.row) none) me)
  helps slots id me pass number last border word_at lo here sized k s r _ at _ = let n : ℕ = get_or s.words word_at 0 in
      let tied : IsHelpStep pass number (step slots word_at (active_word number) (decided_word number last.row) none) me =
      (here ∙ ap (λ (y : Sizes). status_word y pass) (sym sized), refl, k.met) in
      let far = own_is z.rows pass s.words r.above.shape.wide lo in
      let there : own_word s.words pass + 1 ≡ word_at = omega arith in
      let same : result_of s.words pass ≡ n = ap (λ (i : ℕ). get_or s.words i 0) there in
      dite (ℕ_discrete n (active_word number))
      (λ (hit : n ≡ active_word number). let d' : View TreeView =
      (relinked me me.0.claims (helped pass number (mark_bound last.its) me.0.upper)).0 in
      let won : Helps pass number (mark_bound last.its) (step slots word_at (active_word number) (decided_word number last.row) none) me n (d', me.1) =
      ((λ _. refl), λ miss. absurd (miss hit)) in (
        d',
        keeps,
        tt,
        subst (λ (y : ℕ). R z (stepped s word_at y id me.1 d' keeps))
            (sym (ap (λ b. either b (decided_word number last.row) n) (eq-eqb n (active_word number) hit)))
            (subst (λ (i : ℕ). R z record { words = set s.words i (decided_word number last.row); homes = s.homes; views = set s.views id d' }) there
            (help_step z s r id me at pass number last border k (same ∙ hit))),
        ((λ _. refl), (λ miss. absurd (miss hit)), inr (inr (inr (inl (pass, number, mark_bound last.its, tied, won)))), won),
      ))
      (λ miss. let late' : View TreeView = record me.0 { upper = too_late pass number me.0.upper } in
      let missed : Helps pass number (mark_bound last.its) (step slots word_at (active_word number) (decided_word number last.row) none) me n (late', me.1) =
      ((λ hit. absurd (miss hit)), λ _. refl) in (
        late',
        keeps,
        tt,
        subst (λ (y : ℕ). R z (stepped s word_at y id me.1 late' keeps))
            (sym (ap (λ b. either b (decided_word number last.row) n) (ne_eqb n (active_word number) miss)))
            (late_step z s r id me at pass number last border k (λ e. miss (sym same ∙ e)) word_at),
        ((λ hit. absurd (miss hit)), (λ _. refl), inr (inr (inr (inl (pass, number, mark_bound last.its, tied, missed)))), missed),
      ))

-- The two ways that the exchange goes.
pub has_helped : (n slots word_at pass number border new : ℕ) (m m' : MyTree)
    → Helps pass number border (step slots word_at (active_word number) new none) m n m'
    → HasHelped (eqb n (active_word number)) pass number border m m'
has_helped n slots word_at pass number border new m m' told = dite (ℕ_discrete n (active_word number))
    (λ hit. subst (λ (b : Bool). HasHelped b pass number border m m') (sym (eq-eqb n (active_word number) hit)) (told.0 hit))
    (λ miss. subst (λ (b : Bool). HasHelped b pass number border m m') (sym (ne_eqb n (active_word number) miss)) (told.1 miss))
