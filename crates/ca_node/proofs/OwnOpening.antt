-- A pass begins a range, and gives one up for which it marked nothing.
use Rattle.std.proofs.Common.{◌≡◌, ℕ, ◌+◌, ◌*◌, ◌/◌, ◌≤◌, eqb, List, map, get_or, set, sym, refl, ap, ◌∙◌, subst, inl, inr, ⊎_elim, arith, eq-eqb, max}
use mathlib.Core.Option.{some, none, some-injective}
use lib.ListN.{get_elem?}
use prog.Atomic.{either}
use Rattle.atomic_table.specs.Table.{State, step, keeps, stepped, Allows}
use Rattle.atomic_table.proofs.Lists.{at_map}
use Rattle.ca_rows.specs.Calls.{Raises, Relinks}
use Rattle.ca_rows.specs.Claims.{held_count}
use Rattle.ca_rows.specs.Rule.{upper_of}
use Rattle.ca_rows.specs.Told.{relinked}
use Rattle.ca_rows.specs.Words.{own_word, result_of}
use Rattle.ca_rows.specs.declared.sizes.Sizes.{Sizes}
use Rattle.ca_rows.specs.declared.view.View.{View}
use Rattle.ca_runs.specs.Runs.{Ends}
use Rattle.ca_runs.proofs.Marking.{with_at, with_here, with_else}
use Rattle.ca_runs.proofs.Turning.{begins, ends_one}
use Rattle.ca_node.specs.LoneStays.{none_kept, none_by_unmarked, none_by_quiet, quiet_active, unmarked_active}
use Rattle.ca_node.specs.Endings.{active_word, over_up_to}
use Rattle.ca_node.specs.Laws.{noted_alike}
use Rattle.ca_node.specs.Layout.{sequence_unit}
use Rattle.ca_node.specs.Links.{IsActive, HasBegun, IsOfOwnRun}
use Rattle.ca_node.specs.May.{MaySwap, MayStore}
use Rattle.ca_node.specs.OwnRanges.{IsOpening, opened, Opens, given_up, IsLeaving, Leaves}
use Rattle.ca_node.specs.Ranging.{IsOver, HasSequence, GoesOn, IsSoFar, IsRanging}
use Rattle.ca_node.specs.Row.{row_at, IsMarkedBy}
use Rattle.ca_node.specs.Scenes.{IsBase, scene_of}
use Rattle.ca_node.specs.Shape.{Role}
use Rattle.ca_node.specs.Told.{MyTree, status_word}
use Rattle.ca_node.specs.Tree.{Knows, IsTree}
use Rattle.ca_node.specs.TreeView.{Begun, Quiet, Unmarked, Marking, TreeView}
use Rattle.ca_node.proofs.Helping.{over_behind}
use Rattle.ca_node.proofs.Looking.{R, in_more}
use Rattle.ca_node.proofs.OwnDeciding.{own_there}
use Rattle.ca_node.proofs.OwnWord.{result_here, base_stays, border_stays, noted_same, knows_then}
use Rattle.ca_node.proofs.Turned.{began, turns, true_then, over_then, turn_step}

module _ (z : Sizes) (s : State (Unit {0}) (View TreeView)) (r : R z s) (id : ℕ) (me : MyTree) (at : get_elem? s.views id ≡ some me.0) (begun : Begun) where
  abbrev f : IsTree z r.made s.words (map upper_of s.views)
  f = r.above

  abbrev role : ℕ → Role
  role = r.above.role

  abbrev pass : ℕ
  pass = me.0.upper.number

  first : get_elem? (map upper_of s.views) id ≡ some me.0.upper
  first = at_map upper_of s.views id me.0 at

  abbrev known : IsRanging z s.words r.above.role (r.above.ranged.ends me.0.upper.number) me.0.upper.since r.above.history me.0.upper.number me.0.upper.ranges
  known = f.ranged.each id me.0.upper first

  -- The range begins.
  module _ (k : IsOpening me begun) where
    sequence : HasSequence s.words me.0.upper.number k.last
    sequence = known.sequence k.last k.is_pass k.sequence

    quiet : (n : ℕ) → ¬ IsActive s.words me.0.upper.number n
    quiet = subst (IsSoFar z s.words role (f.ranged.ends pass) me.0.upper.since f.history pass me.0.upper.ranges.borders) k.quiet (known.own k.is_pass)

    abbrev word' : ℕ
    word' = active_word begun.number

    rises : result_of s.words me.0.upper.number / sequence_unit ≤ active_word begun.number / sequence_unit
    rises = let was = sequence.1 in let next = k.next in omega arith

    none_marked : (n : ℕ) → IsActive s.words me.0.upper.number n → (b : ℕ) → IsBase r.above.role b → ¬ IsMarkedBy (row_at s.words b) me.0.upper.number n
    none_marked n now b base m = quiet n now

    unbegun : ¬ HasBegun s.words me.0.upper.number begun.number
    unbegun b = let was = sequence.1 in let next = k.next in let before = b.2 in omega arith

    fresh : (n : ℕ) → active_word begun.number ≡ active_word n → ¬ HasBegun s.words me.0.upper.number n
    fresh n e = let same : n ≡ begun.number = omega arith in subst (λ q. ¬ HasBegun s.words pass q) (sym same) unbegun

    abbrev words' : List ℕ
    words' = set s.words (own_word s.words me.0.upper.number + 1) (active_word begun.number)

    abbrev its : Ends
    its = record { edge = begun.edge; top = begun.top }

    abbrev u' : TreeView
    u' = opened begun me.0.upper

    now_active : IsActive words' me.0.upper.number begun.number
    now_active = (k.is_pass, sequence.0, result_here z s r pass word' k.is_pass sequence.0)

    own_knows : Knows z r.made words' r.above.role (set (map upper_of s.views) id u') r.above.history id u'
    own_knows = let w = knows_then z s r pass word' k.is_pass sequence.0 id me.0 at
        (true_then z s r pass word' k.is_pass sequence.0 rises none_marked fresh) id me.0 at u' (λ _. refl) in record {
          made_before = w.made_before;
          alone = w.alone;
          seen_first = w.seen_first;
          since_first = w.since_first;
          lawful = w.lawful;
          past = w.past;
          notes = w.notes;
          links = w.links;
          ways = w.ways;
          way_links = w.way_links;
          one_place = w.one_place;
          joining = w.joining;
          ended = w.ended;
        }

    own_ranging : IsRanging z words' r.above.role (with_at r.above.ranged.ends me.0.upper.number its u'.number) u'.since r.above.history u'.number u'.ranges
    own_ranging = record {
      over = λ x i. over_then z s r pass word' k.is_pass sequence.0 rises none_marked fresh x (known.over x i);
      borders = λ b i. border_stays z s r pass word' k.is_pass sequence.0 b (known.borders b i);
      own = λ _. (
        (
          now_active,
          ap (λ (e : Ends). e.edge) (with_here r.above.ranged.ends pass its pass refl),
          ap (λ (e : Ends). e.top) (with_here r.above.ranged.ends pass its pass refl),
        ),
        λ row base m. unbegun (f.ranged.runs.begun pass begun.number row base
            (subst (λ words. IsMarkedBy words pass begun.number) (base_stays z s r pass word' k.is_pass sequence.0 row base.0 base.1) m)),
      );
      sequence = λ n _ is. (
        sequence.0,
        (let here = result_here z s r pass word' k.is_pass sequence.0 in
            let there : result_of words' pass / sequence_unit ≡ begun.number = omega arith in there ∙ some-injective begun.number n is),
      );
      run = λ note i. true_then z s r pass word' k.is_pass sequence.0 rises none_marked fresh note (known.run note i);
    }

    none_own : (row : ℕ) → ¬ IsOfOwnRun words' me.0.upper row
    none_own row o = let e : Quiet ≡ Marking o.2.0 o.2.1 = sym k.quiet ∙ o.2.2 in absurd cc

    pub open_step : R z record {
      words = set s.words (own_word s.words me.0.upper.number + 1) (active_word begun.number);
      homes = s.homes;
      views = set s.views id (record me.0 { upper = opened begun me.0.upper });
    }
    open_step = turn_step z s r pass word' k.is_pass sequence.0 rises none_marked fresh id me.0 at refl u' me.0.most (λ _. refl) refl
        (unmarked_active s.words words' me.0.upper.number me.0.upper.ranges.own begun) refl
        (none_kept me.0.upper.ranges.own (Unmarked begun) (none_by_quiet me.0.upper.ranges.own k.quiet) (none_by_unmarked (Unmarked begun) begun refl)) refl refl
        (with_at f.ranged.ends pass its) (λ p ne. with_else f.ranged.ends pass its p ne)
        (begins (scene_of s.words role) (scene_of words' role) f.ranged.ends pass f.ranged.runs
        (turns z s r pass word' k.is_pass sequence.0 rises none_marked fresh) begun.number its
        (λ n now. let here = sym (result_here z s r pass word' k.is_pass sequence.0) ∙ now.2 in omega arith) unbegun)
        (λ row n. noted_same z s r pass word' k.is_pass sequence.0 id me.0 at (λ c o. absurd (none_own c o)) row
        (noted_alike words' me.0.upper u' (λ x i. i) (λ x i. i) (λ x i. i)
        (λ c o. (let e : Unmarked begun ≡ Marking o.2.0 o.2.1 = o.2.2 in absurd cc)) (λ x i. i) row n))
        own_knows own_ranging

  -- It is given up, before anything was marked.
  module _ (k : IsLeaving me begun) where
    so : GoesOn s.words (r.above.ranged.ends me.0.upper.number) me.0.upper.number begun
        × ((row : ℕ) → IsBase r.above.role row → ¬ IsMarkedBy (row_at s.words row) me.0.upper.number begun.number)
    so = subst (IsSoFar z s.words role (f.ranged.ends pass) me.0.upper.since f.history pass me.0.upper.ranges.borders) k.own (known.own k.is_pass)

    pub hit : result_of s.words me.0.upper.number ≡ active_word begun.number
    hit = so.0.0.2

    most : me.0.upper.number ≤ 64
    most = so.0.0.1

    abbrev idle : ℕ
    idle = sequence_unit * begun.number

    falls_not : result_of s.words me.0.upper.number / sequence_unit ≤ sequence_unit * begun.number / sequence_unit
    falls_not = let here = hit in omega arith

    unmarked : (n : ℕ) → IsActive s.words me.0.upper.number n → (b : ℕ) → IsBase r.above.role b → ¬ IsMarkedBy (row_at s.words b) me.0.upper.number n
    unmarked n now b base m = let here = hit in let there = now.2 in let same : n ≡ begun.number = omega arith in so.1 b base (m.0, m.1, m.2 ∙ same)

    none_new : (n : ℕ) → sequence_unit * begun.number ≡ active_word n → ¬ HasBegun s.words me.0.upper.number n
    none_new n e = absurd (omega arith)

    abbrev left : List ℕ
    left = set s.words (own_word s.words me.0.upper.number + 1) (sequence_unit * begun.number)

    ended : (n : ℕ) → ¬ IsActive left me.0.upper.number n
    ended n now = let here = sym (result_here z s r pass idle k.is_pass most) ∙ now.2 in omega arith

    abbrev given : TreeView
    given = given_up begun.number me.0.upper

    had_begun : HasBegun s.words me.0.upper.number begun.number
    had_begun = (k.is_pass, most, (let here = hit in omega arith))

    left_knows : Knows z r.made left r.above.role (set (map upper_of s.views) id given) r.above.history id given
    left_knows = let w = knows_then z s r pass idle k.is_pass most id me.0 at
        (true_then z s r pass idle k.is_pass most falls_not unmarked none_new) id me.0 at given (λ _. refl) in record {
          made_before = w.made_before;
          alone = w.alone;
          seen_first = w.seen_first;
          since_first = w.since_first;
          lawful = w.lawful;
          past = w.past;
          notes = w.notes;
          links = w.links;
          ways = w.ways;
          way_links = w.way_links;
          one_place = w.one_place;
          joining = w.joining;
          ended = w.ended;
        }

    left_ranging : IsRanging z left r.above.role (r.above.ranged.ends given.number) given.since r.above.history given.number given.ranges
    left_ranging = record {
      over = λ x i. ⊎_elim
          (λ (e : over_up_to pass begun.number ≡ x). subst (IsOver left) e (over_behind left pass begun.number
          (began z s r pass idle k.is_pass most falls_not unmarked none_new pass begun.number had_begun) (ended begun.number)))
          (λ o. over_then z s r pass idle k.is_pass most falls_not unmarked none_new x (known.over x o))
          (in_more (over_up_to pass begun.number) x me.0.upper.ranges.over i);
      borders = λ b i. border_stays z s r pass idle k.is_pass most b (known.borders b i);
      own = λ _. ended;
      sequence = λ n lo is. let q = known.sequence n lo is in (
        most,
        (let here = result_here z s r pass idle k.is_pass most in let was = hit in let before = q.1 in omega arith),
      );
      run = λ note i. true_then z s r pass idle k.is_pass most falls_not unmarked none_new note (known.run note i);
    }

    pub leave_step : R z record {
      words = set s.words (own_word s.words me.0.upper.number + 1) (sequence_unit * begun.number);
      homes = s.homes;
      views = set s.views id (relinked me me.0.claims (given_up begun.number me.0.upper)).0;
    }
    leave_step = turn_step z s r pass idle k.is_pass most falls_not unmarked none_new id me.0 at refl given
        (max me.0.most (held_count me.0.claims)) (λ _. refl) refl (quiet_active s.words left me.0.upper.number me.0.upper.ranges.own) refl
        (none_kept me.0.upper.ranges.own Quiet (none_by_unmarked me.0.upper.ranges.own begun k.own) (none_by_quiet Quiet refl)) refl refl f.ranged.ends (λ p ne. refl)
        (ends_one (scene_of s.words role) (scene_of left role) f.ranged.ends pass f.ranged.runs
        (turns z s r pass idle k.is_pass most falls_not unmarked none_new) ended)
        (λ row n. noted_same z s r pass idle k.is_pass most id me.0 at
        (λ c o. (let e : Unmarked begun ≡ Marking o.2.0 o.2.1 = sym k.own ∙ o.2.2 in absurd cc)) row
        (noted_alike left me.0.upper given (λ x i. i) (λ x i. i) (λ x i. i)
        (λ c o. (let e : Quiet ≡ Marking o.2.0 o.2.1 = o.2.2 in absurd cc)) (λ x i. i) row n))
        left_knows left_ranging

module _ (z : Sizes) where
  -- The store by which a pass begins a range.
  pub opens : (slots id : ℕ) (me : MyTree) (begun : Begun) (word_at : ℕ) → word_at ≡ status_word z me.0.upper.number → IsOpening me begun
      → Allows (R z) slots id me word_at (λ _. active_word begun.number)
      (λ _. Raises MayStore (Opens begun) (step slots word_at (active_word begun.number) 0 none) me (active_word begun.number))
  opens slots id me begun word_at here k s r _ at _ = let d' : View TreeView = record me.0 { upper = opened begun me.0.upper } in
      let there = own_there z s.words me.0.upper.number word_at r.above.shape.wide k.is_pass here in
      let told : Opens begun (step slots word_at (active_word begun.number) 0 none) me (active_word begun.number) (d', me.1) = (k, refl) in (
        d',
        keeps,
        tt,
        subst (λ (i : ℕ). R z record { words = set s.words i (active_word begun.number); homes = s.homes; views = set s.views id d' }) there
            (open_step z s r id me at begun k),
        (refl, (begun, told), told),
      )

  -- The exchange by which it gives up one for which it marked nothing: it is won, since nobody else can end that range.
  pub leaves : (slots id : ℕ) (me : MyTree) (begun : Begun) (word_at : ℕ) → word_at ≡ status_word z me.0.upper.number → IsLeaving me begun
      → Allows (R z) slots id me word_at
      (λ n. either (eqb n (active_word begun.number)) (sequence_unit * begun.number) n)
      (Relinks MaySwap (Leaves begun) (step slots word_at (active_word begun.number) (sequence_unit * begun.number) none) me)
  leaves slots id me begun word_at here k s r _ at _ = let n : ℕ = get_or s.words word_at 0 in
      let there = own_there z s.words me.0.upper.number word_at r.above.shape.wide k.is_pass here in
      let same : result_of s.words me.0.upper.number ≡ n = ap (λ (i : ℕ). get_or s.words i 0) there in
      let won : n ≡ active_word begun.number = sym same ∙ hit z s r id me at begun k in
      let d' : View TreeView = (relinked me me.0.claims (given_up begun.number me.0.upper)).0 in
      let told : Leaves begun (step slots word_at (active_word begun.number) (sequence_unit * begun.number) none) me n (d', me.1) = (k, won, refl) in (
        d',
        keeps,
        tt,
        subst (λ (y : ℕ). R z (stepped s word_at y id me.1 d' keeps))
            (sym (ap (λ b. either b (sequence_unit * begun.number) n) (eq-eqb n (active_word begun.number) won)))
            (subst (λ (i : ℕ). R z record { words = set s.words i (sequence_unit * begun.number); homes = s.homes; views = set s.views id d' }) there
            (leave_step z s r id me at begun k)),
        ((λ _. refl), (λ miss. absurd (miss won)), inr (inr (inr (inr (inl (inr (inr (begun, told))))))), told),
      )
