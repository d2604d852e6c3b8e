-- Loads of the word that says how far a pass's range is.
use Rattle.std.proofs.Common.{◌≡◌, ◌≢◌, ◌⊎◌, ℕ, ◌+◌, ◌/◌, ◌%◌, ◌<◌, ◌≤◌, Bool, true, cond, eqb, suc, List, [], ◌∷◌, ◌++◌, length, map, get_or, sym, refl, ap, ◌∙◌, subst, inl, inr, ⊎_elim, arith, eq-eqb, ne_eqb}
use mathlib.Core.Logic.{dite}
use native.Mathlib.Decide.{ℕ_discrete}
use mathlib.Core.Option.{none}
use Rattle.ca_model.specs.History.{History, after}
use Rattle.ca_model.specs.StoreMap.{StoreMap}
use Rattle.atomic_table.specs.Table.{step, keeps, Allows}
use Rattle.atomic_table.proofs.Lists.{at_map}
use Rattle.ca_rows.specs.Calls.{Raises}
use Rattle.ca_rows.specs.Layout.{row_limit, row_words}
use Rattle.ca_rows.specs.Rule.{upper_of}
use Rattle.ca_rows.specs.Words.{result_of}
use Rattle.ca_rows.specs.declared.sizes.Sizes.{Sizes}
use Rattle.std.proofs.lemmas.Bool.{cases_lt}
use Rattle.ca_runs.specs.Runs.{Ends}
use Rattle.ca_node.specs.Laws.{in_nothing, noted_more}
use Rattle.ca_node.specs.Layout.{sequence_unit}
use Rattle.ca_node.specs.Links.{IsIn, IsActive, HasBegun, IsBoundOf, IsLinked, by_range}
use Rattle.ca_node.specs.Ranging.{IsOver, IsTrueBorder, IsSoFar}
use Rattle.ca_node.specs.Reached.{base_at, end_lent}
use Rattle.ca_node.specs.Row.{row_at, IsBorderRow, mark, mark_owner, mark_number, mark_bound, IsMarkedBy}
use Rattle.ca_node.specs.Shape.{Role, IsShape}
use Rattle.ca_node.specs.Stays.{row_long}
use Rattle.ca_node.specs.Tree.{IsTrue}
use Rattle.ca_node.specs.May.{MayLoad}
use Rattle.ca_node.specs.Told.{MyTree, with_upper, over_by, watched, HasWatched, Watches, status_word}
use Rattle.ca_node.specs.TreeView.{Note, Border, Ranging, Quiet, Unmarked, Marking, Left, Joining, Secured, TreeView}
use Rattle.ca_node.proofs.Listing.{in_either, in_back}
use Rattle.ca_node.proofs.Looking.{R, knows_upper, knows_ranges, in_more}

-- The ranges are over that are so by the word: the last one is active where the word is this number.
over_now : (words : List ℕ) (pass : ℕ) → 0 < pass → pass ≤ 64 → IsOver words (over_by pass (result_of words pass))
over_now words pass lo hi number less = by (result_of words pass) refl less
  where
    by : (n : ℕ) → result_of words pass ≡ n
        → number < cond (eqb (n % sequence_unit) row_limit) (n / sequence_unit) (n / sequence_unit + 1)
        → HasBegun words pass number × ¬ IsActive words pass number
    by n is l = dite (ℕ_discrete (n % sequence_unit) row_limit)
        (λ (e : n % sequence_unit ≡ row_limit).
        let l' : number < n / sequence_unit = subst
        (λ (b : Bool). number < cond b (n / sequence_unit) (n / sequence_unit + 1)) (eq-eqb (n % sequence_unit) row_limit e) l in (
          (lo, hi, omega arith),
          λ now. let here = now.2 in omega arith,
        ))
        (λ (ne : n % sequence_unit ≢ row_limit).
        let l' : number < n / sequence_unit + 1 = subst
        (λ (b : Bool). number < cond b (n / sequence_unit) (n / sequence_unit + 1)) (ne_eqb (n % sequence_unit) row_limit ne) l in (
          (lo, hi, omega arith),
          λ now. let here = now.2 in ne (omega arith),
        ))

-- A base has the mark of this range, or it has not.
marked_or_not : (its : List ℕ) (pass number : ℕ) → IsMarkedBy its pass number ⊎ ¬ IsMarkedBy its pass number
marked_or_not its pass number = dite (ℕ_discrete (mark its) 1)
    (λ one. dite (ℕ_discrete (mark_owner its) pass)
    (λ mine. dite (ℕ_discrete (mark_number its) number) (λ this. inl (one, mine, this)) (λ ne. inr (λ m. ne m.2)))
    (λ ne. inr (λ m. ne m.1)))
    (λ ne. inr (λ m. ne m.0))

module _ (z : Sizes) where
  -- The row says up to where a range goes, and is linked.
  abbrev IsLinkedEnd : List ℕ → (ℕ → Role) → Border → Type 0
  IsLinkedEnd words role border = IsTrueBorder z.rows words border × IsLinked words border.row

  abbrev IsEndOf : Note → Border → Type 0
  IsEndOf note border = (border.row ≡ mark_bound note.its) × (border.row ≤ z.rows) × IsBorderRow border.its × (length border.its ≡ row_words)

  -- A base that was shown and that an active range marked names one.
  shown_end : (words : List ℕ) (role : ℕ → Role) (map : StoreMap) → IsShape z words role map → (pass number : ℕ) → IsActive words pass number → (note : Note)
      → IsTrue z.rows words role note → IsMarkedBy note.its pass number → (border : Border) × IsLinkedEnd words role border × IsEndOf note border
  shown_end words role map shape pass number now note t m = let is = (t.marks pass number m).1 now in
      let bound : IsBoundOf words note.row (mark_bound note.its) = subst (λ its. (mark its ≡ 1) × IsActive words (mark_owner its) (mark_number its)
      × (mark_bound its ≡ mark_bound note.its)) (sym t.spells)
      (m.0, subst (λ (x : ℕ × ℕ). IsActive words x.0 x.1) (λ i. (sym m.1 i, sym m.2 i)) now, refl) in
      let b = (base_at z words role map shape note.row note.place is).bounded (mark_bound note.its) bound in
      let l = end_lent z words role map shape (mark_bound note.its) (note.row, note.place, is, bound) in (
        record { row = mark_bound note.its; its = row_at words (mark_bound note.its) },
        (
          record { some_row = b.some_row; in_range = b.in_range; spells = refl; is_border = b.is_border },
          by_range l.0 (mark_bound note.its) l.1 l.2 l.3,
        ),
        (refl, b.in_range, b.is_border, row_long words z.rows (mark_bound note.its) shape.wide b.in_range),
      )

  -- So do all of them.
  shown_ends : (words : List ℕ) (role : ℕ → Role) (map : StoreMap) → IsShape z words role map → (pass number : ℕ) → IsActive words pass number
      → (notes : List Note) → ((note : Note) → IsIn note notes → IsTrue z.rows words role note)
      → (borders : List Border) × ((border : Border) → IsIn border borders → IsLinkedEnd words role border)
      × ((note : Note) → IsIn note notes → IsMarkedBy note.its pass number → (border : Border) × IsIn border borders × IsEndOf note border)
  shown_ends words role map shape pass number now [] trues = (
    [],
    (λ border i. absurd (in_nothing border [] refl i)),
    λ note i m. absurd (in_nothing note [] refl i),
  )
  shown_ends words role map shape pass number now (x ∷ xs) trues =
      let rest = shown_ends words role map shape pass number now xs (λ note i. trues note (suc i.0, i.1)) in ⊎_elim
      (λ (m : IsMarkedBy x.its pass number). let e = shown_end words role map shape pass number now x (trues x (0, refl)) m in (
        e.0 ∷ rest.0,
        (λ border i. ⊎_elim (λ (same : e.0 ≡ border). subst (IsLinkedEnd words role) same e.1) (λ o. rest.1 border o) (in_more e.0 border rest.0 i)),
        λ note i k. ⊎_elim (λ (same : x ≡ note). (e.0, (0, refl), subst (λ (y : Note). IsEndOf y e.0) same e.2))
            (λ o. let q = rest.2 note o k in (q.0, (suc q.1.0, q.1.1), q.2)) (in_more x note xs i),
      ))
      (λ none. (
        rest.0,
        rest.1,
        λ note i k. ⊎_elim (λ (same : x ≡ note). absurd (none (subst (λ (y : Note). IsMarkedBy y.its pass number) (sym same) k)))
            (λ o. rest.2 note o k) (in_more x note xs i),
      ))
      (marked_or_not x.its pass number)

  -- So it is, where the word says that a range is active.
  found_ends : (words : List ℕ) (role : ℕ → Role) (map : StoreMap) → IsShape z words role map → (pass word : ℕ) → 0 < pass → pass ≤ 64
      → result_of words pass ≡ word
      → (notes : List Note) → ((note : Note) → IsIn note notes → IsTrue z.rows words role note)
      → (borders : List Border) × ((border : Border) → IsIn border borders → IsLinkedEnd words role border)
      × ((note : Note) → IsIn note notes → word % sequence_unit ≡ row_limit → IsMarkedBy note.its pass (word / sequence_unit)
      → (border : Border) × IsIn border borders × IsEndOf note border)
  found_ends words role map shape pass word lo hi is notes trues = dite (ℕ_discrete (word % sequence_unit) row_limit)
      (λ e. let all = shown_ends words role map shape pass (word / sequence_unit) (lo, hi, is ∙ omega arith) notes trues in
      (all.0, all.1, λ note i _ m. all.2 note i m))
      (λ ne. ([], (λ border i. absurd (in_nothing border [] refl i)), λ note i e m. absurd (ne e)))

  -- The seat's own range is as far, where it remembers more rows that say up to where ranges go.
  borders_too : (words : List ℕ) (role : ℕ → Role) (ends : Ends) (since history : History) (pass : ℕ) (more borders : List Border) (own : Ranging)
      → IsSoFar z words role ends since history pass borders own → IsSoFar z words role ends since history pass (more ++ borders) own
  borders_too words role ends since history pass more borders Quiet k = k
  borders_too words role ends since history pass more borders (Unmarked begun) k = k
  borders_too words role ends since history pass more borders (Marking begun border) k = (in_back more borders border k.0, k.1, k.2)
  borders_too words role ends since history pass more borders Left k = tt
  borders_too words role ends since history pass more borders (Joining x) k = k
  borders_too words role ends since history pass more borders (Secured x) k = k

  -- The load of the word that says how far the last range of a pass is.
  pub watches : (slots id : ℕ) (me : MyTree) (pass word_at : ℕ) → me.0.sizes ≡ z → me.0.pin.pinned ≡ true → 0 < pass → pass ≤ 64
      → word_at ≡ status_word z pass
      → Allows (R z) slots id me word_at
      (λ x. x) (Raises MayLoad Watches (step slots word_at 0 0 none) me)
  watches slots id me pass word_at sized is_pinned lo hi here s r _ at _ = let f = r.above in let d = me.0 in
      let us : List TreeView = map upper_of s.views in
      let first = at_map upper_of s.views id d at in
      let word : ℕ = get_or s.words word_at 0 in
      let wide = f.shape.wide in
      let same : result_of s.words pass ≡ word = ap (λ (i : ℕ). get_or s.words i 0) (omega arith) in
      let known = f.ranged.each id d.upper first in
      let mine = knows_upper z s r id d at in
      let ends = found_ends s.words f.role (after f.history []) f.shape pass word lo hi same d.upper.notes mine.notes in
      let u' : TreeView = watched d.upper pass word ends.0 in
      let told : Watches (step slots word_at 0 0 none) me word (with_upper me u') = (
        pass,
        lo,
        here ∙ ap (λ y. status_word y pass) (sym sized),
        record {
          borders = ends.0;
          now = refl;
          begun = λ note i one whose. let b = (mine.notes note i).marks (mark_owner note.its) (mark_number note.its) (one, refl, refl) in
              let c : HasBegun s.words pass (mark_number note.its) = subst (λ (p : ℕ). HasBegun s.words p (mark_number note.its)) whose b.0 in
              subst (λ (n : ℕ). mark_number note.its ≤ n / sequence_unit) same c.2;
          ended = λ x i whose active. ⊎_elim
              (λ (l : word / sequence_unit < x.below). absurd ((known.over x i (word / sequence_unit) l).1
              (subst (λ (p : ℕ). IsActive s.words p (word / sequence_unit)) (sym whose) (lo, hi, same ∙ omega arith))))
              (λ l. l) (cases_lt (word / sequence_unit) x.below);
          shown = λ note i active m. let q = ends.2 note i active m in
              (q.0, q.1, q.2.0, subst (λ (y : Sizes). q.0.row ≤ y.rows) (sym sized) q.2.1, q.2.2, q.2.3);
          made = λ active. let most = f.ranged.made_before pass (word / sequence_unit) (lo, hi, same ∙ omega arith) in let within = r.within in
              subst (λ (y : Sizes). pass ≤ y.passes) (sym sized) (omega arith);
          own = λ active whose quiet. subst (λ (x : Ranging). IsSoFar z s.words f.role (f.ranged.ends d.upper.number) d.upper.since f.history
              d.upper.number d.upper.ranges.borders x) quiet (known.own (subst (λ (p : ℕ). 0 < p) whose lo)) (word / sequence_unit)
              (subst (λ (p : ℕ). IsActive s.words p (word / sequence_unit)) whose (lo, hi, same ∙ omega arith));
        },
      ) in (
        record d { upper = u' },
        keeps,
        tt,
        knows_ranges z s r word_at id d at u'.ranges u'.turns u'.tries mine.joining (λ row n. ⊎_elim (λ o. inl o) (λ l. inr (l, is_pinned))
            (noted_more s.words d.upper u' (IsLinked s.words) (λ x m. m) (λ x m. m)
            (λ border i. ⊎_elim (λ o. inr (ends.1 border o).1) (λ o. inl o) (in_either ends.0 d.upper.ranges.borders border i))
            (λ x m. m) (λ x m. inl m) row n)) (λ _ _ l. l) record {
              over = λ x i. ⊎_elim
                  (λ (e : over_by pass word ≡ x). subst (IsOver s.words) e
                  (subst (λ (n : ℕ). IsOver s.words (over_by pass n)) same (over_now s.words pass lo hi)))
                  (λ (o : IsIn x d.upper.ranges.over). known.over x o)
                  (in_more (over_by pass word) x d.upper.ranges.over i);
              borders = λ border i. ⊎_elim (λ o. (ends.1 border o).0) (λ o. known.borders border o) (in_either ends.0 d.upper.ranges.borders border i);
              own = λ some_pass. borders_too s.words f.role (f.ranged.ends d.upper.number) d.upper.since f.history d.upper.number ends.0 d.upper.ranges.borders
                  d.upper.ranges.own (known.own some_pass);
              sequence = known.sequence;
              run = known.run;
            },
        (refl, inr (inr (inr (inr (inl told)))), told),
      )

-- The word is that of this pass.
pub watched_owner : (z : Sizes) (m : MyTree) (pass word n slots : ℕ) (m' : MyTree) → m.0.sizes ≡ z → 0 < pass → word ≡ status_word z pass
    → Watches (step slots word 0 0 none) m n m' → HasWatched pass m n m'
watched_owner z m pass word n slots m' sized lo here t =
    let there : word ≡ status_word z t.0 = t.2 ∙ ap (λ y. status_word y t.0) sized in let low = t.1 in
    let same : t.0 ≡ pass = omega arith in subst (λ (p : ℕ). HasWatched p m n m') same t.3
