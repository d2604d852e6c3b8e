-- What a seat knows of ranges stays so, where the words of ranges are the same, and the rows that it remembers.
use Rattle.std.proofs.Common.{◌≡◌, ℕ, zero, suc, ◌<◌, ◌≤◌, ◌/◌, List, [], ◌∷◌, length, sym, refl, ap, ◌∙◌, subst, inl, inr, ⊎_elim, arith}
use mathlib.Core.Option.{some, some-injective, some-ne-none}
use lib.ListN.{get_elem?}
use Rattle.ca_model.specs.Edges.{Bound, within}
use Rattle.ca_model.specs.History.{History, state}
use Rattle.ca_model.specs.StoreMap.{StoreMap}
use Rattle.ca_rows.specs.Words.{result_of}
use Rattle.ca_rows.specs.declared.sizes.Sizes.{Sizes}
use Rattle.ca_runs.specs.Runs.{Ends}
use Rattle.ca_node.specs.Links.{IsIn, IsActive, HasBegun, IsDecided, IsOnChain, at_last, further, IsMarkingFor, IsOfOwnRun}
use Rattle.ca_node.specs.Ranging.{IsOver, IsTrueBorder, AreChained, objects_of, IsRunShown, GoesOn, IsSomeMarked, WasDecided, IsSoFar, IsRanging}
use Rattle.ca_node.specs.Row.{row_at, IsMarkedBy, mark_back}
use Rattle.ca_node.specs.Scenes.{IsBase}
use Rattle.ca_node.specs.Shape.{Role}
use Rattle.ca_node.specs.True.{IsTrue}
use Rattle.ca_node.specs.TreeView.{Note, Over, Border, Begun, Ranging, Quiet, Unmarked, Marking, Left, Joining, Secured, KnownRanges, TreeView}
use Rattle.ca_node.specs.Layout.{sequence_unit}

-- The notes of a chain are on rows of it.
pub chain_rows : (rows : ℕ) (words : List ℕ) (role : ℕ → Role) (last : ℕ) (notes : List Note)
    → ((note : Note) → IsIn note notes → IsTrue rows words role note) → AreChained last notes → (note : Note) → IsIn note notes
    → IsOnChain words last note.row
chain_rows rows words role last notes trues chained note i = by last notes trues chained (at_last last refl) i.0 i.1
  where
    by : (from : ℕ) (notes : List Note) → ((note : Note) → IsIn note notes → IsTrue rows words role note) → AreChained from notes
        → IsOnChain words last from → (k : ℕ) → get_elem? notes k ≡ some note → IsOnChain words last note.row
    by from [] trues c on k e = absurd (some-ne-none note (sym e))
    by from (x ∷ xs) trues c on zero e = subst (IsOnChain words last) (sym c.0 ∙ ap (λ (y : Note). y.row) (some-injective x note e)) on
    by from (x ∷ []) trues c on (suc k) e = absurd (some-ne-none note (sym e))
    by from (x ∷ y ∷ ys) trues c on (suc k) e = let back : mark_back (row_at words from) ≡ mark_back x.its =
        ap (λ r. mark_back (row_at words r)) (sym c.0) ∙ ap mark_back (trues x (0, refl)).spells in
        by (mark_back x.its) (y ∷ ys) (λ n m. trues n (suc m.0, m.1)) c.2 (further from (mark_back x.its) on back c.2.1) k e

-- Each base of a chain is followed by the one that was marked before it.
next_note : (last : ℕ) (notes : List Note) → AreChained last notes → (k : ℕ) (note : Note) → get_elem? notes k ≡ some note → 0 < mark_back note.its
    → (next : Note) × (get_elem? notes (suc k) ≡ some next) × (next.row ≡ mark_back note.its)
next_note last [] chained k note e lo = absurd (some-ne-none note (sym e))
next_note last (x ∷ []) chained zero note e lo = let same = some-injective x note e in
    let none : mark_back note.its ≡ 0 = ap (λ (y : Note). mark_back y.its) (sym same) ∙ chained.2 in absurd (omega arith)
next_note last (x ∷ y ∷ ys) chained zero note e lo = (y, refl, chained.2.0 ∙ ap (λ (n : Note). mark_back n.its) (some-injective x note e))
next_note last (x ∷ xs) chained (suc k) note e lo = next_note (mark_back x.its) xs chained.2 k note e lo

-- So each row of the chain has a note.
pub chain_note : (rows : ℕ) (words : List ℕ) (role : ℕ → Role) (last : ℕ) (notes : List Note)
    → ((note : Note) → IsIn note notes → IsTrue rows words role note) → AreChained last notes → 0 < last → (row : ℕ) → IsOnChain words last row
    → (note : Note) × IsIn note notes × (note.row ≡ row)
chain_note rows words role last [] trues chained lo row (at_last _ e) = absurd (omega arith)
chain_note rows words role last (x ∷ xs) trues chained lo row (at_last _ e) = (x, (0, refl), chained.0 ∙ e)
chain_note rows words role last notes trues chained lo row (further base _ on e more) =
    let was = chain_note rows words role last notes trues chained lo base on in
    let back : mark_back was.0.its ≡ row = ap mark_back (sym (trues was.0 was.1).spells) ∙ (ap (λ r. mark_back (row_at words r)) was.2 ∙ e) in
    let next = next_note last notes chained was.1.0 was.0 was.1.1 (subst (λ n. 0 < n) (sym back) more) in
    (next.0, (suc was.1.0, next.1), next.2 ∙ back)

-- A range that is active wasn't decided.
pub active_undecided : (words : List ℕ) (pass a b last : ℕ) → IsActive words pass a → ¬ IsDecided words pass b last
active_undecided words pass a b last now d = let here = now.2 in let there = d.4 in let low = d.3 in omega arith

-- A pass's range is decided with one base.
pub decided_once : (words : List ℕ) (pass a b x y : ℕ) → IsDecided words pass a x → IsDecided words pass b y → x ≡ y
decided_once words pass a b x y d e = let here = d.4 in let there = e.4 in let low = d.3 in let low' = e.3 in omega arith

-- A row of the run of a seat's own range has a note that is true.
pub own_note : (z : Sizes) (words : List ℕ) (role : ℕ → Role) (ends : Ends) (history : History) (u : TreeView)
    → IsRanging z words role ends u.since history u.number u.ranges → (row : ℕ) → IsOfOwnRun words u row
    → (note : Note) × IsTrue z.rows words role note × (note.row ≡ row)
own_note z words role ends history u known row o =
    let own = subst (IsSoFar z words role ends u.since history u.number u.ranges.borders) o.2.2 (known.own o.3.0) in ⊎_elim
    (λ (on : GoesOn words ends u.number o.2.0 × IsSomeMarked words role u.number o.2.0.number).
    absurd (active_undecided words u.number o.2.0.number o.0 o.1 on.0.0 o.3))
    (λ (was : WasDecided z words role u.since history u.number o.2.0 o.2.1.its).
    let same : was.last ≡ o.1 = decided_once words u.number o.2.0.number o.0 was.last o.1 was.decided o.3 in
    let on : IsOnChain words was.last row = subst (λ n. IsOnChain words n row) (sym same) o.4 in
    let note = chain_note z.rows words role was.last was.notes was.trues was.run.chained was.decided.2 row on in
    (note.0, was.trues note.0 note.1, note.2))
    own.2

-- The run of a seat's own range is the one that it was, where its word is the same, and the rows of the run have the words that they had.
pub own_run_back : (words others : List ℕ) (u : TreeView)
    → ((number last : ℕ) → IsDecided others u.number number last → IsDecided words u.number number last)
    → ((row : ℕ) → IsOfOwnRun words u row → row_at others row ≡ row_at words row) → (row : ℕ) → IsOfOwnRun others u row → IsOfOwnRun words u row
own_run_back words others u decided same row o = (o.0, o.1, o.2, decided o.0 o.1 o.3, by row o.4)
  where
    by : (c : ℕ) → IsOnChain others o.1 c → IsOnChain words o.1 c
    by c (at_last _ e) = at_last c e
    by c (further base _ on e lo) = let was = by base on in
        further base c was (ap mark_back (sym (same base (o.0, o.1, o.2, decided o.0 o.1 o.3, was))) ∙ e) lo

-- Two tables whose words of ranges are the same.
module _ (z : Sizes) (words others : List ℕ) (role role' : ℕ → Role)
    (results : (pass : ℕ) → 0 < pass → pass ≤ 64 → result_of others pass ≡ result_of words pass) where
  -- The same ranges are active,
  pub active_back : (pass number : ℕ) → IsActive others pass number → IsActive words pass number
  active_back pass number x = (x.0, x.1, sym (results pass x.0 x.1) ∙ x.2)

  pub active_on : (pass number : ℕ) → IsActive words pass number → IsActive others pass number
  active_on pass number x = (x.0, x.1, results pass x.0 x.1 ∙ x.2)

  -- the same were begun,
  pub begun_on : (pass number : ℕ) → HasBegun words pass number → HasBegun others pass number
  begun_on pass number b = (b.0, b.1, subst (λ n. number ≤ n / sequence_unit) (sym (results pass b.0 b.1)) b.2)

  -- and the same were decided.
  pub decided_back : (pass number last : ℕ) → IsDecided others pass number last → IsDecided words pass number last
  decided_back pass number last d = (d.0, d.1, d.2, d.3, sym (results pass d.0 d.1) ∙ d.4)

  decided_on : (pass number last : ℕ) → IsDecided words pass number last → IsDecided others pass number last
  decided_on pass number last d = (d.0, d.1, d.2, d.3, results pass d.0 d.1 ∙ d.4)

  -- A range that is over stays over.
  pub over_on : (x : Over) → IsOver words x → IsOver others x
  over_on x o number less = let was = o number less in (begun_on x.pass number was.0, λ now. was.1 (active_back x.pass number now))

  pub border_on : (border : Border) → row_at others border.row ≡ row_at words border.row → IsTrueBorder z.rows words border → IsTrueBorder z.rows others border
  border_on border same t = record { some_row = t.some_row; in_range = t.in_range; spells = same ∙ t.spells; is_border = t.is_border }

  -- A seat with this history as it was pinned, and this number, that knows this.
  module _ (ends : Ends) (since history history' : History) (pass : ℕ) (ranges : KnownRanges)
      (same : (border : Border) → IsIn border ranges.borders → row_at others border.row ≡ row_at words border.row)
      (unmarked : (number : ℕ) → IsActive words pass number → ((row : ℕ) → IsBase role row → ¬ IsMarkedBy (row_at words row) pass number)
      → (row : ℕ) → IsBase role' row → ¬ IsMarkedBy (row_at others row) pass number)
      (notes : (number last : ℕ) (note : Note) → IsMarkingFor ranges.own number → IsDecided words pass number last → IsOnChain words last note.row
      → IsTrue z.rows words role note → IsTrue z.rows others role' note)
      (longer : (at : ℕ) → at ≤ length history → (at ≤ length history') × (state history' at ≡ state history at))
      (stays_marked : (number : ℕ) → IsActive words pass number → IsSomeMarked words role pass number → IsSomeMarked others role' pass number)
      (shown : (note : Note) → IsIn note ranges.run → IsTrue z.rows words role note → IsTrue z.rows others role' note) where
    -- A run that is shown stays shown.
    run_on : (edge : Bound) (last : ℕ) (notes : List Note) → IsRunShown since history edge last notes → IsRunShown since history' edge last notes
    run_on edge last notes run = let more = longer run.at run.seen in record {
      chained = run.chained;
      at = run.at;
      later = run.later;
      seen = more.0;
      low = run.low;
      high = run.high;
      before = run.before;
      ends = run.ends;
      shown = subst (λ (m : StoreMap). objects_of notes ≡ within run.low run.high m) (sym more.1) run.shown;
    }

    decided_still : (begun : Begun) (its : List ℕ) → IsMarkingFor ranges.own begun.number → WasDecided z words role since history pass begun its
        → WasDecided z others role' since history' pass begun its
    unfolding run_on
    decided_still begun its marking was = record {
      last = was.last;
      some_row = was.some_row;
      decided = decided_on pass begun.number was.last was.decided;
      notes = was.notes;
      bases = was.bases;
      trues = λ note i. notes begun.number was.last note marking was.decided
          (chain_rows z.rows words role was.last was.notes was.trues was.run.chained note i) (was.trues note i);
      run = run_on begun.edge was.last was.notes was.run;
      whole = was.whole;
    }

    goes_on : (begun : Begun) → GoesOn words ends pass begun → GoesOn others ends pass begun
    goes_on begun on = (active_on pass begun.number on.0, on.1, on.2)

    so_far : (own : Ranging) → ranges.own ≡ own → IsSoFar z words role ends since history pass ranges.borders own
        → IsSoFar z others role' ends since history' pass ranges.borders own
    so_far Quiet is quiet = λ number now. quiet number (active_back pass number now)
    so_far (Unmarked begun) is now = (goes_on begun now.0, unmarked begun.number now.0.0 now.1)
    so_far (Marking begun border) is now = (
      now.0,
      now.1,
      ⊎_elim
          (λ on. inl (goes_on begun on.0, stays_marked begun.number on.0.0 on.1))
          (λ was. inr (decided_still begun border.its (begun, border, is, refl) was)) now.2,
    )
    so_far Left is now = tt
    so_far (Joining x) is quiet = λ number now. quiet number (active_back pass number now)
    so_far (Secured x) is quiet = λ number now. quiet number (active_back pass number now)

    -- So does all that it knows of ranges.
    pub ranging_stays : IsRanging z words role ends since history pass ranges → IsRanging z others role' ends since history' pass ranges
    ranging_stays k = record {
      over = λ x i. over_on x (k.over x i);
      borders = λ border i. border_on border (same border i) (k.borders border i);
      own = λ lo. so_far ranges.own refl (k.own lo);
      sequence = λ number lo is. let s = k.sequence number lo is in (s.0, ap (λ n. n / sequence_unit) (results pass lo s.0) ∙ s.1);
      run = λ note i. shown note i (k.run note i);
    }
