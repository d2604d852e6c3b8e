-- What the word of a range tells of it, and a walk to the next base.
use Rattle.std.proofs.Common.{◌≡◌, ◌≢◌, ℕ, ◌+◌, ◌/◌, ◌%◌, ◌<◌, ◌≤◌, Bool, true, false, cond, eqb, List, ◌∷◌, Bor, Option, Some, None, sym, refl, ap, ◌∙◌, subst, inl, inr, arith, eq-eqb, ne_eqb}
use mathlib.Core.Logic.{dite}
use native.Mathlib.Decide.{ℕ_discrete}
use Rattle.ca_model.specs.Edges.{Bound, Excluded}
use Rattle.ca_base.specs.Putting.{first_note}
use Rattle.ca_node.specs.Layout.{sequence_unit}
use Rattle.ca_node.specs.Links.{IsIn}
use Rattle.ca_node.specs.Place.{HasKey}
use Rattle.ca_node.specs.Row.{mark_bound, route_key, IsMarkedBy}
use Rattle.ca_node.specs.Told.{MyTree, HasWatched, IsShownWord, but_of, over_by, unfinished_by, watched, active_of}
use Rattle.ca_node.specs.TreeView.{Note, Border, Unfinished, TreeView}
use Rattle.ca_node.specs.Walking.{IsAbove, IsHighRoute, IsWalked}
use Rattle.ca_node.specs.declared.cursor.Cursor.{Cursor}
use Rattle.ca_node.specs.declared.cursor.Spot.TheVariants as spot
use Rattle.ca_node.proofs.Listing.{in_front}
use Rattle.ca_rows.specs.Layout.{row_limit}
use Rattle.ca_rows.specs.declared.sizes.Sizes.{Sizes}
use Rattle.ca_range.specs.Ahead.{GoesBeyond, IsAtMarked, IsBefore, IsKnownOver}
use Rattle.ca_range.specs.Reaching.{IsBorderShown, IsKeyShown}
use Rattle.ca_range.specs.declared.account.Range.{Range}
use Rattle.ca_range.proofs.Basing.{base_word}

-- The number of a range that is active.
number_of : (b : Bool) (n number : ℕ) → cond b (Some n) None ≡ Some number → (b ≡ true) × (n ≡ number)
number_of true n number e = (refl, cc)
number_of false n number e = cc

pub is_active : (word number : ℕ) → active_of word ≡ Some number → (word % sequence_unit ≡ row_limit) × (word / sequence_unit ≡ number)
is_active word number e = dite (ℕ_discrete (word % sequence_unit) row_limit)
    (λ s. (s, (number_of (eqb (word % sequence_unit) row_limit) (word / sequence_unit) number e).1))
    (λ n. let no : false ≡ true = sym (ne_eqb (word % sequence_unit) row_limit n)
    ∙ (number_of (eqb (word % sequence_unit) row_limit) (word / sequence_unit) number e).0
    in cc)

-- A range that marked a base which was shown is over, where it isn't the one that is active.
pub over_now : (range : Range) (m m' : MyTree) (word : ℕ) (note : Note) → HasWatched range.owner m word m' → IsIn note m.0.upper.notes
    → IsMarkedBy note.its range.owner range.number → ¬ (active_of word ≡ Some range.number) → IsKnownOver m'.0.upper range
over_now range m m' word note h i mark off = subst (λ (x : MyTree). IsKnownOver x.0.upper range) (sym h.now)
    (over_by range.owner word, (0, refl), refl, below)
  where
    begun : range.number ≤ word / sequence_unit
    begun = subst (λ (n : ℕ). n ≤ word / sequence_unit) mark.2 (h.begun note i mark.0 mark.1)

    below : range.number < (over_by range.owner word).below
    below = dite (ℕ_discrete (word % sequence_unit) row_limit)
        (λ s. let b = eq-eqb (word % sequence_unit) row_limit s in
        let apart : range.number ≢ word / sequence_unit = λ e. off (ap (λ (c : Bool). cond c (Some (word / sequence_unit)) None) b ∙ ap Some (sym e)) in
        subst (λ (c : Bool). range.number < cond c (word / sequence_unit) (word / sequence_unit + 1)) (sym b) (omega arith))
        (λ n. subst (λ (c : Bool). range.number < cond c (word / sequence_unit) (word / sequence_unit + 1)) (sym (ne_eqb (word % sequence_unit) row_limit n))
        (omega arith))

-- A range of another pass that is active was found unfinished.
pub met_by_word : (range : Range) (m m' : MyTree) (word : ℕ) → HasWatched range.owner m word m' → active_of word ≡ Some range.number
    → range.owner ≢ m.0.upper.number → IsIn {A = Unfinished} (record { pass = range.owner; number = range.number }) m'.0.upper.ranges.unfinished
met_by_word range m m' word h on other = let u = m.0.upper in let a = is_active word range.number on in
    subst (λ (x : MyTree). IsIn {A = Unfinished} (record { pass = range.owner; number = range.number }) x.0.upper.ranges.unfinished) (sym h.now)
    (subst (λ (b : Bool). IsIn {A = Unfinished} (record { pass = range.owner; number = range.number })
    (cond b u.ranges.unfinished (unfinished_by range.owner word u.ranges.unfinished))) (sym (ne_eqb range.owner u.number other))
    (subst (λ (b : Bool). IsIn {A = Unfinished} (record { pass = range.owner; number = range.number })
    (cond b (record { pass = range.owner; number = word / sequence_unit } ∷ but_of range.owner u.ranges.unfinished) (but_of range.owner u.ranges.unfinished)))
    (sym (eq-eqb (word % sequence_unit) row_limit a.0))
    (subst (λ (n : ℕ). IsIn {A = Unfinished} (record { pass = range.owner; number = range.number })
    (record { pass = range.owner; number = n } ∷ but_of range.owner u.ranges.unfinished)) (sym a.1) (0, refl))))

-- The route that bounds a base's keys above was shown, with its key.
pub high_shown : (z : Sizes) (u : TreeView) (route : ℕ) (bound : Bound) → IsHighRoute z u.ways (Some route) bound
    → (its : List ℕ) × IsKeyShown u route its × (bound ≡ Excluded (route_key its))
high_shown z u route bound h = (
  h.0.its,
  record { shown = λ index fixed. (h.0.its, inr (inl ((h.0, h.1, h.2, refl), fixed)), refl); long = h.4.long; short = h.4.short },
  h.3,
)

-- The range is active.
module _ (z : Sizes) (range : Range) (left : Cursor) (m m' : MyTree) (word : ℕ) (h : HasWatched range.owner m word m') (sizes : m.0.sizes ≡ z)
    (at : IsAtMarked z m.0.upper range left) (on : active_of word ≡ Some range.number) where
  marked : IsMarkedBy (first_note m.0.upper.notes).its range.owner (word / sequence_unit)
  marked = (at.marked.0, at.marked.1, at.marked.2 ∙ sym (is_active word range.number on).1)

  -- The base is marked still.
  pub at_now : IsAtMarked z m'.0.upper range left
  at_now = subst (λ (x : MyTree). IsAtMarked z x.0.upper range left) (sym h.now) record {
    at = record {
      shown = record { noted = at.at.shown.noted; here = at.at.shown.here; is_base = at.at.shown.is_base };
      at = at.at.at;
      above = at.at.above;
      high = at.at.high;
    };
    marked = at.marked;
  }

  -- The word was shown that says which row says up to where it goes.
  pub bound_word : IsShownWord m'.0.upper left.base 6 (mark_bound (first_note m.0.upper.notes).its)
  bound_word = subst (λ (x : MyTree). IsShownWord x.0.upper left.base 6 (mark_bound (first_note m.0.upper.notes).its)) (sym h.now)
      (base_word z (watched m.0.upper range.owner word h.borders) left.base 6 (first_note m.0.upper.notes)
      record { noted = at.at.shown.noted; here = at.at.shown.here; is_base = at.at.shown.is_base })

  -- The key was shown that the base's keys are below.
  pub high_now : (route : ℕ) → left.high ≡ Some route
      → (its : List ℕ) × IsKeyShown m'.0.upper route its × ((first_note m.0.upper.notes).place.span.high ≡ Excluded (route_key its))
  high_now route is = let bound = (first_note m.0.upper.notes).place.span.high in
      let at_route = subst (λ (r : Option ℕ). IsHighRoute z m.0.upper.ways r bound) is at.at.high in
      subst (λ (x : MyTree). (its : List ℕ) × IsKeyShown x.0.upper route its × (bound ≡ Excluded (route_key its))) (sym h.now)
      (high_shown z (watched m.0.upper range.owner word h.borders) route bound at_route)

  -- It was found unfinished.
  pub met_now : range.owner ≢ m.0.upper.number → IsIn {A = Unfinished} (record { pass = range.owner; number = range.number }) m'.0.upper.ranges.unfinished
  met_now other = met_by_word range m m' word h on other

  -- The row was shown that says up to where it goes.
  pub border_now : (border : Border) × IsBorderShown m'.0.upper (mark_bound (first_note m.0.upper.notes).its) border
      × (mark_bound (first_note m.0.upper.notes).its ≤ z.rows)
  border_now = let a = is_active word range.number on in let b = h.shown (first_note m.0.upper.notes) at.at.shown.noted a.0 marked in (
    b.0,
    record {
      noted = subst (λ (x : MyTree). IsIn b.0 x.0.upper.ranges.borders) (sym h.now) (in_front h.borders m.0.upper.ranges.borders b.0 b.1);
      here = b.2;
      long = b.5;
    },
    subst (λ (n : ℕ). n ≤ z.rows) b.2 (subst (λ (y : Sizes). b.0.row ≤ y.rows) sizes b.3),
  )

-- A walk came to the next base.
pub is_before : (z : Sizes) (range : Range) (bytes : Bor (List ℕ)) (m m' : MyTree) (next : Cursor) (u : TreeView) (key : List ℕ)
    → m.0.upper.notes ≡ u.notes → IsWalked z (spot.At bytes) m next m' → (first_note u.notes).place.span.high ≡ Excluded key → bytes.now ≡ key
    → mark_bound (first_note u.notes).its ≤ z.rows → GoesBeyond m.0.upper (first_note u.notes)
    → IsBefore z range next u m'.0.upper
is_before z range bytes m m' next u key same w ends is bound beyond = subst (λ (x : MyTree). IsBefore z range next u x.0.upper) (sym w.now) record {
  notes = ap (λ (ns : List Note). w.note ∷ ns) same;
  at = record {
    shown = record { noted = (0, refl); here = w.cursor_is.base; is_base = w.is_base };
    at = record { base = w.cursor_is.base; link = w.cursor_is.link; level = w.cursor_is.level; inside = w.inside };
    above = subst (λ (x : MyTree). IsAbove z x.0.upper.ways next.link next.above) w.now w.cursor_is.above;
    high = subst (λ (x : MyTree). IsHighRoute z x.0.upper.ways next.high w.note.place.span.high) w.now w.cursor_is.high;
  };
  key = key;
  ends = ends;
  has = subst (λ (k : List ℕ). HasKey w.note.place.span k) is w.sought;
  beyond = (
    (beyond.0.0, record { noted = beyond.0.1.noted; here = beyond.0.1.here; long = beyond.0.1.long }),
    λ x s short. beyond.1 x record { noted = s.noted; here = s.here; long = s.long } short,
  );
  bound = bound;
}
