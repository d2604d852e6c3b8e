-- Looks from base to base to the left, of a pass that is alone: each base of its tree is looked at
-- once, at most.
use Rattle.std.proofs.Common.{◌≡◌, ℕ, suc, ◌+◌, ◌<◌, ◌≤◌, List, [], ◌∷◌, length, sym, refl, ap, ◌∙◌, subst, ⊎_elim, arith}
use Rattle.std.specs.declared.cmp.Ordering.{Ordering}
use Rattle.std.specs.declared.cmp.Ordering.TheVariants.{Less, Greater, Equal}
use Rattle.std.specs.Ordering.{ordering_reverse}
use Rattle.ca_base.specs.Putting.{first_note}
use Rattle.ca_model.specs.declared.outcome.Spent.{Spent}
use Rattle.ca_model.specs.Edges.{Bound, Unbounded, Included, Excluded}
use Rattle.ca_model.specs.StoreMap.{bytes_cmp}
use Rattle.ca_model.proofs.Places.{bytes_flip}
use Rattle.ca_node.specs.declared.cursor.Cursor.{Cursor}
use Rattle.ca_node.specs.Aside.{IsLeftOf, LetsLess}
use Rattle.ca_node.specs.Inventory.{AreOnce, but, row_itself, row_of_base, IsListed}
use Rattle.ca_node.specs.Laws.{in_nothing}
use Rattle.ca_node.specs.Links.{IsIn}
use Rattle.ca_node.specs.Place.{Place}
use Rattle.ca_node.specs.States.{HasState, IsAlone}
use Rattle.ca_node.specs.Told.{MyTree, IsKnown}
use Rattle.ca_node.specs.TreeView.{Inventory, Note, TreeView}
use Rattle.ca_node.proofs.Listing.{but_shorter, in_but}
use Rattle.ca_node.proofs.Looking.{in_more}
use Rattle.ca_replace.specs.Aside.{HasLookedAside, HasLookedLeft, IsLeftEnd}
use Rattle.ca_replace.specs.Attempting.{helps, passes}
use Rattle.ca_replace.specs.LoneReads.{GoesLeftAlone}
use Rattle.ca_replace.proofs.LooksLeft.{here, left_learnt, now, one_note, one_passed_on, right_below, same_helped}
use Rattle.ca_replace.proofs.OneHand.{seen_still}
use Rattle.ca_rows.specs.declared.sizes.Sizes.{Sizes}

-- As many rows as have a base each, of these bases, are no more than the bases.
pub few_once : (rows : List ℕ) (bases : List (ℕ × Place)) → AreOnce row_itself rows
    → ((row : ℕ) → IsIn row rows → (place : Place) × IsIn (row, place) bases)
    → length rows ≤ length bases
few_once [] bases once has = omega arith
few_once (row ∷ rows) bases once has = let first = has row (0, refl) in
    let less = but_shorter row_of_base row bases (row, first.0) first.1 refl in
    let rest = few_once rows (but row_of_base row bases) once.1
    (λ other i. let its = has other (suc i.0, i.1) in
    (its.0, in_but row_of_base row bases (other, its.0) its.1 (λ e. once.0 (other, i, e)))) in
    omega arith

-- No base is on the left of where it begins itself.
never_less : (key : List ℕ) → ¬ (bytes_cmp key key ≡ Less)
never_less key less = by (bytes_cmp key key) (bytes_flip key key) less
  where
    by : (o : Ordering) → o ≡ ordering_reverse o → o ≡ Less → ⊥
    by Less flip is = cc
    by Equal flip is = cc
    by Greater flip is = cc

pub never_left : (note : Note) → ¬ IsLeftOf note.place.span.low note
never_left note left = by note.place.span.low refl left
  where
    by : (low : Bound) → note.place.span.low ≡ low → IsLeftOf low note → ⊥
    by Unbounded is left = absurd left
    by (Included key) is left = never_less key (subst (λ (b : Bound). LetsLess b key) is left)
    by (Excluded key) is left = absurd left

-- The row is that of a base that was shown, and is listed.
abbrev pub IsOfShown : MyTree → ℕ → Type 0
IsOfShown m row = (note : Note) × IsIn note m.0.upper.notes × (note.row ≡ row)
    × IsIn (note.row, note.place) m.0.upper.inventory.bases

-- So many bases were looked at since this moment, one turn each, and each once.
pub record LooksOnce (m m' : MyTree) : Type 0 where
  pub rows : List ℕ
  pub turns : passes m' ≡ passes m + length rows
  pub once : AreOnce row_itself rows
  pub each : (row : ℕ) → IsIn row rows → IsOfShown m' row
  pub same : m'.0.upper.inventory ≡ m.0.upper.inventory
  pub unhelped : helps m' ≡ helps m
  pub notes : (note : Note) → IsIn note m.0.upper.notes → IsIn note m'.0.upper.notes

pub looks_first : (m : MyTree) → LooksOnce m m
looks_first m = record {
  rows = [];
  turns = omega arith;
  once = tt;
  each = λ row i. absurd (in_nothing row [] refl i);
  same = refl;
  unhelped = refl;
  notes = λ note i. i;
}

-- It is alone still.
pub left_alone : (z : Sizes) (m m' : MyTree) (a b : Spent) → HasLookedLeft z a b m m'
    → IsAlone z m.0.upper → IsAlone z m'.0.upper
left_alone z m m' a b h alone =
    (alone.0, subst (λ (n : ℕ). 0 < n) (sym (ap (λ (u : TreeView). u.number) h.steps.only)) alone.1)

-- One more was looked at, to the left of all that were shown.
module _ (z : Sizes) (route : ℕ) (cursor : Cursor) (m m' : MyTree)
    (h : HasLookedAside z route cursor m m') (end : IsLeftEnd z m.0.upper route)
    (alone : IsAlone z m.0.upper) where
  abbrev note : Note
  note = first_note m'.0.upper.notes

  listed : IsListed m.0.upper.inventory note
  listed = subst (λ (n : Note). IsListed m.0.upper.inventory n) (sym (here z route cursor m m' h))
      (h.walked.listed alone)

  same_tree : m'.0.upper.inventory ≡ m.0.upper.inventory
  same_tree = ap (λ (x : MyTree). x.0.upper.inventory) (now z route cursor m m' h)

  is_left : (other : Note) → IsIn other m.0.upper.notes → IsLeftOf other.place.span.low note
  is_left other i = end.left note (right_below z route cursor m m' h end.bound end.low) other i

  another : (other : Note) → IsIn other m.0.upper.notes → IsIn (other.row, other.place)
      m.0.upper.inventory.bases → ¬ (other.row ≡ note.row)
  another other i there e = let place = listed.one other.place
      (subst (λ (row : ℕ). IsIn (row, other.place) m.0.upper.inventory.bases) e there) in
      never_left note (subst (λ (p : Place). IsLeftOf p.span.low note) place (is_left other i))

  shown_on : (other : Note) → IsIn other m.0.upper.notes → IsIn other m'.0.upper.notes
  shown_on other i = subst (λ (ns : List Note). IsIn other ns)
      (sym (one_note z route cursor m m' h)) (suc i.0, i.1)

  listed_on : (row : ℕ) (place : Place) → IsIn (row, place) m.0.upper.inventory.bases
      → IsIn (row, place) m'.0.upper.inventory.bases
  listed_on row place i = subst (λ (t : Inventory). IsIn (row, place) t.bases) (sym same_tree) i

  its_own : IsOfShown m' note.row
  its_own = (
    note,
    subst (λ (ns : List Note). IsIn note ns) (sym (one_note z route cursor m m' h)) (0, refl),
    refl,
    listed_on note.row note.place listed.base,
  )

  pub looks_on : (k : MyTree) → LooksOnce k m → LooksOnce k m'
  looks_on k l = let turns = l.turns in let passed = one_passed_on z route cursor m m' h in record {
    rows = note.row ∷ l.rows;
    turns = omega arith;
    once = (
      λ (x : (row : ℕ) × IsIn row l.rows × (row ≡ note.row)). let its = l.each x.0 x.1 in
          another its.0 its.1 its.3 (its.2 ∙ x.2),
      l.once,
    );
    each = λ row i. ⊎_elim (λ (e : note.row ≡ row). subst (IsOfShown m') e its_own)
        (λ (o : IsIn row l.rows). let its = l.each row o in
        (its.0, shown_on its.0 its.1, its.2, listed_on its.0.row its.0.place its.3))
        (in_more note.row row l.rows i);
    same = same_tree ∙ l.same;
    unhelped = same_helped z route cursor m m' h ∙ l.unhelped;
    notes = λ other i. shown_on other (l.notes other i);
  }

  state_now : HasState z m'.0.upper note
  state_now = let s = h.walked.has in
      let its = ap (λ (x : MyTree). first_note x.0.upper.notes) h.walked.now in
      let has : HasState z h.mid.0.upper (first_note h.mid.0.upper.notes) =
      subst (λ (n : Note). HasState z h.mid.0.upper n) (sym its) s in
      subst (λ (x : MyTree). HasState z x.0.upper (first_note x.0.upper.notes)) (sym h.counted)
      record { at = has.at; since = has.since; has = has.has; last = has.last }

  -- That was the last one.
  pub goes_left : (a b : Spent) (k : MyTree) → HasLookedLeft z a b k m' → LooksOnce k m
      → IsKnown z k.0.upper → IsAlone z k.0.upper
      → GoesLeftAlone z k m'
  unfolding looks_on
  goes_left a b k left l known here = let all = looks_on k l in let turns = all.turns in
      let few = few_once all.rows m'.0.upper.inventory.bases all.once
      (λ row i. let its = all.each row i in (
        its.0.place,
        subst (λ (r : ℕ). IsIn (r, its.0.place) m'.0.upper.inventory.bases) its.2
            its.3,
      )) in
      let learnt = left_learnt z a b k m' left known in let more = left.paid.more_passed in
      let links = left.steps.lost_is in
      let pool = ap (λ (x : MyTree). x.0.lost) left.raised in
      let rows = ap (λ (t : Inventory). length t.rows) all.same in
      let bases = ap (λ (t : Inventory). length t.bases) all.same in record {
        goes = record {
          unlost = omega arith;
          unhelped = all.unhelped;
          passed = more;
          few = omega arith;
          rows = omega arith;
          bases = omega arith;
          still = seen_still z k.0.upper m'.0.upper here known learnt.known learnt.further;
        };
        same = all.same;
        number = learnt.further.number;
        listed = subst (λ (t : Inventory). IsListed t note) l.same listed;
        has = state_now;
        left = λ other i. is_left other (l.notes other i);
      }
