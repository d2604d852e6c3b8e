-- What a pass that is the only one knows of a base that it is shown while a range of its own is
-- marked: which base it was marked behind.
use Rattle.std.proofs.Common.{◌≡◌, ◌⊎◌, ℕ, ◌<◌, ◌≤◌, true, List, [], ◌∷◌, sym, refl, ap, ◌∙◌, subst, inl, inr, ⊎_elim, arith}
use Rattle.std.specs.Ordering.{is_lt}
use mathlib.Core.Option.{some}
use lib.ListN.{get_elem?}
use Rattle.ca_model.specs.Edges.{Bound, Included, Excluded, is_up_to}
use Rattle.ca_model.specs.History.{after}
use Rattle.ca_model.specs.StoreMap.{bytes_cmp}
use Rattle.ca_term.proofs.Bytes.{bytes_itself}
use Rattle.ca_rows.specs.declared.sizes.Sizes.{Sizes}
use Rattle.ca_runs.specs.Runs.{IsAmong, Scene, AreNeighbours, Range, IsRun, range_of, AreApart}
use Rattle.ca_runs.proofs.Keeping.{of_run}
use Rattle.ca_node.specs.Links.{IsIn, IsActive, HasBegun}
use Rattle.ca_node.specs.Lone.{IsBehindOwn}
use Rattle.ca_node.specs.Place.{HasKey, Place}
use Rattle.ca_node.specs.Row.{row_at, mark, mark_back, mark_bound, mark_number, mark_owner, IsMarkedBy}
use Rattle.ca_node.specs.Scenes.{span_of, scene_of}
use Rattle.ca_node.specs.Shape.{Role, Base}
use Rattle.ca_node.specs.Tree.{IsTree}
use Rattle.ca_node.specs.TreeView.{Note, Border, Begun, Marking, TreeView}
use Rattle.ca_node.proofs.Looking.{row_note}
use Rattle.ca_node.proofs.Neighbours.{begins_there}
use Rattle.ca_node.proofs.Parts.{is_less, less_within}
use Rattle.ca_node.proofs.Ranged.{bases_apart}

same_included : (a b : List ℕ) → Included a ≡ Included b → a ≡ b
same_included a b e = cc

same_excluded : (a b : List ℕ) → Excluded a ≡ Excluded b → a ≡ b
same_excluded a b e = cc

-- No key is less than itself.
not_below_itself : (high : Bound) (key : List ℕ) → high ≡ Excluded key → is_up_to high key ≡ true → ⊥
not_below_itself high key is up = let less : is_lt (bytes_cmp key key) ≡ true =
    subst (λ (b : Bound). is_up_to b key ≡ true) is up in
    let same = bytes_itself key in cc

module _ (s : Scene) (range : Range) (apart : AreApart s) where
  -- No base of a run begins behind the end of one that is on its right, or of itself.
  begins_below : (row : ℕ) (rows : List ℕ) (base : ℕ) (key : List ℕ) → IsRun s range (row ∷ rows)
      → IsAmong base (row ∷ rows) → (s.keys base).low ≡ Included key
      → is_up_to (s.keys row).high key ≡ true
  begins_below row [] base key run i low = ⊎_elim
      (λ (e : base ≡ row). apart.begins row key run.0.is_base
      (ap (λ (r : ℕ). (s.keys r).low) (sym e) ∙ low))
      (λ none. absurd none) i
  begins_below row (left ∷ rows) base key run i low = ⊎_elim
      (λ (e : base ≡ row). apart.begins row key run.0.is_base
      (ap (λ (r : ℕ). (s.keys r).low) (sym e) ∙ low))
      (λ (j : IsAmong base (left ∷ rows)). let end = run.2.0 in
      let less : is_up_to (Excluded end) key ≡ true = subst
      (λ (b : Bound). is_up_to b key ≡ true) run.2.1
      (begins_below left rows base key run.3 j low) in
      less_within (s.keys row).high key end (is_less _ less)
      (apart.begins row end run.0.is_base run.2.2)) i

  -- A base of a run is the last one, or the next one names it.
  has_next : (row : ℕ) (rows : List ℕ) (left : ℕ) → IsRun s range (row ∷ rows)
      → IsAmong left (row ∷ rows)
      → (row ≡ left) ⊎ ((next : ℕ) × IsAmong next (row ∷ rows) × ((s.mark next).back ≡ left)
      × AreNeighbours (s.keys left) (s.keys next))
  has_next row [] left run i = ⊎_elim (λ (e : left ≡ row). inl (sym e)) (λ none. absurd none) i
  has_next row (other ∷ rows) left run i = ⊎_elim (λ (e : left ≡ row). inl (sym e))
      (λ (j : IsAmong left (other ∷ rows)). ⊎_elim
      (λ (e : other ≡ left). inr (
        row,
        inl refl,
        run.1 ∙ e,
        subst (λ (r : ℕ). AreNeighbours (s.keys r) (s.keys row)) e run.2,
      ))
      (λ (t : (next : ℕ) × IsAmong next (other ∷ rows) × ((s.mark next).back ≡ left)
      × AreNeighbours (s.keys left) (s.keys next)). inr (t.0, inr t.1, t.2, t.3))
      (has_next other rows left run.3 j)) i

  -- The base of a run that begins where another one of it ends names that one.
  back_is : (rows : List ℕ) (left base : ℕ) (key : List ℕ) → IsRun s range rows
      → IsAmong left rows → IsAmong base rows → (s.keys left).high ≡ Excluded key
      → (s.keys base).low ≡ Included key → (s.mark base).back ≡ left
  back_is [] left base key run i j high low = absurd i
  back_is (row ∷ rows) left base key run i j high low = ⊎_elim
      (λ (e : row ≡ left). absurd (not_below_itself (s.keys left).high key high
      (subst (λ (r : ℕ). is_up_to (s.keys r).high key ≡ true) e
      (begins_below row rows base key run j low))))
      (λ (t : (next : ℕ) × IsAmong next (row ∷ rows) × ((s.mark next).back ≡ left)
      × AreNeighbours (s.keys left) (s.keys next)).
      let end : t.3.0 ≡ key = same_excluded t.3.0 key (sym t.3.1 ∙ high) in
      let same : t.0 ≡ base = apart.apart t.0 base key
      (of_run s range (row ∷ rows) t.0 run t.1).is_base
      (of_run s range (row ∷ rows) base run j).is_base (t.3.2 ∙ ap Included end) low in
      ap (λ (r : ℕ). (s.mark r).back) (sym same) ∙ t.2)
      (has_next row rows left run i)

-- The only pass, and a base of the tree.
module _ (z : Sizes) (made : ℕ) (words : List ℕ) (uppers : List TreeView)
    (f : IsTree z made words uppers) (id : ℕ) (u : TreeView) (at : get_elem? uppers id ≡ some u)
    (few : made ≤ 1) (is_pass : 0 < u.number) (c : ℕ) (place : Place)
    (is : f.role c ≡ Base place) where
  abbrev scene : Scene
  scene = scene_of words f.role

  active : (begun : Begun) (border : Border) → u.ranges.own ≡ Marking begun border
      → IsActive words u.number begun.number
  active = (f.lone id u at few is_pass).active

  no_later : (begun : Begun) (border : Border) → u.ranges.own ≡ Marking begun border
      → mark (row_at words c) ≡ 1 → mark_owner (row_at words c) ≡ u.number
      → mark_number (row_at words c) ≤ begun.number
  no_later begun border own marked owner = let now = (active begun border own).2 in
      let b : HasBegun words u.number (mark_number (row_at words c)) =
      f.ranged.runs.begun u.number (mark_number (row_at words c)) c (place, is)
      (marked, owner, refl) in
      let most = b.2 in omega (arith, now, most)

  -- Both are bases of one run.
  module _ (begun : Begun) (border : Border) (left : Note) (key : List ℕ)
      (own : u.ranges.own ≡ Marking begun border) (shown : IsIn left u.notes)
      (marked : IsMarkedBy left.its u.number begun.number)
      (high : left.place.span.high ≡ Excluded key) (has : HasKey place.span key)
      (marked_too : IsMarkedBy (row_at words c) u.number begun.number) where
    abbrev range : Range
    range = range_of f.ranged.ends u.number begun.number

    abbrev run : List ℕ
    run = f.ranged.runs.run u.number

    now : IsActive words u.number begun.number
    now = active begun border own

    spells : row_at words left.row ≡ left.its
    spells = ((f.each_seat id u at).notes left shown).spells

    left_is : f.role left.row ≡ Base left.place
    left_is = (((f.each_seat id u at).notes left shown).marks u.number begun.number marked).1 now

    is_run : IsRun (scene_of words f.role) (range_of f.ranged.ends u.number begun.number)
        (f.ranged.runs.run u.number)
    is_run = f.ranged.runs.each u.number begun.number now

    left_in : IsAmong left.row (f.ranged.runs.run u.number)
    left_in = f.ranged.runs.whole u.number begun.number left.row now (left.place, left_is)
        (subst (λ (its : List ℕ). IsMarkedBy its u.number begun.number) (sym spells) marked)

    this_in : IsAmong c (f.ranged.runs.run u.number)
    this_in = f.ranged.runs.whole u.number begun.number c now (place, is) marked_too

    begins : place.span.low ≡ Included key
    begins = begins_there z words f.role (after f.history []) f.shape left.row c left.place place
        key left_is is high has

    back : mark_back (row_at words c) ≡ left.row
    back = back_is scene range (bases_apart z words f.role (after f.history []) f.shape) run
        left.row c key is_run left_in this_in
        (ap (λ (r : Role). (span_of r).high) left_is ∙ high)
        (ap (λ (r : Role). (span_of r).low) is ∙ begins)

    bound : mark_bound (row_at words c) ≡ mark_bound left.its
    bound = (of_run scene range run c is_run this_in).ends
        ∙ (sym (of_run scene range run left.row is_run left_in).ends ∙ ap mark_bound spells)

  pub behind_own : IsBehindOwn u (row_note words c place)
  behind_own = record {
    latest = λ begun border own marked owner. no_later begun border own marked owner;
    next = λ begun border left key own shown marked high has too. (
      back begun border left key own shown marked high has too,
      bound begun border left key own shown marked high has too,
    );
  }
