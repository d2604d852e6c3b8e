-- The bases of a run in a line, from the last one on, and what the last so many have together.
use Rattle.std.proofs.Common.{◌≡◌, ℕ, zero, suc, ◌+◌, ◌-◌, ◌<◌, ◌≤◌, List, [], ◌∷◌, ◌++◌, length, map, get_or, drop, refl, sym, ap, subst, ◌∙◌, arith, append-nil, append_assoc, true, false, Bool, cond, ⊎_elim}
use Rattle.std.proofs.lemmas.Bool.{cases_lt}
use Rattle.std.proofs.lemmas.List.{take_all, drop_more, get_or-map, get_or_append_left, length-append, length-map}
use Rattle.ca_base.proofs.Items.{at_place}
use Rattle.ca_base.specs.Finding.{IsReadable}
use Rattle.ca_base.specs.Putting.{first_note}
use Rattle.ca_model.specs.Slab.{nothing}
use Rattle.ca_model.specs.StoreMap.{Pair, StoreMap}
use Rattle.ca_node.specs.Ranging.{AreChained}
use Rattle.ca_node.specs.Ranging as ranging
use Rattle.ca_node.specs.Row.{mark_back, pair}
use Rattle.ca_node.specs.TreeView.{Note, TreeView, no_note}
use Rattle.ca_range.specs.declared.sought.Run.{Run}
use Rattle.ca_range.specs.Snapshots.{IsRemembered, bases_of}
use Rattle.ca_replace.specs.Running.{IsBaseAt, last_of, row_in}
use Rattle.ca_rows.specs.declared.sizes.Sizes.{Sizes}

-- what a base has
abbrev pub part_of : List Note → ℕ → StoreMap
part_of notes at = map pair (get_or notes at no_note).objects

-- One base more: what it has stands before what those have that are on its right.
pub last_more : (notes : List Note) (at : ℕ) → at < length notes → last_of (at + 1) notes ≡ part_of
    notes at ++ last_of at notes
last_more [] at l = absurd (omega arith)
last_more (note ∷ notes) zero l = sym (append-nil (map pair note.objects))
last_more (note ∷ notes) (suc at) l = let s : suc at + 1 ≡ suc (at + 1) = omega arith in
    rw s (ap (λ (x : StoreMap). x ++ map pair note.objects) (last_more notes at (omega arith))
    ∙ append_assoc (part_of notes at) (last_of at notes) (map pair note.objects))

-- All of them are the last so many, and those on the left.
pub split_at : (notes : List Note) (many : ℕ) → ranging.objects_of notes ≡ ranging.objects_of
    (drop many notes) ++ last_of many notes
split_at notes zero = sym (append-nil (ranging.objects_of notes))
split_at [] (suc many) = refl
split_at (note ∷ notes) (suc many) = ap (λ (x : StoreMap). x ++ map pair note.objects)
    (split_at notes many)
    ∙ append_assoc (ranging.objects_of (drop many notes)) (last_of many notes)
    (map pair note.objects)

pub last_all : (notes : List Note) (many : ℕ) → length notes ≤ many
    → last_of many notes ≡ ranging.objects_of notes
last_all notes many l = ap ranging.objects_of (take_all many notes l)

pub part_long : (notes : List Note) (at : ℕ) → length (part_of notes at) ≡ length
    (get_or notes at no_note).objects
part_long notes at = length-map (get_or notes at no_note).objects pair

-- How many those have together.
pub last_long : (notes : List Note) (at : ℕ) → at < length notes
    → length (last_of (at + 1) notes) ≡ length (get_or notes at no_note).objects + length
    (last_of at notes)
last_long notes at l = ap length (last_more notes at l)
    ∙ (length-append (part_of notes at) (last_of at notes)
    ∙ ap (λ (n : ℕ). n + length (last_of at notes)) (part_long notes at))

dropped : (xs ys : StoreMap) (next many : ℕ) → length xs ≡ many → many ≤ next
    → drop next (xs ++ ys) ≡ drop (next - many) ys
dropped [] ys next many e l = let same : next - many ≡ next = omega arith in rw same refl
dropped (x ∷ xs) ys zero many e l = absurd (omega arith)
dropped (x ∷ xs) ys (suc next) zero e l = absurd (omega arith)
dropped (x ∷ xs) ys (suc next) (suc many) e l = let less : suc next - suc many ≡ next - many =
    omega arith in
    rw less (dropped xs ys next many (omega arith) (omega arith))

-- Behind all of a base the next object is one of the bases' on its right.
pub drop_base : (notes : List Note) (at next many : ℕ) → at < length notes
    → many ≡ length (get_or notes at no_note).objects → many ≤ next
    → drop next (last_of (at + 1) notes) ≡ drop (next - many) (last_of at notes)
drop_base notes at next many l is behind = ap (drop next) (last_more notes at l)
    ∙ dropped (part_of notes at) (last_of at notes) next many (part_long notes at ∙ sym is) behind

-- The next object, where it is one of the base's.
pub next_is : (notes : List Note) (at next : ℕ) → at < length notes
    → next < length (get_or notes at no_note).objects
    → drop next (last_of (at + 1) notes) ≡ pair (get_or (get_or notes at no_note).objects next [])
    ∷ drop (next + 1) (last_of (at + 1) notes)
next_is notes at next l inside = let long = last_long notes at l in
    drop_more (last_of (at + 1) notes) next nothing (omega arith)
    ∙ ap (λ (x : Pair). x ∷ drop (next + 1) (last_of (at + 1) notes))
    (ap (λ (m : StoreMap). get_or m next nothing) (last_more notes at l)
    ∙ (get_or_append_left (part_of notes at) (last_of at notes) nothing next
    (omega (arith, part_long notes at))
    ∙ get_or-map pair (get_or notes at no_note).objects next [] nothing inside))

-- Each names the one on its left.
pub first_row : (last : ℕ) (notes : List Note) → AreChained last notes → row_in notes 0 ≡ last
first_row last [] chained = sym chained
first_row last (note ∷ notes) chained = chained.0

pub next_row : (last : ℕ) (notes : List Note) → AreChained last notes → (at : ℕ) → at < length notes
    → mark_back (get_or notes at no_note).its ≡ row_in notes (at + 1)
next_row last [] chained at l = absurd (omega arith)
next_row last (note ∷ notes) chained zero l = sym (first_row (mark_back note.its) notes chained.2)
next_row last (note ∷ notes) chained (suc at) l = let s : suc at + 1 ≡ suc (at + 1) = omega arith in
    rw s (next_row (mark_back note.its) notes chained.2 at (omega arith))

-- Where there is none there is no row.
pub no_row : (notes : List Note) (at : ℕ) → length notes ≤ at → row_in notes at ≡ 0
no_row [] at l = refl
no_row (note ∷ notes) zero l = absurd (omega arith)
no_row (note ∷ notes) (suc at) l = no_row notes at (omega arith)

row_there : (notes : List Note) (at : ℕ) → 0 < row_in notes at → at < length notes
row_there [] at l = absurd (omega arith)
row_there (note ∷ notes) zero l = omega arith
row_there (note ∷ notes) (suc at) l = let there = row_there notes at l in omega arith

first_is : (notes : List Note) → (first_note notes).row ≡ row_in notes 0
first_is [] = refl
first_is (note ∷ notes) = refl

module _ (z : Sizes) (u : TreeView) (bases : Run) (r : IsRemembered z u bases) where
  -- The last one,
  pub last_here : IsBaseAt (bases_of bases u) 0 bases.last
  last_here = (r.some, sym r.last_is ∙ first_is (bases_of bases u))

  -- and each can be read.
  pub readable_at : (at row : ℕ) → IsBaseAt (bases_of bases u) at row
      → IsReadable z u row (get_or (bases_of bases u) at no_note)
  readable_at at row here = let note = get_or (bases_of bases u) at no_note in
      subst (λ (x : ℕ). IsReadable z u x note) (sym here.1)
      (r.readable note (at, at_place (bases_of bases u) at no_note here.0))

  pub has_row : (at row : ℕ) → IsBaseAt (bases_of bases u) at row → (0 < row) × (row ≤ z.rows)
  has_row at row here = let b = readable_at at row here in let e = b.here in
      (omega (arith, b.is_base.some_row, e), omega (arith, b.is_base.in_range, e))

  pub row_small : (at : ℕ) → row_in (bases_of bases u) at ≤ z.rows
  row_small at = ⊎_elim (λ (l : at < length (bases_of bases u)).
      (has_row at (row_in (bases_of bases u) at) (l, refl)).1)
      (λ (l : length (bases_of bases u) ≤ at). let none = no_row (bases_of bases u) at l in
      omega arith) (cases_lt at (length (bases_of bases u)))

  -- Where there is a row there is a base.
  pub is_there : (at row : ℕ) → row ≡ row_in (bases_of bases u) at → 0 < row
      → IsBaseAt (bases_of bases u) at row
  is_there at row is some = (row_there (bases_of bases u) at (omega arith), is)

  -- Where there is none all were walked.
  pub all_walked : (at row : ℕ) → row ≡ row_in (bases_of bases u) at → row ≡ 0
      → length (bases_of bases u) ≤ at
  all_walked at row is none = ⊎_elim (λ (l : at < length (bases_of bases u)). let some =
      has_row at row (l, is) in absurd (omega (arith, some.0, none)))
      (λ (l : length (bases_of bases u) ≤ at). l) (cases_lt at (length (bases_of bases u)))

  pub chained_left : bases.chained ≡ true → (at : ℕ) → at < length (bases_of bases u)
      → mark_back (get_or (bases_of bases u) at no_note).its ≡ row_in (bases_of bases u) (at + 1)
  chained_left is at l = next_row bases.last (bases_of bases u)
      (subst (λ (x : Bool). AreChained bases.last (cond x u.ranges.run (first_note u.notes ∷ [])))
      (sym is) (r.chained is)) at l

  pub alone_left : bases.chained ≡ false → (at : ℕ) → at < length (bases_of bases u)
      → row_in (bases_of bases u) (at + 1) ≡ 0
  alone_left is at l = no_row (bases_of bases u) (at + 1)
      (omega (arith, ap (λ (x : Bool). length (cond x u.ranges.run (first_note u.notes ∷ []))) is))
