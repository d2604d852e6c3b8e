-- Open runs, as their bases are walked and their objects are read.
use Rattle.std.proofs.Common.{◌≡◌, ℕ, zero, suc, ◌+◌, ◌*◌, ◌-◌, ◌<◌, ◌≤◌, List, [], ◌∷◌, ◌++◌, length, get_or, take, drop, refl, sym, ap, subst, ◌∙◌, arith, length-drop, Some, None}
use Rattle.std.proofs.lemmas.List.{get_or-map}
use Rattle.ca_model.specs.Edges.{Bound, from, last_object, objects_of, up_to, within}
use Rattle.ca_model.specs.Slab.{nothing}
use Rattle.ca_model.specs.StoreMap.{Pair, StoreMap, IsStoreMap}
use Rattle.ca_node.specs.Ranging as ranging
use Rattle.ca_node.specs.Row.{pair}
use Rattle.ca_node.specs.TreeView.{Note, TreeView, no_note}
use Rattle.ca_range.specs.declared.sought.Run.{Run}
use Rattle.ca_range.specs.Snapshots.{IsRemembered, bases_of}
use Rattle.ca_range.proofs.OwnRuns.{map_second}
use Rattle.ca_replace.specs.declared.opened.OpenRun.{OpenRun}
use Rattle.ca_replace.specs.Running.{HasRows, IsBaseAt, IsGathered, IsManyAt, IsNextThere, IsOpenRun, all_of, last_of, left_of, row_in}
use Rattle.ca_replace.proofs.RunLines.{part_of, drop_base, last_all, last_long, last_more, next_is, part_long, split_at}
use Rattle.ca_replace.proofs.RunParts.{last_in, many_more, none_more, start_behind, start_here, within_taken, within_short}
use Rattle.ca_rows.specs.declared.sizes.Sizes.{Sizes}

-- The last base that was walked has this: where its objects within the lower edge begin, and where
-- those within the upper edge end.
pub record IsPart (p : ℕ) (part : StoreMap) (lo cut : Bound) (many start end : ℕ) : Type 0 where
  pub ordered : IsStoreMap p part
  pub few : many ≤ 120
  pub long : length part ≡ many
  pub start_is : from lo part ≡ drop start part
  pub end_is : up_to cut part ≡ take end part
  pub end_inside : end ≤ many

module _ (p : ℕ) (notes : List Note) (lo cut : Bound) (run new : OpenRun) (row many start end : ℕ)
    (ordered : IsStoreMap p (ranging.objects_of notes))
    (g : IsGathered notes lo cut run) (here : IsBaseAt notes run.window.walked row)
    (b : IsPart p (part_of notes run.window.walked) lo cut many start end)
    (walked : new.window.walked ≡ run.window.walked + 1) (rows : HasRows (row_in notes) new.window)
    (left : new.left ≡ run.left + (end - start)) where
  abbrev so_far : ℕ
  so_far = run.window.walked

  more : last_of new.window.walked notes ≡ part_of notes so_far ++ last_of so_far notes
  more = ap (λ (n : ℕ). last_of n notes) walked ∙ last_more notes so_far here.0

  both : IsStoreMap p (part_of notes so_far ++ last_of so_far notes)
  both = subst (IsStoreMap p) (last_more notes so_far here.0)
      (map_second p (ranging.objects_of (drop (so_far + 1) notes)) (last_of (so_far + 1) notes)
      (subst (IsStoreMap p) (split_at notes (so_far + 1)) ordered))

  many_is : new.left ≡ length (within lo cut (last_of new.window.walked notes))
  many_is = let e = many_more p lo cut (part_of notes so_far) (last_of so_far notes) start end
      b.ordered b.start_is b.end_is
      (omega (arith, b.long, b.end_inside)) in
      let m = ap (λ (x : StoreMap). length (within lo cut x)) more in
      omega (arith, left, g.many, m, e)

  most_is : new.left ≤ 120 * new.window.walked
  most_is = omega (arith, left, g.most, walked, b.few, b.end_inside)

  -- It has the first object within the lower edge so far,
  pub gathered_here : start < many → new.at ≡ so_far → new.base ≡ row → new.next ≡ start
      → IsGathered notes lo cut new
  gathered_here some at_is base_is next_is = record {
    here = (omega (arith, at_is, here.0), base_is ∙ (here.1 ∙ ap (row_in notes) (sym at_is)));
    inside = omega (arith, walked, here.0);
    window = rows;
    start = rw (at_is, next_is) (ap (drop start) (last_more notes so_far here.0)
        ∙ (start_here p lo (part_of notes so_far) (last_of so_far notes) start both b.start_is
        (omega (arith, some, b.long)) ∙ ap (from lo) (sym more)));
    many = many_is;
    most = most_is;
  }

  -- or it has none.
  pub gathered_none : many ≤ start → new.at ≡ run.at → new.base ≡ run.base → new.next ≡ run.next
      → IsGathered notes lo cut new
  gathered_none none at_is base_is next_is = record {
    here = (omega (arith, at_is, g.here.0), base_is ∙ (g.here.1 ∙ ap (row_in notes) (sym at_is)));
    inside = omega (arith, walked, here.0);
    window = rows;
    start = rw (at_is, next_is)
        (g.start ∙ (sym (start_behind lo (part_of notes so_far) (last_of so_far notes) start
        b.start_is (omega (arith, none, b.long)))
        ∙ ap (from lo) (sym more)));
    many = many_is;
    most = most_is;
  }

-- No base was walked yet.
pub gathered_first : (notes : List Note) (lo cut : Bound) (run : OpenRun) → 0 < length notes
    → run.base ≡ row_in notes 0 → run.at ≡ 0
    → run.next ≡ length (get_or notes 0 no_note).objects → run.left ≡ 0 → run.window.walked ≡ 0
    → HasRows (row_in notes) run.window
    → IsGathered notes lo cut run
gathered_first notes lo cut run some base_is at_is next_is left walked rows = record {
  here = (omega (arith, at_is, some), base_is ∙ ap (row_in notes) (sym at_is));
  inside = omega (arith, walked);
  window = rows;
  start = rw (at_is, walked) (drop_base notes 0 run.next run.next some next_is (omega arith)
      ∙ none);
  many = rw (left, walked) refl;
  most = omega (arith, left);
}
  where
    none : drop (run.next - run.next) (last_of 0 notes) ≡ []
    none = let zero_is : run.next - run.next ≡ 0 = omega arith in rw zero_is refl

-- All bases were walked: the run is open, with what they have within both edges.
module _ (z : Sizes) (u : TreeView) (bases : Run) (lo cut : Bound) (run : OpenRun)
    (same : run.bases ≡ bases) (r : IsRemembered z u bases)
    (ordered : IsStoreMap z.keypos (all_of bases u)) (g : IsGathered (bases_of bases u) lo cut run)
    (all : length (bases_of bases u) ≤ run.window.walked) where
  whole : last_of run.window.walked (bases_of bases u) ≡ all_of bases u
  whole = last_all (bases_of bases u) run.window.walked all

  pub opened : IsOpenRun z u run
  opened = rw same record {
    remembered = r;
    here = g.here;
    enough = let e = ap length g.start in
        let d = length-drop run.next (last_of (run.at + 1) (bases_of bases u)) in
        let w = within_short lo cut (last_of run.window.walked (bases_of bases u)) in
        omega (arith, e, d, w, g.many);
    walked = omega (arith, g.here.0, all);
    inside = g.inside;
    window = g.window;
  }

  pub left_is : left_of u run ≡ objects_of (within lo cut (all_of bases u))
  left_is = rw same (ap objects_of (ap (take run.left) (g.start ∙ ap (from lo) whole)
      ∙ (ap (λ (n : ℕ). take n (from lo (all_of bases u)))
      (g.many ∙ ap (λ (x : StoreMap). length (within lo cut x)) whole)
      ∙ sym (within_taken z.keypos lo cut (all_of bases u) ordered))))

-- All of the base that is read was read, and an object is left: it is one of the bases on its
-- right.
module _ (z : Sizes) (u : TreeView) (run : OpenRun) (many : ℕ) (o : IsOpenRun z u run)
    (some : 0 < run.left) (is : IsManyAt (bases_of run.bases u) run.at many)
    (behind : many ≤ run.next) where
  abbrev notes : List Note
  notes = bases_of run.bases u

  pub some_right : 0 < run.at
  some_right = let long = last_long notes run.at o.here.0 in
      by run.at (λ zero_is. let none = ap (λ (n : ℕ). length (last_of n notes)) zero_is in
      omega (arith, o.enough, some, long, is, behind, none)) refl
    where
      by : (at : ℕ) → (at ≡ 0 → 0 < at) → at ≡ at → 0 < at
      by zero h e = h refl
      by (suc at) h e = omega arith

  pub gone_right : (new : OpenRun) → new.bases ≡ run.bases → new.at + 1 ≡ run.at
      → new.base ≡ row_in notes new.at → new.next ≡ run.next - many
      → new.left ≡ run.left → new.at < new.window.walked → new.window.walked ≤ length notes
      → HasRows (row_in notes) new.window
      → IsOpenRun z u new × (left_of u new ≡ left_of u run)
  gone_right new bases_is at_is base_is next_is left walked inside rows = let drops =
      drop_base notes run.at run.next many o.here.0 is behind in
      let here : drop new.next (last_of (new.at + 1) notes) ≡ drop run.next (last_of (run.at + 1) notes) = rw (next_is, at_is) (sym drops) in (
        rw bases_is record {
          remembered = o.remembered;
          here = (omega (arith, at_is, o.here.0), base_is);
          enough = let a = length-drop new.next (last_of (new.at + 1) notes) in
              let b = length-drop run.next (last_of (run.at + 1) notes) in
              let e = ap length here in omega (arith, a, b, e, left, o.enough);
          walked = walked;
          inside = inside;
          window = rows;
        },
        rw (bases_is, left) (ap (λ (x : StoreMap). objects_of (take run.left x)) here),
      )

-- The next object of the base that is read is the next one of the run.
module _ (z : Sizes) (u : TreeView) (run new : OpenRun) (o : IsOpenRun z u run)
    (there : IsNextThere (bases_of run.bases u) run)
    (bases_is : new.bases ≡ run.bases) (at_is : new.at ≡ run.at) (base_is : new.base ≡ run.base)
    (next_at : new.next ≡ run.next + 1)
    (left : new.left + 1 ≡ run.left) (window : new.window ≡ run.window) where
  abbrev next_notes : List Note
  next_notes = bases_of run.bases u

  pub read_on : IsOpenRun z u new
  read_on = rw (bases_is, window) record {
    remembered = o.remembered;
    here = (
      omega (arith, at_is, o.here.0),
      base_is
          ∙ (o.here.1 ∙ ap (row_in next_notes) (sym at_is)),
    );
    enough = rw at_is (omega (arith, next_at, left, o.enough));
    walked = omega (arith, at_is, o.walked);
    inside = o.inside;
    window = o.window;
  }

  pub next_read : left_of u run ≡ (pair (get_or (get_or next_notes run.at no_note).objects run.next
      [])).1 ∷ left_of u new
  next_read = let more : run.left ≡ suc new.left = omega (arith, left) in
      rw (bases_is, at_is, next_at, more) (ap (λ (x : StoreMap). objects_of (take (suc new.left) x))
      (next_is next_notes run.at run.next o.here.0 there.0))

-- The last object within an upper edge, where the bases on the right have none within it, and this
-- one has so many.
pub last_found : (notes : List Note) (hi : Bound) (at place : ℕ) → at < length notes
    → up_to hi (last_of at notes) ≡ []
    → up_to hi (part_of notes at) ≡ take place (part_of notes at) → 0 < place
    → place ≤ length (get_or notes at no_note).objects
    → last_object (up_to hi (ranging.objects_of notes)) ≡ Some
    (pair (get_or (get_or notes at no_note).objects (place - 1) [])).1
last_found notes hi at place l none is some inside = let objects =
    (get_or notes at no_note).objects in
    let suc_is : place ≡ suc (place - 1) = omega (arith, some) in
    let within_it : place - 1 < length objects = omega (arith, some, inside) in
    ap (λ (x : StoreMap). last_object (up_to hi x)) (split_at notes (at + 1)
    ∙ ap (λ (x : StoreMap). ranging.objects_of (drop (at + 1) notes) ++ x) (last_more notes at l))
    ∙ (last_in hi (ranging.objects_of (drop (at + 1) notes)) (part_of notes at) (last_of at notes)
    (place - 1) none
    (is ∙ ap (λ (n : ℕ). take n (part_of notes at)) suc_is)
    (omega (arith, within_it, part_long notes at))
    ∙ ap (λ (x : Pair). Some x.1) (get_or-map pair objects (place - 1) [] nothing within_it))

-- This one has none, either.
pub none_found : (notes : List Note) (hi : Bound) (at place : ℕ) → at < length notes
    → up_to hi (last_of at notes) ≡ []
    → up_to hi (part_of notes at) ≡ take place (part_of notes at) → place ≤ 0
    → up_to hi (last_of (at + 1) notes) ≡ []
none_found notes hi at place l none is few = ap (up_to hi) (last_more notes at l)
    ∙ none_more hi (part_of notes at) (last_of at notes) place none is few

-- No base has one.
pub none_at_all : (notes : List Note) (hi : Bound) (at : ℕ) → length notes ≤ at
    → up_to hi (last_of at notes) ≡ []
    → last_object (up_to hi (ranging.objects_of notes)) ≡ None
none_at_all notes hi at l none = ap last_object (ap (up_to hi) (sym (last_all notes at l)) ∙ none)

-- No object is left.
pub none_left : (u : TreeView) (run : OpenRun) → run.left ≡ 0 → left_of u run ≡ []
none_left u run e = rw e refl
