-- A run of one base alone.
use Rattle.std.proofs.Common.{◌≡◌, ℕ, Bool, true, false, List, [], map, sym, refl, ap, ◌∙◌, subst, ⊎_elim, arith}
use denote.Ref.{Bor}
use denote.Param.Members.{Shared}
use Rattle.ca_base.specs.Finding.{IsReadable}
use Rattle.ca_base.specs.Putting.{first_note}
use Rattle.ca_model.specs.Edges.{Bound, IsLower, bound_of, from, objects_of, within}
use Rattle.ca_model.specs.History.{state}
use Rattle.ca_model.specs.Runs.{HasCounted}
use Rattle.ca_model.specs.StoreMap.{StoreMap}
use Rattle.ca_node.specs.declared.cursor.Cursor.{Cursor}
use Rattle.ca_node.specs.Laws.{in_nothing}
use Rattle.ca_node.specs.Links.{IsIn}
use Rattle.ca_node.specs.Row.{pair}
use Rattle.ca_node.specs.States.{HasState}
use Rattle.ca_node.specs.TreeView.{Note, TreeView}
use Rattle.ca_node.proofs.Looking.{in_more}
use Rattle.ca_rows.specs.declared.sizes.Sizes.{Sizes}
use Rattle.ca_range.specs.Edged.{reaches_to}
use Rattle.ca_range.specs.Looking.{HasLooked, IsFirst}
use Rattle.ca_range.specs.Snapshots.{HasRun, IsRemembered}
use Rattle.ca_range.specs.declared.looking.Looked.TheVariants as looked
use Rattle.ca_range.specs.declared.sought.Sought.{Sought}
use Rattle.ca_range.proofs.CountedObjects.{counted_fewer, up_to_all}
use Rattle.ca_range.proofs.Edges.{reaches_ends, reaches_lower}
use Rattle.ca_range.proofs.FirstBases.{readable_of}

-- A base that was gone to is one that is remembered.
remembered : (z : Sizes) (lo : Bound) (u : TreeView) (cursor : Cursor) (whole : Bool) → IsFirst z lo u cursor
    → IsRemembered z u (record { last = cursor.base; chained = false; whole = whole })
remembered z lo u cursor whole f = record {
  last_is = f.gone.at.shown.here;
  some = omega arith;
  few = let lo = f.gone.at.shown.is_base.some_row in let hi = f.gone.at.shown.is_base.in_range in omega arith;
  chained = λ e. let no : false ≡ true = e in absurd cc;
  readable = λ note i. ⊎_elim
      (λ (e : first_note u.notes ≡ note). subst (λ (n : Note). IsReadable z u n.row n) e
      (subst (λ (b : ℕ). IsReadable z u b (first_note u.notes)) (sym f.gone.at.shown.here) (readable_of z u cursor f.gone)))
      (λ (j : IsIn note []). absurd (in_nothing note [] refl j)) (in_more (first_note u.notes) note [] i);
}

module _ {F : Type 0} (g : Shared F (Bor (List ℕ) × Unit {0}) Bool) (sought : Sought F) where
  -- The run of one base, which has all up to the upper edge, or as many objects as are wanted.
  pub first_run : (z : Sizes) (u : TreeView) (cursor : Cursor) (whole : Bool) (key : List ℕ) → IsFirst z (bound_of sought.lo) u cursor
      → HasState z u (first_note u.notes) → HasLooked g sought 0 (looked.Done whole) key (first_note u.notes)
      → HasRun g sought z u (record { last = cursor.base; chained = false; whole = whole })
  first_run z u cursor true key f has l = record {
    remembered = remembered z (bound_of sought.lo) u cursor true f;
    at = has.at;
    later = has.since.0;
    seen = has.since.1;
    low = (first_note u.notes).place.span.low;
    before = f.before;
    shown = has.has;
    cut = bound_of sought.hi;
    inside = reaches_ends (bound_of sought.hi) (first_note u.notes).place.span.high l;
    cut_is = λ e. let no : true ≡ false = e in absurd cc;
    reaches = refl;
    needed = λ e. let no : false ≡ true = e in absurd cc;
    known = f.known;
  }
  first_run z u cursor false key f has l = record {
    remembered = remembered z (bound_of sought.lo) u cursor false f;
    at = has.at;
    later = has.since.0;
    seen = has.since.1;
    low = (first_note u.notes).place.span.low;
    before = f.before;
    shown = has.has;
    cut = (first_note u.notes).place.span.high;
    inside = λ k up. up;
    cut_is = λ e. refl;
    reaches = (
      subst (λ (b : Bound). IsLower b (bound_of sought.hi)) (sym l.0)
          (reaches_lower (bound_of sought.hi) key (ap (reaches_to (bound_of sought.hi)) (sym l.0) ∙ l.1)),
      l.2,
      subst (λ (m : StoreMap). HasCounted g sought.counts.now sought.want (objects_of m)) (sym all_within) counted,
    );
    needed = λ e. let no : false ≡ true = e in absurd cc;
    known = f.known;
  }
    where
      note : Note
      note = first_note u.notes

      all_within : within (bound_of sought.lo) note.place.span.high (map pair note.objects) ≡ from (bound_of sought.lo) (map pair note.objects)
      all_within = subst
          (λ (m : StoreMap). within (bound_of sought.lo) note.place.span.high m ≡ from (bound_of sought.lo) m) (sym has.has)
          (up_to_all (bound_of sought.lo) note.place.span.low note.place.span.high (state u.seen has.at))

      counted : HasCounted g sought.counts.now sought.want (objects_of (from (bound_of sought.lo) (map pair note.objects)))
      counted = let a = l.3.1 in let enough = l.3.2 in
          counted_fewer g sought.counts.now sought.want a.0 (objects_of (from (bound_of sought.lo) (map pair note.objects)))
          (let same = a.1 in omega arith) a.2
