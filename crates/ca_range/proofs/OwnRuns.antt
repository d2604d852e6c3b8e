-- The run of a pass's own range, once it is shown.
use Rattle.std.proofs.Common.{◌≡◌, ℕ, suc, ◌<◌, ◌≤◌, ◌++◌, Bool, true, false, List, [], ◌∷◌, length, map, sym, refl, ap, ◌∙◌, subst, inr, ⊎_elim, arith}
use denote.Ref.{Bor}
use denote.Param.Members.{Shared}
use mathlib.Core.Option.{some}
use lib.ListN.{get_elem?}
use Rattle.ca_base.specs.Finding.{IsReadable}
use Rattle.ca_base.specs.Putting.{first_note}
use Rattle.ca_model.specs.Edges.{Bound, bound_of, is_up_to, objects_of, within}
use Rattle.ca_model.specs.History.{AreEdits, History, state}
use Rattle.ca_model.specs.Runs.{Reaches}
use Rattle.ca_model.specs.StoreMap.{AreAbove, IsStoreMap, StoreMap}
use Rattle.ca_node.specs.Laws.{in_nothing}
use Rattle.ca_node.specs.Links.{IsIn}
use Rattle.ca_node.specs.Notes.{IsBaseNote}
use Rattle.ca_node.specs.OwnRanges.{IsRunSeen}
use Rattle.ca_node.specs.Ranging.{AreChained}
use Rattle.ca_node.specs.Ranging as ranging
use Rattle.ca_node.specs.Row.{mark_back, pair}
use Rattle.ca_node.specs.Told.{MyTree, IsKnown}
use Rattle.ca_node.specs.TreeView.{Begun, Note}
use Rattle.ca_node.proofs.Looking.{in_more}
use Rattle.ca_node.proofs.Parts.{part_map}
use Rattle.ca_rows.specs.declared.sizes.Sizes.{Sizes}
use Rattle.ca_runs.specs.Runs.{BeginsBefore}
use Rattle.ca_range.specs.Edged.{EndsBefore}
use Rattle.ca_range.specs.Snapshots.{HasRun, WasNeeded}
use Rattle.ca_range.specs.declared.sought.Sought.{Sought}
use Rattle.ca_range.proofs.FirstBases.{state_is_map}

-- Parts of a map are maps.
above_first : (k : List ℕ) (xs ys : StoreMap) → AreAbove k (xs ++ ys) → AreAbove k xs
above_first k [] ys a = tt
above_first k (x ∷ xs) ys a = (a.0, above_first k xs ys a.1)

map_first : (p : ℕ) (xs ys : StoreMap) → IsStoreMap p (xs ++ ys) → IsStoreMap p xs
map_first p [] ys m = tt
map_first p (x ∷ xs) ys m = (m.0, above_first x.0 xs ys m.1, map_first p xs ys m.2)

pub map_second : (p : ℕ) (xs ys : StoreMap) → IsStoreMap p (xs ++ ys) → IsStoreMap p ys
map_second p [] ys m = m
map_second p (x ∷ xs) ys m = map_second p xs ys m.2

-- The objects of each base of a run that has a map are one.
each_map : (p : ℕ) (note : Note) (notes : List Note) → IsStoreMap p (ranging.objects_of notes) → IsIn note notes → IsStoreMap p (map pair note.objects)
each_map p note [] m i = absurd (in_nothing note [] refl i)
each_map p note (x ∷ notes) m i = ⊎_elim
    (λ (e : x ≡ note). subst (λ (n : Note). IsStoreMap p (map pair n.objects)) e
    (map_second p (ranging.objects_of notes) (map pair x.objects) m))
    (λ (j : IsIn note notes). each_map p note notes (map_first p (ranging.objects_of notes) (map pair x.objects) m) j) (in_more x note notes i)

-- A chain that ends with a row has a base.
some_chained : (last : ℕ) (notes : List Note) → 0 < last → AreChained last notes → (0 < length notes) × ((first_note notes).row ≡ last)
some_chained last [] l c = absurd (omega arith)
some_chained last (note ∷ notes) l c = (omega arith, c.0)

first_ends : (notes : List Note) (high : Bound) → 0 < length notes → ((note : Note) → get_elem? notes 0 ≡ some note → note.place.span.high ≡ high)
    → (first_note notes).place.span.high ≡ high
first_ends [] high l e = absurd (omega arith)
first_ends (note ∷ notes) high l e = e note refl

module _ {F : Type 0} (g : Shared F (Bor (List ℕ) × Unit {0}) Bool) (sought : Sought F) where
  -- It has what a state since the pin has, from the lower edge on, up to where its last base ends; and it can be read.
  module _ (z : Sizes) (m m' : MyTree) (begun : Begun) (more : History) (last : ℕ) (run : List Note) (s : IsRunSeen m more begun last run) (some_last : 0 < last)
      (is : m'.0.upper.ranges.run ≡ run) (seen : m'.0.upper.seen ≡ m.0.upper.seen ++ more) (since : m'.0.upper.since ≡ m.0.upper.since)
      (sizes : m.0.sizes ≡ z) (rows : 0 < z.rows) (leaf : z.leaf ≤ 120) (known : IsKnown z m'.0.upper) where
    chain : (0 < length run) × ((first_note run).row ≡ last)
    chain = some_chained last run some_last s.shown.chained

    pub run_ends : (first_note run).place.span.high ≡ s.shown.high
    run_ends = first_ends run s.shown.high chain.0 s.shown.ends

    state_known : IsStoreMap z.keypos (state (m.0.upper.seen ++ more) s.shown.at)
    state_known = state_is_map z.keypos s.shown.at (m.0.upper.seen ++ more)
        (subst (λ (h : History). AreEdits z.keypos h) seen known.edits)

    run_map : IsStoreMap z.keypos (ranging.objects_of run)
    run_map = subst (IsStoreMap z.keypos) (sym s.shown.shown)
        (part_map z.keypos (record { low = s.shown.low; high = s.shown.high }) (state (m.0.upper.seen ++ more) s.shown.at) state_known)

    readable : (note : Note) → IsIn note run → IsReadable z m'.0.upper note.row note
    readable note i = let base : IsBaseNote z note = subst (λ (y : Sizes). IsBaseNote y note) sizes
        (s.bases (subst (λ (y : Sizes). 0 < y.rows) (sym sizes) rows) note i) in let few = base.few in record {
          noted = inr (subst (λ (ns : List Note). IsIn note ns) (sym is) i);
          here = refl;
          is_base = base;
          few = omega arith;
          ordered = each_map z.keypos note run run_map i;
        }

    pub own_run : (whole : Bool) (cut : Bound) → begun.edge ≡ bound_of sought.lo → EndsBefore cut s.shown.high
        → (whole ≡ false → cut ≡ s.shown.high)
        → Reaches g sought.counts.now (bound_of sought.hi) cut sought.want (objects_of (within (bound_of sought.lo) cut (ranging.objects_of run))) whole
        → (number : ℕ) → WasNeeded g sought m'.0.upper number
        → HasRun g sought z m'.0.upper (record { last = last; chained = true; whole = whole })
    own_run whole cut edge inside cut_is reaches number needed = record {
      remembered = record {
        last_is = ap (λ (ns : List Note). (first_note ns).row) is ∙ chain.1;
        some = subst (λ (ns : List Note). 0 < length ns) (sym is) chain.0;
        few = subst (λ (ns : List Note). length ns ≤ z.rows) (sym is) (subst (λ (y : Sizes). length run ≤ y.rows) sizes
            (s.few (subst (λ (y : Sizes). 0 < y.rows) (sym sizes) rows)));
        chained = λ e. subst (AreChained last) (sym is) s.shown.chained;
        readable = λ note i. readable note (subst (λ (ns : List Note). IsIn note ns) is i);
      };
      at = s.shown.at;
      later = subst (λ (h : History). length h ≤ s.shown.at) (sym since) s.shown.later;
      seen = subst (λ (h : History). s.shown.at ≤ length h) (sym seen) s.shown.seen;
      low = s.shown.low;
      before = subst (BeginsBefore s.shown.low) edge s.shown.before;
      shown = ap ranging.objects_of is ∙ (s.shown.shown ∙ (λ i. within s.shown.low (sym ends_now i) (state (sym seen i) s.shown.at)));
      cut = cut;
      inside = λ k up. subst (λ (b : Bound). is_up_to b k ≡ true) (sym ends_now) (inside k up);
      cut_is = λ e. cut_is e ∙ sym ends_now;
      reaches = subst (λ (ns : List Note). Reaches g sought.counts.now (bound_of sought.hi) cut sought.want
          (objects_of (within (bound_of sought.lo) cut (ranging.objects_of ns))) whole) (sym is) reaches;
      needed = λ e. (number, needed);
      known = known;
    }
      where
        ends_now : (first_note m'.0.upper.ranges.run).place.span.high ≡ s.shown.high
        ends_now = ap (λ (ns : List Note). (first_note ns).place.span.high) is ∙ run_ends

-- Two chains that end with the same row have the same objects, where the bases of the one have the words that those of the other one had.
pub same_runs : (shown run bases : List Note) (last : ℕ) → AreChained last run → AreChained last bases
    → ((note : Note) → IsIn note bases → IsIn note shown)
    → ((note old : Note) → IsIn note run → IsIn old shown → old.row ≡ note.row → (note.its ≡ old.its) × (note.objects ≡ old.objects))
    → ranging.objects_of run ≡ ranging.objects_of bases
same_runs shown [] [] last c d noted alike = refl
same_runs shown [] (b ∷ bases) last c d noted alike = let more = d.1 in absurd (omega arith)
same_runs shown (r ∷ run) [] last c d noted alike = let more = c.1 in absurd (omega arith)
same_runs shown (r ∷ run) (b ∷ bases) last c d noted alike = let one = alike r b (0, refl) (noted b (0, refl)) (d.0 ∙ sym c.0) in
    let rest = same_runs shown run bases (mark_back r.its) c.2 (subst (λ (its : List ℕ). AreChained (mark_back its) bases) (sym one.0) d.2)
    (λ note i. noted note (suc i.0, i.1)) (λ note old i j e. alike note old (suc i.0, i.1) j e) in
    (λ i. rest i ++ map pair (one.1 i))
