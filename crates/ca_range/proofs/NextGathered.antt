-- The next base of a pass's own range.
use Rattle.std.proofs.Common.{◌≡◌, ℕ, suc, ◌+◌, ◌<◌, ◌≤◌, List, [], ◌∷◌, map, sym, refl, ap, ◌∙◌, subst, ⊎_elim, arith}
use Rattle.std.specs.Prelude.{Bool}
use denote.Ref.{Bor}
use denote.Param.Members.{Shared}
use Rattle.ca_base.specs.Putting.{first_note}
use Rattle.ca_model.specs.Edges.{Excluded, bound_of, from, objects_of}
use Rattle.ca_model.specs.Runs.{HasCounted}
use Rattle.ca_node.specs.Copies.{copied}
use Rattle.ca_node.specs.declared.cursor.Cursor.{Cursor}
use Rattle.ca_node.specs.declared.cursor.Spot.TheVariants as spot
use Rattle.ca_node.specs.Links.{IsIn}
use Rattle.ca_node.specs.Notes.{IsBaseNote}
use Rattle.ca_node.specs.Place.{HasKey}
use Rattle.ca_node.specs.Ranging.{AreChained}
use Rattle.ca_node.specs.Ranging as ranging
use Rattle.ca_node.specs.Row.{IsMarkedBy, mark_back, mark_bound, pair}
use Rattle.ca_node.specs.Told.{MyTree, IsKnown}
use Rattle.ca_node.specs.TreeView.{Border, Note, TreeView}
use Rattle.ca_node.specs.Walking.{IsWalked, walked}
use Rattle.ca_node.proofs.Looking.{in_more}
use Rattle.ca_rows.specs.declared.sizes.Sizes.{Sizes}
use Rattle.ca_model.specs.StoreMap.{IsStoreMap}
use Rattle.ca_range.specs.Ahead.{IsAtLast}
use Rattle.ca_range.specs.Farther.{reach}
use Rattle.ca_range.specs.Filling.{RemembersAll}
use Rattle.ca_range.specs.Gathering.{HasPassed, IsBetween, IsGathering, IsGatheredNext, IsMarking}
use Rattle.ca_range.specs.Looking.{HasAdded, IsGoneTo}
use Rattle.ca_range.specs.Marked.{IsMarkedNow, IsNextTo, second_note}
use Rattle.ca_range.specs.Snapshots.{WasNeeded}
use Rattle.ca_range.specs.declared.copying.Mark.{Mark}
use Rattle.ca_range.specs.declared.own.Gathered.{Gathered}
use Rattle.ca_range.specs.declared.own.Own.{Own}
use Rattle.ca_range.specs.declared.sought.Sought.{Sought}
use Rattle.ca_range.proofs.CountedObjects.{from_both}
use Rattle.ca_range.proofs.Counts.{counted_both}
use Rattle.ca_range.proofs.Filled.{at_copy}
use Rattle.ca_range.proofs.FirstBases.{gone_still, gone_to}
use Rattle.ca_range.proofs.Ranking.{key_farther}
use Rattle.ca_range.proofs.Stepping.{known_same}

-- A range is known still that a pass marked a base for.
pub marking_on : (z : Sizes) (u v : TreeView) (own : Own) → v.ranges.own ≡ u.ranges.own → v.number ≡ u.number
    → ((border : Border) → IsIn border u.ranges.borders → IsIn border v.ranges.borders) → IsMarking z u own → IsMarking z v own
marking_on z u v own same number borders k = record {
  begun = k.begun;
  border = k.border;
  is = same ∙ k.is;
  number_is = k.number_is;
  small = k.small;
  noted = borders k.border k.noted;
  row_is = k.row_is;
  inside = k.inside;
  owner_is = k.owner_is ∙ sym number;
}

module _ {F : Type 0} (g : Shared F (Bor (List ℕ) × Unit {0}) Bool) (sought : Sought F) where
  -- It was needed still.
  pub needed_on : (u v : TreeView) (n : ℕ) → v.number ≡ u.number → ((note : Note) → IsIn note u.notes → IsIn note v.notes) → WasNeeded g sought u n
      → WasNeeded g sought v n
  needed_on u v n number notes w = record {
    first = w.first;
    noted = notes w.first w.noted;
    marked = (subst (λ (p : ℕ). IsMarkedBy w.first.its p n) (sym number) w.marked.0, w.marked.1);
    short = w.short;
  }

  pub between_on : (z : Sizes) (u v : TreeView) (own : Own) → v.ranges.own ≡ u.ranges.own → v.number ≡ u.number
      → ((border : Border) → IsIn border u.ranges.borders → IsIn border v.ranges.borders) → ((note : Note) → IsIn note u.notes → IsIn note v.notes)
      → IsBetween g sought z u own → IsBetween g sought z v own
  between_on z u v own same number borders notes b = record {
    marking = record {
      begun = b.marking.begun;
      border = b.marking.border;
      is = same ∙ b.marking.is;
      number_is = b.marking.number_is;
      small = b.marking.small;
      noted = borders b.marking.border b.marking.noted;
      row_is = b.marking.row_is;
      inside = b.marking.inside;
      owner_is = b.marking.owner_is ∙ sym number;
    };
    edge = b.edge;
    top = b.top;
    needed = needed_on u v own.number number notes b.needed;
  }

  -- With the last base's objects so many were counted.
  passed_with : (z : Sizes) (u : TreeView) (last : Gathered) (now : ℕ) → IsGathering g sought z u last
      → HasAdded g sought last.counted now (first_note u.notes) → HasPassed g sought u last.left.base now
  passed_with z u last now k a = record {
    bases = first_note u.notes ∷ k.passed.bases;
    chained = (k.gone.at.shown.here, subst (λ (n : ℕ). 0 < n) k.gone.at.shown.here k.gone.at.shown.is_base.some_row, k.passed.chained);
    noted = λ note i. ⊎_elim (λ (e : first_note u.notes ≡ note). subst (λ (y : Note). IsIn y u.notes) e k.gone.at.shown.noted)
        (λ (j : IsIn note k.passed.bases). k.passed.noted note j) (in_more (first_note u.notes) note k.passed.bases i);
    counted_so = subst (λ (n : ℕ). HasCounted g sought.counts.now n
        (objects_of (from (bound_of sought.lo) (ranging.objects_of (first_note u.notes ∷ k.passed.bases))))) (sym a.1)
        (subst (HasCounted g sought.counts.now (last.counted + a.0))
        (sym (from_both (bound_of sought.lo) (ranging.objects_of k.passed.bases) (map pair (first_note u.notes).objects)))
        (counted_both g sought.counts.now last.counted a.0 (objects_of (from (bound_of sought.lo) (ranging.objects_of k.passed.bases)))
        (objects_of (from (bound_of sought.lo) (map pair (first_note u.notes).objects))) k.passed.counted_so a.2));
  }

  -- A walk to where it ends came to the next base.
  pub gathered_next : (z : Sizes) (bytes : Bor (List ℕ)) (m m' : MyTree) (last : Gathered) (now : ℕ) (next : Cursor) → IsWalked z (spot.At bytes) m next m'
      → z.leaf ≤ 120 → IsGathering g sought z m.0.upper last
      → (first_note m.0.upper.notes).place.span.high ≡ Excluded bytes.now
      → HasAdded g sought last.counted now (first_note m.0.upper.notes)
      → IsGatheredNext g sought z m'.0.upper (record last { counted = now }) next × (reach m.0.upper < reach m'.0.upper)
  gathered_next z bytes m m' last now next w leaf k ends a = let u = m.0.upper in let v = walked u w.more w.note w.ways w.loads in
      let here : m'.0.upper ≡ v = ap (λ (x : MyTree). x.0.upper) w.now in let gone = gone_to z (spot.At bytes) m m' next w leaf in
      let p = passed_with z u last now k a in
      let has : HasKey (first_note m'.0.upper.notes).place.span bytes.now =
      subst (λ (x : TreeView). HasKey (first_note x.notes).place.span bytes.now) (sym here) w.sought in (
        subst (λ (x : TreeView). IsGatheredNext g sought z x (record last { counted = now }) next) (sym here) record {
          between = between_on z u v last.own refl refl (λ border i. i) (λ note i. (suc i.0, i.1)) k.between;
          gone = subst (λ (x : TreeView). IsGoneTo z x next) here gone;
          left_shown = record {
            noted = (suc k.gone.at.shown.noted.0, k.gone.at.shown.noted.1);
            here = k.gone.at.shown.here;
            is_base = k.gone.at.shown.is_base;
          };
          left_marked = k.marked;
          left_bound = k.bound;
          key = bytes.now;
          ends = ends;
          has = w.sought;
          passed = record {
            bases = p.bases;
            chained = p.chained;
            noted = λ note i. let j = p.noted note i in (suc j.0, j.1);
            counted_so = p.counted_so;
          };
          known = subst (IsKnown z) here w.known;
        },
        key_farther z last.left next u m'.0.upper bytes.now k.gone.at gone.at ends has,
      )

  -- So it is after loads.
  pub next_on : (z : Sizes) (u v : TreeView) (last : Gathered) (next : Cursor) → RemembersAll u v → v.ranges.own ≡ u.ranges.own → v.number ≡ u.number
      → ((border : Border) → IsIn border u.ranges.borders → IsIn border v.ranges.borders) → (IsKnown z u → IsKnown z v)
      → IsGatheredNext g sought z u last next → IsGatheredNext g sought z v last next
  next_on z u v last next all own number borders known k = record {
    between = between_on z u v last.own own number borders (λ note i. subst (λ (ns : List Note). IsIn note ns) (sym all.notes) i) k.between;
    gone = gone_still z u v next all k.gone;
    left_shown = record {
      noted = subst (λ (ns : List Note). IsIn (second_note ns) ns) (sym all.notes) k.left_shown.noted;
      here = ap (λ (ns : List Note). (second_note ns).row) all.notes ∙ k.left_shown.here;
      is_base = subst (λ (ns : List Note). IsBaseNote z (second_note ns)) (sym all.notes) k.left_shown.is_base;
    };
    left_marked = subst (λ (p : List Note × ℕ). IsMarkedBy (second_note p.0).its p.1 last.own.number) (λ i. (sym all.notes i, sym number i)) k.left_marked;
    left_bound = ap (λ (ns : List Note). mark_bound (second_note ns).its) all.notes ∙ k.left_bound;
    key = k.key;
    ends = ap (λ (ns : List Note). (second_note ns).place.span.high) all.notes ∙ k.ends;
    has = subst (λ (ns : List Note). HasKey (first_note ns).place.span k.key) (sym all.notes) k.has;
    passed = record {
      bases = k.passed.bases;
      chained = k.passed.chained;
      noted = λ note i. subst (λ (ns : List Note). IsIn note ns) (sym all.notes) (k.passed.noted note i);
      counted_so = k.passed.counted_so;
    };
    known = known k.known;
  }

  -- It may be marked,
  pub is_next : (z : Sizes) (u : TreeView) (last : Gathered) (next : Cursor) (mark : Mark) → IsGatheredNext g sought z u last next
      → mark.range.owner ≡ u.number → mark.range.number ≡ last.own.number → mark.back ≡ last.left.base → mark.bound ≡ mark_bound (second_note u.notes).its
      → IsNextTo u mark (second_note u.notes) (first_note u.notes)
  is_next z u last next mark k owner number back bound = record {
    shown = k.left_shown.noted;
    marked = (k.left_marked.0, k.left_marked.1 ∙ sym owner, k.left_marked.2 ∙ sym number);
    bound_is = bound;
    back_is = back ∙ sym k.left_shown.here;
    key = k.key;
    ends = k.ends;
    has = k.has;
  }

  -- and then it is the last one.
  pub gathered_on : (z : Sizes) (u v : TreeView) (last : Gathered) (next : Cursor) (mark : Mark) (row : ℕ) → IsGatheredNext g sought z u last next
      → mark.range.owner ≡ u.number → mark.range.number ≡ last.own.number → mark.back ≡ last.left.base → mark.bound ≡ mark_bound (second_note u.notes).its
      → z.leaf ≤ 120 → IsMarkedNow z (first_note u.notes) mark row u v
      → IsGathering g sought z v (record last { left = record next { base = row } })
  gathered_on z u v last next mark row k owner number back bound leaf m = let at = at_copy z mark u v next row k.gone.at m in
      subst (λ (x : TreeView). IsGathering g sought z x (record last { left = record next { base = row } })) (sym m.now) record {
        between = between_on z u (copied [] u.ranges row m.copy u) last.own refl refl (λ border i. i) (λ note i. (suc i.0, i.1)) k.between;
        gone = record {
          at = subst (λ (x : TreeView). IsAtLast z x (record next { base = row })) m.now at.at;
          few = let few = m.is_base.few in omega arith;
          ordered = subst (λ (n : Note). IsStoreMap z.keypos (map pair n.objects)) (sym m.old_is) k.gone.ordered;
        };
        marked = (m.marked.0, m.marked.1 ∙ owner, m.marked.2 ∙ number);
        bound = m.bound_is ∙ (bound ∙ k.left_bound);
        passed = record {
          bases = k.passed.bases;
          chained = subst (λ (n : ℕ). AreChained n k.passed.bases) (sym (m.back_is ∙ back)) k.passed.chained;
          noted = λ note i. let j = k.passed.noted note i in (suc j.0, j.1);
          counted_so = k.passed.counted_so;
        };
        known = known_same z u (copied [] u.ranges row m.copy u) refl refl refl k.known;
      }

  -- It was marked by another pass for the range.
  pub gathered_so : (z : Sizes) (u : TreeView) (last : Gathered) (next : Cursor) → IsGatheredNext g sought z u last next
      → IsMarkedBy (first_note u.notes).its u.number last.own.number → mark_back (first_note u.notes).its ≡ last.left.base
      → mark_bound (first_note u.notes).its ≡ last.own.border → IsGathering g sought z u (record last { left = next })
  gathered_so z u last next k marked back bound = record {
    between = k.between;
    gone = k.gone;
    marked = marked;
    bound = bound;
    passed = record {
      bases = k.passed.bases;
      chained = subst (λ (n : ℕ). AreChained n k.passed.bases) (sym back) k.passed.chained;
      noted = k.passed.noted;
      counted_so = k.passed.counted_so;
    };
    known = k.known;
  }
