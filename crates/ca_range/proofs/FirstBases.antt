-- The first base that a snapshot goes to, by a walk.
use Rattle.std.proofs.Common.{◌≡◌, ℕ, zero, suc, ◌≤◌, List, [], ◌∷◌, map, take, sym, refl, ap, subst, inl, arith}
use Rattle.ca_base.specs.Finding.{IsReadable}
use Rattle.ca_base.specs.Putting.{first_note}
use Rattle.ca_model.specs.Edges.{Bound}
use Rattle.ca_model.specs.History.{History, state, AreEdits}
use Rattle.ca_model.specs.StoreMap.{IsStoreMap}
use Rattle.ca_model.proofs.Edits.{map_after}
use Rattle.ca_node.specs.declared.cursor.Cursor.{Cursor}
use Rattle.ca_node.specs.declared.cursor.Spot.{Spot}
use Rattle.ca_node.specs.Row.{count, pair}
use Rattle.ca_node.specs.States.{HasState}
use Rattle.ca_node.specs.Told.{MyTree, IsKnown}
use Rattle.ca_node.specs.TreeView.{Note, TreeView}
use Rattle.ca_node.specs.Walking.{IsAbove, IsHighRoute, IsWalked, walked}
use Rattle.ca_node.proofs.Parts.{part_map}
use Rattle.ca_rows.specs.declared.sizes.Sizes.{Sizes}
use Rattle.ca_runs.specs.Runs.{BeginsBefore}
use Rattle.ca_range.specs.Filling.{RemembersAll}
use Rattle.ca_range.specs.Looking.{IsFirst, IsGoneTo}
use Rattle.ca_range.proofs.Filled.{at_same}

-- The first edits of a history are edits, so each state of it is a map.
pub edits_take : (keypos n : ℕ) (h : History) → AreEdits keypos h → AreEdits keypos (take n h)
edits_take keypos zero h e = tt
edits_take keypos (suc n) [] e = tt
edits_take keypos (suc n) (x ∷ xs) e = (e.0, edits_take keypos n xs e.1)

pub state_is_map : (keypos at : ℕ) (h : History) → AreEdits keypos h → IsStoreMap keypos (state h at)
state_is_map keypos at h e = map_after keypos (take at h) [] (edits_take keypos at h e) tt

-- A base that has what a state has can be read.
pub ordered_by : (z : Sizes) (u : TreeView) (note : Note) → HasState z u note → IsKnown z u → IsStoreMap z.keypos (map pair note.objects)
ordered_by z u note has known = subst (IsStoreMap z.keypos) (sym has.has)
    (part_map z.keypos note.place.span (state u.seen has.at) (state_is_map z.keypos has.at u.seen known.edits))

-- A base that was gone to can be read.
pub readable_of : (z : Sizes) (u : TreeView) (cursor : Cursor) → IsGoneTo z u cursor → IsReadable z u cursor.base (first_note u.notes)
readable_of z u cursor g = record {
  noted = inl g.at.shown.noted;
  here = g.at.shown.here;
  is_base = g.at.shown.is_base;
  few = g.few;
  ordered = g.ordered;
}

-- A walk came to a base.
pub gone_to : (z : Sizes) (spot : Spot) (m m' : MyTree) (cursor : Cursor) → IsWalked z spot m cursor m' → z.leaf ≤ 120 → IsGoneTo z m'.0.upper cursor
gone_to z spot m m' cursor w most = let few = w.is_base.few in let u : TreeView = walked m.0.upper w.more w.note w.ways w.loads in
    let here : m'.0.upper ≡ u = ap (λ (x : MyTree). x.0.upper) w.now in
    subst (λ (x : TreeView). IsGoneTo z x cursor) (sym here) record {
      at = record {
        shown = record { noted = (0, refl); here = w.cursor_is.base; is_base = w.is_base };
        at = record { base = w.cursor_is.base; link = w.cursor_is.link; level = w.cursor_is.level; inside = w.inside };
        above = subst (λ (x : TreeView). IsAbove z x.ways cursor.link cursor.above) here w.cursor_is.above;
        high = subst (λ (x : TreeView). IsHighRoute z x.ways cursor.high w.note.place.span.high) here w.cursor_is.high;
      };
      few = omega arith;
      ordered = ordered_by z u w.note (subst (λ (x : TreeView). HasState z x w.note) here w.has) (subst (IsKnown z) here w.known);
    }

-- It is the first one, where its lower bound is one from which on all keys are.
pub is_first : (z : Sizes) (lo : Bound) (spot : Spot) (m m' : MyTree) (cursor : Cursor) → IsWalked z spot m cursor m' → z.leaf ≤ 120
    → ((w : IsWalked z spot m cursor m') → BeginsBefore w.note.place.span.low lo) → IsFirst z lo m'.0.upper cursor
is_first z lo spot m m' cursor w most before = let here = ap (λ (x : MyTree). first_note x.0.upper.notes) w.now in record {
  gone = gone_to z spot m m' cursor w most;
  before = subst (λ (n : Note). BeginsBefore n.place.span.low lo) (sym here) (before w);
  known = w.known;
}

pub has_first : (z : Sizes) (spot : Spot) (m m' : MyTree) (cursor : Cursor) → IsWalked z spot m cursor m'
    → HasState z m'.0.upper (first_note m'.0.upper.notes)
has_first z spot m m' cursor w = let here = ap (λ (x : MyTree). first_note x.0.upper.notes) w.now in
    subst (λ (n : Note). HasState z m'.0.upper n) (sym here) w.has

-- So it is where the same bases and routes are remembered.
pub gone_still : (z : Sizes) (u v : TreeView) (cursor : Cursor) → RemembersAll u v → IsGoneTo z u cursor → IsGoneTo z v cursor
gone_still z u v cursor all g = record {
  at = at_same z u v cursor all g.at;
  few = subst (λ (ns : List Note). count (first_note ns).its ≤ 120) (sym all.notes) g.few;
  ordered = subst (λ (ns : List Note). IsStoreMap z.keypos (map pair (first_note ns).objects)) (sym all.notes) g.ordered;
}

pub first_still : (z : Sizes) (lo : Bound) (u v : TreeView) (cursor : Cursor) → RemembersAll u v → (IsKnown z u → IsKnown z v) → IsFirst z lo u cursor
    → IsFirst z lo v cursor
first_still z lo u v cursor all known f = record {
  gone = gone_still z u v cursor all f.gone;
  before = subst (λ (ns : List Note). BeginsBefore (first_note ns).place.span.low lo) (sym all.notes) f.before;
  known = known f.known;
}
