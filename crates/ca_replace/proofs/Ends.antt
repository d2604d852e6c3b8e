-- What a map has up to an edge, by a base that has all keys right below it.
use Rattle.std.proofs.Common.{◌≡◌, ◌≢◌, ℕ, zero, suc, ◌<◌, ◌≤◌, Bool, true, false, List, [], ◌∷◌, ◌++◌, if◌then◌else◌, length, Option, None, Some, refl, sym, ap, subst, inl, ◌∙◌, arith}
use Rattle.std.specs.Prelude.{cond, map, not}
use Rattle.std.specs.declared.cmp.Ordering.{Ordering}
use Rattle.std.specs.declared.cmp.Ordering.TheVariants.{Less, Equal, Greater}
use Rattle.std.specs.Ordering.{is_lt, is_gt, ordering_reverse}
use Rattle.std.specs.Cmp.Lexicographic.{nat_list_cmp_total}
use Rattle.std.proofs.lemmas.List.Elements.{filter-append}
use Rattle.ca_model.specs.Edges.{Bound, Unbounded, Included, Excluded, bound_of, from, is_from, is_up_to, last_object, up_to, within}
use Rattle.ca_model.specs.declared.edge.Edge.{Edge}
use Rattle.ca_model.specs.declared.edge.Edge.TheVariants as edge
use Rattle.ca_model.specs.StoreMap.{AreAbove, IsStoreMap, StoreMap, bytes_cmp}
use Rattle.ca_model.proofs.Places.{bytes_chain, bytes_flip}
use Rattle.ca_model.proofs.Walking.{all_pairs}
use Rattle.ca_node.proofs.Parts.{greater_within, is_less, filter_through}
use Rattle.ca_base.specs.Finding.{IsReadable}
use Rattle.ca_base.specs.Putting.{first_note}
use Rattle.ca_model.specs.History.{state}
use Rattle.ca_node.proofs.Parts.{part_map}
use Rattle.ca_node.specs.declared.cursor.Cursor.{Cursor}
use Rattle.ca_node.specs.declared.cursor.Spot.{Spot}
use Rattle.ca_node.specs.Laws.{in_nothing}
use Rattle.ca_node.specs.Links.{IsIn}
use Rattle.ca_node.specs.Place.{Span}
use Rattle.ca_node.specs.Row.{pair}
use Rattle.ca_node.specs.States.{HasState, IsReadSince, IsUnanswered}
use Rattle.ca_node.specs.Told.{IsKnown, MyTree}
use Rattle.ca_node.specs.TreeView.{Note, TreeView, Way}
use Rattle.ca_node.specs.Walking.{IsHighRoute, IsLowRoute, IsSought, IsWalked, walked}
use Rattle.ca_range.specs.Snapshots.{IsRemembered}
use Rattle.ca_replace.specs.Acts.{acts_of}
use Rattle.ca_replace.proofs.Meeting.{further_on}
use Rattle.ca_replace.proofs.Showing.{walked_further}
use Rattle.ca_range.specs.Edged.{EndsBefore}
use Rattle.ca_range.proofs.FirstBases.{state_is_map}
use Rattle.ca_replace.specs.Within.{HasLearnt, below_event, spot_at}
use Rattle.ca_replace.proofs.Runs.{by_last, in_up_to}
use Rattle.ca_rows.specs.declared.sizes.Sizes.{Sizes}

-- A key that isn't above another one is less than what that one is less than, and so is one that is
-- less than another one, of what that one isn't above.
pub not_above : (k c h : List ℕ) → not (is_gt (bytes_cmp k c)) ≡ true → bytes_cmp c h ≡ Less
    → bytes_cmp k h ≡ Less
not_above k c h low less = by (bytes_cmp k c) refl low
  where
    by : (o : Ordering) → bytes_cmp k c ≡ o → not (is_gt o) ≡ true → bytes_cmp k h ≡ Less
    by Less is low = bytes_chain k c h is less
    by Equal is low = nat_list_cmp_total.congr k c h is ∙ less
    by Greater is low = cc

pub below_it : (k c h : List ℕ) → bytes_cmp k c ≡ Less → bytes_cmp c h ≢ Greater
    → bytes_cmp k h ≡ Less
below_it k c h less low = by (bytes_cmp c h) refl
  where
    by : (o : Ordering) → bytes_cmp c h ≡ o → bytes_cmp k h ≡ Less
    by Less is = bytes_chain k c h less is
    by Equal is = bytes_flip k h ∙ ap ordering_reverse (sym (nat_list_cmp_total.congr c h k is))
        ∙ sym (bytes_flip k c) ∙ less
    by Greater is = absurd (low is)

-- A base that a walk came to, which looked for the one that has the keys right up to an edge, has
-- them all from its lower bound on.
ends_at : (hi : Edge) (low : Bound) (h : List ℕ)
    → IsSought (spot_at hi) (record { low = low; high = Excluded h }) → EndsBefore (bound_of hi)
    (Excluded h)
ends_at edge.Open low h s = λ key i. cc
ends_at (edge.At k) low h s = by (is_from low k.now) s
  where
    by : (b : Bool) → (if b then is_lt (bytes_cmp k.now h) else false) ≡ true
        → EndsBefore (Included k.now) (Excluded h)
    by true e = λ key i. rw (not_above key k.now h i (is_less (bytes_cmp k.now h) e)) refl
    by false e = cc
ends_at (edge.Past k) low h s = λ key i. rw (below_it key k.now h (is_less (bytes_cmp key k.now) i)
    s.1) refl

pub walked_ends : (z : Sizes) (ways : List Way) (route : Option ℕ) (hi : Edge) (span : Span)
    → IsHighRoute z ways route span.high
    → IsSought (spot_at hi) span → EndsBefore (bound_of hi) span.high
walked_ends z ways None hi span high s = λ key i. subst (λ (b : Bound). is_up_to b key ≡ true)
    (sym high) refl
walked_ends z ways (Some route) hi span high s = subst (λ (b : Bound). EndsBefore (bound_of hi) b)
    (sym high.3)
    (ends_at hi span.low _ (subst (λ (b : Bound). IsSought (spot_at hi)
    (record { low = span.low; high = b })) high.3 s))

-- Behind a key within a lower bound all keys are within it.
all_from : (low : Bound) (k : List ℕ) (m : StoreMap) → is_from low k ≡ true → AreAbove k m
    → from low m ≡ m
all_from low k [] is a = refl
all_from low k (q ∷ m) is a = let far : not (is_lt (bytes_cmp q.0 k)) ≡ true =
    rw (bytes_flip q.0 k ∙ ap ordering_reverse a.0) refl in
    rw (greater_within low q.0 k far is) (ap (λ x. q ∷ x) (all_from low k m is a.1))

-- What a map has within a lower bound is its end.
from_ends : (keypos : ℕ) (low : Bound) (m : StoreMap) → IsStoreMap keypos m → (rest : StoreMap)
    × (m ≡ rest ++ from low m)
from_ends keypos low [] t = ([], refl)
from_ends keypos low (q ∷ m) t = by (is_from low q.0) refl (from_ends keypos low m t.2)
  where
    by : (b : Bool) → is_from low q.0 ≡ b → ((rest : StoreMap) × (m ≡ rest ++ from low m))
        → (rest : StoreMap) × (q ∷ m ≡ rest ++ (if b then q ∷ from low m else from low m))
    by true is rest = ([], ap (λ x. q ∷ x) (sym (all_from low q.0 m is t.1)))
    by false is rest = (q ∷ rest.0, ap (λ x. q ∷ x) rest.1)

-- The last object of what ends with something is that one's last.
last_behind : (a b : StoreMap) → 0 < length b → last_object (a ++ b) ≡ last_object b
last_behind [] b some = refl
last_behind (q ∷ []) [] some = absurd (omega (arith, some))
last_behind (q ∷ []) (x ∷ b) some = refl
last_behind (q ∷ r ∷ a) b some = last_behind (r ∷ a) b some

some_last : (a : StoreMap) (object : List ℕ) → last_object a ≡ Some object → 0 < length a
some_last [] object e = cc
some_last (q ∷ a) object e = omega arith

module _ (low high hi : Bound) (m : StoreMap) (ends : EndsBefore hi high) where
  same_ends : up_to hi (within low high m) ≡ up_to hi (from low m)
  same_ends = filter_through (in_up_to high) (in_up_to hi) (λ q. ends q.0) (from low m)

  -- Where a base that goes up to an upper edge has an object within it, the last one is the last
  -- one of all,
  pub last_part : (keypos : ℕ) (object : List ℕ) → IsStoreMap keypos m
      → last_object (up_to hi (within low high m)) ≡ Some object
      → last_object (up_to hi m) ≡ Some object
  last_part keypos object t e = let rest = from_ends keypos low m t in
      let own = ap last_object (sym same_ends) ∙ e in
      ap last_object (ap (up_to hi) rest.1 ∙ filter-append (in_up_to hi) rest.0 (from low m))
      ∙ (last_behind (up_to hi rest.0) (up_to hi (from low m))
      (some_last (up_to hi (from low m)) object own) ∙ own)

  -- and where it is the first base, it has all that there is up to there.
  pub last_first : low ≡ Unbounded → up_to hi (within low high m) ≡ up_to hi m
  last_first first = same_ends ∙ ap (up_to hi) (subst (λ (b : Bound). from b m ≡ m) (sym first)
      (all_pairs m))

in_one : (a x : Note) → IsIn x (a ∷ []) → a ≡ x
in_one a x (zero, e) = cc
in_one a x (suc k, e) = absurd (in_nothing x [] refl (k, e))

-- The base that a walk came to can be read as a run of its own.
pub walked_remembered : (z : Sizes) (spot : Spot) (m m' : MyTree) (cursor : Cursor)
    → IsWalked z spot m cursor m' → z.leaf ≤ 120
    → IsRemembered z m'.0.upper (record { last = cursor.base; chained = false; whole = false })
walked_remembered z spot m m' cursor w most = let u : TreeView = walked m.0.upper w.more w.note
    w.ways w.loads in
    let here : m'.0.upper ≡ u = ap (λ (x : MyTree). x.0.upper) w.now in
    let has : HasState z u w.note = subst (λ (v : TreeView). HasState z v w.note) here w.has in
    let known : IsKnown z u = subst (IsKnown z) here w.known in let few = w.is_base.few in
    subst (λ (v : TreeView). IsRemembered z v
    (record { last = cursor.base; chained = false; whole = false })) (sym here) record {
      last_is = w.cursor_is.base;
      some = omega arith;
      few = let some = w.is_base.some_row in let most = w.is_base.in_range in omega arith;
      chained = λ e. cc;
      readable = λ note i. subst (λ (n : Note). IsReadable z u n.row n) (in_one w.note note i)
          record {
            noted = inl (0, refl);
            here = refl;
            is_base = w.is_base;
            few = omega arith;
            ordered = subst (IsStoreMap z.keypos) (sym has.has) (part_map z.keypos w.note.place.span
                (state u.seen has.at)
                (state_is_map z.keypos has.at u.seen known.edits));
          };
    }

-- On the way there the pass learnt of others' edits alone.
pub walked_learnt : (z : Sizes) (spot : Spot) (m m' : MyTree) (cursor : Cursor)
    → IsWalked z spot m cursor m'
    → HasLearnt z m.0.upper m'.0.upper
walked_learnt z spot m m' cursor w = record {
  further = walked_further z spot m m' cursor w;
  known = w.known;
  since = ap (λ (x : MyTree). x.0.upper.since) w.now;
  acts = ap (λ (x : MyTree). acts_of x.0.upper) w.now;
}

pub learnt_both : (z : Sizes) (u w v : TreeView) → HasLearnt z u w → HasLearnt z w v
    → HasLearnt z u v
learnt_both z u w v a b = record {
  further = further_on u w v a.further b.further;
  known = b.known;
  since = b.since ∙ a.since;
  acts = b.acts ∙ a.acts;
}

-- Where the base that has the keys right below an upper edge has an object within it, or is the
-- first base, the read of the last object answers by a state since the pin.
pub walked_last : (z : Sizes) (hi : Edge) (m m' : MyTree) (cursor : Cursor) (found : Bool)
    (object : List ℕ)
    → IsWalked z (spot_at hi) m cursor m' → IsUnanswered m'.0.upper
    → last_object (up_to (bound_of hi) (map pair (first_note m'.0.upper.notes).objects)) ≡ cond
    found (Some object) None
    → (found ≡ false → cursor.low ≡ None) → IsReadSince (below_event (bound_of hi) found object)
    m'.0.upper
walked_last z hi m m' cursor found object w none last first = let u = m'.0.upper in let s = w.has in
    let span = w.note.place.span in
    let here : first_note u.notes ≡ w.note = ap (λ (x : MyTree). first_note x.0.upper.notes)
    w.now in
    let ends = walked_ends z u.ways cursor.high hi span w.cursor_is.high w.sought in
    by_last u (bound_of hi) s.at s.since none found object (by found
    (ap (λ (x : StoreMap). last_object (up_to (bound_of hi) x)) (sym s.has)
    ∙ (ap (λ (n : Note). last_object (up_to (bound_of hi) (map pair n.objects))) (sym here) ∙ last))
    (λ e. subst (λ (r : Option ℕ). IsLowRoute z u.ways r span.low) (first e) w.cursor_is.low) ends)
  where
    by : (found : Bool)
        → last_object (up_to (bound_of hi) (within w.note.place.span.low w.note.place.span.high
        (state m'.0.upper.seen w.has.at)))
        ≡ cond found (Some object) None → (found ≡ false → w.note.place.span.low ≡ Unbounded)
        → EndsBefore (bound_of hi) w.note.place.span.high
        → last_object (up_to (bound_of hi) (state m'.0.upper.seen w.has.at)) ≡ cond found
        (Some object) None
    by true own low ends = last_part w.note.place.span.low w.note.place.span.high (bound_of hi)
        (state m'.0.upper.seen w.has.at) ends
        z.keypos object (state_is_map z.keypos w.has.at m'.0.upper.seen w.known.edits) own
    by false own low ends = ap last_object
        (sym (last_first w.note.place.span.low w.note.place.span.high (bound_of hi)
        (state m'.0.upper.seen w.has.at) ends (low refl))) ∙ own
