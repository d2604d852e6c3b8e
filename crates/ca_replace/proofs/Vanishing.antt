-- What one base had doesn't vanish before a pass that is alone comes to it again.
use Rattle.std.proofs.Common.{◌≡◌, ◌≢◌, ℕ, ◌<◌, Bool, true, false, List, [], ◌∷◌, if◌then◌else◌, length, Option, None, Some, sym, refl, ap, ◌∙◌, subst, arith}
use Rattle.std.specs.Prelude.{map, not}
use Rattle.std.specs.declared.cmp.Ordering.{Ordering}
use Rattle.std.specs.declared.cmp.Ordering.TheVariants.{Less, Equal, Greater}
use Rattle.std.specs.Ordering.{is_lt, is_gt, ordering_reverse}
use Rattle.ca_base.specs.Putting.{first_note}
use Rattle.ca_model.specs.Edges.{Bound, Unbounded, Included, Excluded, bound_of, from, is_from, is_up_to, last_object, up_to, within}
use Rattle.ca_model.specs.History.{History, state}
use Rattle.ca_model.specs.StoreMap.{StoreMap, bytes_cmp}
use Rattle.ca_model.specs.declared.edge.Edge.{Edge}
use Rattle.ca_model.specs.declared.edge.Edge.TheVariants as edge
use Rattle.ca_model.proofs.Places.{bytes_chain, bytes_flip}
use Rattle.ca_node.specs.declared.cursor.Cursor.{Cursor}
use Rattle.ca_node.specs.Aside.{IsLeftOf, LetsLess}
use Rattle.ca_node.specs.Links.{IsIn}
use Rattle.ca_node.specs.Place.{HasKey, Place, Span}
use Rattle.ca_node.specs.Row.{pair, route_key}
use Rattle.ca_node.specs.States.{IsAlone, IsAtPin}
use Rattle.ca_node.specs.Told.{IsKnown, MyTree}
use Rattle.ca_node.specs.TreeView.{Inventory, Note, TreeView}
use Rattle.ca_node.specs.Walking.{IsLowRoute, IsSought, IsWalked}
use Rattle.ca_node.proofs.Parts.{is_less}
use Rattle.ca_range.specs.Snapshots.{bases_of}
use Rattle.ca_range.specs.declared.sought.Run.{Run}
use Rattle.ca_replace.specs.LoneReads.{GoesLeftAlone}
use Rattle.ca_replace.specs.Running.{all_of}
use Rattle.ca_replace.specs.Within.{HasAllUpTo, HasLearnt, spot_at}
use Rattle.ca_replace.proofs.Ends.{below_it, not_above, walked_ends, walked_learnt}
use Rattle.ca_replace.proofs.LoneLooks.{never_left}
use Rattle.ca_replace.proofs.OneHand.{seen_still}
use Rattle.ca_replace.proofs.Runs.{within_wider}
use Rattle.ca_rows.specs.declared.sizes.Sizes.{Sizes}

-- A key that is less than one within an upper edge is within it.
less_up : (b : Bound) (less key : List ℕ) → is_up_to b key ≡ true → bytes_cmp less key ≡ Less
    → is_up_to b less ≡ true
less_up Unbounded less key up is = refl
less_up (Included h) less key up is = by (bytes_cmp key h) refl up
  where
    by : (o : Ordering) → bytes_cmp key h ≡ o → not (is_gt o) ≡ true
        → not (is_gt (bytes_cmp less h)) ≡ true
    by Less e up = rw (below_it less key h is (λ g. cc)) refl
    by Equal e up = rw (below_it less key h is (λ g. cc)) refl
    by Greater e up = cc
less_up (Excluded h) less key up is = rw (bytes_chain less key h is (is_less (bytes_cmp key h) up))
    refl

-- One within an upper edge is less than one that isn't.
up_less : (b : Bound) (less key : List ℕ) → is_up_to b less ≡ true → is_up_to b key ≡ false
    → bytes_cmp less key ≡ Less
up_less Unbounded less key up out = cc
up_less (Included h) less key up out = by (bytes_cmp key h) refl out
  where
    by : (o : Ordering) → bytes_cmp key h ≡ o → not (is_gt o) ≡ false → bytes_cmp less key ≡ Less
    by Less e out = cc
    by Equal e out = cc
    by Greater e out = not_above less h key up (bytes_flip h key ∙ ap ordering_reverse e)
up_less (Excluded h) less key up out = by (bytes_cmp key h) refl out
  where
    by : (o : Ordering) → bytes_cmp key h ≡ o → is_lt o ≡ false → bytes_cmp less key ≡ Less
    by Less e out = cc
    by Equal e out = below_it less h key (is_less (bytes_cmp less h) up)
        (λ g. let flip = bytes_flip h key ∙ ap ordering_reverse e in cc)
    by Greater e out = below_it less h key (is_less (bytes_cmp less h) up)
        (λ g. let flip = bytes_flip h key ∙ ap ordering_reverse e in cc)

-- A base lets a key in that is right of where it begins.
lets_in : (low : Bound) (key : List ℕ) → LetsLess low key → is_from low key ≡ true
lets_in Unbounded key lets = refl
lets_in (Included low) key lets = rw (bytes_flip key low ∙ ap ordering_reverse lets) refl
lets_in (Excluded low) key lets = rw (bytes_flip key low ∙ ap ordering_reverse lets) refl

not_less_itself : (key : List ℕ) → not (is_lt (bytes_cmp key key)) ≡ true
not_less_itself key = by (bytes_cmp key key) (bytes_flip key key)
  where
    by : (o : Ordering) → o ≡ ordering_reverse o → not (is_lt o) ≡ true
    by Less flip = cc
    by Equal flip = refl
    by Greater flip = refl

has_key_of : (span : Span) (key : List ℕ) → is_from span.low key ≡ true
    → is_up_to span.high key ≡ true → HasKey span key
has_key_of span key low high = rw low high

-- Where a base begins that has the keys right up to an edge is within that edge.
begins_up : (hi : Edge) (low : List ℕ) (high : Bound)
    → IsSought (spot_at hi) (record { low = Included low; high = high })
    → is_up_to (bound_of hi) low ≡ true
begins_up edge.Open low high s = refl
begins_up (edge.At k) low high s = by (bytes_cmp k.now low) refl s
  where
    by : (o : Ordering) → bytes_cmp k.now low ≡ o
        → (if not (is_lt o) then is_up_to high k.now else false) ≡ true
        → not (is_gt (bytes_cmp low k.now)) ≡ true
    by Less e s = cc
    by Equal e s = rw (bytes_flip low k.now ∙ ap ordering_reverse e) refl
    by Greater e s = rw (bytes_flip low k.now ∙ ap ordering_reverse e) refl
begins_up (edge.Past k) low high s = rw s.0 refl

-- Where a map has nothing within wider edges it has nothing within narrower ones.
none_within : (low high hi : Bound) (m : StoreMap)
    → ((key : List ℕ) → is_from low key ≡ true → is_up_to high key ≡ true → is_up_to hi key ≡ true)
    → within low hi m ≡ [] → within low high m ≡ []
none_within low high hi [] narrow none = refl
none_within low high hi (q ∷ m) narrow none = by (is_from low q.0) refl
    (none_within low high hi m narrow) none
  where
    rest : (b : Bool) → (if b then q ∷ within low hi m else within low hi m) ≡ []
        → within low hi m ≡ []
    rest true none = cc
    rest false none = none

    inside : is_from low q.0 ≡ true → (b : Bool) → is_up_to high q.0 ≡ b
        → (within low hi m ≡ [] → within low high m ≡ [])
        → (if is_up_to hi q.0 then q ∷ within low hi m else within low hi m) ≡ []
        → (if b then q ∷ within low high m else within low high m) ≡ []
    inside is true e next none = let up = narrow q.0 is e in
        let wrong : (if true then q ∷ within low hi m else within low hi m) ≡ [] =
        subst (λ (b : Bool). (if b then q ∷ within low hi m else within low hi m) ≡ []) up none in
        cc
    inside is false e next none = next (rest (is_up_to hi q.0) none)

    by : (b : Bool) → is_from low q.0 ≡ b → (within low hi m ≡ [] → within low high m ≡ [])
        → up_to hi (if b then q ∷ from low m else from low m) ≡ []
        → up_to high (if b then q ∷ from low m else from low m) ≡ []
    by true is next none = inside is (is_up_to high q.0) refl next none
    by false is next none = next none

-- What has no last object has none.
none_last : (m : StoreMap) → last_object m ≡ None → m ≡ []
none_last [] e = refl
none_last (q ∷ []) e = cc
none_last (q ∷ r ∷ m) e = absurd (some (r ∷ m) (λ x. cc) e)
  where
    some : (m : StoreMap) → m ≢ [] → ¬ (last_object m ≡ None)
    some [] n e = n refl
    some (q ∷ []) n e = cc
    some (q ∷ r ∷ m) n e = some (r ∷ m) (λ x. cc) e

none_from : (low hi : Bound) (m : StoreMap) → up_to hi m ≡ [] → within low hi m ≡ []
none_from low hi [] none = refl
none_from low hi (q ∷ m) none = by (is_from low q.0) (none_from low hi m)
  where
    rest : (b : Bool) → (if b then q ∷ up_to hi m else up_to hi m) ≡ [] → up_to hi m ≡ []
    rest true none = cc
    rest false none = none

    more : (b : Bool) → (if b then q ∷ up_to hi m else up_to hi m) ≡ []
        → (up_to hi m ≡ [] → within low hi m ≡ [])
        → (if b then q ∷ within low hi m else within low hi m) ≡ []
    more true none next = cc
    more false none next = next none

    by : (b : Bool) → (up_to hi m ≡ [] → within low hi m ≡ [])
        → up_to hi (if b then q ∷ from low m else from low m) ≡ []
    by true next = more (is_up_to hi q.0) none next
    by false next = next (rest (is_up_to hi q.0) none)

no_objects : (objects : List (List ℕ)) → map pair objects ≡ [] → length objects ≡ 0
no_objects [] e = refl
no_objects (o ∷ objects) e = cc

-- A pass that is alone walked to the base that has the keys right up to an upper edge, looked to
-- the left, and came to a base with an object.
module _ (z : Sizes) (hi : Edge) (m n k : MyTree) (cursor : Cursor)
    (w : IsWalked z (spot_at hi) m cursor n) (route : ℕ) (low_is : cursor.low ≡ Some route)
    (alone : IsAlone z m.0.upper) (left : GoesLeftAlone z n k) where
  abbrev near : Note
  near = w.note

  abbrev note : Note
  note = first_note k.0.upper.notes

  begins : (key : List ℕ) × (near.place.span.low ≡ Included key)
  begins = let low = subst (λ (r : Option ℕ). IsLowRoute z n.0.upper.ways r near.place.span.low)
      low_is w.cursor_is.low in (route_key low.0.its, low.3)

  abbrev key : List ℕ
  key = begins.0

  same_tree : n.0.upper.inventory ≡ m.0.upper.inventory
  same_tree = ap (λ (x : MyTree). x.0.upper.inventory) w.now

  up : is_up_to (bound_of hi) key ≡ true
  up = begins_up hi key near.place.span.high
      (subst (λ (b : Bound). IsSought (spot_at hi)
      (record { low = b; high = near.place.span.high })) begins.1 w.sought)

  near_has : HasKey near.place.span key
  near_has = has_key_of near.place.span key (subst (λ (b : Bound). is_from b key ≡ true)
      (sym begins.1) (not_less_itself key))
      (walked_ends z n.0.upper.ways cursor.high hi near.place.span w.cursor_is.high w.sought key up)

  is_left : IsLeftOf near.place.span.low note
  is_left = left.left near (subst (λ (ns : List Note). IsIn near ns)
      (sym (ap (λ (x : MyTree). x.0.upper.notes) w.now)) (0, refl))

  -- It has no key that the one has to which it walked.
  apart : ¬ HasKey note.place.span key
  apart has = let l = w.listed alone in
      let there : IsIn (near.row, near.place) n.0.upper.inventory.bases =
      subst (λ (t : Inventory). IsIn (near.row, near.place) t.bases) (sym same_tree) l.base in
      let row = left.listed.only near.row near.place key there near_has has in
      let place = left.listed.one near.place
      (subst (λ (r : ℕ). IsIn (r, near.place) n.0.upper.inventory.bases) row there) in
      never_left note (subst (λ (p : Place). IsLeftOf p.span.low note) place is_left)

  -- So all that it has is within the edge.
  narrow : (it : List ℕ) → is_from note.place.span.low it ≡ true → is_up_to note.place.span.high
      it ≡ true → is_up_to (bound_of hi) it ≡ true
  narrow it low high = by (is_up_to (bound_of hi) it) refl
    where
      by : (b : Bool) → is_up_to (bound_of hi) it ≡ b → b ≡ true
      by true e = refl
      by false e = let less = up_less (bound_of hi) key it up e in
          absurd (apart (has_key_of note.place.span key
          (lets_in note.place.span.low key (subst (λ (b : Bound). IsLeftOf b note) begins.1
          is_left))
          (less_up note.place.span.high key it high less)))

  -- The objects of that base are those of the state that is known then: so bases that go from there
  -- up to the edge have them.
  pub never_vanishes : (low : List ℕ) (v : TreeView) (run : Run) → IsAlone z k.0.upper
      → IsAtPin m.0.upper → IsKnown z m.0.upper → HasLearnt z m.0.upper v
      → note.place.span.low ≡ Included low → 0 < length note.objects → HasAllUpTo (Included low)
      (bound_of hi) z v run
      → last_object (up_to (bound_of hi) (all_of run v)) ≡ None → ⊥
  never_vanishes low v run here_alone first known learnt starts some h none = let many =
      no_objects note.objects (left.has.has ∙ nothing) in
      omega (arith, some, many)
    where
      high : Bound
      high = (first_note (bases_of run v)).place.span.high

      seen : v.seen ≡ m.0.upper.seen
      seen = seen_still z m.0.upper v alone known learnt.known learnt.further

      at : h.at ≡ length m.0.upper.seen
      at = let a = h.later in let b = h.seen in let c = ap (λ (x : History). length x)
          (learnt.since ∙ first) in
          let d = ap (λ (x : History). length x) seen in omega arith

      here : k.0.upper.seen ≡ m.0.upper.seen
      here = let l = walked_learnt z (spot_at hi) m n cursor w in
          left.goes.still ∙ seen_still z m.0.upper n.0.upper alone known l.known l.further

      there : left.has.at ≡ length m.0.upper.seen
      there = left.has.last here_alone ∙ ap (λ (x : History). length x) here

      same : state v.seen h.at ≡ state k.0.upper.seen left.has.at
      same = ap (λ (x : History × ℕ). state x.0 x.1)
          (λ i. ((seen ∙ sym here) i, (at ∙ sym there) i))

      nothing : within note.place.span.low note.place.span.high (state k.0.upper.seen left.has.at)
          ≡ []
      nothing = none_within note.place.span.low note.place.span.high (bound_of hi)
          (state k.0.upper.seen left.has.at) narrow
          (subst (λ (x : Bound × StoreMap). within x.0 (bound_of hi) x.1 ≡ [])
          (λ i. (sym starts i, same i))
          (sym (within_wider h.low high (Included low) (bound_of hi) (state v.seen h.at) h.before
          h.ends)
          ∙ (ap (λ (x : StoreMap). within (Included low) (bound_of hi) x) (sym h.shown)
          ∙ none_from (Included low) (bound_of hi) (all_of run v)
          (none_last (up_to (bound_of hi) (all_of run v)) none))))
