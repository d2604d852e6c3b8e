-- A base that was shown last may be divided by rows that were written, and which rows a pass has
-- then.
use Rattle.std.proofs.Common.{◌≡◌, ◌≢◌, ℕ, ◌+◌, ◌-◌, ◌/◌, ◌<◌, ◌≤◌, true, List, [], ◌∷◌, length, map, take, drop, get_or, sym, ap, ◌∙◌, subst, inl, arith, length-take}
use Rattle.std.proofs.lemmas.List.{take_rest, length-map}
use mathlib.Core.Option.{some, none}
use Rattle.ca_model.specs.StoreMap.{IsStoreMap}
use Rattle.ca_node.specs.Links.{IsIn, AreApart}
use Rattle.ca_node.specs.Row.{count, items, key, pair, item_words, row_in, IsHeaded}
use Rattle.ca_node.specs.Told.{MyTree, IsSettled, IsLastThere, IsDivision, IsDivided, given}
use Rattle.ca_node.specs.TreeView.{Note, TreeView, Division}
use Rattle.ca_node.specs.declared.cursor.Cursor.{Cursor}
use Rattle.ca_node.proofs.HeldRows.{given_fewer, taken_out_more}
use Rattle.ca_base.specs.Finding.{IsAtCursor, IsReadable}
use Rattle.ca_base.specs.Putting.{IsShownLast, first_note, words_of}
use Rattle.ca_base.specs.Splitting.{SpellsRoute, IsHalving, division_by, division_of}
use Rattle.ca_base.specs.Taking.{HasHeld, AreHeld, AreUnlinked, lent_of}
use Rattle.ca_base.specs.Prefixes.{SpellsHalf, worded}
use Rattle.ca_base.specs.Writing.{IsRewritten}
use Rattle.ca_base.proofs.NewFronts.{half_items, half_headed}
use Rattle.ca_rows.specs.Layout.{row_limit}
use Rattle.ca_base.proofs.Halves.{half_long}
use Rattle.ca_base.proofs.Rebasing.{last_there, note_is}
use Rattle.ca_base.proofs.Rest.{is_one}
use Rattle.ca_base.proofs.Unlinking.{few_at_once, unlinked_then}
use Rattle.ca_rows.specs.declared.kept.KeptRows.{KeptRows}
use Rattle.ca_rows.specs.declared.sizes.Sizes.{Sizes}
use Rattle.ca_rows.specs.declared.view.Claim.TheVariants.{Holds}
use Rattle.ca_rows.specs.declared.view.Pin.{Pin}
use Rattle.ca_rows.specs.Claims.{claim_of, held_count}
use Rattle.ca_node.specs.Layout.{items_word}

-- Of three rows that are apart no two are one.
pub three_apart : (a b c : ℕ) → AreApart (a ∷ b ∷ c ∷ []) → (a ≢ b) × (a ≢ c) × (b ≢ c)
three_apart a b c h = (
  λ e. h.0 (0, ap some (sym e)),
  λ e. h.0 (1, ap some (sym e)),
  λ e. h.1.0 (0, ap some (sym e)),
)

-- After a split the old base is unlinked, and the pass has no other row.
pub divided_rows : (rows : ℕ) (kept kept' : KeptRows) (m m' : MyTree) (x : Division) (base : ℕ)
    (ins : List ℕ) → x.route ∷ x.left ∷ x.right ∷ [] ≡ ins
    → x.old.row ≡ base → IsDivided x m m' → kept' ≡ kept → AreApart ins
    → AreHeld rows kept.rows m.0 ins → AreUnlinked rows kept'.rows m'.0 (base ∷ [])
divided_rows rows kept kept' m m' x base ins are same d too apart h =
    let held = subst (HasHeld rows kept.rows m.0.claims (lent_of m.0.upper.ranges.own)) (sym are) h.0 in
    let comes : List ℕ = x.route ∷ x.left ∷ x.right ∷ [] in let goes : List ℕ = x.old.row ∷ [] in
    let then = unlinked_then rows kept.rows m.0.claims (lent_of m.0.upper.ranges.own) comes goes held
    (λ r i. subst (λ (y : ℕ). claim_of m.0.claims y ≡ none) (is_one r x.old.row i) d.unclaimed) in
    let came = subst
    (λ (xs : List ℕ). held_count (given xs m.0.claims) + length xs ≤ held_count m.0.claims)
    (sym are)
    (given_fewer ins m.0.claims apart (λ r i. let own = (h.0.each r i).2 in (own.0, own.2))) in
    let went = taken_out_more goes (given comes m.0.claims) in
    let many = ap (λ (xs : List ℕ). length xs) are in let before = h.1.now in let ever = h.1.ever in
    let now = subst (λ (y : MyTree × KeptRows). AreUnlinked rows y.1.rows y.0.0 goes)
    (λ i. (sym d.now i, sym too i)) (
      then,
      record {
        now =
            omega arith;
        ever =
            few_at_once goes (given comes m.0.claims) m.0.most ever (omega arith);
      },
    ) in
    subst (λ (y : ℕ). AreUnlinked rows kept'.rows m'.0 (y ∷ [])) same now

-- A base that was shown last can be read.
pub last_readable : (z : Sizes) (u : TreeView) (base : ℕ) → IsShownLast z u base → z.leaf ≤ 120
    → IsStoreMap z.keypos (map pair (first_note u.notes).objects)
    → IsReadable z u base (first_note u.notes)
last_readable z u base shown leaf ordered = record {
  noted = inl shown.noted;
  here = shown.here;
  is_base = shown.is_base;
  few = let few = shown.is_base.few in omega arith;
  ordered = ordered;
}

-- The rows were written, the halves and then the route, since the pass was shown the base last.
pub record AreWritten (z : Sizes) (m0 m1 m2 m3 m4 : MyTree) (route left right many attempt : ℕ)
    (cursor : Cursor) (l r t : List ℕ) : Type 0 where
  pub shown : IsShownLast z m0.0.upper cursor.base
  pub at : IsAtCursor z (first_note m0.0.upper.notes) cursor
  pub many_are : many ≡ length (first_note m0.0.upper.notes).objects
  pub some_left : 2 ≤ many
  pub above : cursor.level < z.levels
  pub apart : AreApart (route ∷ left ∷ right ∷ [])
  pub wrote_left : IsRewritten left l m1 m2
  pub wrote_right : IsRewritten right r m2 m3
  pub wrote_route : IsRewritten route t m3 m4
  pub is_left : SpellsHalf (first_note m0.0.upper.notes) 0 (many / 2) (cursor.level + 1) l
  pub is_right : SpellsHalf (first_note m0.0.upper.notes) (many / 2) (many - many / 2)
      (cursor.level + 1) r
  pub few_rows : z.rows < row_limit
  pub is_route : SpellsRoute cursor.level
      (key (get_or (first_note m0.0.upper.notes).objects (many / 2) [])) left right attempt t
  pub short : length (key (get_or (first_note m0.0.upper.notes).objects (many / 2) [])) ≤ 1000
  pub is_pinned : m0.0.pin.pinned ≡ true
  pub is_pass : 0 < m0.0.upper.number
  pub upper : m4.0.upper ≡ m0.0.upper
  pub pin : m4.0.pin ≡ m0.0.pin

module _ (z : Sizes) (m0 m1 m2 m3 m4 : MyTree) (route left right many attempt : ℕ) (cursor : Cursor)
    (l r t : List ℕ)
    (w : AreWritten z m0 m1 m2 m3 m4 route left right many attempt cursor l r t) where
  abbrev note : Note
  note = first_note m0.0.upper.notes

  as_many : length (items note.its) ≡ many
  as_many = sym (w.many_are ∙ w.shown.is_base.as_many)

  few : many ≤ z.leaf
  few = let a = as_many in let b = w.shown.is_base.few in omega (
    arith,
    length-map (item_words note.its) row_in,
    length-take (count note.its) (drop items_word note.its),
  )

  small : (r : ℕ) → IsIn r (items note.its) → r < row_limit
  small r i = let named = w.shown.is_base.named r i in let all = w.few_rows in omega (arith, named.1)

  left_items : items l ≡ take (many / 2) (items note.its)
  left_items = half_items note 0 (many / 2) (cursor.level + 1) l w.is_left w.shown.is_base.as_many
      small (let a = w.many_are in omega arith) (let a = w.some_left in omega arith)

  right_items : items r ≡ take (many - many / 2) (drop (many / 2) (items note.its))
  right_items = half_items note (many / 2) (many - many / 2) (cursor.level + 1) r w.is_right
      w.shown.is_base.as_many small (let a = w.many_are in omega arith)
      (let a = w.some_left in omega arith)

  -- The middle is where the left half ends.
  middle : length (items l) ≡ many / 2
  middle = let a = as_many in ap (λ (xs : List ℕ). length xs) left_items
      ∙ half_long (items note.its) 0 (many / 2) (omega arith)

  -- The right half is all that the left one isn't.
  rest : {A : Type 0} (xs : List A) → length xs ≡ many
      → take (many - many / 2) (drop (many / 2) xs) ≡ drop (many / 2) xs
  rest xs long = ap (λ (n : ℕ). take (n - many / 2) (drop (many / 2) xs)) (sym long)
      ∙ take_rest xs (many / 2)

  left_headed : IsHeaded l (take (many / 2) note.objects)
  left_headed = half_headed note 0 (many / 2) (cursor.level + 1) l w.is_left
      w.shown.is_base.as_many small (let a = w.many_are in omega arith)
      (let a = w.some_left in omega arith)

  right_headed : IsHeaded r (drop (many / 2) note.objects)
  right_headed = subst (IsHeaded r) (rest note.objects (sym w.many_are))
      (half_headed note (many / 2) (many - many / 2) (cursor.level + 1) r w.is_right
      w.shown.is_base.as_many small (let a = w.many_are in omega arith)
      (let a = w.some_left in omega arith))

  others : (route ≢ left) × (route ≢ right) × (left ≢ right)
  others = three_apart route left right w.apart

  held_left : claim_of m4.0.claims left ≡ some (Holds l)
  held_left = w.wrote_route.others left (λ e. others.0 (sym e))
      ∙ (w.wrote_right.others left others.2 ∙ w.wrote_left.here)

  held_right : claim_of m4.0.claims right ≡ some (Holds r)
  held_right = w.wrote_route.others right (λ e. others.1 (sym e)) ∙ w.wrote_right.here

  -- They are what a split wants, for a base that was shown last.
  divides : IsDivision z m4 (division_by note route left right t l r)
  divides = record {
    is_pinned = ap (λ (e : Pin). e.pinned) w.pin ∙ w.is_pinned;
    is_pass = subst (λ (u : TreeView). 0 < u.number) (sym w.upper) w.is_pass;
    shown = subst
        (λ (u : TreeView). IsLastThere note u.notes) (sym w.upper)
        (last_there m0.0.upper.notes w.shown.noted);
    old_base = w.shown.is_base.is_base;
    settled = subst (λ (u : TreeView). IsSettled u note.its) (sym w.upper) w.shown.settled;
    above = subst (λ (n : ℕ). n < z.levels) (sym w.at.level) w.above;
    held_route = w.wrote_route.here;
    held_left = held_left;
    held_right = held_right;
    apart = others;
    is_route = w.is_route.is_route;
    route_level = w.is_route.level_is ∙ sym w.at.level;
    short = subst (λ (n : ℕ). n ≤ 1000) (sym w.is_route.count_is) w.short;
    idle = let j = w.is_route.join_is in omega arith;
    left_link = w.is_route.left_is;
    right_link = w.is_route.right_is;
    some_left = let a = middle in let c = w.some_left in omega arith;
    middle_is = let a = middle in let b = w.many_are in let c = w.some_left in omega arith;
    key_is = w.is_route.key_is ∙ ap (λ (n : ℕ). key (get_or note.objects n [])) (sym middle);
    is_left = record {
      is_base = w.is_left.spells.is_base;
      level_is = w.is_left.spells.level_is ∙ ap (λ (n : ℕ). n + 1) (sym w.at.level);
      few = let a = few in omega (arith, w.is_left.spells.count_is, length-take (many / 2) (worded (length w.is_left.prefix) (items note.its) note.objects));
      unmarked = w.is_left.spells.unmarked;
      items_are = left_items ∙ ap (λ (n : ℕ). take n (items note.its)) (sym middle);
      headed = subst (λ (n : ℕ). IsHeaded l (take n note.objects)) (sym middle) left_headed;
    };
    is_right = record {
      is_base = w.is_right.spells.is_base;
      level_is = w.is_right.spells.level_is ∙ ap (λ (n : ℕ). n + 1) (sym w.at.level);
      few = let a = few in omega (
        arith,
        w.is_right.spells.count_is,
        length-take (many - many / 2) (drop (many / 2) (worded (length w.is_right.prefix)
            (items note.its) note.objects)),
      );
      unmarked = w.is_right.spells.unmarked;
      items_are = right_items ∙ (rest (items note.its) as_many
          ∙ ap (λ (n : ℕ). drop n (items note.its)) (sym middle));
      headed = subst (λ (n : ℕ). IsHeaded r (drop n note.objects)) (sym middle) right_headed;
    };
  }

  -- It is the split in the middle.
  halves : IsHalving many attempt (division_by note route left right t l r)
  halves = record {
    middle_is = middle;
    left_statistic = w.is_left.spells.statistic_is;
    right_statistic = w.is_right.spells.statistic_is;
    attempts = w.is_route.join_is;
  }

  -- So is the split that the claims name.
  pub divides_of : IsDivision z m4 (division_of m4 route left right)
      × IsHalving many attempt (division_of m4 route left right)
  divides_of = subst
      (λ (x : Note × List ℕ × List ℕ × List ℕ).
      IsDivision z m4 (division_by x.0 route left right x.1 x.2 x.3)
      × IsHalving many attempt (division_by x.0 route left right x.1 x.2 x.3))
      (λ i. (
        sym (note_is m0 m4 w.upper) i,
        sym (ap words_of w.wrote_route.here) i,
        sym (ap words_of held_left) i,
        sym (ap words_of held_right) i,
      ))
      (divides, halves)
