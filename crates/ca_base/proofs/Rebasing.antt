-- A base that a pass wrote may take the place of the one that it was shown last.
use Rattle.std.proofs.Common.{◌≡◌, ◌≢◌, ◌⊎◌, ℕ, ◌<◌, ◌≤◌, List, [], ◌∷◌, length, map, get_or, true, Some, Ok, sym, refl, ap, ◌∙◌, subst, inl, ⊎_elim, arith}
use Rattle.std.proofs.lemmas.List.{get_or-map, length-map}
use mathlib.Core.Option.{some}
use lib.ListN.{get_elem?}
use Rattle.ca_model.specs.Event.{IsAnswer, effect}
use Rattle.ca_model.specs.History.{IsEdit, after_edit}
use Rattle.ca_model.specs.StoreMap.{Pair, IsFound}
use Rattle.ca_model.specs.Slab.{nothing}
use Rattle.ca_model.proofs.Places.{is_found}
use Rattle.ca_model.specs.Places.{IsAt}
use Rattle.ca_node.specs.Laws.{in_nothing}
use Rattle.ca_node.specs.Inventory.{AreOnce, row_itself}
use Rattle.ca_node.specs.Links.{IsIn}
use Rattle.ca_node.specs.Place.{HasKey, edit_key}
use Rattle.ca_node.specs.Row.{items, pair, row_in, IsHeaded}
use Rattle.ca_node.specs.Notes.{IsBaseNote}
use Rattle.ca_node.specs.Told.{MyTree, IsSettled, Update, IsObjectOf, IsLastThere, IsUpdate}
use Rattle.ca_node.specs.TreeView.{Note, TreeView}
use Rattle.ca_node.proofs.Looking.{in_more}
use Rattle.ca_base.specs.Putting.{gone, object_at, IsShownLast, first_note, words_of}
use Rattle.ca_base.specs.Writing.{IsRewritten, SpellsBase}
use Rattle.ca_rows.specs.declared.sizes.Sizes.{Sizes}
use Rattle.ca_rows.specs.declared.view.Claim.TheVariants.{Holds}
use Rattle.ca_rows.specs.declared.view.Pin.{Pin}
use Rattle.ca_rows.specs.Claims.{claim_of}

-- The seat is pinned, was shown the old base, and holds a new one with this prefix and these words
-- for its items.
pub record IsNewBase (z : Sizes) (m : MyTree) (new : ℕ) (old : Note) (front these : List ℕ)
    (statistic : ℕ) (b : List ℕ) : Type 0 where
  pub is_pinned : m.0.pin.pinned ≡ true
  pub is_pass : 0 < m.0.upper.number
  pub shown : (rest : List Note) × (m.0.upper.notes ≡ old ∷ rest)
  pub is_base : IsBaseNote z old
  pub settled : IsSettled m.0.upper old.its
  pub held : claim_of m.0.claims new ≡ some (Holds b)
  pub spells : SpellsBase front these old.place.level statistic b

-- Where the new base has the row at all, it is one that comes, or stood in another place of the old
-- base.
abbrev pub IsElsewhere : Update → List ℕ → ℕ → ℕ → Type 0
IsElsewhere x these i row = IsIn row these → IsIn row x.comes
    ⊎ ((j : ℕ) × (j ≢ i) × (get_elem? (items x.old.its) j ≡ some row))

-- What the objects of the new base are, those that come and those that go, where it has these
-- items; and what the call is.
pub record IsMade (keypos : ℕ) (m : MyTree) (x : Update) (these : List ℕ) : Type 0 where
  pub as_many : length x.objects ≡ length these
  pub are_objects : (k row : ℕ) (its : List ℕ) → get_elem? these k ≡ some row
      → get_elem? x.objects k ≡ some its → IsObjectOf m x row its
  pub come : (row : ℕ) → IsIn row x.comes → IsIn row these
      × ((its : List ℕ) × (claim_of m.0.claims row ≡ some (Holds its)))
  pub come_once : AreOnce row_itself x.comes
  pub one_comes : length x.comes ≤ 1
  pub go : (row : ℕ) → IsIn row x.goes → (i : ℕ) × (get_elem? (items x.old.its) i ≡ some row)
      × IsElsewhere x these i row
  pub stay : (row : ℕ) → IsIn row (items x.old.its) → IsIn row these ⊎ IsIn row x.goes
  pub map_is : map pair x.objects ≡ after_edit x.edit (map pair x.old.objects)
  pub does : effect x.event ≡ x.edit ∷ []
  pub answer : IsAnswer x.event (map pair x.old.objects)
  pub is_edit : IsEdit keypos x.edit
  pub about : HasKey x.old.place.span (edit_key x.edit)

pub is_update : (z : Sizes) (m : MyTree) (new : ℕ) (x : Update) (front words these : List ℕ)
    (statistic : ℕ) → IsNewBase z m new x.old front words statistic x.its
    → map row_in words ≡ these → IsHeaded x.its x.objects
    → length these ≤ z.leaf → IsMade z.keypos m x these → IsUpdate z m new x
is_update z m new x front words these statistic n rows headed few made =
    let are = ap (map row_in) n.spells.words_are ∙ rows in
    let as_long = ap (λ (xs : List ℕ). length xs) rows in let long = length-map words row_in in
    let h = subst (IsMade z.keypos m x) (sym are) made in record {
      is_pinned = n.is_pinned;
      is_pass = n.is_pass;
      shown = subst (IsLastThere x.old) (sym n.shown.1) (inl refl);
      old_base = n.is_base.is_base;
      settled = n.settled;
      held = n.held;
      is_base = n.spells.is_base;
      level_is = n.spells.level_is;
      few = let c = n.spells.count_is in omega arith;
      unmarked = n.spells.unmarked;
      as_many = h.as_many;
      headed = headed;
      are_objects = h.are_objects;
      come = h.come;
      come_once = h.come_once;
      one_comes = h.one_comes;
      go = h.go;
      stay = h.stay;
      map_is = h.map_is;
      does = h.does;
      answer = h.answer;
      is_edit = h.is_edit;
      about = h.about;
    }

-- Where there is a note at all, the first one is the last one of its link.
pub last_there : (notes : List Note) → IsIn (first_note notes) notes
    → IsLastThere (first_note notes) notes
last_there [] i = absurd (in_nothing (first_note []) [] refl i)
last_there (note ∷ notes) i = inl refl

-- Where there is a note at all, the first one is first.
pub is_first : (notes : List Note) → IsIn (first_note notes) notes → (rest : List Note)
    × (notes ≡ first_note notes ∷ rest)
is_first [] i = absurd (in_nothing (first_note []) [] refl i)
is_first (note ∷ notes) i = (notes, refl)

-- The base was written since the pass was shown the old one.
pub new_base : (z : Sizes) (first before now : MyTree) (new base : ℕ) (front these : List ℕ)
    (statistic : ℕ) (b : List ℕ) → IsShownLast z first.0.upper base
    → first.0.pin.pinned ≡ true → 0 < first.0.upper.number → now.0.upper ≡ first.0.upper
    → now.0.pin ≡ first.0.pin
    → SpellsBase front these (first_note first.0.upper.notes).place.level statistic b
    → IsRewritten new b before now
    → IsNewBase z now new (first_note first.0.upper.notes) front these statistic b
new_base z first before now new base front these statistic b shown is_pinned is_pass upper pin spells
    wrote = record {
      is_pinned = ap (λ (e : Pin). e.pinned) pin ∙ is_pinned;
      is_pass = subst (λ (u : TreeView). 0 < u.number) (sym upper) is_pass;
      shown = subst (λ (u : TreeView). (rest : List Note)
          × (u.notes ≡ first_note first.0.upper.notes ∷ rest)) (sym upper)
          (is_first first.0.upper.notes shown.noted);
      is_base = shown.is_base;
      settled = subst (λ (u : TreeView). IsSettled u (first_note first.0.upper.notes).its) (sym upper) shown.settled;
      held = wrote.here;
      spells = spells;
    }

-- The words of a row that was written, and the base that was shown last, as an update has them.
pub words_are : (row : ℕ) (its : List ℕ) (m m' : MyTree) → IsRewritten row its m m'
    → words_of (claim_of m'.0.claims row) ≡ its
words_are row its m m' wrote = ap words_of wrote.here

pub note_is : (m m' : MyTree) → m'.0.upper ≡ m.0.upper
    → first_note m'.0.upper.notes ≡ first_note m.0.upper.notes
note_is m m' upper = ap (λ (u : TreeView). first_note u.notes) upper

-- What goes is the item at the place.
pub gone_is : (these : List ℕ) (at r : ℕ) → IsIn r (gone (Ok at) these) → get_or these at 0 ≡ r
gone_is these at r i = ⊎_elim (λ e. e)
    (λ (j : IsIn r []). absurd (in_nothing r [] refl j)) (in_more (get_or these at 0) r [] i)

-- The object at the key's place is found.
pub is_found_at : (objects : List (List ℕ)) (k : List ℕ) (at : ℕ) → IsAt (map pair objects) k at
    → IsFound (map pair objects) k (Some (object_at (Ok at) objects))
is_found_at objects k at h = let l = h.in_range in let long = length-map objects pair in
    subst (λ (w : List ℕ). IsFound (map pair objects) k (Some w)) (ap
    (λ (p : Pair). p.1) (get_or-map pair objects at [] nothing (omega arith)))
    (is_found (map pair objects) k at h)
