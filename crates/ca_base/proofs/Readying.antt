-- Rows that were written are ready for the exchange.
use Rattle.std.proofs.Common.{◌≡◌, ◌≢◌, ℕ, ◌<◌, ◌≤◌, true, List, length, map, drop, get_or, Result, Ok, Err, sym, ap, ◌∙◌, subst, arith}
use Rattle.std.specs.Prelude.{slice_range}
use Rattle.std.proofs.lemmas.List.{length-map, length-take}
use mathlib.Core.Option.{some}
use Rattle.ca_model.specs.Event.{Event}
use Rattle.ca_model.specs.History.{Edit, Put}
use Rattle.ca_model.specs.StoreMap.{IsPair}
use Rattle.ca_model.specs.Places.{IsPlace}
use Rattle.ca_node.specs.Place.{HasKey}
use Rattle.ca_node.specs.Row.{count, object, key, pair, row_in, front_of, item_words, prefix}
use Rattle.ca_node.specs.Told.{MyTree, IsUpdate}
use Rattle.ca_node.specs.TreeView.{Note, TreeView}
use Rattle.ca_base.specs.declared.updating.Putting.{Putting}
use Rattle.ca_rows.specs.declared.view.Met.{Met}
use Rattle.ca_base.specs.declared.stop.Stop.{Stop}
use Rattle.ca_base.specs.Putting.{put_in, object_at, IsRoom, IsPlaceFor, IsFor, IsShownLast, HasRenewed, HasTried, first_note, words_of, put_event, put_update, put_update_of, last_words}
use Rattle.ca_base.specs.Writing.{IsRewritten, SpellsObject}
use Rattle.ca_base.specs.Prefixes.{IsTrimmed, SpellsPut, reheaded}
use Rattle.ca_base.proofs.Rebasing.{new_base, note_is, words_are}
use Rattle.ca_base.proofs.Replacing.{in_range_of, is_put}
use Rattle.ca_base.proofs.Inserting.{IsInRange}
use Rattle.ca_rows.specs.declared.sizes.Sizes.{Sizes}
use Rattle.ca_rows.specs.declared.view.Claim.TheVariants.{Holds}
use Rattle.ca_rows.specs.Claims.{claim_of}
use Rattle.ca_node.specs.Layout.{items_word}

-- An item finds its place and room.
pub finds_place : (place : Result ℕ ℕ) (n leaf : ℕ) → IsInRange place n → IsRoom place n leaf
    → leaf ≤ 120 → IsPlaceFor place n
finds_place (Ok at) n leaf l r few = l
finds_place (Err at) n leaf l r few = (l, omega arith)

module _ (z : Sizes) (m0 m1 m2 m3 : MyTree) (row new base : ℕ) (place : Result ℕ ℕ) (why : Putting)
    (bytes : List ℕ) (key_at key_end statistic : ℕ) (a b : List ℕ)
    (shown : IsShownLast z m0.0.upper base)
    (upper : m3.0.upper ≡ m0.0.upper) (other : row ≢ new)
    (one : SpellsObject bytes key_at key_end a) (wrote : IsRewritten row a m1 m2)
    (two : SpellsPut (first_note m0.0.upper.notes) place (slice_range bytes key_at key_end) row
    (first_note m0.0.upper.notes).place.level statistic b)
    (wrote_too : IsRewritten new b m2 m3) where
  abbrev note : Note
  note = first_note m0.0.upper.notes

  object_held : claim_of m3.0.claims row ≡ some (Holds a)
  object_held = wrote_too.others row other ∙ wrote.here

  is_a : words_of (claim_of m3.0.claims row) ≡ a
  is_a = ap words_of object_held

  is_note : first_note m3.0.upper.notes ≡ note
  is_note = note_is m0 m3 upper

  pub ready : m0.0.pin.pinned ≡ true → 0 < m0.0.upper.number
      → IsRoom place (length (last_words m0.0.upper)) z.leaf
      → IsPair z.keypos (slice_range bytes key_at key_end, bytes)
      → IsPlace (map pair note.objects) (slice_range bytes key_at key_end) place
      → IsFor why place → m3.0.pin ≡ m0.0.pin
      → HasKey note.place.span (slice_range bytes key_at key_end)
      → IsUpdate z m3 new (put_update_of m3 row new place why)
  ready is_pinned is_pass room is_pair is_place is_for pin about =
      subst (λ (x : Note × List ℕ × List ℕ).
      IsUpdate z m3 new (put_update x.0 row x.1 x.2 place why))
      (λ i. (sym is_note i, sym is_a i, sym (words_are new b m2 m3 wrote_too) i))
      (is_put z m3 note row new place why two.front two.lead two.bytes statistic two.word a b two.is_row
      (two.is_head ∙ ap (λ (k : List ℕ). front_of 5 (drop (length two.front) k)) (sym one.key_is))
      (new_base z m0 m2 m3 new base two.front
      (put_in (map (reheaded two.lead two.bytes) (item_words note.its)) place two.word) statistic b
      shown is_pinned is_pass upper pin two.spells wrote_too)
      (subst (λ (k : List ℕ). IsTrimmed (prefix note.its) k two.front two.lead two.bytes)
      (sym one.key_is) two.trimmed)
      record {
        object_held = object_held;
        is_object = one.is_object;
        place_is = subst
            (λ (k : List ℕ). IsPlace (map pair note.objects) k place) (sym one.key_is) is_place;
        room = subst (λ (n : ℕ). IsRoom place n z.leaf) (sym (length-map (last_words m0.0.upper) row_in)) room;
        pair_is = subst (λ (x : List ℕ × List ℕ). IsPair z.keypos x)
            (λ i. (sym one.key_is i, sym one.object_is i)) is_pair;
        is_for = is_for;
        about = subst (HasKey note.place.span) (sym one.key_is) about;
      })

  -- The event is that of the object.
  pub is_event : (put_update_of m3 row new place why).event
      ≡ put_event why (slice_range bytes key_at key_end) (object_at place note.objects) bytes
  is_event = ap
      (λ (x : Note × List ℕ). put_event why (key x.1) (object_at place x.0.objects) (object x.1))
      (λ i. (is_note i, is_a i))
      ∙ ap (λ (x : List ℕ × List ℕ). put_event why x.0 (object_at place note.objects) x.1)
      (λ i. (one.key_is i, one.object_is i))

  pub tried : (r : Result (Unit {0}) Stop) (v : TreeView)
      → HasTried (put_update_of m3 row new place why).event z r m3.0.upper v
      → HasTried (put_event why (slice_range bytes key_at key_end) (object_at place note.objects)
      bytes) z r m0.0.upper v
  tried r v h = subst (λ (x : Event × TreeView). HasTried x.0 z r x.1 v)
      (λ i. (is_event i, upper i)) h

  pub renewed_so : (met : Met) (r : Result (Unit {0}) Stop) (v : TreeView)
      → HasRenewed z met (get_or (put_update_of m3 row new place why).its 1 0)
      (put_update_of m3 row new place why).edit r m3.0.upper v
      → HasRenewed z met statistic (Put (slice_range bytes key_at key_end) bytes) r
      m0.0.upper v
  renewed_so met r v h = subst
      (λ (x : ℕ × Edit × TreeView). HasRenewed z met x.0 x.1 r x.2 v)
      (λ i. (
        (ap (λ (its : List ℕ). get_or its 1 0) (words_are new b m2 m3 wrote_too)
            ∙ two.spells.statistic_is) i,
        (ap (λ (its : List ℕ). Put (key its) (object its)) is_a
            ∙ ap (λ (x : List ℕ × List ℕ). Put x.0 x.1) (λ j. (one.key_is j, one.object_is j))) i,
        upper i,
      )) h

-- What was written at the level of a cursor is at that of the base.
pub spells_there : (first now : TreeView) (Spells : Note → ℕ → List ℕ → Type 0) (there here : ℕ)
    (its : List ℕ) → now ≡ first → there ≡ here → Spells (first_note now.notes) here its
    → Spells (first_note first.notes) there its
spells_there first now Spells there here its same is s = subst
    (λ (u : TreeView). Spells (first_note u.notes) there its) same
    (subst (λ (n : ℕ). Spells (first_note now.notes) n its) (sym is) s)

-- It has as many items as objects, and the place is among them.
pub many_are : (z : Sizes) (u : TreeView) (base many : ℕ) → IsShownLast z u base
    → many ≡ length (first_note u.notes).objects
    → many ≡ length (last_words u)
many_are z u base many shown is = is ∙ (shown.is_base.as_many ∙ length-map (last_words u) row_in)

pub place_in : (z : Sizes) (u : TreeView) (base many : ℕ) (place : Result ℕ ℕ) (k : List ℕ)
    → IsShownLast z u base
    → many ≡ length (first_note u.notes).objects
    → IsPlace (map pair (first_note u.notes).objects) k place → IsInRange place many
place_in z u base many place k shown is h = let note = first_note u.notes in
    subst (IsInRange place) (length-map note.objects pair ∙ sym is)
    (in_range_of (map pair note.objects) k place h)

pub few_are : (z : Sizes) (u : TreeView) (base many : ℕ) → IsShownLast z u base
    → many ≡ length (first_note u.notes).objects → z.leaf ≤ 120 → many ≤ 120
few_are z u base many shown is leaf = let its = (first_note u.notes).its in
    let few = shown.is_base.few in let all = many_are z u base many shown is in
    omega (arith, length-take (count its) (drop items_word its))
