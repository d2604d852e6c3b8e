-- The run of an active range, as notes: what a pass is shown that decides it.
use Rattle.std.proofs.Common.{◌≡◌, ℕ, ◌<◌, ◌≤◌, List, [], ◌∷◌, ◌++◌, length, map, sym, refl, ap, ◌∙◌, subst, inl, inr, ⊎_elim, arith, le_refl}
use mathlib.Core.Option.{some, some-injective, some-ne-none}
use lib.ListN.{get_elem?}
use Rattle.ca_model.specs.Edges.{within}
use Rattle.ca_model.specs.History.{History, after}
use Rattle.ca_model.specs.StoreMap.{StoreMap}
use Rattle.ca_model.proofs.Edits.{map_after}
use Rattle.ca_rows.specs.declared.sizes.Sizes.{Sizes}
use Rattle.ca_runs.specs.Runs.{IsAmong, Mark, IsChain, joined, Shows}
use Rattle.ca_runs.proofs.Showing.{decides}
use Rattle.ca_node.specs.Links.{IsIn, IsActive, IsOnChain}
use Rattle.ca_node.specs.Notes.{IsBaseNote}
use Rattle.ca_node.specs.Place.{part}
use Rattle.ca_node.specs.Ranging.{AreChained, objects_of, IsRunShown}
use Rattle.ca_node.specs.RangesStay.{chain_note}
use Rattle.ca_node.specs.Reached.{base_at}
use Rattle.ca_node.specs.Row.{row_at, items, IsMarkedBy, pair, objects_in}
use Rattle.ca_node.specs.Scenes.{IsBase, span_of, mark_of, scene_of}
use Rattle.ca_node.specs.Shape.{Base}
use Rattle.ca_node.specs.Tree.{IsTrue, IsTree}
use Rattle.ca_node.specs.TreeView.{Note, TreeView}
use Rattle.ca_node.proofs.Logs.{last_state}
use Rattle.ca_node.proofs.Looking.{base_note, base_true, base_is, in_turn, in_more}
use Rattle.ca_node.proofs.Ranged.{bases_apart, map_cuts, edges_chained}

module _ (z : Sizes) (made : ℕ) (words : List ℕ) (uppers : List TreeView) (f : IsTree z made words uppers) where
  abbrev pub mark : ℕ → Mark
  mark = λ row. mark_of (row_at words row)

  -- bases as notes
  abbrev pub notes_of : (rows : List ℕ) → ((row : ℕ) → IsAmong row rows → IsBase f.role row) → List Note
  notes_of [] each = []
  notes_of (row ∷ rows) each = base_note z made words uppers f row (each row (inl refl)).0 (each row (inl refl)).1
      ∷ notes_of rows (λ x i. each x (inr i))

  chained : (from : ℕ) (rows : List ℕ) (each : (row : ℕ) → IsAmong row rows → IsBase f.role row) → IsChain mark from rows
      → AreChained from (notes_of rows each)
  chained from [] each chain = chain
  chained from (row ∷ rows) each chain = (
    sym chain.0,
    subst (λ n. 0 < n) (sym chain.0) chain.1,
    chained (mark row).back rows (λ x i. each x (inr i)) chain.2,
  )

  has_objects : (rows : List ℕ) (each : (row : ℕ) → IsAmong row rows → IsBase f.role row)
      → objects_of (notes_of rows each) ≡ joined (objects_in words) rows
  has_objects [] each = refl
  has_objects (row ∷ rows) each = ap (λ (xs : StoreMap). xs ++ map pair (map (λ r. row_at words r) (items (row_at words row))))
      (has_objects rows (λ x i. each x (inr i)))
      ∙ ap (λ (xs : StoreMap). joined (objects_in words) rows ++ xs) (in_turn words (items (row_at words row)))

  trues_of : (rows : List ℕ) (each : (row : ℕ) → IsAmong row rows → IsBase f.role row) (note : Note) → IsIn note (notes_of rows each)
      → IsTrue z.rows words f.role note × (f.role note.row ≡ Base note.place)
  trues_of [] each note i = absurd (some-ne-none note (sym i.1))
  trues_of (row ∷ rows) each note i = let base = each row (inl refl) in ⊎_elim
      (λ (e : base_note z made words uppers f row base.0 base.1 ≡ note). subst (λ (y : Note). IsTrue z.rows words f.role y
      × (f.role y.row ≡ Base y.place)) e (base_true z made words uppers f row base.0 base.1, base.1))
      (λ j. trues_of rows (λ x k. each x (inr k)) note j)
      (in_more (base_note z made words uppers f row base.0 base.1) note (notes_of rows (λ x k. each x (inr k))) i)

  bases_of : (rows : List ℕ) (each : (row : ℕ) → IsAmong row rows → IsBase f.role row) (note : Note) → IsIn note (notes_of rows each) → IsBaseNote z note
  bases_of [] each note i = absurd (some-ne-none note (sym i.1))
  bases_of (row ∷ rows) each note i = let base = each row (inl refl) in ⊎_elim
      (λ (e : base_note z made words uppers f row base.0 base.1 ≡ note). subst (IsBaseNote z) e (base_is z made words uppers f row base.0 base.1))
      (λ j. bases_of rows (λ x k. each x (inr k)) note j)
      (in_more (base_note z made words uppers f row base.0 base.1) note (notes_of rows (λ x k. each x (inr k))) i)

  -- The run that ends with a base that an active range marked.
  module _ (pass number row : ℕ) (now : IsActive words pass number) (base : IsBase f.role row) (marked : IsMarkedBy (row_at words row) pass number) where
    abbrev pub map_now : StoreMap
    map_now = after f.history []

    pub shows : Shows mark (objects_in words) (IsBase f.role) (after f.history []) (f.ranged.ends pass).edge (span_of (f.role row)).high row
    shows = decides (scene_of words f.role) f.ranged.ends (objects_in words) map_now f.ranged.runs
        (bases_apart z words f.role map_now f.shape) (map_cuts z.keypos map_now (map_after z.keypos f.history [] f.edits tt)) edges_chained
        (λ b is. (base_at z words f.role map_now f.shape b is.0 is.1).has
        ∙ ap (λ y. part (span_of y) map_now) (sym is.1)) pass number row now base marked

    abbrev pub run : List Note
    run = notes_of shows.rows shows.kept

    pub run_trues : (note : Note) → IsIn note run → IsTrue z.rows words f.role note × (f.role note.row ≡ Base note.place)
    run_trues = trues_of shows.rows shows.kept

    pub run_bases : (note : Note) → IsIn note run → IsBaseNote z note
    run_bases = bases_of shows.rows shows.kept

    ends_high : (rows : List ℕ) (each : (x : ℕ) → IsAmong x rows → IsBase f.role x) → IsChain mark row rows → (note : Note)
        → get_elem? (notes_of rows each) 0 ≡ some note → note.place.span.high ≡ (span_of (f.role row)).high
    ends_high [] each chain note e = absurd (some-ne-none note (sym e))
    ends_high (x ∷ xs) each chain note e = let is = each x (inl refl) in
        ap (λ (y : Note). y.place.span.high) (sym (some-injective (base_note z made words uppers f x is.0 is.1) note e))
        ∙ (ap (λ y. (span_of y).high) (sym is.1) ∙ ap (λ (c : ℕ). (span_of (f.role c)).high) (sym chain.0))

    -- It is the last state of the history.
    pub run_shown : (since : History) → length since ≤ length f.history
        → (r : IsRunShown since f.history (f.ranged.ends pass).edge row run) × (r.high ≡ (span_of (f.role row)).high)
    run_shown since l = (
      record {
        chained = chained row shows.rows shows.kept shows.chain;
        at = length f.history;
        later = l;
        seen = le_refl (length f.history);
        low = shows.low;
        high = (span_of (f.role row)).high;
        before = shows.before;
        ends = ends_high shows.rows shows.kept shows.chain;
        shown = has_objects shows.rows shows.kept ∙ (shows.shown
            ∙ ap (λ (m : StoreMap). within shows.low (span_of (f.role row)).high m) (sym (last_state f.history)));
      },
      refl,
    )

    -- Each row of the chain from there to the left is a base, in words in which the run is so still.
    pub on_chain : (others : List ℕ) → ((note : Note) → IsIn note run → IsTrue z.rows others f.role note) → 0 < row → (c : ℕ) → IsOnChain others row c
        → IsBase f.role c
    on_chain others trues lo c on = let shown = (run_shown [] (omega arith)).0 in
        let note = chain_note z.rows others f.role row run trues shown.chained lo c on in
        (note.0.place, sym (ap f.role note.2) ∙ (run_trues note.0 note.1).1)
