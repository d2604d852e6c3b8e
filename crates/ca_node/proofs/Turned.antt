-- A pass begins a range, or gives one up for which nothing was marked: its word changes, and no row of the tree is touched by that.
use Rattle.std.proofs.Common.{◌≡◌, ◌≢◌, ◌⊎◌, ℕ, ◌+◌, ◌*◌, ◌/◌, ◌<◌, ◌≤◌, true, List, [], map, set, sym, refl, ap, ◌∙◌, subst, inl, ⊎_elim, arith}
use Rattle.std.proofs.lemmas.List.{map-set}
use mathlib.Core.Logic.{dite}
use mathlib.Core.Option.{some}
use native.Mathlib.Decide.{ℕ_discrete}
use lib.ListN.{get_elem?}
use Rattle.atomic_table.specs.Table.{State}
use Rattle.atomic_table.proofs.Lists.{at_set, at_map}
use Rattle.ca_model.specs.History.{after}
use Rattle.ca_model.specs.StoreMap.{StoreMap}
use Rattle.ca_rows.specs.Layout.{row_words}
use Rattle.ca_rows.specs.Rule.{upper_of}
use Rattle.ca_rows.specs.Words.{own_word, result_of}
use Rattle.ca_rows.specs.declared.sizes.Sizes.{Sizes}
use Rattle.ca_rows.specs.declared.view.View.{View}
use Rattle.ca_rows.proofs.Relinking.{Stays, relinks}
use Rattle.ca_runs.specs.Runs.{Ends, AreRuns}
use Rattle.ca_runs.specs.Scenes.{Turns}
use Rattle.ca_node.specs.LoneStays.{KeepsOwn, KeepsActive}
use Rattle.ca_node.specs.Endings.{active_word}
use Rattle.ca_node.specs.Inventory.{IsInventory, own_tree}
use Rattle.ca_node.specs.Laws.{tree_lends}
use Rattle.ca_node.specs.Layout.{root_word, sequence_unit}
use Rattle.ca_node.specs.Links.{IsIn, IsActive, HasBegun, IsBoundOf, IsLinked, by_range, IsLent, IsNoted}
use Rattle.ca_node.specs.Place.{Place}
use Rattle.ca_node.specs.Ranging.{IsOver, IsRanging}
use Rattle.ca_node.specs.Reached.{placed_linked, item_linked, linked_range, reached, lent_end, end_lent}
use Rattle.ca_node.specs.Row.{row_at, IsObjectRow, items, mark, mark_owner, mark_number, mark_bound, IsMarkedBy}
use Rattle.ca_node.specs.Scenes.{IsBase, mark_of, scene_of}
use Rattle.ca_node.specs.Shape.{Role, Base, place_of, IsShape}
use Rattle.ca_node.specs.Standing.{shape_stands}
use Rattle.ca_node.specs.Stays.{map_same}
use Rattle.ca_node.specs.Tree.{IsTrue, Knows, IsTree}
use Rattle.ca_node.specs.TreeView.{Note, Over, TreeView}
use Rattle.ca_node.proofs.Looking.{R, knows_upper}
use Rattle.ca_node.proofs.OwnWord.{else_word, told_same, result_here, wide', row_stays, base_stays, begun_then, else_before, else_then, ranging_else, run_before, noted_same, knows_then, tree_with}

module _ (z : Sizes) (s : State (Unit {0}) (View TreeView)) (r : R z s) (pass word' : ℕ) (lo : 0 < pass) (hi : pass ≤ 64)
    (rises : result_of s.words pass / sequence_unit ≤ word' / sequence_unit)
    (none_marked : (n : ℕ) → IsActive s.words pass n → (b : ℕ) → IsBase r.above.role b → ¬ IsMarkedBy (row_at s.words b) pass n)
    (fresh : (n : ℕ) → word' ≡ active_word n → ¬ HasBegun s.words pass n) where
  abbrev f : IsTree z r.made s.words (map upper_of s.views)
  f = r.above

  abbrev role : ℕ → Role
  role = r.above.role

  abbrev last : StoreMap
  last = after r.above.history []

  abbrev words' : List ℕ
  words' = set s.words (own_word s.words pass + 1) word'

  -- What is active then of this pass hadn't begun.
  new_alone : (n : ℕ) → IsActive words' pass n → ¬ HasBegun s.words pass n
  new_alone n now = fresh n (sym (result_here z s r pass word' lo hi) ∙ now.2)

  -- A range that was begun is as active as it was, if it isn't the one of this pass that is over by this.
  pub before : (p n : ℕ) → HasBegun s.words p n → IsActive words' p n → IsActive s.words p n
  before p n begun now = dite (ℕ_discrete p pass)
      (λ (e : p ≡ pass). absurd (new_alone n (subst (λ q. IsActive words' q n) e now) (subst (λ q. HasBegun s.words q n) e begun)))
      (λ ne. else_before z s r pass word' lo hi p n ne now)

  begun_by : (b p n : ℕ) → IsBase role b → IsMarkedBy (row_at s.words b) p n → HasBegun s.words p n
  begun_by b p n base m = f.ranged.runs.begun p n b base m

  marked_then : (b p n : ℕ) → IsBase role b → IsMarkedBy (row_at s.words b) p n → IsActive s.words p n → IsActive words' p n
  marked_then b p n base m now = dite (ℕ_discrete p pass)
      (λ (e : p ≡ pass). absurd (none_marked n (subst (λ q. IsActive s.words q n) e now) b base (m.0, m.1 ∙ e, m.2)))
      (λ ne. else_then z s r pass word' lo hi p n ne now)

  pub began : (p n : ℕ) → HasBegun s.words p n → HasBegun words' p n
  began = begun_then z s r pass word' lo hi rises

  pub shape' : IsShape z words' r.above.role (after r.above.history [])
  shape' = shape_stands z s.words words' role last f.shape (wide' z s r pass word' lo hi) (else_word z s r pass word' lo hi root_word (omega arith))
      (λ p lo' hi'. (began p (result_of s.words p / sequence_unit) (lo', hi', omega arith)).2)
      (λ b place is p n m now. before p n (begun_by b p n (place, is) m) now)
      (λ row l k inside. let most = (linked_range z s.words role last f.shape row l).1 in else_word z s r pass word' lo hi (row_words * row + k) (omega arith))

  -- The same rows say up to where the active ranges go.
  bound_before : (b row : ℕ) → IsBase role b → IsBoundOf words' b row → IsBoundOf s.words b row
  bound_before b row base x = let k = subst (λ its. (mark its ≡ 1) × IsActive words' (mark_owner its) (mark_number its) × (mark_bound its ≡ row))
      (base_stays z s r pass word' lo hi b base.0 base.1) x in
      (k.0, before (mark_owner (row_at s.words b)) (mark_number (row_at s.words b)) (begun_by b _ _ base (k.0, refl, refl)) k.1, k.2)

  bound_then : (b row : ℕ) → IsBase role b → IsBoundOf s.words b row → IsBoundOf words' b row
  bound_then b row base x = subst (λ its. (mark its ≡ 1) × IsActive words' (mark_owner its) (mark_number its) × (mark_bound its ≡ row))
      (sym (base_stays z s r pass word' lo hi b base.0 base.1))
      (x.0, marked_then b (mark_owner (row_at s.words b)) (mark_number (row_at s.words b)) base (x.0, refl, refl) x.1, x.2)

  lent_before : (row : ℕ) → IsLent words' row → IsLent s.words row
  lent_before row l = let t = lent_end z words' role last shape' row l in
      end_lent z s.words role last f.shape row (t.0, t.1, t.2, bound_before t.0 row (t.1, t.2) t.3)

  lent_then : (row : ℕ) → IsLent s.words row → IsLent words' row
  lent_then row l = let t = lent_end z s.words role last f.shape row l in
      end_lent z words' role last shape' row (t.0, t.1, t.2, bound_then t.0 row (t.1, t.2) t.3)

  linked_before : (row : ℕ) → IsLinked words' row → IsLinked s.words row
  linked_before row l = ⊎_elim
      (λ (t : (p : Place) × (place_of (role row) ≡ some p)). placed_linked z s.words role last f.shape row t.0 t.1)
      (λ y. ⊎_elim
      (λ (t : (b : ℕ) × (p : Place) × (role b ≡ Base p) × IsIn row (items (row_at words' b))).
      item_linked z s.words role last f.shape t.0 t.1 t.2 row (subst (λ its. IsIn row (items its)) (base_stays z s r pass word' lo hi t.0 t.1 t.2) t.3))
      (λ (t : (b : ℕ) × (p : Place) × (role b ≡ Base p) × IsBoundOf words' b row).
      let k = end_lent z s.words role last f.shape row (t.0, t.1, t.2, bound_before t.0 row (t.1, t.2) t.3) in by_range k.0 row k.1 k.2 k.3)
      y)
      (reached z words' role last shape' row l)

  linked_then : (row : ℕ) → IsLinked s.words row → IsLinked words' row
  linked_then row l = ⊎_elim
      (λ (t : (p : Place) × (place_of (role row) ≡ some p)). placed_linked z words' role last shape' row t.0 t.1)
      (λ y. ⊎_elim
      (λ (t : (b : ℕ) × (p : Place) × (role b ≡ Base p) × IsIn row (items (row_at s.words b))).
      item_linked z words' role last shape' t.0 t.1 t.2 row (subst (λ its. IsIn row (items its)) (sym (base_stays z s r pass word' lo hi t.0 t.1 t.2)) t.3))
      (λ (t : (b : ℕ) × (p : Place) × (role b ≡ Base p) × IsBoundOf s.words b row).
      let k = end_lent z words' role last shape' row (t.0, t.1, t.2, bound_then t.0 row (t.1, t.2) t.3) in by_range k.0 row k.1 k.2 k.3)
      y)
      (reached z s.words role last f.shape row l)

  -- What ranges see: one pass turns.
  pub turns : Turns (scene_of s.words r.above.role) (scene_of (set s.words (own_word s.words pass + 1) word') r.above.role) pass
  turns = record {
    bases = λ row b. b;
    were = λ row b. b;
    keys = λ row. refl;
    marks = λ row b. ap mark_of (base_stays z s r pass word' lo hi row b.0 b.1);
    others = λ p n ne now. else_before z s r pass word' lo hi p n ne now;
    begun = began;
  }

  -- What a note says is so still, and what is over is over.
  pub true_then : (note : Note) → IsTrue z.rows s.words r.above.role note → IsTrue z.rows words' r.above.role note
  true_then note t = record {
    some_row = t.some_row;
    in_range = t.in_range;
    spells = row_stays z s r pass word' lo hi note.row t.in_range ∙ t.spells;
    named = λ b c i. let o = t.named b c i in (o.0, o.1, subst IsObjectRow (sym (row_stays z s r pass word' lo hi c o.1)) o.2);
    objects_are = λ b. map_same (λ c. row_at words' c) (λ c. row_at s.words c) (items note.its)
        (λ c i. row_stays z s r pass word' lo hi c (t.named b c i).1) ∙ t.objects_are b;
    stands = t.stands;
    marks = λ p n m. let was = t.marks p n m in (began p n was.0, λ now. was.1 (before p n was.0 now));
  }

  pub over_then : (x : Over) → IsOver s.words x → IsOver words' x
  over_then x o n less = let was = o n less in (began x.pass n was.0, λ now. was.1 (before x.pass n was.0 now))

  listed' : IsInventory words' r.above.role r.above.inventory
  listed' = record {
    linked = λ row l. f.listed.linked row (linked_before row l);
    rows = λ row i. linked_then row (f.listed.rows row i);
    rows_once = f.listed.rows_once;
    based = f.listed.based;
    bases = f.listed.bases;
    bases_once = f.listed.bases_once;
  }

  -- The seat of that pass knows this of ranges then.
  module _ (id : ℕ) (d : View TreeView) (at : get_elem? s.views id ≡ some d) (mine : d.upper.number ≡ pass) (u' : TreeView) (most' : ℕ)
      (same : 0 < u'.number → u'.number ≡ d.upper.number) (same_number : u'.number ≡ d.upper.number)
      (keeps_active : KeepsActive s.words (set s.words (own_word s.words pass + 1) word') d.upper.number d.upper.ranges.own u'.ranges.own)
      (same_tree : own_tree u' ≡ own_tree d.upper)
      (keeps_own : KeepsOwn d.upper.ranges.own u'.ranges.own) (same_ways : u'.ways ≡ d.upper.ways)
      (same_begun : u'.ranges.joins.begun ≡ d.upper.ranges.joins.begun)
      (ends' : ℕ → Ends) (ends_else : (p : ℕ) → p ≢ pass → ends' p ≡ r.above.ranged.ends p)
      (runs' : AreRuns (scene_of (set s.words (own_word s.words pass + 1) word') r.above.role) ends')
      (own_notes : (row : ℕ) → IsNoted (set s.words (own_word s.words pass + 1) word') u' row → IsNoted s.words d.upper row)
      (own_knows : Knows z r.made (set s.words (own_word s.words pass + 1) word') r.above.role (set (map upper_of s.views) id u') r.above.history id u')
      (own_ranging : IsRanging z (set s.words (own_word s.words pass + 1) word') r.above.role (ends' u'.number) u'.since r.above.history u'.number
      u'.ranges) where
    other : (j : ℕ) (y : View TreeView) → j ≢ id → get_elem? s.views j ≡ some y → y.upper.number ≢ pass
    other j y ne here e = ne ((knows_upper z s r id d at).alone (subst (λ n. 0 < n) (sym mine) lo) j y.upper (at_map upper_of s.views j y here) (e ∙ sym mine))

    tree_now : IsTree z r.made words' (set (map upper_of s.views) id u')
    tree_now = tree_with z s r pass word' lo hi id d at (subst (λ n. 0 < n) (sym mine) lo) u' shape' ends' runs'
        (λ p n now. dite (ℕ_discrete p pass)
        (λ e. subst (λ q. q ≤ r.made) (mine ∙ sym e) (knows_upper z s r id d at).made_before)
        (λ ne. f.ranged.made_before p n (else_before z s r pass word' lo hi p n ne now)))
        own_knows own_ranging
        (λ j y ne here. (
          knows_then z s r pass word' lo hi id d at true_then j y here u' same,
          subst (λ (e : Ends). IsRanging z words' role e y.upper.since f.history y.upper.number y.upper.ranges)
              (sym (ends_else y.upper.number (other j y ne here)))
              (ranging_else z s r pass word' lo hi true_then over_then (f.ranged.ends y.upper.number) y.upper (other j y ne here)
              (f.ranged.each j y.upper (at_map upper_of s.views j y here))),
        ))
        (λ i. i) listed' same_tree (omega arith)
        (λ _ most are. (are.0, λ none. are.1 (λ row l. none row (lent_then row l)))) keeps_own same_ways same_begun keeps_active same_number

    abbrev d' : View TreeView
    d' = record d { upper = u'; most = most' }

    pub turn_step : R z record {
      words = set s.words (own_word s.words pass + 1) word';
      homes = s.homes;
      views = set s.views id (record d { upper = u'; most = most' });
    }
    turn_step = relinks IsLinked IsLent IsNoted IsTree tree_lends z s r id d d' words' (λ _. Stays) record {
      at = at;
      same_sizes = refl;
      same_made = refl;
      same_stage = refl;
      same_lost = refl;
      same_pin = refl;
      wide = wide' z s r pass word' lo hi ∙ sym r.wide;
      low = λ i l. else_word z s r pass word' lo hi i (omega arith);
      announcements = told_same z s r pass word' lo hi;
      unlinked_rows = λ c k lo' hi' n l. else_word z s r pass word' lo hi (row_words * c + k) (omega arith);
      changes = λ c _ _. (linked_before c, linked_then c, lent_before c, lent_then c, refl);
      in_range = (r.seat id d at).in_range;
      notes = λ j y here c n. ⊎_elim
          (λ (t : (j ≡ id) × (d' ≡ y)). inl (
            d,
            ap (get_elem? s.views) t.0 ∙ at,
            own_notes c (subst (λ (w : View TreeView). IsNoted words' w.upper c) (sym t.1) n),
          ))
          (λ (t : (j ≢ id) × (get_elem? s.views j ≡ some y)). others_noted j y t.0 t.1 c n)
          (at_set s.views id j d' y here);
      above = subst (IsTree z r.made words') (sym (map-set upper_of s.views id d')) tree_now;
    }
      where
        others_noted : (j : ℕ) (y : View TreeView) → j ≢ id → get_elem? s.views j ≡ some y → (c : ℕ) → IsNoted words' y.upper c
            → ((w : View TreeView) × (get_elem? s.views j ≡ some w) × IsNoted s.words w.upper c) ⊎ (IsLinked words' c × (y.pin.pinned ≡ true))
        others_noted j y ne here c n = inl (
          y,
          here,
          noted_same z s r pass word' lo hi j y here (run_before z s r pass word' lo hi j y here (other j y ne here)) c n,
        )
