-- An active range ends: the word of its pass says from then on that it was decided, or given up. What changes in the words, and what of the tree stands.
use Rattle.std.proofs.Common.{◌≡◌, ◌≢◌, ℕ, ◌+◌, ◌*◌, ◌/◌, ◌%◌, ◌<◌, ◌≤◌, List, [], map, get_or, set, sym, refl, ap, ◌∙◌, subst, ⊎_elim, arith}
use mathlib.Core.Logic.{dite}
use mathlib.Core.Option.{some, some-ne-none}
use native.Mathlib.Decide.{ℕ_discrete}
use lib.ListN.{get_elem?}
use Rattle.atomic_table.specs.Table.{State}
use Rattle.ca_model.specs.History.{after}
use Rattle.ca_model.specs.StoreMap.{StoreMap}
use Rattle.ca_rows.specs.Layout.{row_words, row_limit}
use Rattle.ca_rows.specs.Rule.{upper_of}
use Rattle.ca_rows.specs.Words.{own_word, result_of}
use Rattle.ca_rows.specs.declared.sizes.Sizes.{Sizes}
use Rattle.ca_rows.specs.declared.view.View.{View}
use Rattle.ca_runs.specs.Runs.{AreRuns, range_of}
use Rattle.ca_runs.proofs.Keeping.{of_run}
use Rattle.ca_runs.proofs.Turning.{ends_one}
use Rattle.ca_node.specs.Inventory.{but, row_itself, IsInventory}
use Rattle.ca_node.specs.Layout.{root_word, sequence_unit}
use Rattle.ca_node.specs.Links.{IsIn, IsActive, HasBegun, IsBoundOf, IsLinked, by_range, IsLent}
use Rattle.ca_node.specs.Place.{Place}
use Rattle.ca_node.specs.Ranging.{IsOver, HasSequence, IsRanging}
use Rattle.ca_node.specs.Reached.{base_at, placed_linked, item_linked, item_at, reached, linked_range, lent_end, end_lent, end_at, end_out}
use Rattle.ca_node.specs.Row.{row_at, form, IsObjectRow, items, mark, mark_owner, mark_number, mark_bound, IsMarkedBy}
use Rattle.ca_node.specs.Scenes.{IsBase, mark_of, scene_of}
use Rattle.ca_node.specs.Shape.{Role, Base, place_of, IsShape}
use Rattle.ca_node.specs.Standing.{shape_stands}
use Rattle.ca_node.specs.Stays.{map_same}
use Rattle.ca_node.specs.Tree.{IsTrue, IsTree}
use Rattle.ca_node.specs.TreeView.{Note, Over, Inventory, TreeView}
use Rattle.ca_node.proofs.Listing.{in_but, of_but, but_once}
use Rattle.ca_node.proofs.Looking.{R}
use Rattle.ca_node.proofs.OwnWord.{else_word, result_same, result_here, wide', row_stays, base_stays, begun_then, else_before, else_then, ranging_else}

-- The word of an active range is exchanged for one by which it is over, and the tree has a base that it marked.
pub record IsEnd (z : Sizes) (s : State (Unit {0}) (View TreeView)) (r : R z s) (pass number word' : ℕ) : Type 0 where
  pub lo : 0 < pass
  pub hi : pass ≤ 64
  pub hit : result_of s.words pass ≡ sequence_unit * number + row_limit
  pub same_number : word' / sequence_unit ≡ number
  pub is_over : word' % sequence_unit ≢ row_limit
  pub base : ℕ
  pub base_is : IsBase r.above.role base
  pub marked : IsMarkedBy (row_at s.words base) pass number

module _ (z : Sizes) (s : State (Unit {0}) (View TreeView)) (r : R z s) (pass number word' : ℕ) (end : IsEnd z s r pass number word') where
  abbrev f : IsTree z r.made s.words (map upper_of s.views)
  f = r.above

  abbrev role : ℕ → Role
  role = r.above.role

  abbrev last : StoreMap
  last = after r.above.history []

  abbrev words' : List ℕ
  words' = set s.words (own_word s.words pass + 1) word'

  was_active : IsActive s.words pass number
  was_active = (end.lo, end.hi, end.hit)

  -- The range isn't active any more, others are as they were.
  pub not_active : (n : ℕ) → ¬ IsActive words' pass n
  not_active n now = let here = sym (result_here z s r pass word' end.lo end.hi) ∙ now.2 in end.is_over (omega arith)

  pub active_before : (p n : ℕ) → IsActive words' p n → IsActive s.words p n × (p ≢ pass)
  active_before p n now = dite (ℕ_discrete p pass)
      (λ (e : p ≡ pass). absurd (not_active n (subst (λ q. IsActive words' q n) e now)))
      (λ ne. (else_before z s r pass word' end.lo end.hi p n ne now, ne))

  rises : result_of s.words pass / sequence_unit ≤ word' / sequence_unit
  rises = let here = end.hit in let same = end.same_number in omega arith

  pub began : (p n : ℕ) → HasBegun s.words p n → HasBegun words' p n
  began = begun_then z s r pass word' end.lo end.hi rises

  pub shape' : IsShape z words' r.above.role (after r.above.history [])
  shape' = shape_stands z s.words words' role last f.shape (wide' z s r pass word' end.lo end.hi)
      (else_word z s r pass word' end.lo end.hi root_word (omega arith))
      (λ p lo' hi'. (began p (result_of s.words p / sequence_unit) (lo', hi', omega arith)).2)
      (λ b place is p n m now. (active_before p n now).0)
      (λ row l k inside. let hi' = (linked_range z s.words role last f.shape row l).1 in
      else_word z s r pass word' end.lo end.hi (row_words * row + k) (omega arith))

  -- The row says up to where the range went.
  abbrev pub border : ℕ
  border = mark_bound (row_at s.words end.base)

  border_bound : IsBoundOf s.words end.base border
  border_bound = (end.marked.0, subst (λ (y : ℕ × ℕ). IsActive s.words y.0 y.1) (λ i. (sym end.marked.1 i, sym end.marked.2 i)) was_active, refl)

  pub border_lent : IsLent s.words border
  border_lent = end_lent z s.words role last f.shape border (end.base, end.base_is.0, end.base_is.1, border_bound)

  border_form : form (row_at s.words border) ≡ 4
  border_form = (end_at z s.words role last f.shape border (end.base, end.base_is.0, end.base_is.1, border_bound)).2

  border_owner : get_or (row_at s.words border) 1 0 ≡ pass
  border_owner = ((base_at z s.words role last f.shape end.base end.base_is.0 end.base_is.1).bounded border border_bound).owner ∙ end.marked.1

  border_range : (0 < border) × (border ≤ z.rows)
  border_range = let e = end_at z s.words role last f.shape border (end.base, end.base_is.0, end.base_is.1, border_bound) in (e.0, e.1)

  -- What a range of this pass marked ends there.
  ends_there : (b row : ℕ) → IsBase role b → IsBoundOf s.words b row → mark_owner (row_at s.words b) ≡ pass → row ≡ border
  ends_there b row b_is bound mine = let n : ℕ = mark_number (row_at s.words b) in
      let now : IsActive s.words pass n = subst (λ q. IsActive s.words q n) mine bound.1 in
      let same : n ≡ number = (let here = now.2 in let there = end.hit in omega arith) in
      let run = f.ranged.runs.each pass number was_active in
      let b_in = f.ranged.runs.whole pass number b was_active b_is (bound.0, mine, same) in
      let base_in = f.ranged.runs.whole pass number end.base was_active end.base_is end.marked in
      sym bound.2 ∙ ((of_run (scene_of s.words role) (range_of f.ranged.ends pass number) (f.ranged.runs.run pass) b run b_in).ends
      ∙ sym (of_run (scene_of s.words role) (range_of f.ranged.ends pass number) (f.ranged.runs.run pass) end.base run base_in).ends)

  -- What was lent is lent, but for the border,
  pub lent_then : (row : ℕ) → row ≢ border → IsLent s.words row → IsLent words' row
  lent_then row ne l = let t = lent_end z s.words role last f.shape row l in dite (ℕ_discrete (mark_owner (row_at s.words t.0)) pass)
      (λ e. absurd (ne (ends_there t.0 row (t.1, t.2) t.3 e)))
      (λ other. end_lent z words' role last shape' row (
        t.0,
        t.1,
        t.2,
        subst (λ its. (mark its ≡ 1)
            × IsActive words' (mark_owner its) (mark_number its) × (mark_bound its ≡ row)) (sym (base_stays z s r pass word' end.lo end.hi t.0 t.1 t.2))
            (t.3.0, else_then z s r pass word' end.lo end.hi (mark_owner (row_at s.words t.0)) (mark_number (row_at s.words t.0)) other t.3.1, t.3.2),
      ))

  end_before : (row : ℕ) (b : ℕ) (p : Place) → role b ≡ Base p → IsBoundOf words' b row
      → IsBoundOf s.words b row × (mark_owner (row_at s.words b) ≢ pass)
  end_before row b p e x = let k = subst (λ its. (mark its ≡ 1) × IsActive words' (mark_owner its) (mark_number its) × (mark_bound its ≡ row))
      (base_stays z s r pass word' end.lo end.hi b p e) x in let a = active_before (mark_owner (row_at s.words b)) (mark_number (row_at s.words b)) k.1 in
      ((k.0, a.0, k.2), a.1)

  pub lent_before : (row : ℕ) → IsLent words' row → IsLent s.words row
  lent_before row l = let t = lent_end z words' role last shape' row l in
      end_lent z s.words role last f.shape row (t.0, t.1, t.2, (end_before row t.0 t.1 t.2 t.3).0)

  -- which isn't linked any more.
  pub border_gone : ¬ IsLinked words' border
  border_gone l = ⊎_elim
      (λ (t : (p : Place) × (place_of (role border) ≡ some p)). some-ne-none t.0 (sym t.1
      ∙ ap place_of (end_out z s.words role last f.shape border (end.base, end.base_is.0, end.base_is.1, border_bound))))
      (λ y. ⊎_elim
      (λ (t : (b : ℕ) × (p : Place) × (role b ≡ Base p) × IsIn border (items (row_at words' b))).
      let o = (item_at z s.words role last f.shape t.0 t.1 t.2 border
      (subst (λ its. IsIn border (items its)) (base_stays z s r pass word' end.lo end.hi t.0 t.1 t.2) t.3)).2.0 in
      let four = border_form in omega arith)
      (λ (t : (b : ℕ) × (p : Place) × (role b ≡ Base p) × IsBoundOf words' b border).
      let x = end_before border t.0 t.1 t.2 t.3 in
      x.1 (sym ((base_at z s.words role last f.shape t.0 t.1 t.2).bounded border x.0).owner ∙ border_owner))
      y)
      (reached z words' role last shape' border l)

  pub linked_before : (row : ℕ) → IsLinked words' row → IsLinked s.words row
  linked_before row l = ⊎_elim
      (λ (t : (p : Place) × (place_of (role row) ≡ some p)). placed_linked z s.words role last f.shape row t.0 t.1)
      (λ y. ⊎_elim
      (λ (t : (b : ℕ) × (p : Place) × (role b ≡ Base p) × IsIn row (items (row_at words' b))).
      item_linked z s.words role last f.shape t.0 t.1 t.2 row (subst (λ its. IsIn row (items its)) (base_stays z s r pass word' end.lo end.hi t.0 t.1 t.2) t.3))
      (λ (t : (b : ℕ) × (p : Place) × (role b ≡ Base p) × IsBoundOf words' b row).
      let k = end_lent z s.words role last f.shape row (t.0, t.1, t.2, (end_before row t.0 t.1 t.2 t.3).0) in by_range k.0 row k.1 k.2 k.3)
      y)
      (reached z words' role last shape' row l)

  pub linked_then : (row : ℕ) → row ≢ border → IsLinked s.words row → IsLinked words' row
  linked_then row ne l = ⊎_elim
      (λ (t : (p : Place) × (place_of (role row) ≡ some p)). placed_linked z words' role last shape' row t.0 t.1)
      (λ y. ⊎_elim
      (λ (t : (b : ℕ) × (p : Place) × (role b ≡ Base p) × IsIn row (items (row_at s.words b))).
      item_linked z words' role last shape' t.0 t.1 t.2 row
      (subst (λ its. IsIn row (items its)) (sym (base_stays z s r pass word' end.lo end.hi t.0 t.1 t.2)) t.3))
      (λ (t : (b : ℕ) × (p : Place) × (role b ≡ Base p) × IsBoundOf s.words b row).
      let k = lent_then row ne (end_lent z s.words role last f.shape row t) in by_range k.0 row k.1 k.2 k.3)
      y)
      (reached z s.words role last f.shape row l)

  -- Runs of other ranges are runs.
  pub runs' : AreRuns (scene_of words' r.above.role) r.above.ranged.ends
  runs' = ends_one (scene_of s.words role) (scene_of words' role) f.ranged.ends pass f.ranged.runs record {
    bases = λ row b. b;
    were = λ row b. b;
    keys = λ row. refl;
    marks = λ row b. ap mark_of (base_stays z s r pass word' end.lo end.hi row b.0 b.1);
    others = λ p n ne now. (active_before p n now).0;
    begun = began;
  } not_active

  -- What a note says is so still.
  pub true_then : (note : Note) → IsTrue z.rows s.words r.above.role note → IsTrue z.rows words' r.above.role note
  true_then note t = record {
    some_row = t.some_row;
    in_range = t.in_range;
    spells = row_stays z s r pass word' end.lo end.hi note.row t.in_range ∙ t.spells;
    named = λ b c i. let o = t.named b c i in (o.0, o.1, subst IsObjectRow (sym (row_stays z s r pass word' end.lo end.hi c o.1)) o.2);
    objects_are = λ b. map_same (λ c. row_at words' c) (λ c. row_at s.words c) (items note.its)
        (λ c i. row_stays z s r pass word' end.lo end.hi c (t.named b c i).1) ∙ t.objects_are b;
    stands = t.stands;
    marks = λ p n m. let was = t.marks p n m in (began p n was.0, λ now. was.1 (active_before p n now).0);
  }

  -- What a seat knows of ranges is so, if its own one is as far, and not this one.
  pub over_then : (x : Over) → IsOver s.words x → IsOver words' x
  over_then x o n less = let was = o n less in (began x.pass n was.0, λ now. was.1 (active_before x.pass n now).0)

  pub sequence_then : (p n : ℕ) → 0 < p → HasSequence s.words p n → HasSequence words' p n
  sequence_then p n lo' q = (
    q.0,
    dite (ℕ_discrete p pass)
        (λ (e : p ≡ pass). let was : result_of s.words pass / sequence_unit ≡ n = subst (λ k. result_of s.words k / sequence_unit ≡ n) e q.1 in
        let here = end.hit in subst (λ k. result_of words' k / sequence_unit ≡ n) (sym e)
        (ap (λ v. v / sequence_unit) (result_here z s r pass word' end.lo end.hi) ∙ (end.same_number ∙ omega arith)))
        (λ ne. ap (λ v. v / sequence_unit) (result_same z s r pass word' end.lo end.hi p lo' q.0 ne) ∙ q.1),
  )

  pub ranging_then : (j : ℕ) (v : TreeView) → get_elem? (map upper_of s.views) j ≡ some v → v.number ≢ pass
      → IsRanging z words' r.above.role (r.above.ranged.ends v.number) v.since r.above.history v.number v.ranges
  ranging_then j v here ne = ranging_else z s r pass word' end.lo end.hi true_then over_then (f.ranged.ends v.number) v ne (f.ranged.each j v here)

  -- The border isn't listed any more.
  abbrev pub less_by_border : Inventory → Inventory
  less_by_border i = record { rows = but row_itself border i.rows; bases = i.bases; most = i.most }

  pub listed' : IsInventory words' r.above.role (less_by_border r.above.inventory)
  listed' = record {
    linked = λ row l. in_but row_itself border f.inventory.rows row (f.listed.linked row (linked_before row l))
        (λ e. border_gone (subst (IsLinked words') e l));
    rows = λ row i. let k = of_but row_itself border f.inventory.rows row i in linked_then row k.1 (f.listed.rows row k.0);
    rows_once = but_once row_itself border f.inventory.rows f.listed.rows_once;
    based = f.listed.based;
    bases = f.listed.bases;
    bases_once = f.listed.bases_once;
  }
