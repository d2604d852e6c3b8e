-- The words at the start are a tree: one base without objects under the root link.
use Rattle.std.proofs.Common.{◌≡◌, ◌≢◌, ℕ, zero, suc, ◌*◌, ◌/◌, ◌%◌, ◌<◌, ◌≤◌, cond, eqb, List, [], ◌∷◌, map, take, drop, get_or, sym, refl, ap, ◌∙◌, subst, inl, ⊎_elim, arith, ne_eqb}
use mathlib.Core.Logic.{dite}
use mathlib.Core.Option.{some, some-injective, some-ne-none}
use native.Mathlib.Decide.{ℕ_discrete}
use lib.ListN.{get_elem?}
use Rattle.ca_model.specs.Edges.{Unbounded}
use Rattle.ca_rows.specs.declared.sizes.Sizes.{Sizes}
use Rattle.ca_rows.specs.Laws.{Opened, Opening}
use Rattle.ca_rows.specs.Opening.{AreInBounds, AreUsable}
use Rattle.ca_rows.specs.Words.{IsWide, result_of}
use Rattle.ca_node.specs.Bare.{bare_headed}
use Rattle.ca_node.specs.Inventory.{IsInventory}
use Rattle.ca_node.specs.Links.{root, IsIn, IsActive, IsBoundOf, IsLinked, by_root, IsLent, IsNoted}
use Rattle.ca_node.specs.Opened.{opens_at, result_at}
use Rattle.ca_node.specs.Place.{Place, root_place}
use Rattle.ca_node.specs.Ranging.{IsRanging, AreRanged}
use Rattle.ca_node.specs.Reached.{same_place, reached}
use Rattle.ca_node.specs.Row.{row_at, items, mark, mark_owner, mark_number, IsMarkedBy, pair, item_words, row_in, IsHeaded}
use Rattle.ca_node.specs.Scenes.{IsBase}
use Rattle.ca_node.specs.Shape.{Role, Out, Base, Route, place_of, IsBaseAt, IsSo, IsShape}
use Rattle.ca_node.specs.Stays.{word_at}
use Rattle.ca_node.specs.Tree.{Knows, IsTree}
use Rattle.ca_node.specs.TreeView.{TreeView, first_inventory, blank}
use Rattle.ca_rows.specs.Layout.{row_words}
use Rattle.ca_node.specs.Layout.{items_word, form_unit, root_word, sequence_unit, count_limit, marked_by_range}
use Rattle.ca_node.specs.Laws.{in_nothing, in_one, no_blank_notes, no_ranging, knows_nothing}

-- The words at the start.
module _ (z : Sizes) (words : List ℕ) (bounds : AreInBounds z) (usable : AreUsable z) (wide : IsWide z.rows words)
    (above : (i : ℕ) → 2 ≤ i → i < 272 → get_or words i 0 ≡ opens_at z i)
    (results : (pass : ℕ) → 0 < pass → pass ≤ 64 → result_of words pass ≡ result_at z) where
  root_is : root words ≡ 1
  root_is = above root_word (omega arith) (omega arith)

  first_word : get_or (row_at words 1) 0 0 ≡ 144115188075855872
  first_word = word_at words 1 0 (omega arith) ∙ above row_words (omega arith) (omega arith)

  no_words : item_words (row_at words 1) ≡ []
  no_words = ap (λ n. take (n % count_limit) (drop items_word (row_at words 1))) first_word

  no_items : items (row_at words 1) ≡ []
  no_items = ap (map row_in) no_words

  unmarked : mark (row_at words 1) ≡ 0
  unmarked = word_at words 1 2 (omega arith) ∙ above 138 (omega arith) (omega arith)

  -- row 1 is the one base
  role_of : ℕ → Role
  role_of row = cond (eqb row 1) (Base root_place) Out

  role_one : role_of 1 ≡ Base root_place
  unfolding role_of
  role_one = refl

  role_other : (row : ℕ) → row ≢ 1 → role_of row ≡ Out
  unfolding role_of
  role_other row n = ap (λ b. cond b (Base root_place) Out) (ne_eqb row 1 n)

  first_base : IsBaseAt z words role_of [] root_place 1
  first_base = let least = bounds.least_rows in record {
    some_row = omega arith;
    in_range = omega arith;
    under = root_is;
    is_link = inl refl;
    deep = omega arith;
    is_base = ap (λ n. n / form_unit) first_word;
    level_is = ap (λ n. n / count_limit % count_limit) first_word;
    few = let e = ap (λ n. n % count_limit) first_word in omega arith;
    marked = inl unmarked;
    bounded = λ border x. let one = x.0 in let none = unmarked in absurd (omega arith);
    are_objects = λ r i. absurd (in_nothing r (items (row_at words 1)) no_items i);
    headed = subst (IsHeaded (row_at words 1)) (sym (ap (map (λ row. row_at words row)) no_items)) (bare_headed (row_at words 1) first_word
        (word_at words 1 7 (omega arith) ∙ above 143 (omega arith) (omega arith)) (word_at words 1 8 (omega arith) ∙ above 144 (omega arith) (omega arith))
        (word_at words 1 9 (omega arith) ∙ above 145 (omega arith) (omega arith)) (word_at words 1 10 (omega arith) ∙ above 146 (omega arith) (omega arith)));
    has = ap (map (λ row. pair (row_at words row))) no_items;
  }

  base_one : (row : ℕ) (p : Place) → role_of row ≡ Base p → row ≡ 1
  base_one row p e = dite (ℕ_discrete row 1) (λ same. same) (λ n. let x : Base p ≡ Out = sym e ∙ role_other row n in absurd cc)

  no_route : (row : ℕ) (p : Place) (key : List ℕ) → role_of row ≢ Route p key
  no_route row p key e = dite (ℕ_discrete row 1)
      (λ (same : row ≡ 1). let x : Base root_place ≡ Route p key = sym role_one ∙ (ap role_of (sym same) ∙ e) in cc)
      (λ n. let x : Out ≡ Route p key = sym (role_other row n) ∙ e in cc)

  range_is : (pass : ℕ) → 0 < pass → pass ≤ 64 → result_of words pass ≡ sequence_unit * z.starts.sequence
  range_is = results

  shape_there : IsShape z words role_of []
  shape_there = record {
    wide = wide;
    top = record { level = 0; greater = omega arith; hangs = ap (λ r. place_of (role_of r)) root_is ∙ ap place_of role_one };
    each_row = λ row. dite (ℕ_discrete row 1)
        (λ (e : row ≡ 1). subst (λ r. IsSo z words role_of [] r (role_of r)) (sym e) (subst (IsSo z words role_of [] 1) (sym role_one) first_base))
        (λ n. subst (IsSo z words role_of [] row) (sym (role_other row n)) tt);
    apart = λ a b p q key is is' _ _. base_one a p is ∙ sym (base_one b q is');
  }

  -- No range is active.
  quiet : (pass number : ℕ) → ¬ IsActive words pass number
  quiet pass number x = let lo = x.0 in let hi = x.1 in let e = x.2 in let here = range_is pass lo hi in omega arith

  base_unmarked : (row pass number : ℕ) → IsBase role_of row → ¬ IsMarkedBy (row_at words row) pass number
  base_unmarked row pass number base marked = let same = base_one row base.0 base.1 in
      let one : mark (row_at words 1) ≡ marked_by_range = ap (λ r. mark (row_at words r)) (sym same) ∙ marked.0 in let none = unmarked in omega arith

  ranged_there : AreRanged z 0 words role_of (blank 0 ∷ []) []
  ranged_there = record {
    ends = λ _. record { edge = Unbounded; top = 0 };
    runs = record {
      run = λ _. [];
      each = λ pass number now. absurd (quiet pass number now);
      whole = λ pass number row now base marked. absurd (quiet pass number now);
      begun = λ pass number row base marked. absurd (base_unmarked row pass number base marked);
    };
    made_before = λ pass number now. absurd (quiet pass number now);
    each = λ j u here. by j u here;
  }
    where
      by : (j : ℕ) (u : TreeView) → get_elem? (blank 0 ∷ []) j ≡ some u
          → IsRanging z words role_of (record { edge = Unbounded; top = 0 }) u.since [] u.number u.ranges
      by zero u e = subst (λ (v : TreeView). IsRanging z words role_of (record { edge = Unbounded; top = 0 }) v.since [] v.number v.ranges)
          (some-injective (blank 0) u e) (no_ranging z words role_of (record { edge = Unbounded; top = 0 }) [])
      by (suc j) u e = absurd (some-ne-none u (sym e))

  only : (j : ℕ) (u : TreeView) → get_elem? (blank 0 ∷ []) j ≡ some u → Knows z 0 words role_of (blank 0 ∷ []) [] j u
  only zero u e = subst (Knows z 0 words role_of (blank 0 ∷ []) [] 0) (some-injective (blank 0) u e)
      (knows_nothing z 0 words role_of (blank 0 ∷ []) [] 0 0 (omega arith) (λ lo. absurd (omega arith)) refl)
  only (suc j) u e = absurd (some-ne-none u (sym e))

  -- Row 1 alone is linked.
  only_first : (row : ℕ) → IsLinked words row → row ≡ 1
  only_first row l = ⊎_elim
      (λ (x : (place : Place) × (place_of (role_of row) ≡ some place)). dite (ℕ_discrete row 1) (λ e. e)
      (λ n. absurd (some-ne-none x.0 (sym x.1 ∙ ap place_of (role_other row n)))))
      (λ is. ⊎_elim
      (λ (x : (base : ℕ) × (place : Place) × (role_of base ≡ Base place) × IsIn row (items (row_at words base))). dite (ℕ_discrete x.0 1)
      (λ e. absurd (in_nothing row (items (row_at words x.0)) (ap (λ r. items (row_at words r)) e ∙ no_items) x.3))
      (λ n. let y : Base x.1 ≡ Out = sym x.2 ∙ role_other x.0 n in absurd cc))
      (λ (x : (base : ℕ) × (place : Place) × (role_of base ≡ Base place) × IsBoundOf words base row). absurd (quiet
      (mark_owner (row_at words x.0)) (mark_number (row_at words x.0)) x.3.1))
      is)
      (reached z words role_of [] shape_there row l)

  one_linked : (row : ℕ) → row ≡ 1 → IsLinked words row
  one_linked row e = by_root row (root_is ∙ sym e)

  -- It is all that the tree has.
  listed_first : IsInventory words role_of first_inventory
  listed_first = record {
    linked = λ row l. subst (λ (r : ℕ). IsIn r (1 ∷ [])) (sym (only_first row l)) (0, refl);
    rows = λ row i. one_linked row (sym (in_one 1 row i));
    rows_once = ((λ t. in_nothing t.0 [] refl t.1), tt);
    based = λ row place is. let one = base_one row place is in
        let same : root_place ≡ place = same_place root_place place (sym role_one ∙ (ap role_of (sym one) ∙ is)) in
        subst (λ (p : Place). IsIn {A = ℕ × Place} (row, p) first_inventory.bases) same
        (subst (λ (r : ℕ). IsIn {A = ℕ × Place} (r, root_place) first_inventory.bases) (sym one) (0, refl));
    bases = λ row place i. let first : ℕ × Place = (1, root_place) in let here : ℕ × Place = (row, place) in let e : first ≡ here = in_one first here i in
        ap (λ (x : ℕ × Place). role_of x.0) (sym e) ∙ (role_one ∙ ap (λ (x : ℕ × Place). Base x.1) e);
    bases_once = ((λ t. in_nothing t.0 [] refl t.1), tt);
  }

  opened : Opened IsLinked IsLent IsNoted IsTree z (blank 0) words
  opened = record {
    stands = record {
      usable = usable;
      history = [];
      edits = tt;
      by_passes = tt;
      keypos = above 131 (omega arith) (omega arith);
      leaf = above 132 (omega arith) (omega arith);
      levels = above 133 (omega arith) (omega arith);
      role = role_of;
      shape = shape_there;
      ranged = ranged_there;
      joined = record {
        secured = λ route place key attempt is now. absurd (no_route route place key is);
        states = λ route place key is. absurd (no_route route place key is);
      };
      lone = λ j u here few lo. let low = (only j u here).made_before in absurd (omega arith);
      each_seat = only;
      inventory = first_inventory;
      listed = listed_first;
      at_first = λ _. refl;
      only_one = λ j u here few lo. let low = (only j u here).made_before in absurd (omega arith);
    };
    links = λ r. (only_first r, one_linked r);
    lents = λ r x. quiet (mark_owner (row_at words x.0)) (mark_number (row_at words x.0)) x.3.1;
    notes = λ r. no_blank_notes words 0 r;
  }

pub tree_opening : Opening IsLinked IsLent IsNoted IsTree opens_at result_at (blank 0)
tree_opening z words bounds usable wide above results = opened z words bounds usable wide above results
