-- What stays where two tables agree on rows.
use Rattle.std.proofs.Common.{◌≡◌, ℕ, suc, ◌+◌, ◌*◌, ◌<◌, ◌≤◌, List, [], ◌∷◌, length, map, drop, get_or, sym, refl, ap, ◌∙◌, subst, inl, inr, ⊎_elim, arith, length-drop}
use Rattle.std.proofs.lemmas.List.{get_or-take, get_or-drop, length-take-le}
use Rattle.std.proofs.lemmas.Grind.{same_number_lists}
use Rattle.ca_rows.specs.Words.{IsWide}
use Rattle.ca_node.specs.Links.{root, IsIn, IsUnder, IsActive, IsBoundOf, IsLinked, by_root, by_route, by_base, by_range, IsLent}
use Rattle.ca_node.specs.Row.{row_at, IsBaseRow, IsRouteRow, items, mark, mark_owner, mark_number, mark_bound}
use Rattle.ca_node.specs.Layout.{marked_by_range}
use Rattle.ca_rows.specs.Layout.{row_words}

-- The row has the same words in both tables.
abbrev pub IsSameRow : List ℕ → List ℕ → ℕ → Type 0
IsSameRow words others row = (k : ℕ) → k < row_words → get_or others (row_words * row + k) 0 ≡ get_or words (row_words * row + k) 0

pub word_at : (words : List ℕ) (row k : ℕ) → k < row_words → get_or (row_at words row) k 0 ≡ get_or words (row_words * row + k) 0
word_at words row k l = get_or-take row_words (drop (row_words * row) words) k 0 l ∙ get_or-drop (row_words * row) words k 0

pub row_long : (words : List ℕ) (rows row : ℕ) → IsWide rows words → row ≤ rows → length (row_at words row) ≡ row_words
row_long words rows row wide hi = length-take-le row_words (drop (row_words * row) words) (omega (arith, length-drop (row_words * row) words))

pub row_same : (words others : List ℕ) (rows row : ℕ) → IsWide rows words → IsWide rows others → row ≤ rows → IsSameRow words others row
    → row_at others row ≡ row_at words row
row_same words others rows row wide wide' hi same = let a = row_long words rows row wide hi in let b = row_long others rows row wide' hi in
    same_number_lists (row_at others row) (row_at words row) (b ∙ sym a)
    (λ k l. let inside : k < row_words = omega arith in word_at others row k inside ∙ (same k inside ∙ sym (word_at words row k inside)))

-- What two functions give each member of a list.
pub map_same : {A B : Type 0} (f g : A → B) (xs : List A) → ((x : A) → IsIn x xs → f x ≡ g x) → map f xs ≡ map g xs
map_same f g [] same = refl
map_same f g (x ∷ xs) same = ap (λ y. y ∷ map f xs) (same x (0, refl)) ∙ ap (λ ys. g x ∷ ys) (map_same f g xs (λ y i. same y (suc i.0, i.1)))

-- Two tables that agree on the root link, on which ranges are active, and on each row that is linked in one of them.
module _ (rows : ℕ) (words others : List ℕ) (wide : IsWide rows words) (wide' : IsWide rows others) (same_root : root others ≡ root words)
    (active : (pass sequence : ℕ) → (IsActive others pass sequence → IsActive words pass sequence)
    × (IsActive words pass sequence → IsActive others pass sequence))
    (in_range : (row : ℕ) → IsLinked words row → row ≤ rows) (same : (row : ℕ) → IsLinked words row → IsSameRow words others row) where
  its_same : (row : ℕ) → IsLinked words row → row_at others row ≡ row_at words row
  its_same row l = row_same words others rows row wide wide' (in_range row l) (same row l)

  under_on : (route row : ℕ) → IsSameRow words others route → IsUnder words route row → IsUnder others route row
  under_on route row s u = ⊎_elim (λ e. inl (s 1 (omega arith) ∙ e)) (λ e. inr (s 2 (omega arith) ∙ e)) u

  under_back : (route row : ℕ) → IsSameRow words others route → IsUnder others route row → IsUnder words route row
  under_back route row s u = ⊎_elim (λ e. inl (sym (s 1 (omega arith)) ∙ e)) (λ e. inr (sym (s 2 (omega arith)) ∙ e)) u

  abbrev Bounds : List ℕ → (ℕ → ℕ → Type 0) → ℕ → Type 0
  Bounds its on row = (mark its ≡ marked_by_range) × on (mark_owner its) (mark_number its) × (mark_bound its ≡ row)

  bound_on : (base row : ℕ) → IsLinked words base → IsBoundOf words base row → IsBoundOf others base row
  bound_on base row l b = subst (λ its. Bounds its (IsActive others) row) (sym (its_same base l)) (b.0, (active _ _).1 b.1, b.2)

  bound_back : (base row : ℕ) → IsLinked words base → IsBoundOf others base row → IsBoundOf words base row
  bound_back base row l b = let c = subst (λ its. Bounds its (IsActive others) row) (its_same base l) b in (c.0, (active _ _).0 c.1, c.2)

  pub linked_on : (row : ℕ) → IsLinked words row → IsLinked others row
  linked_on _ (by_root row e) = by_root row (same_root ∙ e)
  linked_on _ (by_route route row l f u) = by_route route row (linked_on route l) (subst IsRouteRow (sym (its_same route l)) f)
      (under_on route row (same route l) u)
  linked_on _ (by_base base row l f i) = by_base base row (linked_on base l) (subst IsBaseRow (sym (its_same base l)) f)
      (subst (λ its. IsIn row (items its)) (sym (its_same base l)) i)
  linked_on _ (by_range base row l f b) = by_range base row (linked_on base l) (subst IsBaseRow (sym (its_same base l)) f) (bound_on base row l b)

  pub linked_back : (row : ℕ) → IsLinked others row → IsLinked words row
  linked_back _ (by_root row e) = by_root row (sym same_root ∙ e)
  linked_back _ (by_route route row l f u) = let was = linked_back route l in
      by_route route row was (subst IsRouteRow (its_same route was) f) (under_back route row (same route was) u)
  linked_back _ (by_base base row l f i) = let was = linked_back base l in
      by_base base row was (subst IsBaseRow (its_same base was) f) (subst (λ its. IsIn row (items its)) (its_same base was) i)
  linked_back _ (by_range base row l f b) = let was = linked_back base l in
      by_range base row was (subst IsBaseRow (its_same base was) f) (bound_back base row was b)

  pub lent_on : (row : ℕ) → IsLent words row → IsLent others row
  lent_on row x = (x.0, linked_on x.0 x.1, subst IsBaseRow (sym (its_same x.0 x.1)) x.2, bound_on x.0 row x.1 x.3)

  pub lent_back : (row : ℕ) → IsLent others row → IsLent words row
  lent_back row x = let was = linked_back x.0 x.1 in (x.0, was, subst IsBaseRow (its_same x.0 was) x.2, bound_back x.0 row was x.3)
