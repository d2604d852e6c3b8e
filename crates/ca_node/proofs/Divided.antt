-- A base is divided: by one exchange of its link a route takes its place, over two bases that have
-- its objects.
use Rattle.std.proofs.Common.{◌≡◌, ◌≢◌, ◌⊎◌, ℕ, ◌+◌, ◌*◌, ◌<◌, ◌≤◌, eqb, cond, List, [], ◌∷◌, ◌++◌, length, map, get_or, set, sym, refl, ap, ◌∙◌, subst, inl, inr, ⊎_elim, arith}
use Rattle.std.proofs.lemmas.Bool.Decides.{nat_tests}
use Rattle.std.proofs.lemmas.List.{map-append}
use mathlib.Core.Logic.{dite}
use mathlib.Core.Option.{some, some-ne-none}
use native.Mathlib.Decide.{ℕ_discrete}
use lib.ListN.{get_elem?}
use Rattle.std.specs.declared.cmp.Ordering.TheVariants.{Less}
use Rattle.ca_model.specs.Edges.{Included}
use Rattle.ca_model.specs.StoreMap.{Pair, StoreMap, bytes_cmp, IsStoreMap}
use Rattle.ca_rows.specs.declared.sizes.Sizes.{Sizes}
use Rattle.ca_node.specs.Place.{Span, all_keys, left_of, right_of, HasKey, part, Place, left_place, right_place}
use Rattle.ca_node.specs.Row.{row_at, IsRouteRow, count, level, items, key, object, route_key, pair, objects_in}
use Rattle.ca_node.specs.Shape.{Role, Out, Base, Route, place_of, IsLink, LeadsTo, IsBaseAt, IsRouteAt, IsSo, IsShape}
use Rattle.ca_node.specs.Stays.{word_at}
use Rattle.ca_node.proofs.Parts.{part_cut, part_rises, two_sides, left_is_in, right_is_in}
use Rattle.ca_node.proofs.Named.{key_in}
use Rattle.ca_node.specs.Reached.{same_place, base_at}
use Rattle.ca_node.proofs.Relinked.{out_no_route, IsNewBase, AreRolesThen, relinked_wide, relinked_here, relinked_keeps, relinked_row, link_still, lead_still, row_still, base_comes, roles_of_base, base_link_kept}
use Rattle.ca_rows.specs.Layout.{row_words}
use Rattle.ca_node.specs.Layout.{root_word}

-- Behind some members of a list stands the next one.
pub behind : {A : Type 0} (xs ys : List A) (a : A) → get_elem? (xs ++ a ∷ ys) (length xs) ≡ some a
behind [] ys a = refl
behind (x ∷ xs) ys a = behind xs ys a

-- The row is to be a route of the tree over these two rows: it is nothing in it yet, and its words
-- are those of such a route.
pub record IsNewRoute (z : Sizes) (words : List ℕ) (role : ℕ → Role) (deep : ℕ) (k : List ℕ)
    (left right row : ℕ) : Type 0 where
  pub some_row : 0 < row
  pub in_range : row ≤ z.rows
  pub is_out : role row ≡ Out
  pub is_route : IsRouteRow (row_at words row)
  pub level_is : level (row_at words row) ≡ deep
  pub short : count (row_at words row) ≤ 1000
  pub key_is : route_key (row_at words row) ≡ k
  pub left_is : get_or (row_at words row) 1 0 ≡ left
  pub right_is : get_or (row_at words row) 2 0 ≡ right

-- The objects of one base are those of two others, each of which has some, and the key is that of
-- the second one's first object.
pub record AreDivided (words : List ℕ) (old left right : ℕ) (k : List ℕ) : Type 0 where
  pub both : items (row_at words old) ≡ items (row_at words left) ++ items (row_at words right)
  pub left_first : ℕ
  pub left_rest : List ℕ
  pub left_begins : items (row_at words left) ≡ left_first ∷ left_rest
  pub first : ℕ
  pub rest : List ℕ
  pub begins : items (row_at words right) ≡ first ∷ rest
  pub key_is : key (row_at words first) ≡ k

-- the roles where a route over two bases takes the place of a base
abbrev pub with_route : (ℕ → Role) → Place → List ℕ → ℕ → ℕ → ℕ → ℕ → ℕ → Role
with_route role place k old route left right row =
    cond (eqb row route) (Route place k) (cond (eqb row left) (Base (left_place place k route))
    (cond (eqb row right) (Base (right_place place k route)) (cond (eqb row old) Out (role row))))

-- What is what then.
module _ (role : ℕ → Role) (place : Place) (k : List ℕ) (old route left right : ℕ) where
  -- The route is one there.
  pub with_route_route : with_route role place k old route left right route ≡ Route place k
  with_route_route = grind (arith, nat_tests)

  -- The left base is one under it.
  pub with_route_left : left ≢ route
      → with_route role place k old route left right left ≡ Base (left_place place k route)
  with_route_left n = grind (arith, nat_tests)

  -- So is the right one.
  pub with_route_right : right ≢ route → right ≢ left
      → with_route role place k old route left right right ≡ Base (right_place place k route)
  with_route_right n m = grind (arith, nat_tests)

  -- The old base is nothing.
  pub with_route_old : old ≢ route → old ≢ left → old ≢ right
      → with_route role place k old route left right old ≡ Out
  with_route_old n m l = grind (arith, nat_tests)

  -- Each other row is what it was.
  pub with_route_else : (row : ℕ) → row ≢ route → row ≢ left → row ≢ right → row ≢ old
      → with_route role place k old route left right row ≡ role row
  with_route_else row n m l d = grind (arith, nat_tests)

-- A route over two bases takes the place of a base that isn't at the last level.
module _ (z : Sizes) (words : List ℕ) (role : ℕ → Role) (m : StoreMap)
    (shape : IsShape z words role m) (p : ℕ) (is_map : IsStoreMap p m) (old : ℕ)
    (place : Place) (is : role old ≡ Base place) (above : place.level < z.levels) (k : List ℕ)
    (route left right : ℕ) (left_other : left ≢ route)
    (right_other : right ≢ route) (apart : right ≢ left)
    (r : IsNewRoute z words role place.level k left right route)
    (a : IsNewBase z words role (left_place place k route) left)
    (b : IsNewBase z words role (right_place place k route) right)
    (divided : AreDivided words old left right k) where
  -- the words then
  abbrev words' : List ℕ
  words' = set words place.link route

  -- the roles then
  abbrev roles : ℕ → Role
  roles = with_route role place k old route left right

  -- The old base was one.
  was : IsBaseAt z words role m place old
  was = base_at z words role m shape old place is

  -- A row that is nothing in the tree isn't the old base.
  other : (c : ℕ) → role c ≡ Out → old ≢ c
  other c e f = let g : Base place ≡ Out = sym is ∙ (ap role f ∙ e) in cc

  -- What had a place is none of the new rows.
  placed : (c d : ℕ) (q : Place) → place_of (role c) ≡ some q → role d ≡ Out → c ≢ d
  placed c d q e f g = some-ne-none q (sym e
      ∙ (ap (λ (y : ℕ). place_of (role y)) g ∙ ap place_of f))

  -- What the route is then.
  role_route : roles route ≡ Route place k
  role_route = with_route_route role place k old route left right

  -- What the left base is.
  role_left : roles left ≡ Base (left_place place k route)
  role_left = with_route_left role place k old route left right left_other

  -- What the right one is.
  role_right : roles right ≡ Base (right_place place k route)
  role_right = with_route_right role place k old route left right right_other apart

  -- What the old one is.
  role_old : roles old ≡ Out
  role_old =
      with_route_old role place k old route left right (other route r.is_out) (other left a.is_out)
      (other right b.is_out)

  -- What had another place keeps its role.
  keeps : (c : ℕ) (q : Place) → place_of (role c) ≡ some q → c ≢ old → roles c ≡ role c
  keeps c q e d =
      with_route_else role place k old route left right c (placed c route q e r.is_out)
      (placed c left q e a.is_out) (placed c right q e b.is_out) d

  -- The route has the old base's place.
  fills : place_of (roles route) ≡ some place
  fills = ap place_of role_route

  -- The map has the same for each base as before.
  same_parts : (c : ℕ) (q : Place) → role c ≡ Base q → c ≢ old → part q.span m ≡ part q.span m
  same_parts c q e d = refl

  -- The key is one of those that were led to the old base.
  pub divided_inside : HasKey place.span k
  divided_inside =
      subst (HasKey place.span) divided.key_is
      (key_in z words role m shape old place is (length (items (row_at words left))) divided.first
      (ap (λ (xs : List ℕ). get_elem? xs (length (items (row_at words left))))
      (divided.both ∙ ap (λ (xs : List ℕ). items (row_at words left) ++ xs) divided.begins)
      ∙ behind (items (row_at words left)) divided.rest divided.first))

  -- the pair of an object row
  abbrev f : ℕ → Pair
  f row = pair (row_at words row)

  -- the object rows of a base
  abbrev its : ℕ → List ℕ
  its row = items (row_at words row)

  -- What the right base has begins with the key's pair.
  right_has : objects_in words right ≡ (k, object (row_at words divided.first)) ∷ map f divided.rest
  right_has = ap (map f) divided.begins
      ∙ ap (λ (x : List ℕ). (x, object (row_at words divided.first)) ∷ map f divided.rest)
      divided.key_is

  -- The old base's objects are those of the left one and then those of the right one.
  old_has : part place.span m
      ≡ map f (its left) ++ (k, object (row_at words divided.first)) ∷ map f divided.rest
  old_has = sym was.has ∙ (ap (map f) divided.both
      ∙ (map-append f (its left) (its right)
      ∙ ap (λ (xs : StoreMap). map f (its left) ++ xs) right_has))

  -- The key isn't the least one that was led to the old base: the left base has an object.
  divided_rises : (low : List ℕ) → place.span.low ≡ Included low → bytes_cmp low k ≡ Less
  divided_rises low = part_rises p place.span m (map f divided.left_rest) (map f divided.rest)
      (f divided.left_first) low k (object (row_at words divided.first)) is_map (old_has
      ∙ ap (λ (xs : List ℕ). map f xs ++ (k, object (row_at words divided.first)) ∷ map f divided.rest)
      divided.left_begins)

  -- So the left base has what the map has left of the key, and the right one what it has from the
  -- key on.
  cut : (part (left_of k place.span) m ≡ map f (its left))
      × (part (right_of k place.span) m
      ≡ (k, object (row_at words divided.first)) ∷ map f divided.rest)
  cut = part_cut p place.span m (map f (its left)) (map f divided.rest) k
      (object (row_at words divided.first)) is_map old_has

  abbrev hangs : place_of (role old) ≡ some place
  hangs = ap place_of is

  -- the row that goes
  abbrev goes : ℕ → Type 0
  goes c = c ≡ old

  takes : AreRolesThen role roles m m old place route (λ c. c ≡ old)
  takes = roles_of_base role roles m m old place route is fills keeps same_parts

  -- The links of the tree are links of it then.
  link_now : (link : ℕ) → IsLink role link → IsLink roles link
  link_now link h = link_still z words role m shape old place hangs route roles m goes takes link h (base_link_kept role old place is link h)

  -- They lead where they led.
  lead_now : (link least : ℕ) (span : Span) → IsLink role link → LeadsTo words role link least span → LeadsTo words' roles link least span
  lead_now link least span h l = lead_still z words role m shape old place hangs route roles m goes takes link least span l
      (base_link_kept role old place is link h)

  -- The words of the route, which nothing leads to yet, stay.
  route_words : row_at words' route ≡ row_at words route
  route_words =
      relinked_row z words role m shape old place hangs route route r.some_row r.in_range
      (out_no_route role route r.is_out)

  -- So does each of its words.
  link_word : (i : ℕ) → i < row_words
      → get_or words' (row_words * route + i) 0 ≡ get_or (row_at words route) i 0
  link_word i l =
      relinked_keeps z words role m shape old place hangs route route r.some_row
      (out_no_route role route r.is_out) i l ∙ sym (word_at words route i l)

  -- Its first link names the left base.
  left_now : get_or words' (row_words * route + 1) 0 ≡ left
  left_now = link_word 1 (omega arith) ∙ r.left_is

  -- Its second one names the right base.
  right_now : get_or words' (row_words * route + 2) 0 ≡ right
  right_now = link_word 2 (omega arith) ∙ r.right_is

  -- The route is one at the old base's place.
  route_now : IsRouteAt z words' roles place k route
  route_now = record {
    some_row = r.some_row;
    in_range = r.in_range;
    under = relinked_here z words role m shape old place hangs route;
    is_link = link_now place.link was.is_link;
    is_route = subst IsRouteRow (sym route_words) r.is_route;
    level_is = ap level route_words ∙ r.level_is;
    above = above;
    short = subst (λ ws. count ws ≤ 1000) (sym route_words) r.short;
    key_is = ap route_key route_words ∙ r.key_is;
    inside = divided_inside;
    rises = divided_rises;
    left = record {
      level = place.level + 1;
      greater = omega arith;
      hangs = ap (λ (c : ℕ). place_of (roles c)) left_now ∙ ap place_of role_left;
    };
    right = record {
      level = place.level + 1;
      greater = omega arith;
      hangs = ap (λ (c : ℕ). place_of (roles c)) right_now ∙ ap place_of role_right;
    };
  }

  -- The left base is one under its first link.
  left_base : IsBaseAt z words' roles m (left_place place k route) left
  left_base =
      base_comes z words role m shape old place hangs route roles m goes takes left
      (left_place place k route) a left_now
      (inr (route, place, k, role_route, inl refl)) (omega arith) (sym cut.0)

  -- The right base is one under its second link.
  right_base : IsBaseAt z words' roles m (right_place place k route) right
  right_base =
      base_comes z words role m shape old place hangs route roles m goes takes right
      (right_place place k route) b right_now
      (inr (route, place, k, role_route, inr refl)) (omega arith) (right_has ∙ sym cut.1)

  -- what a row is then
  abbrev Is : ℕ → Role → Type 0
  Is = IsSo z words' roles m

  -- Each row is what its role says.
  so : (c : ℕ) → IsSo z words' roles m c (roles c)
  so c = dite (ℕ_discrete c route)
      (λ (e : c ≡ route). subst
      (λ (y : ℕ). Is y (roles y)) (sym e) (subst (Is route) (sym role_route) route_now))
      (λ (n : c ≢ route). dite (ℕ_discrete c left)
      (λ (e : c ≡ left). subst
      (λ (y : ℕ). Is y (roles y)) (sym e) (subst (Is left) (sym role_left) left_base))
      (λ (l : c ≢ left). dite (ℕ_discrete c right)
      (λ (e : c ≡ right). subst
      (λ (y : ℕ). Is y (roles y)) (sym e) (subst (Is right) (sym role_right) right_base))
      (λ (h : c ≢ right). dite (ℕ_discrete c old)
      (λ (e : c ≡ old). subst
      (λ (y : ℕ). Is y (roles y)) (sym e) (subst (Is old) (sym role_old) tt))
      (λ (d : c ≢ old).
      subst (Is c) (sym (with_route_else role place k old route left right c n l h d))
      (row_still z words role m shape old place hangs route roles m goes takes c d (role c)
      refl (shape.each_row c))))))

  -- The row is one of the two new bases, and this key is led to it.
  abbrev IsNow : ℕ → List ℕ → Type 0
  IsNow c x = ((c ≡ left) × HasKey (left_of k place.span) x)
      ⊎ ((c ≡ right) × HasKey (right_of k place.span) x)

  -- A base of the new tree is one of the two, or one of the old tree.
  stood : (c : ℕ) (q : Place) (x : List ℕ) → roles c ≡ Base q → HasKey q.span x → IsNow c x
      ⊎ ((c ≢ old) × (role c ≡ Base q))
  stood c q x e h = dite (ℕ_discrete c route)
      (λ (g : c ≡ route). let w : Route place k ≡ Base q = sym role_route
      ∙ (ap roles (sym g) ∙ e) in cc)
      (λ (n : c ≢ route). dite (ℕ_discrete c left)
      (λ (g : c ≡ left). inl (inl (
        g,
        subst (λ (y : Place). HasKey y.span x)
            (same_place q (left_place place k route) (sym e ∙ (ap roles g ∙ role_left))) h,
      )))
      (λ (l : c ≢ left). dite (ℕ_discrete c right)
      (λ (g : c ≡ right). inl (inr (
        g,
        subst (λ (y : Place). HasKey y.span x)
            (same_place q (right_place place k route) (sym e ∙ (ap roles g ∙ role_right))) h,
      )))
      (λ (j : c ≢ right). dite (ℕ_discrete c old)
      (λ (g : c ≡ old). let w : Out ≡ Base q = sym role_old ∙ (ap roles (sym g) ∙ e) in cc)
      (λ (d : c ≢ old). inr (
        d,
        sym (with_route_else role place k old route left right c n l j d)
            ∙ e,
      )))))

  -- The keys of both were led to the old base.
  was_in : (c : ℕ) (x : List ℕ) → IsNow c x → HasKey place.span x
  was_in c x now = ⊎_elim
      (λ (t : (c ≡ left)
      × HasKey (left_of k place.span) x). left_is_in k x place.span divided_inside t.1)
      (λ (t : (c ≡ right)
      × HasKey (right_of k place.span) x). right_is_in k x place.span divided_inside t.1)
      now

  -- No key is led to both.
  one_side : (c d : ℕ) (x : List ℕ) → IsNow c x → IsNow d x → c ≡ d
  one_side c d x s t = ⊎_elim
      (λ (v : (c ≡ left) × HasKey (left_of k place.span) x). ⊎_elim
      (λ (w : (d ≡ left) × HasKey (left_of k place.span) x). v.0 ∙ sym w.0)
      (λ (w : (d ≡ right)
      × HasKey (right_of k place.span) x). absurd (two_sides k x place.span v.1 w.1))
      t)
      (λ (v : (c ≡ right) × HasKey (right_of k place.span) x). ⊎_elim
      (λ (w : (d ≡ left)
      × HasKey (left_of k place.span) x). absurd (two_sides k x place.span w.1 v.1))
      (λ (w : (d ≡ right) × HasKey (right_of k place.span) x). v.0 ∙ sym w.0)
      t)
      s

  -- A route is the new one, or one of the old tree.
  pub route_was : (c : ℕ) (q : Place) (key : List ℕ) → roles c ≡ Route q key → (c ≡ route)
      ⊎ (role c ≡ Route q key)
  route_was c q key e = dite (ℕ_discrete c route)
      (λ (g : c ≡ route). inl g)
      (λ (n : c ≢ route). dite (ℕ_discrete c left)
      (λ (g : c ≡ left). let w : Base (left_place place k route) ≡ Route q key = sym role_left
      ∙ (ap roles (sym g) ∙ e) in cc)
      (λ (l : c ≢ left). dite (ℕ_discrete c right)
      (λ (g : c ≡ right). let w : Base (right_place place k route) ≡ Route q key = sym role_right
      ∙ (ap roles (sym g) ∙ e) in cc)
      (λ (j : c ≢ right). dite (ℕ_discrete c old)
      (λ (g : c ≡ old). let w : Out ≡ Route q key = sym role_old ∙ (ap roles (sym g) ∙ e) in cc)
      (λ (d : c ≢ old). inr (sym (with_route_else role place k old route left right c n l j d)
      ∙ e)))))

  -- No key is led to two bases.
  alone : (c d : ℕ) (q s : Place) (x : List ℕ) → roles c ≡ Base q → roles d ≡ Base s
      → HasKey q.span x → HasKey s.span x → c ≡ d
  alone c d q s x e g h j = ⊎_elim
      (λ (v : IsNow c x). ⊎_elim
      (λ (w : IsNow d x). one_side c d x v w)
      (λ (w : (d ≢ old) × (role d ≡ Base s)).
      absurd (w.0 (shape.apart d old s place x w.1 is j (was_in c x v))))
      (stood d s x g j))
      (λ (v : (c ≢ old) × (role c ≡ Base q)). ⊎_elim
      (λ (w : IsNow d x). absurd (v.0 (shape.apart c old q place x v.1 is h (was_in d x w))))
      (λ (w : (d ≢ old) × (role d ≡ Base s)). shape.apart c d q s x v.1 w.1 h j)
      (stood d s x g j))
      (stood c q x e h)

  -- The exchange of the link puts the route and its two bases in the place of the old one.
  pub shape_divided : IsShape z (set words place.link route)
      (with_route role place k old route left right) m
  shape_divided = record {
    wide = relinked_wide z words role m shape old place hangs route;
    top = lead_now root_word 0 all_keys (inl refl) shape.top;
    each_row = so;
    apart = alone;
  }
