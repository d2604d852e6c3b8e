-- One exchange of a link of the tree, whatever hung there: what it changes in the words, and what stands of the tree's shape.
use Rattle.std.proofs.Common.{◌≡◌, ◌≢◌, ℕ, ◌+◌, ◌*◌, ◌<◌, ◌≤◌, List, get_or, set, sym, refl, ap, ◌∙◌, subst, inl, inr, ⊎_elim, arith, length-set, get_or-set_other, get_or-set_same}
use mathlib.Core.Logic.{dite}
use mathlib.Core.Option.{some, some-injective, some-ne-none}
use native.Mathlib.Decide.{ℕ_discrete}
use Rattle.ca_model.specs.StoreMap.{StoreMap}
use Rattle.ca_rows.specs.declared.sizes.Sizes.{Sizes}
use Rattle.ca_rows.specs.Words.{IsWide, result_of, announced}
use Rattle.ca_node.specs.Links.{IsIn, IsActive, IsBoundOf}
use Rattle.ca_node.specs.Marks.{IsMarkIn, IsBorder}
use Rattle.ca_node.specs.Place.{Span, left_of, right_of, part, Place, IsLinkOf}
use Rattle.ca_node.specs.Row.{row_at, form, IsObjectRow, IsBaseRow, count, level, items, mark_owner, objects_in, AreHeaded}
use Rattle.ca_node.specs.Shape.{Role, Out, Base, Route, place_of, IsLink, LeadsTo, IsBaseAt, IsSo, IsShape}
use Rattle.ca_node.specs.Stays.{IsSameRow, row_same}
use Rattle.ca_node.specs.JoinsStay.{link_of_one}
use Rattle.ca_node.specs.Reached.{led_to, route_at, hung, link_range, object_out}
use Rattle.ca_node.specs.Standing.{IsSameButLinks, objects_same, mark_stays, bounded_stays, base_stands, route_stands, heads_same, link_route}
use Rattle.ca_rows.specs.Layout.{row_words}
use Rattle.ca_node.specs.Layout.{root_word}
use Rattle.ca_rows.proofs.OwnWords.{announced_else, result_else}

-- The row is a route.
abbrev pub IsRoute : (ℕ → Role) → ℕ → Type 0
IsRoute role row = (place : Place) × (key : List ℕ) × (role row ≡ Route place key)

-- A row that is nothing in the tree is no route.
pub out_no_route : (role : ℕ → Role) (row : ℕ) → role row ≡ Out → ¬ IsRoute role row
out_no_route role row e t = some-ne-none t.0 (sym (ap place_of (sym e ∙ t.2)))

-- A base is no route.
pub base_no_route : (role : ℕ → Role) (row : ℕ) (place : Place) → role row ≡ Base place → ¬ IsRoute role row
base_no_route role row place e t = let f : Base place ≡ Route t.0 t.1 = sym e ∙ t.2 in cc

-- The row is to be a base of the tree at this place: it is nothing in it yet, and its words are those of such a base.
pub record IsNewBase (z : Sizes) (words : List ℕ) (role : ℕ → Role) (place : Place) (row : ℕ) : Type 0 where
  pub some_row : 0 < row
  pub in_range : row ≤ z.rows
  pub is_out : role row ≡ Out
  pub is_base : IsBaseRow (row_at words row)
  pub level_is : level (row_at words row) ≡ place.level
  pub few : count (row_at words row) ≤ z.leaf
  pub marked : IsMarkIn words place (row_at words row)
  pub bounded : (border : ℕ) → IsBoundOf words row border → IsBorder z.rows words (mark_owner (row_at words row)) border
  pub are_objects : (r : ℕ) → IsIn r (items (row_at words row)) → (0 < r) × (r ≤ z.rows) × IsObjectRow (row_at words r)
  pub headed : AreHeaded words row

-- The row takes the place of the old one under other roles, which are the same for what stays, with a map that has the same for each base that stays. The old
-- row goes; with a route goes what hangs under it, and nothing else goes but so.
pub record AreRolesThen (role role' : ℕ → Role) (m n : StoreMap) (old : ℕ) (place : Place) (row : ℕ) (goes : ℕ → Type 0) : Type 0 where
  pub fills : place_of (role' row) ≡ some place
  pub still : (c : ℕ) (p : Place) → place_of (role c) ≡ some p → ¬ goes c → role' c ≡ role c
  pub parts : (c : ℕ) (p : Place) → role c ≡ Base p → ¬ goes c → part p.span n ≡ part p.span m
  pub old_goes : goes old
  pub under : (route c : ℕ) (p : Place) → goes route → IsRoute role route → place_of (role c) ≡ some p → IsLinkOf route p.link → goes c
  pub above : (c : ℕ) (p : Place) → goes c → c ≢ old → place_of (role c) ≡ some p → (route : ℕ) × goes route × IsLinkOf route p.link

-- A link that names what has a place is exchanged: it names this row then.
module _ (z : Sizes) (words : List ℕ) (role : ℕ → Role) (m : StoreMap) (shape : IsShape z words role m) (old : ℕ) (place : Place)
    (is : place_of (role old) ≡ some place) (row : ℕ) where
  -- the words then
  abbrev words' : List ℕ
  words' = set words place.link row

  under_it : get_or words place.link 0 ≡ old
  under_it = (hung z words role m shape old place is).0

  is_link : IsLink role place.link
  is_link = (hung z words role m shape old place is).1

  -- The words are as many.
  pub relinked_wide : IsWide z.rows (set words place.link row)
  relinked_wide = length-set words place.link row ∙ shape.wide

  -- The link names the row.
  pub relinked_here : get_or (set words place.link row) place.link 0 ≡ row
  relinked_here = let w = shape.wide in ⊎_elim
      (λ (e : place.link ≡ root_word). get_or-set_same words place.link row 0 (omega arith))
      (λ (t : (row_words < place.link) × (place.link < row_words * z.rows + row_words)). let hi = t.1 in
      get_or-set_same words place.link row 0 (omega arith))
      (link_range z words role m shape place.link is_link)

  -- No other word changes.
  pub relinked_else : (i : ℕ) → i ≢ place.link → get_or (set words place.link row) i 0 ≡ get_or words i 0
  relinked_else i n = get_or-set_other words place.link i row 0 n

  -- No word of a range changes.
  pub relinked_ranges : (pass : ℕ) → 0 < pass → pass ≤ 64 → result_of (set words place.link row) pass ≡ result_of words pass
  relinked_ranges pass lo hi = result_else words place.link row pass (λ e. let w = shape.wide in ⊎_elim
      (λ (top : place.link ≡ root_word). omega arith)
      (λ (t : (row_words < place.link) × (place.link < row_words * z.rows + row_words)). let far = t.1 in omega arith)
      (link_range z words role m shape place.link is_link))

  -- No announcement changes.
  pub relinked_told : (pass : ℕ) → 0 < pass → pass ≤ 64 → announced (set words place.link row) pass ≡ announced words pass
  relinked_told pass lo hi = announced_else words place.link row pass (λ e. let w = shape.wide in ⊎_elim
      (λ (top : place.link ≡ root_word). omega arith)
      (λ (t : (row_words < place.link) × (place.link < row_words * z.rows + row_words)). let far = t.1 in omega arith)
      (link_range z words role m shape place.link is_link))

  -- No join word changes.
  pub relinked_joins : (route : ℕ) → get_or (set words place.link row) (row_words * route + 3) 0 ≡ get_or words (row_words * route + 3) 0
  relinked_joins route = relinked_else (row_words * route + 3) (λ e. ⊎_elim
      (λ (top : place.link ≡ root_word). omega arith)
      (λ (t : (r : ℕ) × (p : Place) × (key : List ℕ) × (role r ≡ Route p key) × IsLinkOf r place.link). ⊎_elim
      (λ (f : place.link ≡ row_words * t.0 + 1). omega arith) (λ (f : place.link ≡ row_words * t.0 + 2). omega arith) t.4)
      is_link)

  -- So a mark stays one,
  pub relinked_marks : (p : Place) (its : List ℕ) → IsMarkIn words p its → IsMarkIn (set words place.link row) p its
  relinked_marks p its = mark_stays words words' p its
      (λ pass lo hi. let e = relinked_ranges pass lo hi in omega arith)
      (λ route attempt _ before. let e = relinked_joins route in omega (arith, before))

  -- and no range becomes active.
  pub relinked_active : (pass number : ℕ) → IsActive (set words place.link row) pass number → IsActive words pass number
  relinked_active pass number x = (x.0, x.1, sym (relinked_ranges pass x.0 x.1) ∙ x.2)

  -- Each row that is no route keeps its words.
  pub relinked_keeps : (c : ℕ) → 0 < c → ¬ IsRoute role c → IsSameRow words (set words place.link row) c
  relinked_keeps c lo n k l = relinked_else (row_words * c + k) (λ e. ⊎_elim
      (λ (top : place.link ≡ root_word). omega arith)
      (λ (t : (route : ℕ) × (p : Place) × (key : List ℕ) × (role route ≡ Route p key) × IsLinkOf route place.link).
      let same : t.0 ≡ c = ⊎_elim (λ (f : place.link ≡ row_words * t.0 + 1). omega arith)
      (λ (f : place.link ≡ row_words * t.0 + 2). omega arith) t.4 in
      n (t.1, t.2, sym (ap role same) ∙ t.3))
      is_link)

  -- Each row keeps all its words but those of a route's links.
  pub relinked_routes : (c : ℕ) → 0 < c → IsSameButLinks words (set words place.link row) c
  relinked_routes c lo k l n n' _ = relinked_else (row_words * c + k) (λ e. ⊎_elim
      (λ (top : place.link ≡ root_word). omega arith)
      (λ (t : (route : ℕ) × (p : Place) × (key : List ℕ) × (role route ≡ Route p key) × IsLinkOf route place.link). ⊎_elim
      (λ (f : place.link ≡ row_words * t.0 + 1). n (omega arith)) (λ (f : place.link ≡ row_words * t.0 + 2). n' (omega arith)) t.4)
      is_link)

  -- A row in range that is no route spells what it spelled.
  pub relinked_row : (c : ℕ) → 0 < c → c ≤ z.rows → ¬ IsRoute role c → row_at (set words place.link row) c ≡ row_at words c
  relinked_row c lo hi n = row_same words words' z.rows c shape.wide relinked_wide hi (relinked_keeps c lo n)

  -- So does an object row.
  pub relinked_object : (c : ℕ) → 0 < c → c ≤ z.rows → form (row_at words c) ≡ 1 → row_at (set words place.link row) c ≡ row_at words c
  relinked_object c lo hi f = relinked_row c lo hi (out_no_route role c (object_out z words role m shape c f))

  -- So does a row that says up to where a range goes.
  pub relinked_border : (c : ℕ) → 0 < c → c ≤ z.rows → form (row_at words c) ≡ 4 → row_at (set words place.link row) c ≡ row_at words c
  relinked_border c lo hi f = relinked_row c lo hi (λ t. let g = (route_at z words role m shape c t.0 t.1 t.2).is_route in omega arith)

  -- What has another row's place has another link.
  other_link : (c : ℕ) (p : Place) → place_of (role c) ≡ some p → c ≢ old → p.link ≢ place.link
  other_link c p e n same = n (sym (hung z words role m shape c p e).0 ∙ (ap (λ (i : ℕ). get_or words i 0) same ∙ under_it))

  -- The row takes its place under other roles.
  module _ (role' : ℕ → Role) (n : StoreMap) (goes : ℕ → Type 0) (takes : AreRolesThen role role' m n old place row goes) where
    -- The link is none of a route that goes.
    abbrev IsKept : ℕ → Type 0
    IsKept link = (route : ℕ) → goes route → ¬ IsLinkOf route link

    -- A link of the tree that is kept is one of it.
    pub link_still : (link : ℕ) → IsLink role link → ((route : ℕ) → goes route → ¬ IsLinkOf route link) → IsLink role' link
    link_still link h kept = ⊎_elim
        (λ (e : link ≡ root_word). inl e)
        (λ (t : (route : ℕ) × (p : Place) × (key : List ℕ) × (role route ≡ Route p key) × IsLinkOf route link).
        inr (t.0, t.1, t.2, takes.still t.0 t.1 (ap place_of t.3) (λ g. kept t.0 g t.4) ∙ t.3, t.4))
        h

    -- It leads where it led.
    pub lead_still : (link least : ℕ) (span : Span) → LeadsTo words role link least span → ((route : ℕ) → goes route → ¬ IsLinkOf route link)
        → LeadsTo (set words place.link row) role' link least span
    lead_still link least span l kept = let spot = led_to words role link least span l in record {
      level = l.level;
      greater = l.greater;
      hangs = dite (ℕ_discrete link place.link)
          (λ (e : link ≡ place.link).
          let same : place ≡ spot = some-injective place spot (sym is
          ∙ (ap (λ (c : ℕ). place_of (role c)) (sym under_it ∙ ap (λ (i : ℕ). get_or words i 0) (sym e)) ∙ l.hangs)) in
          ap (λ (c : ℕ). place_of (role' c)) (ap (λ (i : ℕ). get_or words' i 0) e ∙ relinked_here) ∙ (takes.fills ∙ ap some same))
          (λ (d : link ≢ place.link).
          let other : get_or words link 0 ≢ old = λ e. d (ap (λ (p : Place). p.link)
          (some-injective spot place (sym l.hangs ∙ (ap (λ (c : ℕ). place_of (role c)) e ∙ is)))) in
          let stays : ¬ goes (get_or words link 0) = λ g. let r = takes.above (get_or words link 0) spot g other l.hangs in kept r.0 r.1 r.2 in
          ap (λ (c : ℕ). place_of (role' c)) (relinked_else link d)
          ∙ (ap place_of (takes.still (get_or words link 0) spot l.hangs stays) ∙ l.hangs));
    }

    -- What stays isn't the old row, and its link is kept.
    other_one : (c : ℕ) → ¬ goes c → c ≢ old
    other_one c s e = s (subst goes (sym e) takes.old_goes)

    pub link_kept : (c : ℕ) (p : Place) → place_of (role c) ≡ some p → ¬ goes c → (route : ℕ) → goes route → ¬ IsLinkOf route p.link
    link_kept c p e s route g of = s (takes.under route c p g
        (link_route role p.link route (hung z words role m shape c p e).1 of) e of)

    -- Each row that stays is what it was.
    pub row_still : (c : ℕ) → ¬ goes c → (o : Role) → role c ≡ o → IsSo z words role m c o → IsSo z (set words place.link row) role' n c o
    row_still c d Out e s = tt
    row_still c d (Base p) e s = base_stands z words words' role role' m n p c s
        (relinked_row c s.some_row s.in_range (base_no_route role c p e))
        (λ r i. let o = s.are_objects r i in relinked_object r o.0 o.1 o.2.0)
        (relinked_else p.link (other_link c p (ap place_of e) (other_one c d)) ∙ s.under)
        (link_still p.link s.is_link (link_kept c p (ap place_of e) d)) (takes.parts c p e d)
        (relinked_marks p (row_at words c)) (λ pass number _. relinked_active pass number)
        (λ border b. let end = s.bounded border b in relinked_border border end.some_row end.in_range end.is_border)
    row_still c d (Route p key) e s = route_stands z words words' role role' p key c s shape.wide relinked_wide
        (relinked_routes c s.some_row)
        (relinked_else p.link (other_link c p (ap place_of e) (other_one c d)) ∙ s.under)
        (link_still p.link s.is_link (link_kept c p (ap place_of e) d))
        (lead_still (row_words * c + 1) (p.level + 1) (left_of key p.span) s.left (own c (row_words * c + 1) d (inl refl)))
        (lead_still (row_words * c + 2) (p.level + 1) (right_of key p.span) s.right (own c (row_words * c + 2) d (inr refl)))
      where
        own : (c link : ℕ) → ¬ goes c → IsLinkOf c link → (route : ℕ) → goes route → ¬ IsLinkOf route link
        own c link s of route g other = s (subst goes (link_of_one route c link other of) g)

    -- A row that is to be a base is one at the place of a link that names it, if it has what the map has there.
    pub base_comes : (c : ℕ) (p : Place) → IsNewBase z words role p c → get_or (set words place.link row) p.link 0 ≡ c → IsLink role' p.link
        → p.level ≤ z.levels → objects_in words c ≡ part p.span n → IsBaseAt z (set words place.link row) role' n p c
    base_comes c p b under link deep has =
        let e = relinked_row c b.some_row b.in_range (out_no_route role c b.is_out) in
        let same : (r : ℕ) → IsIn r (items (row_at words c)) → row_at words' r ≡ row_at words r
        = λ r i. let o = b.are_objects r i in relinked_object r o.0 o.1 o.2.0 in record {
          some_row = b.some_row;
          in_range = b.in_range;
          under = under;
          is_link = link;
          deep = deep;
          is_base = subst IsBaseRow (sym e) b.is_base;
          level_is = subst (λ its. level its ≡ p.level) (sym e) b.level_is;
          few = subst (λ its. count its ≤ z.leaf) (sym e) b.few;
          marked = subst (IsMarkIn (set words place.link row) p) (sym e) (relinked_marks p (row_at words c) b.marked);
          bounded = bounded_stays z.rows words words' c e (λ pass number _. relinked_active pass number)
              (λ border x. let end = b.bounded border x in relinked_border border end.some_row end.in_range end.is_border) b.bounded;
          are_objects = λ r i. let i' = subst (λ its. IsIn r (items its)) e i in let o = b.are_objects r i' in
              (o.0, o.1, subst IsObjectRow (sym (same r i')) o.2);
          headed = heads_same words words' c e same b.headed;
          has = objects_same words words' c e same ∙ has;
        }

-- A base goes alone: no link of the tree is its own.
pub roles_of_base : (role role' : ℕ → Role) (m n : StoreMap) (old : ℕ) (place : Place) (row : ℕ) → role old ≡ Base place
    → place_of (role' row) ≡ some place → ((c : ℕ) (p : Place) → place_of (role c) ≡ some p → c ≢ old → role' c ≡ role c)
    → ((c : ℕ) (p : Place) → role c ≡ Base p → c ≢ old → part p.span n ≡ part p.span m)
    → AreRolesThen role role' m n old place row (λ c. c ≡ old)
roles_of_base role role' m n old place row is fills still parts = record {
  fills = fills;
  still = still;
  parts = parts;
  old_goes = refl;
  under = λ route c p g is_route _ _. absurd (base_no_route role old place is (subst (IsRoute role) g is_route));
  above = λ c p g other _. absurd (other g);
}

pub base_link_kept : (role : ℕ → Role) (old : ℕ) (place : Place) → role old ≡ Base place → (link : ℕ) → IsLink role link → (route : ℕ) → route ≡ old
    → ¬ IsLinkOf route link
base_link_kept role old place is link h route g of = base_no_route role old place is (subst (IsRoute role) g (link_route role link route h of))
