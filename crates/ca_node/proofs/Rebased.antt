-- By one exchange of a link a base takes the place of a base.
use Rattle.std.proofs.Common.{◌≡◌, ◌≢◌, ◌⊎◌, ℕ, eqb, cond, List, set, sym, refl, ap, ◌∙◌, subst, inl, inr, ⊎_elim, arith}
use Rattle.std.proofs.lemmas.Bool.Decides.{nat_tests}
use mathlib.Core.Logic.{dite}
use mathlib.Core.Option.{some, some-ne-none}
use native.Mathlib.Decide.{ℕ_discrete}
use Rattle.ca_model.specs.StoreMap.{StoreMap}
use Rattle.ca_rows.specs.declared.sizes.Sizes.{Sizes}
use Rattle.ca_node.specs.Place.{all_keys, HasKey, part, Place}
use Rattle.ca_node.specs.Row.{objects_in}
use Rattle.ca_node.specs.Shape.{Role, Out, Base, Route, place_of, IsBaseAt, IsSo, IsShape}
use Rattle.ca_node.specs.Reached.{base_at}
use Rattle.ca_node.proofs.Relinked.{IsNewBase, AreRolesThen, relinked_wide, relinked_here, link_still, lead_still, row_still, base_comes, roles_of_base, base_link_kept}
use Rattle.ca_node.specs.Layout.{root_word}

-- the roles where a base takes the place of another one
abbrev pub with_base : (ℕ → Role) → Place → ℕ → ℕ → ℕ → Role
with_base role place old new row =
    cond (eqb row new) (Base place) (cond (eqb row old) Out (role row))

-- The new row is the base there.
pub with_base_new : (role : ℕ → Role) (place : Place) (old new : ℕ)
    → with_base role place old new new ≡ Base place
with_base_new role place old new = grind (arith, nat_tests)

-- The old one is nothing.
pub with_base_old : (role : ℕ → Role) (place : Place) (old new : ℕ) → old ≢ new
    → with_base role place old new old ≡ Out
with_base_old role place old new n = grind (arith, nat_tests)

-- Each other row is what it was.
pub with_base_else : (role : ℕ → Role) (place : Place) (old new row : ℕ) → row ≢ new → row ≢ old
    → with_base role place old new row ≡ role row
with_base_else role place old new row n n' = grind (arith, nat_tests)

-- A base takes the place of a base.
module _ (z : Sizes) (words : List ℕ) (role : ℕ → Role) (m : StoreMap)
    (shape : IsShape z words role m) (old : ℕ) (place : Place)
    (is : role old ≡ Base place) (new : ℕ) (b : IsNewBase z words role place new) (n : StoreMap)
    (has : objects_in words new ≡ part place.span n)
    (parts : (c : ℕ) (p : Place) → role c ≡ Base p → c ≢ old → part p.span n ≡ part p.span m) where
  -- the roles then
  abbrev roles : ℕ → Role
  roles = with_base role place old new

  -- The old base isn't the new one.
  pub rebased_other : old ≢ new
  rebased_other e = let f : Base place ≡ Out = sym is ∙ (ap role e ∙ b.is_out) in cc

  -- What had another place keeps its role.
  keeps : (c : ℕ) (p : Place) → place_of (role c) ≡ some p → c ≢ old → roles c ≡ role c
  keeps c p e d = with_base_else role place old new c
      (λ f. some-ne-none p (sym e ∙ (ap (λ (y : ℕ). place_of (role y)) f ∙ ap place_of b.is_out))) d

  -- The new base has the old one's place.
  fills : place_of (roles new) ≡ some place
  fills = ap place_of (with_base_new role place old new)

  abbrev hangs : place_of (role old) ≡ some place
  hangs = ap place_of is

  -- the row that goes
  abbrev goes : ℕ → Type 0
  goes c = c ≡ old

  takes : AreRolesThen role roles m n old place new (λ c. c ≡ old)
  takes = roles_of_base role roles m n old place new is fills keeps parts

  -- Each row is what its role says.
  so : (c : ℕ) → IsSo z (set words place.link new) roles n c (roles c)
  so c = dite (ℕ_discrete c new)
      (λ (e : c ≡ new).
      subst (IsSo z (set words place.link new) roles n c) (sym (ap roles e ∙ with_base_new role place old new))
      (subst (λ (y : ℕ). IsBaseAt z (set words place.link new) roles n place y) (sym e)
      (base_comes z words role m shape old place hangs new roles n goes takes new place b
      (relinked_here z words role m shape old place hangs new)
      (link_still z words role m shape old place hangs new roles n goes takes place.link (base_at z words role m shape old place is).is_link
      (base_link_kept role old place is place.link (base_at z words role m shape old place is).is_link))
      (base_at z words role m shape old place is).deep has)))
      (λ (d : c ≢ new). dite (ℕ_discrete c old)
      (λ (e : c ≡ old).
      subst (IsSo z (set words place.link new) roles n c) (sym (ap roles e ∙ with_base_old role place old new rebased_other)) tt)
      (λ (d' : c ≢ old).
      subst (IsSo z (set words place.link new) roles n c) (sym (with_base_else role place old new c d d'))
      (row_still z words role m shape old place hangs new roles n goes takes c d' (role c) refl (shape.each_row c))))

  -- A base of the new tree stands for one of the old tree, at the same place.
  stood : (c : ℕ) (p : Place) → roles c ≡ Base p
      → ((c ≡ new) × (role old ≡ Base p)) ⊎ ((c ≢ old) × (role c ≡ Base p))
  stood c p e = dite (ℕ_discrete c new)
      (λ (f : c ≡ new). inl (
        f,
        is
            ∙ (sym (with_base_new role place old new) ∙ (ap roles (sym f) ∙ e)),
      ))
      (λ (d : c ≢ new). dite (ℕ_discrete c old)
      (λ (f : c ≡ old). let g : Out ≡ Base p = sym (with_base_old role place old new rebased_other)
      ∙ (ap roles (sym f) ∙ e) in cc)
      (λ (d' : c ≢ old). inr (d', sym (with_base_else role place old new c d d') ∙ e)))

  -- A route is one of the old tree.
  route_was : (c : ℕ) (p : Place) (key : List ℕ) → roles c ≡ Route p key → role c ≡ Route p key
  route_was c p key e = dite (ℕ_discrete c new)
      (λ (f : c ≡ new). let g : Base place ≡ Route p key = sym (with_base_new role place old new)
      ∙ (ap roles (sym f) ∙ e) in cc)
      (λ (d : c ≢ new). dite (ℕ_discrete c old)
      (λ (f : c ≡ old). let g : Out ≡ Route p key =
      sym (with_base_old role place old new rebased_other) ∙ (ap roles (sym f) ∙ e) in cc)
      (λ (d' : c ≢ old). sym (with_base_else role place old new c d d') ∙ e))

  -- No key is led to two bases.
  alone : (c d : ℕ) (p q : Place) (key : List ℕ) → roles c ≡ Base p → roles d ≡ Base q
      → HasKey p.span key → HasKey q.span key → c ≡ d
  alone c d p q key e f h k = ⊎_elim
      (λ (s : (c ≡ new) × (role old ≡ Base p)). ⊎_elim
      (λ (t : (d ≡ new) × (role old ≡ Base q)). s.0 ∙ sym t.0)
      (λ (t : (d ≢ old) × (role d ≡ Base q)). absurd (t.0 (shape.apart d old q p key t.1 s.1 k h)))
      (stood d q f))
      (λ (s : (c ≢ old) × (role c ≡ Base p)). ⊎_elim
      (λ (t : (d ≡ new) × (role old ≡ Base q)).
      absurd (s.0 (shape.apart c old p q key s.1 t.1 h k)))
      (λ (t : (d ≢ old) × (role d ≡ Base q)). shape.apart c d p q key s.1 t.1 h k)
      (stood d q f))
      (stood c p e)

  -- The exchange of the link puts the new base in the place of the old one.
  pub shape_rebased : IsShape z (set words place.link new) (with_base role place old new) n
  shape_rebased = record {
    wide = relinked_wide z words role m shape old place hangs new;
    top = lead_still z words role m shape old place hangs new roles n goes takes root_word 0 all_keys shape.top
        (base_link_kept role old place is root_word (inl refl));
    each_row = so;
    apart = alone;
  }
