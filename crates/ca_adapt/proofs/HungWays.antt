-- The route that is unlinked, among those that a seat remembers.
use Rattle.std.proofs.Common.{◌≡◌, ◌==◌, Bool, true, false, cond, ℕ, List, [], ◌∷◌, suc, sym, refl, ap, ◌∙◌, ⊎_elim, arith}
use Rattle.std.proofs.lemmas.Bool.Decides.{nat_tests}
use Rattle.ca_node.proofs.Looking.{in_more}
use Rattle.ca_node.specs.Laws.{in_nothing}
use Rattle.ca_node.specs.Links.{IsIn}
use Rattle.ca_node.specs.Row.{level}
use Rattle.ca_node.specs.TreeView.{Way}
use Rattle.ca_node.specs.Unlinks.{no_unlinking}

-- whether it is this route, which hangs on this link, and its words tell its level
abbrev fits : ℕ → ℕ → Way → Bool
fits route link way = cond (way.row == route)
    (cond (way.place.link == link) (level way.its == way.place.level) false) false

-- the first one that it is
pub hung_way : ℕ → ℕ → List Way → Way
hung_way route link [] = no_unlinking.way
hung_way route link (way ∷ ways) = cond (fits route link way) way (hung_way route link ways)

-- The way is one of these, and is so.
pub record IsHungWay (route link : ℕ) (ways : List Way) (way : Way) : Type 0 where
  pub remembered : IsIn way ways
  pub row_is : way.row ≡ route
  pub link_is : way.place.link ≡ link
  pub level_is : level way.its ≡ way.place.level

fits_so : (route link : ℕ) (way : Way) → fits route link way ≡ true
    → (way.row ≡ route) × (way.place.link ≡ link) × (level way.its ≡ way.place.level)
fits_so route link way e =
    (grind (arith, nat_tests), grind (arith, nat_tests), grind (arith, nat_tests))

so_fits : (route link : ℕ) (way : Way) → way.row ≡ route → way.place.link ≡ link
    → level way.its ≡ way.place.level → fits route link way ≡ true
so_fits route link way a b c = grind (arith, nat_tests)

-- Where one is so, it finds one.
pub hung_found : (route link : ℕ) (ways : List Way) (way : Way) → IsHungWay route link ways way
    → IsHungWay route link ways (hung_way route link ways)
unfolding hung_way
hung_found route link [] way h = absurd (in_nothing way [] refl h.remembered)
hung_found route link (w ∷ ways) way h = at (fits route link w) refl
    (λ i. hung_found route link ways way record {
      remembered = i;
      row_is = h.row_is;
      link_is = h.link_is;
      level_is = h.level_is;
    })
  where
    at : (b : Bool) → fits route link w ≡ b
        → (IsIn way ways → IsHungWay route link ways (hung_way route link ways))
        → IsHungWay route link (w ∷ ways) (cond b w (hung_way route link ways))
    at true e behind = let s = fits_so route link w e in
        record { remembered = (0, refl); row_is = s.0; link_is = s.1; level_is = s.2 }
    at false e behind = ⊎_elim
        (λ (same : w ≡ way). let yes = ap (fits route link) same
        ∙ so_fits route link way h.row_is h.link_is h.level_is in
        absurd (let no = sym e ∙ yes in cc))
        (λ (i : IsIn way ways). let rest = behind i in record {
          remembered = (suc rest.remembered.0, rest.remembered.1);
          row_is = rest.row_is;
          link_is = rest.link_is;
          level_is = rest.level_is;
        }) (in_more w way ways h.remembered)
