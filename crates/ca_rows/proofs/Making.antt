-- A pass is made: the space's own seat is cut in two.
use Rattle.std.proofs.Common.{◌≡◌, ◌≢◌, ◌⊎◌, ℕ, zero, suc, ◌+◌, ◌<◌, ◌≤◌, false, true, List, [], ◌∷◌, ◌++◌, map, length, set, sym, refl, ap, ◌∙◌, subst, inl, inr, ⊎_elim, arith, le_refl, length-set}
use Rattle.std.proofs.lemmas.List.{map-set, map-append}
use mathlib.Core.Logic.{dite}
use mathlib.Core.Option.{some, none, some-injective, some-ne-none}
use native.Mathlib.Decide.{ℕ_discrete}
use lib.ListN.{get_elem?}
use Rattle.atomic_table.specs.Table.{State, Splits}
use Rattle.atomic_table.proofs.Lists.{at_set, at_map, set_again}
use Rattle.ca_rows.specs.declared.sizes.Sizes.{Sizes}
use Rattle.ca_rows.specs.declared.view.Pin.{Pin}
use Rattle.ca_rows.specs.declared.view.View.{View}
use Rattle.ca_rows.specs.Claims.{claim_of, claim_at}
use Rattle.ca_rows.specs.Laws.{Making}
use Rattle.ca_rows.specs.Pins.{ArePins, IsPin, unpinned}
use Rattle.ca_rows.specs.Rule.{fresh, upper_of, pin_of, NotedAt, Knows, Ruled}
use Rattle.ca_rows.proofs.Heads.{head_grows}
use Rattle.ca_rows.proofs.Accounts.{row_stays}
use Rattle.ca_rows.proofs.Claiming.{claim_mine, claim_others, claim_there}
use Rattle.ca_rows.proofs.Rules.{all_seats}

-- What stands in a list with one more behind.
pub at_place : {A : Type 0} (l : List A) (a b : A) (j : ℕ) → get_elem? (l ++ a ∷ []) j ≡ some b
    → (get_elem? l j ≡ some b) ⊎ ((j ≡ length l) × (a ≡ b))
at_place [] a b zero e = inr (refl, some-injective a b e)
at_place [] a b (suc j) e = absurd (some-ne-none b (sym e))
at_place (x ∷ xs) a b zero e = inl e
at_place (x ∷ xs) a b (suc j) e = ⊎_elim (λ f. inl f)
    (λ (t : (j ≡ length xs) × (a ≡ b)). inr (ap suc t.0, t.1)) (at_place xs a b j e)

pub some_long : {A : Type 0} (l : List A) (i : ℕ) (a : A) → get_elem? l i ≡ some a → i < length l
some_long [] i a e = absurd (some-ne-none a (sym e))
some_long (x ∷ xs) zero a e = omega arith
some_long (x ∷ xs) (suc i) a e = let z = some_long xs i a e in omega arith

-- A seat with no claims changes nobody's.
pub claims_behind : {U : Type 0} (l : List (View U)) (x : View U) (j r : ℕ)
    → claim_of x.claims r ≡ none → claim_at (l ++ x ∷ []) j r ≡ claim_at l j r
claims_behind [] x zero r e = e
claims_behind [] x (suc j) r e = refl
claims_behind (y ∷ ys) x zero r e = refl
claims_behind (y ∷ ys) x (suc j) r e = claims_behind ys x j r e

-- One more pass, which isn't pinned.
pins_grow : (made : ℕ) (words : List ℕ) (pins : List Pin) → made < 64 → ArePins made words pins
    → ArePins (made + 1) words (pins ++ unpinned (made + 1) ∷ [])
pins_grow made words pins few p = record {
  few = omega arith;
  small = p.small;
  each = λ j e here. ⊎_elim (old j e) (λ (t : (j ≡ length pins)
      × (unpinned (made + 1) ≡ e)). subst
      (λ (x : ℕ × Pin). IsPin (made + 1) words (pins ++ unpinned (made + 1) ∷ []) x.0 x.1)
      (λ i. (sym t.0 i, t.1 i)) new)
      (at_place pins (unpinned (made + 1)) e j here);
  unused = λ i lo hi. p.unused i (omega arith) hi;
}
  where
    is_unpinned : (d : Pin) → unpinned (made + 1) ≡ d → d.pinned ≡ true → ⊥
    is_unpinned d e pinned = let no : false ≡ true = ap (λ (y : Pin). y.pinned) e ∙ pinned in cc

    old : (j : ℕ) (e : Pin) → get_elem? pins j ≡ some e
        → IsPin (made + 1) words (pins ++ unpinned (made + 1) ∷ []) j e
    old j e here = let k = p.each j e here in let low = k.in_range in record {
      in_range = omega arith;
      is_pass = k.is_pass;
      alone = λ lo i d at same. ⊎_elim (λ f. k.alone lo i d f same)
          (λ (t : (i ≡ length pins) × (unpinned (made + 1) ≡ d)).
          let n : made + 1 ≡ d.number = ap (λ (y : Pin). y.number) t.1 in absurd (omega arith))
          (at_place pins (unpinned (made + 1)) d i at);
      absent = k.absent;
      present = k.present;
      pinned_at = k.pinned_at;
      told_past = k.told_past;
      scan_past = k.scan_past;
      scanned = λ now i d at low' pinned. ⊎_elim (λ f. k.scanned now i d f low' pinned)
          (λ (t : (i ≡ length pins) × (unpinned (made + 1) ≡ d)).
          absurd (is_unpinned d t.1 pinned)) (at_place pins (unpinned (made + 1)) d i at);
      only = λ lone lo. absurd (omega arith);
    }

    new : IsPin (made + 1) words (pins ++ unpinned (made + 1) ∷ []) (length pins)
        (unpinned (made + 1))
    new = record {
      in_range = omega arith;
      is_pass = λ pinned. absurd cc;
      alone = λ lo i d at same. ⊎_elim
          (λ f. let low = (p.each i d f).in_range in absurd (omega arith))
          (λ (t : (i ≡ length pins) × (unpinned (made + 1) ≡ d)).
          t.0) (at_place pins (unpinned (made + 1)) d i at);
      absent = λ _ _. p.unused (made + 1) (omega arith) (omega arith);
      present = λ pinned. absurd cc;
      pinned_at = λ pinned. absurd cc;
      told_past = omega arith;
      scan_past = omega arith;
      scanned = λ now i d at low pinned. ⊎_elim
          (λ f. let k = (p.each i d f).is_pass pinned in absurd (omega arith))
          (λ (t : (i ≡ length pins) × (unpinned (made + 1) ≡ d)).
          absurd (is_unpinned d t.1 pinned)) (at_place pins (unpinned (made + 1)) d i at);
      only = λ _ _ begun. absurd (omega arith);
    }

module _ {U : Type 0} (linked lent : List ℕ → ℕ → Type 0) (noted : List ℕ → U → ℕ → Type 0)
    (fact : Sizes → ℕ → List ℕ → List U → Type 0) (begins : ℕ → U)
    (law : Making linked lent noted fact begins) (z : Sizes) where
  abbrev made_one : View U → View U
  made_one v = record v { made = v.made + 1 }

  abbrev new_pass : View U → View U
  new_pass v = fresh v.sizes (v.made + 1) (begins (v.made + 1))

  module _ (s : State (Unit {0}) (View U)) (r : Ruled linked lent noted fact z s) (v : View U)
      (at : get_elem? s.views 0 ≡ some v) (few : v.made < 64)
      (left : v.made < z.passes) where
    abbrev grown : List (View U)
    grown = set s.views 0 (made_one v) ++ new_pass v ∷ []

    count_is : v.made ≡ r.made
    count_is = (r.seat 0 v at).made_are refl

    uppers_are : map upper_of grown ≡ map upper_of s.views ++ begins (r.made + 1) ∷ []
    uppers_are = map-append upper_of (set s.views 0 (made_one v)) (new_pass v ∷ [])
        ∙ (ap (λ xs. xs ++ begins (v.made + 1) ∷ [])
        (map-set upper_of s.views 0 (made_one v)
        ∙ set_again (map upper_of s.views) 0 v.upper (at_map upper_of s.views 0 v at))
        ∙ ap (λ n. map upper_of s.views ++ begins (n + 1) ∷ []) count_is)

    pins_are : map pin_of grown ≡ map pin_of s.views ++ unpinned (r.made + 1) ∷ []
    pins_are = map-append pin_of (set s.views 0 (made_one v)) (new_pass v ∷ [])
        ∙ (ap (λ xs. xs ++ unpinned (v.made + 1) ∷ [])
        (map-set pin_of s.views 0 (made_one v)
        ∙ set_again (map pin_of s.views) 0 v.pin (at_map pin_of s.views 0 v at))
        ∙ ap (λ n. map pin_of s.views ++ unpinned (n + 1) ∷ []) count_is)

    same_claims : (j c : ℕ) → claim_at grown j c ≡ claim_at s.views j c
    same_claims j c = claims_behind (set s.views 0 (made_one v)) (new_pass v) j c refl
        ∙ dite (ℕ_discrete j 0)
        (λ (e : j ≡ 0). ap (λ x. claim_at (set s.views 0 (made_one v)) x c) e
        ∙ (claim_mine s.views 0 v (made_one v) at c
        ∙ (sym (claim_there s.views 0 v v at c) ∙ ap (λ x. claim_at s.views x c) (sym e))))
        (λ n. claim_others s.views 0 v (made_one v) at j c n)

    notes_before : (m c : ℕ) → NotedAt noted s.words grown m c → NotedAt noted s.words s.views m c
    notes_before m c n = ⊎_elim
        (λ (e : get_elem? (set s.views 0 (made_one v)) n.seat ≡ some n.d). ⊎_elim
        (λ (t : (n.seat ≡ 0) × (made_one v ≡ n.d)). record {
          seat = 0;
          d = v;
          here = at;
          note = subst (λ (d : View U). noted s.words d.upper c)
              (sym t.1) n.note;
          at = ap (λ (d : View U). d.pin.moment) t.1 ∙ n.at;
        })
        (λ (t : (n.seat ≢ 0) × (get_elem? s.views n.seat ≡ some n.d)). record {
          seat =
              n.seat;
          d = n.d;
          here = t.1;
          note = n.note;
          at = n.at;
        })
        (at_set s.views 0 n.seat (made_one v) n.d e))
        (λ (t : (n.seat ≡ length (set s.views 0 (made_one v)))
        × (new_pass v ≡ n.d)). absurd
        (law.making_notes s.words (v.made + 1) c (subst
        (λ (d : View U). noted s.words d.upper c) (sym t.1) n.note)))
        (at_place (set s.views 0 (made_one v)) (new_pass v) n.d n.seat n.here)

    numbered : (j : ℕ) (d : View U) → get_elem? s.views j ≡ some d → d.pin.number ≤ r.made
    numbered j d here = (r.pins.each j d.pin (at_map pin_of s.views j d here)).in_range

    knows : (j : ℕ) (d : View U) → get_elem? grown j ≡ some d
        → Knows noted z (r.made + 1) r.owner s.words j d
    knows j d here = let mine = r.seat 0 v at in ⊎_elim
        (all_seats (Knows noted z (r.made + 1) r.owner s.words) s.views 0 (made_one v)
        record {
          sizes_are = mine.sizes_are;
          made_are = λ e. ap (λ n. n + 1)
              (mine.made_are e);
          stage_is = mine.stage_is;
          head_is = head_grows r.made s.words v.pin.number v.stage (numbered 0 v at) mine.head_is;
          unlost = mine.unlost;
          in_range = mine.in_range;
          noted_pinned = mine.noted_pinned;
        }
        (λ i x n e. let k = r.seat i x e in
        record {
          sizes_are = k.sizes_are;
          made_are = λ f.
              absurd (n f);
          stage_is = k.stage_is;
          head_is = head_grows r.made s.words x.pin.number x.stage (numbered i x e) k.head_is;
          unlost = k.unlost;
          in_range = k.in_range;
          noted_pinned = k.noted_pinned;
        }) j d)
        (λ (t : (j ≡ length (set s.views 0 (made_one v)))
        × (new_pass v ≡ d)). subst (Knows noted z (r.made + 1) r.owner s.words j) t.1 record {
          sizes_are = mine.sizes_are;
          made_are = λ e. let long = some_long s.views 0 v at in
              let same = length-set s.views 0 (made_one v) in let is = t.0 in absurd (omega arith);
          stage_is = tt;
          head_is = tt;
          unlost = λ _. refl;
          in_range = λ c x e. absurd (some-ne-none x (sym e));
          noted_pinned = λ c n. absurd (law.making_notes s.words (v.made + 1) c n);
        })
        (at_place (set s.views 0 (made_one v)) (new_pass v) d j here)

    pub makes : Ruled linked lent noted fact z record {
      words =
          s.words;
      homes = s.homes;
      views = grown;
    }
    makes = record {
      owner = r.owner;
      count = r.count;
      made = r.made + 1;
      few = r.few;
      within = subst (λ n. n + 1 ≤ z.passes) count_is (omega arith);
      wide = r.wide;
      chain = r.chain;
      row = λ c lo hi.
          row_stays s.words s.words (linked s.words) (linked s.words) (lent s.words) (lent s.words)
          (NotedAt noted s.words s.views)
          (NotedAt noted s.words grown) (claim_at s.views) (claim_at grown)
          (le_refl _) c record {
            words_are = λ _ _ _. refl;
            links = ((λ l. l), (λ l. l));
            lents = (
              (λ l. l),
              (λ l. l),
            );
            notes = λ _ m n. notes_before m c n;
            claims = λ j. same_claims j c;
          } (r.owner c) (r.row c lo hi);
      seat = knows;
      claims = λ few' i c x has. let none_yet : r.made ≤ 1 = omega arith in
          let one = (r.claims none_yet i c x (sym (same_claims i c) ∙ has)).0 in absurd (omega arith);
      pins = subst (ArePins (r.made + 1) s.words) (sym pins_are)
          (pins_grow r.made s.words (map pin_of s.views) (subst (λ n. n < 64) count_is few) r.pins);
      above = subst (fact z (r.made + 1) s.words) (sym uppers_are)
          (law.keeps_making z r.made (map upper_of s.views) s.words r.above);
    }

  pub splits : (v : View U) → v.made < 64 → v.made < z.passes
      → Splits (Ruled linked lent noted fact z) 0 v (made_one v) (new_pass v)
  splits v few left s r at = makes s r v at few left
