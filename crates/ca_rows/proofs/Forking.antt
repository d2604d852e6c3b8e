-- A seat is cut in two: it stays as it was, and a new one knows something of the rule above, and
-- nothing of the rows.
use Rattle.std.proofs.Common.{◌≡◌, ℕ, false, true, List, [], ◌∷◌, ◌++◌, map, length, set, sym, refl, ap, ◌∙◌, subst, inl, ⊎_elim, arith, le_refl}
use Rattle.std.proofs.lemmas.List.{map-append}
use mathlib.Core.Option.{some, some-ne-none}
use lib.ListN.{get_elem?}
use Rattle.atomic_table.specs.Table.{State}
use Rattle.atomic_table.proofs.Lists.{set_again}
use Rattle.ca_rows.specs.declared.sizes.Sizes.{Sizes}
use Rattle.ca_rows.specs.declared.view.Pin.{Pin}
use Rattle.ca_rows.specs.declared.view.View.{View}
use Rattle.ca_rows.specs.Claims.{claim_at}
use Rattle.ca_rows.specs.Pins.{ArePins, IsPin, unpinned}
use Rattle.ca_rows.specs.Rule.{fresh, no_sizes, upper_of, pin_of, NotedAt, Knows, Ruled}
use Rattle.ca_rows.proofs.Accounts.{row_stays}
use Rattle.ca_rows.proofs.Making.{at_place, claims_behind, some_long}

-- A pin more, which is no pass's.
pins_more : (made : ℕ) (words : List ℕ) (pins : List Pin) → ArePins made words pins
    → ArePins made words (pins ++ unpinned 0 ∷ [])
pins_more made words pins p = record {
  few = p.few;
  small = p.small;
  each = λ j e here. ⊎_elim (old j e) (λ (t : (j ≡ length pins)
      × (unpinned 0 ≡ e)). subst
      (λ (x : ℕ × Pin). IsPin made words (pins ++ unpinned 0 ∷ []) x.0 x.1)
      (λ i. (sym t.0 i, t.1 i)) new)
      (at_place pins (unpinned 0) e j here);
  unused = p.unused;
}
  where
    is_unpinned : (d : Pin) → unpinned 0 ≡ d → d.pinned ≡ true → ⊥
    is_unpinned d e pinned = let no : false ≡ true = ap (λ (y : Pin). y.pinned) e ∙ pinned in cc

    old : (j : ℕ) (e : Pin) → get_elem? pins j ≡ some e
        → IsPin made words (pins ++ unpinned 0 ∷ []) j e
    old j e here = let k = p.each j e here in record {
      in_range = k.in_range;
      is_pass = k.is_pass;
      alone = λ lo i d at same. ⊎_elim (λ f. k.alone lo i d f same)
          (λ (t : (i ≡ length pins) × (unpinned 0 ≡ d)).
          let n : 0 ≡ d.number = ap (λ (y : Pin). y.number) t.1 in absurd (omega arith))
          (at_place pins (unpinned 0) d i at);
      absent = k.absent;
      present = k.present;
      pinned_at = k.pinned_at;
      told_past = k.told_past;
      scan_past = k.scan_past;
      scanned = λ now i d at low pinned. ⊎_elim (λ f. k.scanned now i d f low pinned)
          (λ (t : (i ≡ length pins) × (unpinned 0 ≡ d)).
          absurd (is_unpinned d t.1 pinned)) (at_place pins (unpinned 0) d i at);
      only = k.only;
    }

    new : IsPin made words (pins ++ unpinned 0 ∷ []) (length pins) (unpinned 0)
    new = record {
      in_range = omega arith;
      is_pass = λ pinned. absurd cc;
      alone = λ lo. absurd (omega arith);
      absent = λ lo. absurd (omega arith);
      present = λ pinned. absurd cc;
      pinned_at = λ pinned. absurd cc;
      told_past = omega arith;
      scan_past = omega arith;
      scanned = λ now i d at low pinned. ⊎_elim
          (λ f. let k = (p.each i d f).is_pass pinned in absurd (omega arith))
          (λ (t : (i ≡ length pins) × (unpinned 0 ≡ d)).
          absurd (is_unpinned d t.1 pinned)) (at_place pins (unpinned 0) d i at);
      only = λ _ lo. absurd (omega arith);
    }

module _ {U : Type 0} (linked lent : List ℕ → ℕ → Type 0) (noted : List ℕ → U → ℕ → Type 0)
    (fact : Sizes → ℕ → List ℕ → List U → Type 0) (z : Sizes) where
  abbrev pub half : U → View U
  half u = fresh no_sizes 0 u

  module _ (s : State (Unit {0}) (View U)) (r : Ruled linked lent noted fact z s) (id : ℕ)
      (d : View U) (at : get_elem? s.views id ≡ some d) (u : U)
      (unnoted : (q : ℕ) → ¬ noted s.words u q)
      (above : fact z r.made s.words (map upper_of s.views ++ u ∷ [])) where
    abbrev grown : List (View U)
    grown = s.views ++ half u ∷ []

    notes_before : (m c : ℕ) → NotedAt noted s.words grown m c → NotedAt noted s.words s.views m c
    notes_before m c n = ⊎_elim
        (λ (e : get_elem? s.views n.seat ≡ some n.d). record {
          seat =
              n.seat;
          d = n.d;
          here = e;
          note = n.note;
          at = n.at;
        })
        (λ (t : (n.seat ≡ length s.views)
        × (half u ≡ n.d)). absurd
        (unnoted c (subst (λ (d : View U). noted s.words d.upper c) (sym t.1) n.note)))
        (at_place s.views (half u) n.d n.seat n.here)

    knows : (j : ℕ) (d : View U) → get_elem? grown j ≡ some d
        → Knows noted z r.made r.owner s.words j d
    knows j e here = ⊎_elim
        (λ (f : get_elem? s.views j ≡ some e). r.seat j e f)
        (λ (t : (j ≡ length s.views)
        × (half u ≡ e)). subst (Knows noted z r.made r.owner s.words j) t.1 record {
          sizes_are = inl refl;
          made_are = λ f. no_seats (sym t.0 ∙ f);
          stage_is = tt;
          head_is = tt;
          unlost = λ _. refl;
          in_range = λ c x f. absurd (some-ne-none x (sym f));
          noted_pinned = λ c n. absurd (unnoted c n);
        })
        (at_place s.views (half u) e j here)
      where
        no_seats : length s.views ≡ 0 → 0 ≡ r.made
        no_seats e = let l = some_long s.views id d at in absurd (omega arith)

    pub forks : Ruled linked lent noted fact z record {
      words =
          s.words;
      homes = s.homes;
      views = set s.views id d ++ half u ∷ [];
    }
    forks = subst
        (λ (vs : List (View U)).
        Ruled linked lent noted fact z record {
          words =
              s.words;
          homes = s.homes;
          views = vs ++ half u ∷ [];
        })
        (sym (set_again s.views id d at)) record {
          owner = r.owner;
          count = r.count;
          made = r.made;
          few = r.few;
          within = r.within;
          wide = r.wide;
          chain = r.chain;
          row = λ c lo hi.
              row_stays s.words s.words (linked s.words) (linked s.words) (lent s.words)
              (lent s.words) (NotedAt noted s.words s.views)
              (NotedAt noted s.words grown) (claim_at s.views) (claim_at grown)
              (le_refl _) c record {
                words_are = λ _ _ _. refl;
                links = ((λ l. l), (λ l. l));
                lents = (
                  (λ l. l),
                  (λ l. l),
                );
                notes = λ _ m n. notes_before m c n;
                claims = λ j. claims_behind s.views (half u) j c refl;
              } (r.owner c) (r.row c lo hi);
          seat = knows;
          claims = λ few i c x has.
              let was = r.claims few i c x (sym (claims_behind s.views (half u) i c refl) ∙ has) in (
                was.0,
                λ j y here lo. ⊎_elim (λ f. was.1 j y f lo)
                    (λ (t : (j ≡ length s.views) × (half u ≡ y)).
                    let none : 0 ≡ y.pin.number = ap (λ (w : View U). w.pin.number) t.1 in
                    absurd (omega arith)) (at_place s.views (half u) y j here),
              );
          pins = subst (ArePins r.made s.words) (sym (map-append pin_of s.views (half u ∷ [])))
              (pins_more r.made s.words (map pin_of s.views) r.pins);
          above = subst (fact z r.made s.words) (sym (map-append upper_of s.views (half u ∷ [])))
              above;
        }
