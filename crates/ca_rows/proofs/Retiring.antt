-- A row is retired: a load of the epoch, since which the seat keeps the row.
use Rattle.std.proofs.Common.{◌≡◌, ℕ, ◌≤◌, List, get_or, set, sym, refl, ◌∙◌, subst, inr, ⊎_elim, arith, le_refl}
use Rattle.std.proofs.lemmas.List.{set-get_or}
use mathlib.Core.Option.{some, none}
use lib.ListN.{get_elem?}
use Rattle.atomic_table.specs.Table.{step, keeps, Allows}
use Rattle.atomic_table.proofs.Lists.{at_map}
use Rattle.ca_rows.specs.declared.sizes.Sizes.{Sizes}
use Rattle.ca_rows.specs.declared.view.Claim.{Claim}
use Rattle.ca_rows.specs.declared.view.Claim.TheVariants.{Holds, Lends, Unlinked, Keeps}
use Rattle.ca_rows.specs.declared.view.View.{View}
use Rattle.ca_rows.specs.Account.{IsOut, IsClaim}
use Rattle.ca_rows.specs.Claims.{claim_of, claimed}
use Rattle.ca_rows.specs.Kept.{IsReleased, MayRetire}
use Rattle.ca_rows.specs.Laws.{Agrees, Frames}
use Rattle.ca_rows.specs.Rule.{upper_of, pin_of, NotedAt}
use Rattle.ca_rows.specs.Told.{Mine, Retired}
use Rattle.ca_rows.specs.Words.{epoch}
use Rattle.ca_rows.proofs.Claiming.{claim_mine, claim_others, claimed_here, claimed_else}
use Rattle.ca_rows.proofs.Rules.{St, Rule, uppers, Is, notes_back, keeps_rule}
use Rattle.ca_rows.proofs.Steps.{owned}

module _ {U : Type 0} (linked lent : List ℕ → ℕ → Type 0) (noted : List ℕ → U → ℕ → Type 0)
    (fact : Sizes → ℕ → List ℕ → List U → Type 0)
    (frames : Frames linked lent noted fact) (z : Sizes) where
  abbrev S : Type 0
  S = St linked lent noted fact frames z

  abbrev R : S → Type 0
  R = Rule linked lent noted fact frames z

  same : (us : List U) (words : List ℕ) → Agrees linked lent noted fact us words words
  same us words = record { wide = refl; control = λ i _ _. refl; results = λ _ _ _. refl; seen = λ r k _ _ _ _. refl }

  module _ (s : S) (r : R s) (id : ℕ) (d : View U) (at : get_elem? s.views id ≡ some d)
      (q : ℕ) where
    abbrev Out : ℕ → Type 0
    Out = IsOut s.words (linked s.words) (lent s.words) (NotedAt noted s.words s.views) q

    -- A row that may be retired was unlinked, or nobody knows it.
    is_out : (c : Claim)
        → IsClaim s.words (linked s.words) (lent s.words) (NotedAt noted s.words s.views) q c
        → IsReleased lent fact z id d q c → (age : ℕ)
        × Out age
    is_out (Holds its) k free = (0, (k.2.0, omega arith, λ m n. absurd (k.2.1 m n)))
    is_out Lends k free = ⊎_elim
        (λ b. absurd (free r.made s.words (uppers linked lent noted fact frames z s) r.above
        (at_map upper_of s.views id d at) b))
        (λ (o : (age : ℕ) × Out age). o) k
    is_out Unlinked k free = k
    is_out (Keeps t) k free = absurd free

    module _ (c : Claim) (mine : claim_of d.claims q ≡ some c)
        (free : IsReleased lent fact z id d q c) where
      abbrev keeping : View U
      keeping = record d { claims = claimed q (Keeps (epoch s.words)) d.claims }

      retire_step : R record {
        words = set s.words 1 (get_or s.words 1 0);
        homes = s.homes;
        views = set s.views id (record d { claims = claimed q (Keeps (epoch s.words)) d.claims });
      }
      retire_step = let o = owned linked lent noted fact frames z s r id d at q c mine in
          let out = is_out c o.3 free in
          let w : View U = record d { claims = claimed q (Keeps (epoch s.words)) d.claims } in
          let agrees = same (uppers linked lent noted fact frames z s) s.words in
          subst (λ (ws : List ℕ). R record {
            words =
                ws;
            homes = s.homes;
            views = set s.views id w;
          }) (sym (set-get_or s.words 1 0))
          (keeps_rule linked lent noted fact frames z s r id d w at refl refl s.words agrees
          refl (λ _ _ _. refl) refl refl q
          r.owner r.count r.chain
          (λ c' _ _ n. record {
            owner_is =
                refl;
            claim_is = claimed_else d.claims q c' _ n;
            words_are = λ _ _ _. refl;
          })
          (λ _ _. subst (Is linked lent noted fact frames z s r id d w at refl refl s.words agrees
          q) (sym o.2) (
            (
              Keeps (epoch s.words),
              claim_mine s.views id d w at q ∙ claimed_here d.claims q _,
              (
                out.0,
                out.1.1,
                le_refl (epoch s.words),
                (
                  out.1.0,
                  out.1.1,
                  λ m n. out.1.2 m (notes_back linked lent noted fact frames z s r id d w at refl
                      refl s.words agrees m q n),
                ),
              ),
            ),
            λ j n. claim_others s.views id d w at j q n ∙ o.4 j n,
          ))
          (λ _ _. (o.0, o.1, inr (c, mine))) (λ c' n. claimed_else d.claims q c' _ n)
          (λ _ k. k) (r.seat id d at).stage_is (λ _ _ _ _ k. k) (r.seat id d at).head_is
          (r.seat id d at).unlost)

  pub retires : (slots id : ℕ) (me : Mine U) (q : ℕ) → MayRetire lent fact z id me.0 q
      → Allows R slots id me 1 (λ x. x) (Retired q (step slots 1 0 0 none) me)
  retires slots id me q may s r _ at _ =
      let o = owned linked lent noted fact frames z s r id me.0 at q may.0 may.1 in (
        record me.0 { claims = claimed q (Keeps (epoch s.words)) me.0.claims },
        keeps,
        tt,
        retire_step s r id me.0 at q may.0 may.1 may.2,
        (
          o.0,
          (λ some_rows. ⊎_elim (λ (e : me.0.sizes.rows ≡ 0). absurd (omega arith))
              (λ (e : me.0.sizes ≡ z). subst (λ (y : Sizes). q ≤ y.rows) (sym e) o.1)
              (r.seat id me.0 at).sizes_are),
          r.pins.small,
          (r.pins.each id me.0.pin (at_map pin_of s.views id me.0 at)).scan_past,
          (λ c t e. (owned linked lent noted fact frames z s r id me.0 at c (Keeps t) e).3.2),
          refl,
        ),
      )
