-- A row that is kept since two epochs is held again: nobody has a note on it.
use Rattle.std.proofs.Common.{◌≡◌, ℕ, ◌+◌, ◌≤◌, max, List, get_or, set, sym, refl, ◌∙◌, subst, inr, arith}
use Rattle.std.proofs.lemmas.List.{set-get_or}
use mathlib.Core.Option.{some, none}
use lib.ListN.{get_elem?}
use Rattle.atomic_table.specs.Table.{step, keeps, Allows}
use Rattle.atomic_table.proofs.Lists.{at_map}
use Rattle.ca_rows.specs.declared.sizes.Sizes.{Sizes}
use Rattle.ca_rows.specs.declared.view.Claim.TheVariants.{Holds, Keeps}
use Rattle.ca_rows.specs.declared.view.View.{View}
use Rattle.ca_rows.specs.Account.{IsAlone}
use Rattle.ca_rows.specs.Claims.{claim_of, claimed, held_count}
use Rattle.ca_rows.specs.Laws.{Agrees, Frames}
use Rattle.ca_rows.specs.Rule.{pin_of, NotedAt}
use Rattle.ca_rows.specs.Told.{Mine, Regained}
use Rattle.ca_rows.proofs.Claiming.{claim_mine, claim_others, claimed_here, claimed_else}
use Rattle.ca_rows.proofs.Rules.{St, Rule, uppers, Is, alone_now, keeps_rule}
use Rattle.ca_rows.proofs.Steps.{owned, row_of, row_of_long, row_of_spells}
use Rattle.ca_rows.specs.Words.{epoch}

module _ {U : Type 0} (linked lent : List ℕ → ℕ → Type 0) (noted : List ℕ → U → ℕ → Type 0)
    (fact : Sizes → ℕ → List ℕ → List U → Type 0)
    (frames : Frames linked lent noted fact) (z : Sizes) where
  abbrev S : Type 0
  S = St linked lent noted fact frames z

  abbrev R : S → Type 0
  R = Rule linked lent noted fact frames z

  same : (us : List U) (words : List ℕ) → Agrees linked lent noted fact us words words
  same us words = record { wide = refl; control = λ i _ _. refl; results = λ _ _ _. refl; seen = λ r k _ _ _ _. refl }

  module _ (s : S) (r : R s) (id : ℕ) (d : View U) (at : get_elem? s.views id ≡ some d) (q t : ℕ)
      (kept : claim_of d.claims q ≡ some (Keeps t))
      (epoch_then : ℕ) (old : t + 2 ≤ epoch_then) (past : epoch_then ≤ epoch s.words) where
    -- Who has a note on it was pinned no later than its age, and the epoch moves at most once while
    -- a pass is pinned.
    unnoted : (m : ℕ) → ¬ NotedAt noted s.words s.views m q
    unnoted m n =
        let claim = (owned linked lent noted fact frames z s r id d at q (Keeps t) kept).3 in
        let pinned = (r.seat n.seat n.d n.here).noted_pinned q n.note in
        let pin = (r.pins.each n.seat n.d.pin (at_map pin_of s.views n.seat n.d n.here)).pinned_at
        pinned in
        let young = claim.1 in
        let before = claim.3.2 m n in
        let is = n.at in
        let most = pin.2 in
        absurd (omega arith)

    alone : IsAlone s.words (linked s.words) (lent s.words) (NotedAt noted s.words s.views) q
    alone = ((owned linked lent noted fact frames z s r id d at q (Keeps t) kept).3.3.0, unnoted)

    abbrev holding : View U
    holding = let xs = claimed q (Holds (row_of s.words q)) d.claims in
        record d { claims = xs; most = max d.most (held_count xs) }

    regain_step : (i : ℕ) → R record {
      words =
          set s.words i (get_or s.words i 0);
      homes = s.homes;
      views = set s.views id holding;
    }
    regain_step i = let o = owned linked lent noted fact frames z s r id d at q (Keeps t) kept in
        let w : View U = holding in
        let agrees = same (uppers linked lent noted fact frames z s) s.words in
        subst (λ (ws : List ℕ). R record { words = ws; homes = s.homes; views = set s.views id w })
        (sym (set-get_or s.words i 0))
        (keeps_rule linked lent noted fact frames z s r id d w at refl refl s.words agrees
        refl (λ _ _ _. refl) refl refl q
        r.owner r.count r.chain
        (λ c' _ _ n. record {
          owner_is =
              refl;
          claim_is = claimed_else d.claims q c' _ n;
          words_are = λ _ _ _. refl;
        })
        (λ _ _. subst (Is linked lent noted fact frames z s r id d w at refl refl s.words agrees q)
        (sym o.2) (
          (
            Holds (row_of s.words q),
            claim_mine s.views id d w at q ∙ claimed_here d.claims q _,
            (
              row_of_long s.words z.rows q r.wide o.1,
              row_of_spells s.words q,
              alone_now linked lent noted fact frames z s r id d w at refl refl s.words agrees q
                  alone,
            ),
          ),
          λ j n. claim_others s.views id d w at j q n ∙ o.4 j n,
        ))
        (λ _ _. (o.0, o.1, inr (Keeps t, kept))) (λ c' n. claimed_else d.claims q c' _ n)
        (λ _ k. k) (r.seat id d at).stage_is (λ _ _ _ _ k. k) (r.seat id d at).head_is
        (r.seat id d at).unlost)

  -- A load after which the seat holds a row that it kept for two epochs before one that is past.
  holds_again : (slots id : ℕ) (me : Mine U) (i q t then : ℕ) → claim_of me.0.claims q ≡ some (Keeps t)
      → t + 2 ≤ then → ((s : S) (r : R s) → get_elem? s.views id ≡ some me.0 → then ≤ epoch s.words)
      → Allows R slots id me i (λ x. x) (Regained q (step slots i 0 0 none) me)
  holds_again slots id me i q t then kept old past s r _ at _ =
      let o = owned linked lent noted fact frames z s r id me.0 at q (Keeps t) kept in (
        holding s r id me.0 at q t kept then old (past s r at),
        keeps,
        tt,
        regain_step s r id me.0 at q t kept then old (past s r at) i,
        (row_of s.words q, row_of_long s.words z.rows q r.wide o.1, refl),
      )

  -- It was kept for two epochs before that of the last look at the others.
  pub regains : (slots id : ℕ) (me : Mine U) (q t : ℕ) → claim_of me.0.claims q ≡ some (Keeps t)
      → t + 2 ≤ me.0.pin.scan
      → Allows R slots id me 1 (λ x. x) (Regained q (step slots 1 0 0 none) me)
  regains slots id me q t kept old = holds_again slots id me 1 q t me.0.pin.scan kept old
      (λ s r at. (r.pins.each id me.0.pin (at_map pin_of s.views id me.0 at)).scan_past)

  -- It was kept for two epochs before the one that the pass announced.
  pub reuses : (slots id : ℕ) (me : Mine U) (i q t : ℕ) → claim_of me.0.claims q ≡ some (Keeps t)
      → t + 2 ≤ me.0.pin.told
      → Allows R slots id me i (λ x. x) (Regained q (step slots i 0 0 none) me)
  reuses slots id me i q t kept old = holds_again slots id me i q t me.0.pin.told kept old
      (λ s r at. (r.pins.each id me.0.pin (at_map pin_of s.views id me.0 at)).told_past)
