-- A step of one seat, which the rule above the rows doesn't see, keeps the whole rule.
use Rattle.std.proofs.Common.{◌≡◌, ◌≢◌, ◌⊎◌, ℕ, ◌+◌, ◌*◌, ◌<◌, ◌≤◌, List, map, get_or, set, sym, ap, ◌∙◌, subst, inl, inr, ⊎_elim, arith, le_refl}
use Rattle.std.proofs.lemmas.List.{map-set}
use mathlib.Core.Logic.{dite}
use mathlib.Core.Option.{some}
use native.Mathlib.Decide.{ℕ_discrete}
use lib.ListN.{get_elem?}
use Rattle.atomic_table.specs.Table.{State}
use Rattle.atomic_table.proofs.Lists.{at_set, at_map, set_again}
use Rattle.ca_rows.specs.declared.sizes.Sizes.{Sizes}
use Rattle.ca_rows.specs.declared.view.Claim.{Claim}
use Rattle.ca_rows.specs.declared.view.Pin.{Pin}
use Rattle.ca_rows.specs.declared.view.Stage.{Stage}
use Rattle.ca_rows.specs.declared.view.View.{View}
use Rattle.ca_rows.specs.Account.{IsAlone, IsRow}
use Rattle.ca_rows.specs.Chain.{Owner, IsChain, IsHead, IsStage}
use Rattle.ca_rows.specs.Claims.{claim_of, claim_at}
use Rattle.ca_rows.specs.Laws.{Agrees, Framed, Frames}
use Rattle.ca_rows.specs.Pins.{ArePins}
use Rattle.ca_rows.specs.Rule.{upper_of, pin_of, NotedAt, Knows, Ruled}
use Rattle.ca_rows.specs.Words.{epoch, announced}
use Rattle.ca_rows.proofs.Accounts.{row_stays}
use Rattle.ca_rows.proofs.Claiming.{claim_mine, claim_others, claim_there}
use Rattle.ca_rows.proofs.Takers.{claims_step}
use Rattle.ca_rows.specs.Layout.{row_words, last_epoch}

-- What holds of each seat holds after a step of one.
pub all_seats : {A : Type 0} (K : ℕ → A → Type 0) (l : List A) (me : ℕ) (w : A) → K me w
    → ((j : ℕ) (d : A) → j ≢ me → get_elem? l j ≡ some d → K j d)
    → (j : ℕ) (d : A) → get_elem? (set l me w) j ≡ some d → K j d
all_seats {A} K l me w mine others j d e = ⊎_elim
    (λ (t : (j ≡ me) × (w ≡ d)). subst (λ (x : ℕ × A). K x.0 x.1) (λ i. (sym t.0 i, t.1 i)) mine)
    (λ (t : (j ≢ me) × (get_elem? l j ≡ some d)). others j d t.0 t.1) (at_set l me j w d e)

-- A step on other words keeps pins.
pub pins_stay : (made : ℕ) (words words' : List ℕ) (pins : List Pin)
    → epoch words' ≡ epoch words
    → ((pass : ℕ) → 0 < pass → pass ≤ 64 → announced words' pass ≡ announced words pass)
    → ArePins made words pins → ArePins made words' pins
pins_stay made words words' pins now same p = record {
  few = p.few;
  small = subst (λ x. x ≤ last_epoch) (sym now) p.small;
  each = λ j e here. let k = p.each j e here in let in_range = k.in_range in let few = p.few in
      record {
        in_range = k.in_range;
        is_pass = k.is_pass;
        alone = k.alone;
        absent = λ some un. same e.number some (omega arith) ∙ k.absent some un;
        present = λ pinned. same e.number (k.is_pass pinned) (omega arith) ∙ k.present pinned;
        pinned_at = λ pinned. subst
            (λ x. (e.told ≤ e.moment) × (e.moment ≤ x)
            × (x ≤ e.moment + 1)) (sym now) (k.pinned_at pinned);
        told_past = subst (λ x. e.told ≤ x) (sym now) k.told_past;
        scan_past = subst (λ x. e.scan ≤ x) (sym now) k.scan_past;
        scanned = λ is. k.scanned (is ∙ now);
        only = λ lone lo begun. k.only lone lo begun ∙ sym now;
      };
  unused = λ i lo hi. same i (omega arith) hi ∙ p.unused i lo hi;
}

module _ {U : Type 0} (linked lent : List ℕ → ℕ → Type 0) (noted : List ℕ → U → ℕ → Type 0)
    (fact : Sizes → ℕ → List ℕ → List U → Type 0)
    (frames : Frames linked lent noted fact) (z : Sizes) where
  abbrev pub St : Type 0
  St = State (Unit {0}) (View U)

  abbrev pub Rule : St → Type 0
  Rule = Ruled linked lent noted fact z

  abbrev pub uppers : St → List U
  uppers s = map upper_of s.views

  module _ (s : St) (r : Rule s) (id : ℕ) (d d' : View U) (at : get_elem? s.views id ≡ some d)
      (same_upper : d'.upper ≡ d.upper) (same_pin : d'.pin ≡ d.pin)
      (words' : List ℕ) (agrees : Agrees linked lent noted fact (uppers s) s.words words') where
    abbrev pub after : St
    after = record { words = words'; homes = s.homes; views = set s.views id d' }

    framed : Framed linked lent noted fact z r.made (uppers s) s.words words'
    framed = frames z r.made (uppers s) s.words words' r.above agrees

    same_uppers : map upper_of (set s.views id d') ≡ uppers s
    same_uppers = map-set upper_of s.views id d'
        ∙ (ap (set (uppers s) id) same_upper
        ∙ set_again (uppers s) id d.upper (at_map upper_of s.views id d at))

    same_pins : map pin_of (set s.views id d') ≡ map pin_of s.views
    same_pins = map-set pin_of s.views id d' ∙ (ap (set (map pin_of s.views) id) same_pin
        ∙ set_again (map pin_of s.views) id d.pin (at_map pin_of s.views id d at))

    note_back : (j : ℕ) (x : View U) → get_elem? s.views j ≡ some x → (q : ℕ)
        → noted words' x.upper q → noted s.words x.upper q
    note_back j x here q n = framed.notes j x.upper (at_map upper_of s.views j x here) q n

    -- Who has a note after the step had it before.
    pub notes_back : (m q : ℕ) → NotedAt noted words' after.views m q
        → NotedAt noted s.words s.views m q
    notes_back m q n = ⊎_elim
        (λ (t : (n.seat ≡ id) × (d' ≡ n.d)). record {
          seat = id;
          d = d;
          here = at;
          note = note_back id d at q (subst
              (λ (u : U). noted words' u q) (ap upper_of (sym t.1) ∙ same_upper) n.note);
          at = ap (λ (e : Pin). e.moment) (sym same_pin ∙ ap pin_of t.1) ∙ n.at;
        })
        (λ (t : (n.seat ≢ id) × (get_elem? s.views n.seat ≡ some n.d)). record {
          seat = n.seat;
          d = n.d;
          here = t.1;
          note = note_back n.seat n.d t.1 q n.note;
          at = n.at;
        })
        (at_set s.views id n.seat d' n.d n.here)

    abbrev Was : ℕ → Owner → Type 0
    Was = IsRow s.words (linked s.words) (lent s.words) (NotedAt noted s.words s.views)
        (claim_at s.views)

    abbrev pub Is : ℕ → Owner → Type 0
    Is = IsRow words' (linked words') (lent words') (NotedAt noted words' after.views)
        (claim_at after.views)

    -- A row that nobody could reach, and nobody read, is so still.
    pub alone_now : (q : ℕ)
        → IsAlone s.words (linked s.words) (lent s.words) (NotedAt noted s.words s.views) q
        → IsAlone words' (linked words') (lent words') (NotedAt noted words' after.views) q
    alone_now q a = ((λ l. a.0 ((framed.links q).0 l)), (λ m n. a.1 m (notes_back m q n)))

    module _ (now : epoch words' ≡ epoch s.words)
        (announcements : (pass : ℕ) → 0 < pass → pass ≤ 64 → announced words' pass ≡ announced s.words pass)
        (same_sizes : d'.sizes ≡ d.sizes) (same_made : d'.made ≡ d.made)
        (q : ℕ) where
      -- what a step says of each row but q
      pub record Elsewhere (owner' : ℕ → Owner) (c : ℕ) : Type 0 where
        pub owner_is : owner' c ≡ r.owner c
        pub claim_is : claim_of d'.claims c ≡ claim_of d.claims c
        pub words_are : ¬ linked s.words c → (k : ℕ) → k < row_words
            → get_or words' (row_words * c + k) 0 ≡ get_or s.words (row_words * c + k) 0

      -- The step keeps the rule, given the row that it changes, the chain, and what the seats know
      -- of the head.
      pub keeps_rule : (owner' : ℕ → Owner) (count' : ℕ) → IsChain z.rows owner' words' count'
          → ((c : ℕ) → 0 < c → c ≤ z.rows → c ≢ q → Elsewhere owner' c)
          → (0 < q → q ≤ z.rows → Is q (owner' q))
          → ((c : Claim) → claim_of d'.claims q ≡ some c
          → (0 < q) × (q ≤ z.rows) × ((0 < d.pin.number) ⊎ ((x : Claim) × (claim_of d.claims q ≡ some x))))
          → ((c : ℕ) → c ≢ q → claim_of d'.claims c ≡ claim_of d.claims c)
          → ((st : Stage) → IsStage z.rows r.owner s.words st → IsStage z.rows owner' words' st)
          → IsStage z.rows owner' words' d'.stage
          → ((j : ℕ) (x : View U) → j ≢ id → get_elem? s.views j ≡ some x
          → IsHead r.made s.words x.pin.number x.stage → IsHead r.made words' x.pin.number x.stage)
          → IsHead r.made words' d.pin.number d'.stage → (z.passes ≡ 1 → d'.lost ≡ 0) → Rule after
      keeps_rule owner' count' chain
          else here in_range claims stages stage heads head unlost = let mine = r.seat id d at in record {
            owner = owner';
            count = count';
            made = r.made;
            few = r.few;
            within = r.within;
            wide = agrees.wide ∙ r.wide;
            chain = chain;
            row = λ c lo hi. dite (ℕ_discrete c q)
                (λ (e : c ≡ q). subst
                (λ (x : ℕ). Is x (owner' x)) (sym e)
                (here (subst (λ x. 0 < x) e lo) (subst (λ x. x ≤ z.rows) e hi)))
                (λ n. other c lo hi (else c lo hi n));
            seat = all_seats (Knows noted z r.made owner' words') s.views id d' record {
              sizes_are = subst (λ (x : Sizes). (x.rows ≡ 0) ⊎ (x ≡ z)) (sym same_sizes) mine.sizes_are;
              made_are = λ e. same_made ∙ mine.made_are e;
              stage_is = stage;
              head_is = subst (λ (e : Pin). IsHead r.made words' e.number d'.stage) (sym same_pin) head;
              unlost = unlost;
              in_range = λ c x e. dite (ℕ_discrete c q)
                  (λ (f : c ≡ q). let k = in_range x (subst (λ y. claim_of d'.claims y ≡ some x) f e) in
                  subst (λ y. (0 < y) × (y ≤ z.rows)) (sym f) (k.0, k.1))
                  (λ n. mine.in_range c x (sym (claims c n) ∙ e));
              noted_pinned = λ c n. ap (λ (e : Pin). e.pinned) same_pin
                  ∙ mine.noted_pinned c (note_back id d at c (subst
                  (λ (u : U). noted words' u c) same_upper n));
            } (λ j x n e. let k = r.seat j x e in record {
              sizes_are = k.sizes_are;
              made_are = k.made_are;
              stage_is = stages x.stage k.stage_is;
              head_is = heads j x n e k.head_is;
              unlost = k.unlost;
              in_range = k.in_range;
              noted_pinned = λ c m. k.noted_pinned c (note_back j x e c m);
            });
            claims = claims_step r.made s.words s.views id d d' at r.pins (ap (λ (e : Pin). e.number) same_pin)
                (λ c x e. dite (ℕ_discrete c q)
                (λ (f : c ≡ q). let k = in_range x (subst (λ y. claim_of d'.claims y ≡ some x) f e) in
                ⊎_elim (λ lo. inl lo) (λ (y : (y : Claim) × (claim_of d.claims q ≡ some y)).
                inr (y.0, ap (claim_of d.claims) f ∙ y.1)) k.2)
                (λ n. inr (x, sym (claims c n) ∙ e)))
                r.claims;
            pins = subst (ArePins r.made words') (sym same_pins)
                (pins_stay r.made s.words words' (map pin_of s.views) now announcements r.pins);
            above = subst (fact z r.made words') (sym same_uppers) framed.stays;
          }
        where
          was_mine : (c : ℕ) → claim_of d.claims c ≡ claim_at s.views id c
          was_mine c = sym (claim_there s.views id d d' at c)

          claims_are : (c j : ℕ) → claim_of d'.claims c ≡ claim_of d.claims c
              → claim_at after.views j c ≡ claim_at s.views j c
          claims_are c j same = dite (ℕ_discrete j id)
              (λ (e : j ≡ id). ap (λ (x : ℕ). claim_at after.views x c) e
              ∙ (claim_mine s.views id d d' at c
              ∙ (same ∙ (was_mine c ∙ sym (ap (λ (x : ℕ). claim_at s.views x c) e)))))
              (λ n. claim_others s.views id d d' at j c n)

          other : (c : ℕ) → 0 < c → c ≤ z.rows → Elsewhere owner' c → Is c (owner' c)
          other c lo hi e = subst (Is c) (sym e.owner_is)
              (row_stays s.words words' (linked s.words) (linked words') (lent s.words)
              (lent words') (NotedAt noted s.words s.views)
              (NotedAt noted words' after.views) (claim_at s.views) (claim_at after.views)
              (subst (λ x. epoch s.words ≤ x) (sym now) (le_refl (epoch s.words))) c
              record {
                words_are = e.words_are;
                links = framed.links c;
                lents = framed.lents c;
                notes = λ _ m n. notes_back m c n;
                claims = λ j. claims_are c j e.claim_is;
              } (r.owner c) (r.row c lo hi))
