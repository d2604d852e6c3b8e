-- Pins and the epoch through one seat's step.
use Rattle.std.proofs.Common.{◌≡◌, ◌≢◌, ◌⊎◌, ℕ, ◌+◌, ◌*◌, ◌/◌, ◌%◌, ◌<◌, ◌≤◌, true, false, List, map, get_or, set, sym, refl, ap, ◌∙◌, subst, inr, ⊎_elim, arith, le_refl}
use Rattle.std.proofs.lemmas.List.{map-set}
use mathlib.Core.Logic.{dite}
use mathlib.Core.Option.{some}
use native.Mathlib.Decide.{ℕ_discrete}
use lib.ListN.{get_elem?}
use Rattle.atomic_table.specs.Table.{State}
use Rattle.atomic_table.proofs.Lists.{at_set, at_map}
use Rattle.ca_rows.specs.declared.sizes.Sizes.{Sizes}
use Rattle.ca_rows.specs.declared.view.Pin.{Pin}
use Rattle.ca_rows.specs.declared.view.Stage.{Stage}
use Rattle.ca_rows.specs.declared.view.View.{View}
use Rattle.ca_rows.specs.Chain.{IsHead, IsStage}
use Rattle.ca_rows.specs.Claims.{claim_of, claim_at}
use Rattle.ca_rows.specs.Laws.{Agrees, Framed, Frames}
use Rattle.ca_rows.specs.Pins.{IsPin, ArePins}
use Rattle.ca_rows.specs.Rule.{upper_of, pin_of, NotedAt, Knows, Ruled}
use Rattle.ca_rows.specs.Words.{epoch, announced, head_tag, first_of}
use Rattle.ca_rows.proofs.Accounts.{row_stays}
use Rattle.ca_rows.proofs.Chains.{chain_stays, stage_stays}
use Rattle.ca_rows.proofs.Heads.{head_stays}
use Rattle.ca_rows.proofs.Claiming.{claim_mine, claim_others, claim_there}
use Rattle.ca_rows.proofs.Rules.{all_seats}
use Rattle.ca_rows.proofs.Takers.{claims_step}
use Rattle.ca_rows.specs.Layout.{row_words, row_limit, last_epoch}

module _ (made : ℕ) (words words' : List ℕ) (pins : List Pin) (p : ArePins made words pins) (id : ℕ)
    (e e' : Pin) (at : get_elem? pins id ≡ some e) where
  -- what the step makes of the seat's own pin
  pub record NewPin : Type 0 where
    pub number_is : e'.number ≡ e.number
    pub same_epoch : epoch words' ≡ epoch words
    pub others : (i : ℕ) → 0 < i → i ≤ 64 → i ≢ e.number → announced words' i ≡ announced words i
    -- It is pinned as it was, or since now.
    pub moments : e'.pinned ≡ true → ((e.pinned ≡ true) × (e'.moment ≡ e.moment))
        ⊎ (e'.moment ≡ epoch words)
    pub is_pass : e'.pinned ≡ true → 0 < e.number
    pub absent : 0 < e.number → e'.pinned ≡ false → announced words' e.number ≡ 0
    pub present : e'.pinned ≡ true → announced words' e.number ≡ e'.told + 1
    pub pinned_at : e'.pinned ≡ true → (e'.told ≤ e'.moment) × (e'.moment ≤ epoch words)
        × (epoch words ≤ e'.moment + 1)
    pub told_past : e'.told ≤ epoch words
    pub scan_past : e'.scan ≤ epoch words
    pub scanned : e'.scan ≡ epoch words → (i : ℕ) (d : Pin) → get_elem? (set pins id e') i ≡ some d
        → d.number ≤ e'.upto → d.pinned ≡ true → e'.scan ≤ d.moment
    pub only : made ≤ 1 → 0 < e.number → 0 < e'.looks → e'.scan ≡ epoch words

  pub pins_step : NewPin → ArePins made words' (set pins id e')
  pins_step n = record {
    few = p.few;
    small = subst (λ x. x ≤ last_epoch) (sym n.same_epoch) p.small;
    each = all_seats (IsPin made words' (set pins id e')) pins id e' mine other;
    unused = λ i lo hi. n.others i (omega arith) hi
        (λ f. let low = (p.each id e at).in_range in absurd (omega arith)) ∙ p.unused i lo hi;
  }
    where
      -- the pin with this number stands where the old one stood
      number_at : (i : ℕ) (d : Pin) → get_elem? (set pins id e') i ≡ some d → (x : Pin)
          × (get_elem? pins i ≡ some x) × (x.number ≡ d.number)
      number_at i d here = ⊎_elim
          (λ (t : (i ≡ id) × (e' ≡ d)).
          (e, ap (get_elem? pins) t.0 ∙ at, sym n.number_is ∙ ap (λ (y : Pin). y.number) t.1))
          (λ (t : (i ≢ id) × (get_elem? pins i ≡ some d)).
          (d, t.1, refl)) (at_set pins id i e' d here)

      alone_now : (j : ℕ) (x : Pin) → get_elem? pins j ≡ some x → 0 < x.number → (i : ℕ) (d : Pin)
          → get_elem? (set pins id e') i ≡ some d
          → d.number ≡ x.number → i ≡ j
      alone_now j x here lo i d there same = let y = number_at i d there in
          (p.each j x here).alone lo i y.0 y.1 (y.2 ∙ same)

      mine : IsPin made words' (set pins id e') id e'
      mine = let k = p.each id e at in record {
        in_range = subst (λ x. x ≤ made) (sym n.number_is) k.in_range;
        is_pass = λ y. subst (λ x. 0 < x) (sym n.number_is) (n.is_pass y);
        alone = λ lo i d here same.
            alone_now id e at (subst (λ x. 0 < x) n.number_is lo) i d here (same ∙ n.number_is);
        absent = λ lo y. ap (announced words') n.number_is
            ∙ n.absent (subst (λ x. 0 < x) n.number_is lo) y;
        present = λ y. ap (announced words') n.number_is ∙ n.present y;
        pinned_at = λ y. subst (λ x. (e'.told ≤ e'.moment) × (e'.moment ≤ x)
            × (x ≤ e'.moment + 1)) (sym n.same_epoch) (n.pinned_at y);
        told_past = subst (λ x. e'.told ≤ x) (sym n.same_epoch) n.told_past;
        scan_past = subst (λ x. e'.scan ≤ x) (sym n.same_epoch) n.scan_past;
        scanned = λ y. n.scanned (y ∙ n.same_epoch);
        only = λ lone lo begun. n.only lone (subst (λ x. 0 < x) n.number_is lo) begun ∙ sym n.same_epoch;
      }

      other : (j : ℕ) (x : Pin) → j ≢ id → get_elem? pins j ≡ some x
          → IsPin made words' (set pins id e') j x
      other j x ne here = let k = p.each j x here in let few = p.few in let in_range = k.in_range in
          record {
            in_range = k.in_range;
            is_pass = k.is_pass;
            alone = alone_now j x here;
            absent = λ lo y. n.others x.number lo (omega arith) (not_mine lo) ∙ k.absent lo y;
            present = λ y. n.others x.number (k.is_pass y) (omega arith) (not_mine (k.is_pass y))
                ∙ k.present y;
            pinned_at = λ y. subst (λ m. (x.told ≤ x.moment) × (x.moment ≤ m)
                × (m ≤ x.moment + 1)) (sym n.same_epoch) (k.pinned_at y);
            told_past = subst (λ m. x.told ≤ m) (sym n.same_epoch) k.told_past;
            scan_past = subst (λ m. x.scan ≤ m) (sym n.same_epoch) k.scan_past;
            scanned = λ y i d there low pinned. ⊎_elim
                (λ (t : (i ≡ id) × (e' ≡ d)). let now = y ∙ n.same_epoch in ⊎_elim
                (λ (m : (e.pinned ≡ true) × (e'.moment ≡ e.moment)). subst
                (λ z. x.scan ≤ z) (sym m.1 ∙ ap (λ (y : Pin). y.moment) t.1)
                (k.scanned now id e at (subst
                (λ z. z ≤ x.upto) (ap (λ (y : Pin). y.number) (sym t.1) ∙ n.number_is) low) m.0))
                (λ (m : e'.moment ≡ epoch words). subst
                (λ z. x.scan ≤ z) (now ∙ (sym m ∙ ap (λ (y : Pin). y.moment) t.1)) (le_refl x.scan))
                (n.moments (ap (λ (y : Pin). y.pinned) t.1 ∙ pinned)))
                (λ (t : (i ≢ id) × (get_elem? pins i ≡ some d)).
                k.scanned (y ∙ n.same_epoch) i d t.1 low pinned) (at_set pins id i e' d there);
            only = λ lone lo begun. k.only lone lo begun ∙ sym n.same_epoch;
          }
        where
          not_mine : 0 < x.number → x.number ≢ e.number
          not_mine lo f = ne (sym ((p.each j x here).alone lo id e at (sym f)))

module _ {U : Type 0} (linked lent : List ℕ → ℕ → Type 0) (noted : List ℕ → U → ℕ → Type 0)
    (fact : Sizes → ℕ → List ℕ → List U → Type 0)
    (frames : Frames linked lent noted fact) (z : Sizes)
    (s : State (Unit {0}) (View U)) (r : Ruled linked lent noted fact z s) (id : ℕ) (d d' : View U)
    (at : get_elem? s.views id ≡ some d) (words' : List ℕ)
    (agrees : Agrees linked lent noted fact (map upper_of s.views) s.words words') where
  pub framed : Framed linked lent noted fact z r.made (map upper_of s.views) s.words words'
  framed = frames z r.made (map upper_of s.views) s.words words' r.above agrees

  -- what a step says that changes the pin, and perhaps the upper part, but no row
  pub record Repins : Type 0 where
    pub same_sizes : d'.sizes ≡ d.sizes
    pub same_made : d'.made ≡ d.made
    pub same_stage : d'.stage ≡ d.stage
    pub unlost : z.passes ≡ 1 → d'.lost ≡ 0
    pub same_number : d'.pin.number ≡ d.pin.number
    pub same_claims : d'.claims ≡ d.claims
    pub head : get_or words' 0 0 ≡ get_or s.words 0 0
    pub rows_are : (i : ℕ) → row_words ≤ i → i < row_words * z.rows + row_words → get_or words' i 0 ≡ get_or s.words i 0
    pub later : epoch s.words ≤ epoch words'
    -- A note that the seat has now it had before, with the same pin.
    pub notes : (q : ℕ) → noted words' d'.upper q → noted s.words d.upper q
        × (d'.pin.moment ≡ d.pin.moment) × (d'.pin.pinned ≡ true)
    pub pins : ArePins r.made words' (set (map pin_of s.views) id d'.pin)
    pub above : fact z r.made words' (set (map upper_of s.views) id d'.upper)

  pub repinned : Repins
      → Ruled linked lent noted fact z record {
        words =
            words';
        homes = s.homes;
        views = set s.views id d';
      }
  repinned n = record {
    owner = r.owner;
    count = r.count;
    made = r.made;
    few = r.few;
    within = r.within;
    wide = agrees.wide ∙ r.wide;
    chain = chain_stays z.rows r.owner s.words words' r.count r.chain r.owner (ap
        (λ x. x % row_limit) n.head) (λ c k lo hi e. (e, next c lo hi)) (λ c k _ _ e. e);
    row = λ c lo hi.
        row_stays s.words words' (linked s.words) (linked words') (lent s.words) (lent words')
        (NotedAt noted s.words s.views)
        (NotedAt noted words' (set s.views id d')) (claim_at s.views) (claim_at (set s.views id d'))
        n.later c
        record {
          words_are = λ _ k inside. n.rows_are (row_words * c + k)
              (omega arith) (omega arith);
          links = framed.links c;
          lents = framed.lents c;
          notes = λ _ m x. notes_back m c x;
          claims = λ j. claims_are j c;
        } (r.owner c)
        (r.row c lo hi);
    seat = let mine = r.seat id d at in
        all_seats (Knows noted z r.made r.owner words') s.views id d' record {
          sizes_are = subst (λ (x : Sizes). (x.rows ≡ 0) ⊎ (x ≡ z)) (sym n.same_sizes) mine.sizes_are;
          made_are = λ e. n.same_made ∙ mine.made_are e;
          stage_is =
              subst (IsStage z.rows r.owner words') (sym n.same_stage) (stages d.stage mine.stage_is);
          head_is = subst (λ (x : ℕ × Stage). IsHead r.made words' x.0 x.1)
              (λ i. (sym n.same_number i, sym n.same_stage i))
              (head_stays r.made s.words words' n.head d.pin.number d.stage mine.head_is);
          unlost = n.unlost;
          in_range = λ c x e. mine.in_range c x (ap (λ xs. claim_of xs c) (sym n.same_claims) ∙ e);
          noted_pinned = λ c x. (n.notes c x).2;
        } (λ j x ne e. let k = r.seat j x e in record {
          sizes_are = k.sizes_are;
          made_are = k.made_are;
          stage_is = stages x.stage k.stage_is;
          head_is = head_stays r.made s.words words' n.head x.pin.number x.stage k.head_is;
          unlost = k.unlost;
          in_range = k.in_range;
          noted_pinned =
              λ c m. k.noted_pinned c (framed.notes j x.upper (at_map upper_of s.views j x e) c m);
        });
    claims = claims_step r.made s.words s.views id d d' at r.pins n.same_number
        (λ c x e. inr (x, ap (λ xs. claim_of xs c) (sym n.same_claims) ∙ e)) r.claims;
    pins = subst (ArePins r.made words') (sym (map-set pin_of s.views id d')) n.pins;
    above = subst (fact z r.made words') (sym (map-set upper_of s.views id d')) n.above;
  }
    where
      next : (c : ℕ) → 0 < c → c ≤ z.rows → first_of words' c ≡ first_of s.words c
      next c lo hi = n.rows_are (row_words * c) (omega arith) (omega arith)

      stages : (st : Stage) → IsStage z.rows r.owner s.words st → IsStage z.rows r.owner words' st
      stages = let same = ap (λ x. x / row_limit) n.head in
          stage_stays z.rows r.owner s.words words' r.count r.chain r.owner (subst
          (λ x. head_tag s.words ≤ x) (sym same) (le_refl (head_tag s.words)))
          (λ _ c k lo hi e. ((k, lo, hi, e), next c lo hi))

      claims_are : (j c : ℕ) → claim_at (set s.views id d') j c ≡ claim_at s.views j c
      claims_are j c = dite (ℕ_discrete j id)
          (λ (e : j ≡ id). ap (λ x. claim_at (set s.views id d') x c) e
          ∙ (claim_mine s.views id d d' at c ∙ (ap (λ xs. claim_of xs c) n.same_claims
          ∙ (sym (claim_there s.views id d d' at c) ∙ ap (λ x. claim_at s.views x c) (sym e)))))
          (λ ne. claim_others s.views id d d' at j c ne)

      notes_back : (m q : ℕ) → NotedAt noted words' (set s.views id d') m q
          → NotedAt noted s.words s.views m q
      notes_back m q x = ⊎_elim
          (λ (t : (x.seat ≡ id) × (d' ≡ x.d)).
          let was = n.notes q (subst
          (λ (y : View U). noted words' y.upper q) (sym t.1) x.note) in
          record {
            seat = id;
            d = d;
            here = at;
            note = was.0;
            at = sym was.1
                ∙ (ap (λ (y : View U). y.pin.moment) t.1 ∙ x.at);
          })
          (λ (t : (x.seat ≢ id) × (get_elem? s.views x.seat ≡ some x.d)).
          record {
            seat =
                x.seat;
            d =
                x.d;
            here =
                t.1;
            note =
                framed.notes x.seat x.d.upper (at_map upper_of s.views x.seat x.d t.1) q x.note;
            at =
                x.at;
          })
          (at_set s.views id x.seat d' x.d x.here)
