-- A step of the rule above the rows: it links rows that the seat holds, lends them to operations,
-- ends loans, and unlinks rows.
-- Given what becomes of each row, and that the upper fact holds again, the whole rule holds again.
use Rattle.std.proofs.Common.{◌≡◌, ◌≢◌, ◌⊎◌, ℕ, ◌+◌, ◌*◌, ◌/◌, ◌%◌, ◌<◌, ◌≤◌, true, List, map, length, get_or, set, sym, refl, ap, ◌∙◌, subst, inl, inr, ⊎_elim, arith, le_refl}
use Rattle.std.proofs.lemmas.List.{map-set}
use mathlib.Core.Logic.{dite}
use mathlib.Core.Option.{Option, some, none, some-injective, some-ne-none}
use native.Mathlib.Decide.{ℕ_discrete}
use lib.ListN.{get_elem?}
use Rattle.atomic_table.specs.Table.{State}
use Rattle.atomic_table.proofs.Lists.{at_set, at_map, set_again}
use Rattle.ca_rows.specs.declared.sizes.Sizes.{Sizes}
use Rattle.ca_rows.specs.declared.view.Claim.{Claim}
use Rattle.ca_rows.specs.declared.view.Claim.TheVariants.{Holds, Lends, Unlinked, Keeps}
use Rattle.ca_rows.specs.declared.view.Pin.{Pin}
use Rattle.ca_rows.specs.declared.view.Stage.{Stage}
use Rattle.ca_rows.specs.declared.view.View.{View}
use Rattle.ca_rows.specs.Account.{IsOut, IsClaim, IsRow}
use Rattle.ca_rows.specs.Chain.{Owner, Free, Linked, Of, IsHead, IsStage}
use Rattle.ca_rows.specs.Claims.{claim_of, claim_at}
use Rattle.ca_rows.specs.Laws.{Lends as LendsLaw}
use Rattle.ca_rows.specs.Pins.{ArePins}
use Rattle.ca_rows.specs.Rule.{upper_of, pin_of, NotedAt, Knows, Ruled}
use Rattle.ca_rows.specs.Words.{epoch, announced, head_tag, first_of}
use Rattle.ca_rows.proofs.Accounts.{row_stays}
use Rattle.ca_rows.proofs.Chains.{chain_stays, stage_stays}
use Rattle.ca_rows.proofs.Heads.{head_stays}
use Rattle.ca_rows.proofs.Claiming.{claim_mine, claim_others, claim_there}
use Rattle.ca_rows.proofs.Rules.{all_seats, pins_stay}
use Rattle.ca_rows.proofs.Takers.{claims_step}
use Rattle.ca_rows.specs.Layout.{row_words, row_limit}

-- what becomes of a row
pub data Change : Type 0 where
  Stays : Change
  -- A held row is linked,
  Comes : Change
  -- or linked and lent to an operation.
  Serves : Change
  -- Its operation ends, and it isn't linked any more.
  Ends : Change
  -- It is unlinked, by a pass that is pinned.
  Goes : Change

module _ {U : Type 0} (linked lent : List ℕ → ℕ → Type 0) (noted : List ℕ → U → ℕ → Type 0)
    (fact : Sizes → ℕ → List ℕ → List U → Type 0)
    (lends : LendsLaw linked lent noted fact) (z : Sizes)
    (s : State (Unit {0}) (View U)) (r : Ruled linked lent noted fact z s) (id : ℕ) (d d' : View U)
    (words' : List ℕ) (kind : ℕ → Change) where
  abbrev pub after : State (Unit {0}) (View U)
  after = record { words = words'; homes = s.homes; views = set s.views id d' }

  abbrev owner_by : ℕ → Change → Owner
  owner_by c Stays = r.owner c
  owner_by c Comes = Linked
  owner_by c Serves = Of id
  owner_by c Ends = r.owner c
  owner_by c Goes = Of id

  abbrev owner' : ℕ → Owner
  owner' c = owner_by c (kind c)

  abbrev pub IsHeldRow : ℕ → Type 0
  IsHeldRow c = (its : List ℕ) × (claim_of d.claims c ≡ some (Holds its))

  abbrev pub IsChange : ℕ → Change → Type 0
  IsChange c Stays = (linked words' c → linked s.words c) × (linked s.words c → linked words' c)
      × (lent words' c → lent s.words c)
      × (lent s.words c → lent words' c) × (claim_of d'.claims c ≡ claim_of d.claims c)
  IsChange c Comes = linked words' c × ¬ lent words' c × IsHeldRow c × (claim_of d'.claims c ≡ none)
  IsChange c Serves = lent words' c × IsHeldRow c × (claim_of d'.claims c ≡ some Lends)
  IsChange c Ends = lent s.words c × ¬ linked words' c
      × (claim_of d'.claims c ≡ claim_of d.claims c)
  IsChange c Goes = linked s.words c × ¬ lent s.words c × ¬ linked words' c
      × (claim_of d'.claims c ≡ some Unlinked) × (d.pin.pinned ≡ true)

  -- The seat had a note on the row before the step.
  abbrev pub WasNoted : ℕ → ℕ → Type 0
  WasNoted j c = (y : View U) × (get_elem? s.views j ≡ some y) × noted s.words y.upper c

  pub record Relinks : Type 0 where
    pub at : get_elem? s.views id ≡ some d
    pub same_sizes : d'.sizes ≡ d.sizes
    pub same_made : d'.made ≡ d.made
    pub same_stage : d'.stage ≡ d.stage
    pub same_lost : d'.lost ≡ d.lost
    pub same_pin : d'.pin ≡ d.pin
    pub wide : length words' ≡ length s.words
    -- The pool's head, the epoch and the announcements are as they were, and so is each row that
    -- wasn't linked.
    pub low : (i : ℕ) → i < 2 → get_or words' i 0 ≡ get_or s.words i 0
    pub announcements : (pass : ℕ) → 0 < pass → pass ≤ 64 → announced words' pass ≡ announced s.words pass
    pub unlinked_rows : (c k : ℕ) → 0 < c → c ≤ z.rows → ¬ linked s.words c → k < row_words
        → get_or words' (row_words * c + k) 0 ≡ get_or s.words (row_words * c + k) 0
    pub changes : (c : ℕ) → 0 < c → c ≤ z.rows → IsChange c (kind c)
    pub in_range : (c : ℕ) (x : Claim) → claim_of d'.claims c ≡ some x → (0 < c) × (c ≤ z.rows)
    -- A new note is a pinned pass's, and on a row that is linked now.
    pub notes : (j : ℕ) (x : View U) → get_elem? (set s.views id d') j ≡ some x → (c : ℕ)
        → noted words' x.upper c
        → WasNoted j c ⊎ (linked words' c × (x.pin.pinned ≡ true))
    pub above : fact z r.made words' (map upper_of (set s.views id d'))

  module _ (m : Relinks) where
    abbrev L : ℕ → Type 0
    L = linked s.words

    abbrev L' : ℕ → Type 0
    L' = linked words'

    abbrev N : ℕ → ℕ → Type 0
    N = NotedAt noted s.words s.views

    abbrev N' : ℕ → ℕ → Type 0
    N' = NotedAt noted words' (set s.views id d')

    abbrev Was : ℕ → Owner → Type 0
    Was = IsRow s.words L (lent s.words) N (claim_at s.views)

    abbrev Is : ℕ → Owner → Type 0
    Is = IsRow words' L' (lent words') N' (claim_at (set s.views id d'))

    now : epoch words' ≡ epoch s.words
    now = m.low 1 (omega arith)

    head : get_or words' 0 0 ≡ get_or s.words 0 0
    head = m.low 0 (omega arith)

    lent_linked : (c : ℕ) → lent s.words c → L c
    lent_linked c b = lends z r.made (map upper_of s.views) s.words r.above c b

    lent_linked' : (c : ℕ) → lent words' c → L' c
    lent_linked' c b = lends z r.made (map upper_of (set s.views id d')) words' m.above c b

    was : (c : ℕ) (o : Owner) → 0 < c → c ≤ z.rows → r.owner c ≡ o → Was c o
    was c o lo hi is = subst (Was c) is (r.row c lo hi)

    -- a view is the one that stood there, or the seat's own new one
    seat_was : (j : ℕ) (x : View U) → get_elem? (set s.views id d') j ≡ some x → (y : View U)
        × (get_elem? s.views j ≡ some y) × (y.pin ≡ x.pin)
    seat_was j x here = ⊎_elim
        (λ (t : (j ≡ id) × (d' ≡ x)).
        (d, ap (get_elem? s.views) t.0 ∙ m.at, sym m.same_pin ∙ ap pin_of t.1))
        (λ (t : (j ≢ id) × (get_elem? s.views j ≡ some x)). (x, t.1, refl))
        (at_set s.views id j d' x here)

    -- A note on a row that isn't linked now was there before.
    note_was : (moment c : ℕ) → ¬ L' c → N' moment c → N moment c
    note_was moment c out n = ⊎_elim
        (λ (w : WasNoted n.seat c). let y = seat_was n.seat n.d n.here in
        let same : w.0 ≡ y.0 = some-injective w.0 y.0 (sym w.1 ∙ y.1) in
        record {
          seat = n.seat;
          d = w.0;
          here = w.1;
          note = w.2;
          at = ap
              (λ (v : View U). v.pin.moment) same ∙ (ap (λ (e : Pin). e.moment) y.2 ∙ n.at);
        })
        (λ l. absurd (out l.0)) (m.notes n.seat n.d n.here c n.note)

    -- who has a note was pinned no later than now
    note_past : (moment c : ℕ) → N moment c → moment ≤ epoch s.words
    note_past moment c n = let k = r.seat n.seat n.d n.here in
        let p = (r.pins.each n.seat n.d.pin (at_map pin_of s.views n.seat n.d n.here)).pinned_at
        (k.noted_pinned c n.note) in
        subst (λ x. x ≤ epoch s.words) n.at p.1

    out_now : (c : ℕ) → ¬ L' c → IsOut words' L' (lent words') N' c (epoch s.words)
    out_now c out = (
      out,
      subst (λ x. epoch s.words ≤ x) (sym now) (le_refl (epoch s.words)),
      λ moment n. note_past moment c (note_was moment c out n),
    )

    -- A row that is linked and isn't lent is nobody's.
    nobodys : (c : ℕ) (o : Owner) → L c → ¬ lent s.words c → Was c o → (j : ℕ)
        → claim_at s.views j c ≡ none
    nobodys c (Free k) l n x = absurd (x.0.0 l)
    nobodys c Linked l n x = x.2
    nobodys c (Of i) l n x = absurd (by x.0.0 x.0.2)
      where
        by : (y : Claim) → IsClaim s.words L (lent s.words) N c y → ⊥
        by (Holds its) k = k.2.0 l
        by Lends k = ⊎_elim (λ b. n b)
            (λ (o : (age : ℕ) × IsOut s.words L (lent s.words) N c age). o.1.0 l) k
        by Unlinked k = k.1.0 l
        by (Keeps t) k = k.3.0 l

    claims_are : (c j : ℕ) → claim_of d'.claims c ≡ claim_of d.claims c
        → claim_at (set s.views id d') j c ≡ claim_at s.views j c
    claims_are c j same = dite (ℕ_discrete j id)
        (λ (e : j ≡ id). ap (λ (x : ℕ). claim_at (set s.views id d') x c) e
        ∙ (claim_mine s.views id d d' m.at c
        ∙ (same ∙ (sym (claim_there s.views id d d' m.at c)
        ∙ sym (ap (λ (x : ℕ). claim_at s.views x c) e)))))
        (λ n. claim_others s.views id d d' m.at j c n)

    own_claim : (c : ℕ) (o : Option Claim) → claim_of d'.claims c ≡ o
        → claim_at (set s.views id d') id c ≡ o
    own_claim c o e = claim_mine s.views id d d' m.at c ∙ e

    -- A row that the seat holds is its own, and nobody else claims it.
    mine : (c : ℕ) (o : Owner) → IsHeldRow c → Was c o → (o ≡ Of id)
        × ((j : ℕ) → j ≢ id → claim_at s.views j c ≡ none)
    mine c (Free k) h x =
        absurd (some-ne-none (Holds h.0) (sym (claim_there s.views id d d' m.at c ∙ h.1) ∙ x.1 id))
    mine c Linked h x =
        absurd (some-ne-none (Holds h.0) (sym (claim_there s.views id d d' m.at c ∙ h.1) ∙ x.2 id))
    mine c (Of i) h x = dite (ℕ_discrete id i)
        (λ (e : id ≡ i). (ap Of (sym e), λ j n. x.1 j (λ f. n (f ∙ sym e))))
        (λ n. absurd (some-ne-none (Holds h.0) (sym (claim_there s.views id d d' m.at c ∙ h.1)
        ∙ x.1 id n)))

    others_none : (c j : ℕ) → j ≢ id → claim_at s.views j c ≡ none
        → claim_at (set s.views id d') j c ≡ none
    others_none c j n e = claim_others s.views id d d' m.at j c n ∙ e

    -- The account of a row whose operation ended.
    ended : (c : ℕ) (o : Owner) → lent s.words c → ¬ L' c
        → ((j : ℕ) → claim_at (set s.views id d') j c ≡ claim_at s.views j c) → Was c o → Is c o
    ended c (Free k) b out same x = absurd (x.0.0 (lent_linked c b))
    ended c Linked b out same x = absurd (x.1 b)
    ended c (Of i) b out same x = ((x.0.0, same i ∙ x.0.1, by x.0.0 x.0.2), λ j n. same j ∙ x.1 j n)
      where
        by : (y : Claim) → IsClaim s.words L (lent s.words) N c y
            → IsClaim words' L' (lent words') N' c y
        by (Holds its) k = absurd (k.2.0 (lent_linked c b))
        by Lends k = inr (epoch s.words, out_now c out)
        by Unlinked k = absurd (k.1.0 (lent_linked c b))
        by (Keeps t) k = absurd (k.3.0 (lent_linked c b))

    row_now : (c : ℕ) → 0 < c → c ≤ z.rows → (x : Change) → IsChange c x → Is c (owner_by c x)
    row_now c lo hi Stays k =
        row_stays s.words words' L L' (lent s.words) (lent words') N N' (claim_at s.views)
        (claim_at (set s.views id d'))
        (subst (λ y. epoch s.words ≤ y) (sym now) (le_refl (epoch s.words))) c record {
          words_are = λ n i l. m.unlinked_rows c i lo hi n l;
          links = (k.0, k.1);
          lents = (k.2, k.3);
          notes = λ n moment y. note_was moment c (λ l. n (k.0 l)) y;
          claims = λ j. claims_are c j k.4;
        } (r.owner c) (r.row c lo hi)
    row_now c lo hi Comes k = let o = mine c (r.owner c) k.2 (r.row c lo hi) in (
      k.0,
      k.1,
      λ j. dite (ℕ_discrete j id)
          (λ (e : j ≡ id). ap (λ (x : ℕ). claim_at (set s.views id d') x c) e
          ∙ own_claim c none k.3) (λ n. others_none c j n (o.1 j n)),
    )
    row_now c lo hi Serves k = let o = mine c (r.owner c) k.1 (r.row c lo hi) in
        ((Lends, own_claim c (some Lends) k.2, inl k.0), λ j n. others_none c j n (o.1 j n))
    row_now c lo hi Ends k = ended c (r.owner c) k.0 k.1 (λ j. claims_are c j k.2) (r.row c lo hi)
    row_now c lo hi Goes k = let free = nobodys c (r.owner c) k.0 k.1 (r.row c lo hi) in (
      (Unlinked, own_claim c (some Unlinked) k.3, (epoch s.words, out_now c k.2)),
      λ j n. others_none c j n (free j),
    )

    free_stays : (c j : ℕ) → 0 < c → c ≤ z.rows → r.owner c ≡ Free j → (x : Change) → IsChange c x
        → owner_by c x ≡ Free j
    free_stays c j lo hi is Stays k = is
    free_stays c j lo hi is Comes k = let o = (mine c (Free j) k.2 (was c (Free j) lo hi is)).0 in
        absurd cc
    free_stays c j lo hi is Serves k = let o = (mine c (Free j) k.1 (was c (Free j) lo hi is)).0 in
        absurd cc
    free_stays c j lo hi is Ends k = is
    free_stays c j lo hi is Goes k = absurd ((was c (Free j) lo hi is).0.0 k.0)

    free_was : (c j : ℕ) (x : Change) → owner_by c x ≡ Free j → r.owner c ≡ Free j
    free_was c j Stays e = e
    free_was c j Comes e = absurd cc
    free_was c j Serves e = absurd cc
    free_was c j Ends e = e
    free_was c j Goes e = absurd cc

    next : (c j : ℕ) → 0 < c → c ≤ z.rows → r.owner c ≡ Free j
        → first_of words' c ≡ first_of s.words c
    next c j lo hi is = let zero_is : row_words * c + 0 ≡ row_words * c = omega arith in
        subst (λ i. get_or words' i 0
        ≡ get_or s.words i 0) zero_is
        (m.unlinked_rows c 0 lo hi (was c (Free j) lo hi is).0.0 (omega arith))

    stages : (st : Stage) → IsStage z.rows r.owner s.words st → IsStage z.rows owner' words' st
    stages = let same = ap (λ x. x / row_limit) head in
        stage_stays z.rows r.owner s.words words' r.count r.chain owner' (subst
        (λ x. head_tag s.words ≤ x) (sym same) (le_refl (head_tag s.words)))
        (λ _ c j lo hi e. (
          (j, lo, hi, free_stays c j lo hi e (kind c) (m.changes c lo hi)),
          next c j lo hi e,
        ))

    same_pins : map pin_of (set s.views id d') ≡ map pin_of s.views
    same_pins = map-set pin_of s.views id d' ∙ (ap (set (map pin_of s.views) id) m.same_pin
        ∙ set_again (map pin_of s.views) id d.pin (at_map pin_of s.views id d m.at))

    pinned_now : (j : ℕ) (x : View U) → get_elem? (set s.views id d') j ≡ some x → (c : ℕ)
        → noted words' x.upper c → x.pin.pinned ≡ true
    pinned_now j x here c n = ⊎_elim
        (λ (w : WasNoted j c). let y = seat_was j x here in
        let same : w.0 ≡ y.0 = some-injective w.0 y.0 (sym w.1 ∙ y.1) in
        ap (λ (e : Pin). e.pinned) (sym y.2)
        ∙ (ap (λ (v : View U). v.pin.pinned) (sym same)
        ∙ (r.seat j w.0 w.1).noted_pinned c w.2))
        (λ l. l.1) (m.notes j x here c n)

    -- A row that is the seat's was so before, or the seat is a pass's.
    had : (c : ℕ) (x : Claim) → claim_of d'.claims c ≡ some x → (k : Change) → IsChange c k
        → (0 < d.pin.number) ⊎ ((y : Claim) × (claim_of d.claims c ≡ some y))
    had c x e Stays k = inr (x, sym k.4 ∙ e)
    had c x e Comes k = absurd (some-ne-none x (sym e ∙ k.3))
    had c x e Serves k = inr (Holds k.1.0, k.1.1)
    had c x e Ends k = inr (x, sym k.2 ∙ e)
    had c x e Goes k =
        inl ((r.pins.each id d.pin (at_map pin_of s.views id d m.at)).is_pass k.4)

    pub relinks : Ruled linked lent noted fact z after
    relinks = let own = r.seat id d m.at in record {
      owner = owner';
      count = r.count;
      made = r.made;
      few = r.few;
      within = r.within;
      wide = m.wide ∙ r.wide;
      chain = chain_stays z.rows r.owner s.words words' r.count r.chain owner' (ap
          (λ x. x % row_limit) head)
          (λ c j lo hi e. (free_stays c j lo hi e (kind c) (m.changes c lo hi), next c j lo hi e))
          (λ c j _ _ e. free_was c j (kind c) e);
      row = λ c lo hi. row_now c lo hi (kind c) (m.changes c lo hi);
      seat = λ j x here. all_seats
          (λ i y. (get_elem? (set s.views id d') i ≡ some y)
          → Knows noted z r.made owner' words' i y) s.views id d'
          (λ here'. record {
            sizes_are = subst (λ (y : Sizes). (y.rows ≡ 0)
                ⊎ (y ≡ z)) (sym m.same_sizes) own.sizes_are;
            made_are = λ e. m.same_made ∙ own.made_are e;
            stage_is =
                subst (IsStage z.rows owner' words') (sym m.same_stage)
                (stages d.stage own.stage_is);
            head_is = subst (λ (x : ℕ × Stage). IsHead r.made words' x.0 x.1)
                (λ i. (ap (λ (e : Pin). e.number) (sym m.same_pin) i, sym m.same_stage i))
                (head_stays r.made s.words words' head d.pin.number d.stage own.head_is);
            unlost = λ one. m.same_lost ∙ own.unlost one;
            in_range = m.in_range;
            noted_pinned = pinned_now id d' here';
          })
          (λ i y n e here'. let k = r.seat i y e in record {
            sizes_are = k.sizes_are;
            made_are = k.made_are;
            stage_is = stages y.stage k.stage_is;
            head_is = head_stays r.made s.words words' head y.pin.number y.stage k.head_is;
            unlost = k.unlost;
            in_range = k.in_range;
            noted_pinned = pinned_now i y here';
          })
          j x here here;
      claims = claims_step r.made s.words s.views id d d' m.at r.pins
          (ap (λ (e : Pin). e.number) m.same_pin)
          (λ c x e. let range = m.in_range c x e in
          had c x e (kind c) (m.changes c range.0 range.1)) r.claims;
      pins = subst (ArePins r.made words') (sym same_pins)
          (pins_stay r.made s.words words' (map pin_of s.views) now m.announcements r.pins);
      above = m.above;
    }
