-- Each step of the pool keeps the rule, and tells what it should.
use Rattle.std.proofs.Common.{◌≡◌, ◌≢◌, ◌⊎◌, ℕ, zero, suc, ◌+◌, ◌*◌, ◌/◌, ◌%◌, ◌<◌, ◌≤◌, max, eqb, List, [], ◌∷◌, map, length, take, drop, get_or, set, sym, refl, ap, ◌∙◌, subst, inl, inr, ⊎_elim, arith, le_refl, length-set, length-drop, eq-eqb, ne_eqb, get_or-set_other, get_or-set_same}
use Rattle.std.proofs.lemmas.List.{set-get_or, get_or-take, get_or-drop, length-take-le}
use mathlib.Core.Logic.{dite}
use mathlib.Core.Option.{some, none, some-injective, some-ne-none}
use native.Mathlib.Decide.{ℕ_discrete}
use lib.ListN.{get_elem?}
use prog.Atomic.{either}
use Rattle.atomic_table.specs.Table.{step, keeps, stepped, Allows}
use Rattle.atomic_table.proofs.Lists.{at_map}
use Rattle.ca_rows.specs.declared.sizes.Sizes.{Sizes}
use Rattle.ca_rows.specs.declared.view.Claim.{Claim}
use Rattle.ca_rows.specs.declared.view.Claim.TheVariants.{Holds}
use Rattle.ca_rows.specs.declared.view.Stage.{Stage}
use Rattle.ca_rows.specs.declared.view.Stage.TheVariants.{Idle, Saw, Knew}
use Rattle.ca_rows.specs.declared.view.View.{View}
use Rattle.ca_rows.specs.Account.{IsClaim, IsRow}
use Rattle.ca_rows.specs.Chain.{Owner, Free, Linked, Of, IsTop, IsHead, IsStage}
use Rattle.ca_rows.specs.Claims.{claim_of, claimed, dropped, held_count, claim_at, none_old}
use Rattle.ca_rows.specs.Laws.{IsNoted, Agrees, Frames, Listing as ListingLaw}
use Rattle.ca_rows.specs.Rule.{upper_of, pin_of, NotedAt}
use Rattle.ca_rows.specs.Told.{AreTaken, Expects, IsOnly, Mine, with_stage, with_claims, with_most, Looked, Glanced, Peeked, Took, Recalled, Wrote, Gave}
use Rattle.ca_rows.specs.Words.{IsWide, Spells, announced, head_tag, head_row, first_of, next_below}
use Rattle.ca_rows.proofs.Chains.{put, put_here, put_else, in_head, next_number, top_free, top_none, top_in_range, chain_stays, chain_takes, chain_gives, stage_stays}
use Rattle.ca_rows.proofs.Claiming.{claim_mine, claim_others, claim_there, claimed_here, claimed_else, dropped_here, dropped_else}
use Rattle.ca_rows.proofs.Heads.{head_stays, head_word, head_else as others_head}
use Rattle.ca_rows.proofs.OwnWords.{announced_else, result_else}
use Rattle.ca_rows.proofs.Rules.{St, Rule, uppers, Is, alone_now, keeps_rule}
use Rattle.ca_rows.specs.Layout.{row_words, row_limit, last_tag}

-- the words of a row
pub row_of : List ℕ → ℕ → List ℕ
row_of words r = take row_words (drop (row_words * r) words)

pub row_of_spells : (words : List ℕ) (r : ℕ) → Spells words r (row_of words r)
unfolding row_of
row_of_spells words r k l =
    sym (get_or-take row_words (drop (row_words * r) words) k 0 l ∙ get_or-drop (row_words * r) words k 0)

pub row_of_long : (words : List ℕ) (rows r : ℕ) → IsWide rows words → r ≤ rows
    → length (row_of words r) ≡ row_words
unfolding row_of
row_of_long words rows r wide hi =
    length-take-le row_words (drop (row_words * r) words) (omega (arith, length-drop (row_words * r) words))

-- The place of a word tells its row and its index.
apart : (r q k i : ℕ) → k < row_words → i < row_words → row_words * r + k ≡ row_words * q + i → (r ≡ q) × (k ≡ i)
apart r q k i a b e = (omega arith, omega arith)

at_map_back : {A B : Type 0} (f : A → B) (l : List A) (i : ℕ) (b : B)
    → get_elem? (map f l) i ≡ some b → (a : A) × (get_elem? l i ≡ some a) × (f a ≡ b)
at_map_back f [] i b e = absurd (some-ne-none b (sym e))
at_map_back f (x ∷ xs) zero b e = (x, refl, some-injective (f x) b e)
at_map_back f (x ∷ xs) (suc i) b e = at_map_back f xs i b e

module _ {U : Type 0} (linked lent : List ℕ → ℕ → Type 0) (noted : List ℕ → U → ℕ → Type 0)
    (fact : Sizes → ℕ → List ℕ → List U → Type 0)
    (frames : Frames linked lent noted fact) (z : Sizes) where
  abbrev S : Type 0
  S = St linked lent noted fact frames z

  abbrev R : S → Type 0
  R = Rule linked lent noted fact frames z

  nothing : (us : List U) (words : List ℕ) → Agrees linked lent noted fact us words words
  nothing us words = record { wide = refl; control = λ i _ _. refl; results = λ _ _ _. refl; seen = λ r k _ _ _ _. refl }

  -- A load after which the seat knows something else of the head, or counts a loss, an empty head
  -- or a worn one.
  loaded : (s : S) (r : R s) (i id : ℕ) (d : View U) (st : Stage) (lost empty worn : ℕ)
      → get_elem? s.views id ≡ some d → IsStage z.rows r.owner s.words st
      → IsHead r.made s.words d.pin.number st → (z.passes ≡ 1 → lost ≡ 0)
      → R record {
        words = set s.words i (get_or s.words i 0);
        homes = s.homes;
        views = set s.views id (record d { stage = st; lost = lost; empty = empty; worn = worn });
      }
  loaded s r i id d st lost empty worn at ok head unlost =
      let w : View U = record d { stage = st; lost = lost; empty = empty; worn = worn } in
      subst (λ (ws : List ℕ). R record { words = ws; homes = s.homes; views = set s.views id w })
      (sym (set-get_or s.words i 0))
      (keeps_rule linked lent noted fact frames z s r id d w at refl refl s.words
      (nothing (uppers linked lent noted fact frames z s) s.words)
      refl (λ _ _ _. refl) refl refl 0
      r.owner r.count r.chain
      (λ c _ _ _. record { owner_is = refl; claim_is = refl; words_are = λ _ _ _. refl })
      (λ lo _. absurd (omega arith))
      (λ c e. absurd (let x = (r.seat id d at).in_range 0 c e in let y = x.0 in omega arith))
      (λ _ _. refl) (λ _ k. k) ok (λ _ _ _ _ k. k) head unlost)

  -- The row at the head is one of those that the seat knows of.
  row_inside : (s : S) (r : R s) (id : ℕ) (d : View U) → get_elem? s.views id ≡ some d
      → 0 < d.sizes.rows → head_row s.words ≤ d.sizes.rows
  row_inside s r id d at known =
      let top = top_in_range z.rows r.owner r.count (head_row s.words) r.chain.top in
      ⊎_elim (λ (e : d.sizes.rows ≡ 0). absurd (omega arith))
      (λ (e : d.sizes ≡ z). subst (λ (y : Sizes). head_row s.words ≤ y.rows) (sym e) top)
      (r.seat id d at).sizes_are

  -- What was seen of the head is so.
  saw_head : (s : S) (r : R s)
      → IsStage z.rows r.owner s.words (Saw (head_tag s.words) (head_row s.words))
  saw_head s r = (
    le_refl (head_tag s.words),
    λ _ lo. let t = top_free z.rows r.owner r.count (head_row s.words) lo r.chain.top in
        (t.0, lo, t.2, t.3),
  )

  pub glances : (slots id : ℕ) (me : Mine U) → 0 < me.0.pin.number
      → Allows R slots id me 0 (λ x. x) (Glanced (step slots 0 0 0 none) me)
  glances slots id me is_pass s r _ at small = (
    record me.0 { stage = Saw (head_tag s.words) (head_row s.words) },
    keeps,
    tt,
    loaded s r 0 id me.0 (Saw (head_tag s.words) (head_row s.words)) me.0.lost me.0.empty me.0.worn
        at (saw_head s r) (is_pass, λ _. (refl, refl)) (r.seat id me.0 at).unlost,
    (row_inside s r id me.0 at, refl),
  )

  -- Where an only pass finds the head empty, each row is linked, as it knows, or its own.
  module _ (listed : U → ℕ → Type 0) (law : ListingLaw linked lent noted fact listed) where
    all_taken : (s : S) (r : R s) (id : ℕ) (me : Mine U) → get_elem? s.views id ≡ some me.0
        → 0 < me.0.pin.number → IsOnly me → head_row s.words ≡ 0 → AreTaken listed me
    all_taken s r id me at is_pass only none_free q lo hi = let some_rows = only.0 in
        ⊎_elim (λ (e : me.0.sizes.rows ≡ 0). absurd (omega arith))
        (λ (e : me.0.sizes ≡ z).
        let inside : q ≤ z.rows = subst (λ (y : Sizes). q ≤ y.rows) e hi in
        let one : z.passes ≡ 1 = subst (λ (y : Sizes). y.passes ≡ 1) e only.1 in
        let within = r.within in let few : r.made ≤ 1 = omega arith in
        by few inside (r.owner q) refl (r.row q lo inside))
        (r.seat id me.0 at).sizes_are
      where
        by : r.made ≤ 1 → q ≤ z.rows → (o : Owner) → r.owner q ≡ o
            → IsRow s.words (linked s.words) (lent s.words) (NotedAt noted s.words s.views)
            (claim_at s.views) q o
            → listed me.0.upper q ⊎ ((c : Claim) × (claim_of me.0.claims q ≡ some c))
        by few inside (Free k) is x = let low = (r.chain.below q k lo inside is).0 in
            let empty = top_none z.rows r.owner r.count (head_row s.words) none_free r.chain.top in
            absurd (omega arith)
        by few inside Linked is x = inl (law z r.made (uppers linked lent noted fact frames z s)
            s.words r.above few id me.0.upper (at_map upper_of s.views id me.0 at) q x.0)
        by few inside (Of i) is x = let mine : id ≡ i = (r.claims few i q x.0.0 x.0.1).1 id me.0 at
            is_pass in
            inr (
              x.0.0,
              sym (claim_there s.views id me.0 me.0 at q)
                  ∙ (ap (λ y. claim_at s.views y q) mine ∙ x.0.1),
            )

  pub looks : (listed : U → ℕ → Type 0) → ListingLaw linked lent noted fact listed
      → (slots id : ℕ) (me : Mine U) → 0 < me.0.pin.number
      → Allows R slots id me 0 (λ x. x) (Looked listed (step slots 0 0 0 none) me)
  looks listed law slots id me is_pass s r _ at small = let t : ℕ = head_tag s.words in let q : ℕ = head_row s.words in
      let d = me.0 in dite (ℕ_discrete q 0)
      (λ (none_free : q ≡ 0). (
        record d { stage = Saw t 0; empty = d.empty + none_old d.claims d.claims d.pin.told },
        keeps,
        tt,
        loaded s r 0 id d (Saw t 0) d.lost (d.empty + none_old d.claims d.claims d.pin.told) d.worn at
            (subst (λ (y : ℕ). IsStage z.rows r.owner s.words (Saw t y)) none_free (saw_head s r))
            (is_pass, λ _. (refl, none_free)) (r.seat id d at).unlost,
        (
          row_inside s r id d at,
          (λ _. refl),
          (λ lo. absurd (omega arith)),
          (λ lo. absurd (omega arith)),
          λ only e. all_taken listed law s r id me at is_pass only e,
        ),
      ))
      (λ free. dite (ℕ_discrete t last_tag)
      (λ (last : t ≡ last_tag). (
        record d { stage = Saw last_tag q; worn = d.worn + 1 },
        keeps,
        tt,
        loaded s r 0 id d (Saw last_tag q) d.lost d.empty (d.worn + 1) at
            (subst (λ (y : ℕ). IsStage z.rows r.owner s.words (Saw y q)) last (saw_head s r))
            (is_pass, λ _. (last, refl)) (r.seat id d at).unlost,
        (
          row_inside s r id d at,
          (λ e. absurd (free e)),
          (λ _ _. refl),
          (λ _ n. absurd (n last)),
          λ _ e. absurd (free e),
        ),
      ))
      (λ young. (
        record d { stage = Saw t q },
        keeps,
        tt,
        loaded s r 0 id d (Saw t q) d.lost d.empty d.worn at (saw_head s r) (is_pass, λ _. (refl, refl))
            (r.seat id d at).unlost,
        (
          row_inside s r id d at,
          (λ e. absurd (free e)),
          (λ _ e. absurd (young e)),
          (λ _ _. refl),
          λ _ e. absurd (free e),
        ),
      )))

  abbrev seen_in : Stage → ℕ × ℕ × ℕ
  seen_in Idle = (0, 0, 0)
  seen_in (Saw t q) = (t, q, 0)
  seen_in (Knew t q x) = (t, q, x)

  pub peeks : (slots id : ℕ) (me : Mine U) (t q : ℕ) → me.0.stage ≡ Saw t q → 0 < q
      → Allows R slots id me (row_words * q) (λ x. x) (Peeked (step slots (row_words * q) 0 0 none) me)
  peeks slots id me t q is lo s r _ at small = let x : ℕ = get_or s.words (row_words * q) 0 in
      let k = subst (IsStage z.rows r.owner s.words) is (r.seat id me.0 at).stage_is in (
        record me.0 { stage = Knew t q x },
        keeps,
        tt,
        loaded s r (row_words * q) id me.0 (Knew t q x) me.0.lost me.0.empty me.0.worn at (
          k.0,
          λ e. (k.1 e lo, refl),
        ) (subst (IsHead r.made s.words me.0.pin.number) is (r.seat id me.0 at).head_is)
            (r.seat id me.0 at).unlost,
        λ t' q' is'. ap
            (λ (y : ℕ × ℕ × ℕ). with_stage me (Knew y.0 y.1 x)) (ap seen_in (sym is ∙ is')),
      )

  -- An exchange of the head that was lost, where the space is for several passes.
  misses : (s : S) (r : R s) (id : ℕ) (d : View U) → get_elem? s.views id ≡ some d → z.passes ≢ 1
      → R record {
        words =
            set s.words 0 (get_or s.words 0 0);
        homes =
            s.homes;
        views = set s.views id (record d { stage = Idle; lost = d.lost + 1 });
      }
  misses s r id d at several = loaded s r 0 id d Idle (d.lost + 1) d.empty d.worn at tt tt (λ one. absurd (several one))

  head_agrees : (us : List U) (words : List ℕ) (x : ℕ)
      → Agrees linked lent noted fact us words (set words 0 x)
  head_agrees us words x = record {
    wide = length-set words 0 x;
    control = λ i lo hi. get_or-set_other words 0 i x 0 (λ e. omega arith);
    results = λ pass lo hi. result_else words 0 x pass (λ e. omega arith);
    seen = λ r k lo _ _ _. get_or-set_other words 0 (row_words * r + k) x 0 (λ e. omega arith);
  }

  -- No announcement is the head.
  head_told : (s : S) (r : R s) (x pass : ℕ) → 0 < pass → pass ≤ 64
      → announced (set s.words 0 x) pass ≡ announced s.words pass
  head_told s r x pass lo hi = announced_else s.words 0 x pass (λ e. let w = r.wide in omega arith)

  head_else : (words : List ℕ) (x i : ℕ) → 0 < i → get_or (set words 0 x) i 0 ≡ get_or words i 0
  head_else words x i l = get_or-set_other words 0 i x 0 (λ e. omega arith)

  head_is : (s : S) (r : R s) (x : ℕ) → get_or (set s.words 0 x) 0 0 ≡ x
  head_is s r x = let w = r.wide in get_or-set_same s.words 0 x 0 (omega arith)

  -- What other seats saw of the head, where a pass exchanges it.
  heads_else : (s : S) (r : R s) (id : ℕ) (d : View U) → get_elem? s.views id ≡ some d → 0 < d.pin.number
      → (words' : List ℕ) (j : ℕ) (x : View U) → j ≢ id → get_elem? s.views j ≡ some x
      → IsHead r.made s.words x.pin.number x.stage → IsHead r.made words' x.pin.number x.stage
  heads_else s r id d at is_pass words' j x apart here = others_head r.made s.words words'
      (map pin_of s.views) j id x.pin d.pin r.pins (at_map pin_of s.views j x here)
      (at_map pin_of s.views id d at) apart is_pass x.stage

  -- Where the space is for one pass, the head is what that saw of it; so it is where the pass knows that.
  lone_head : (s : S) (r : R s) → z.passes ≡ 1 → (t q : ℕ) {number : ℕ}
      → (0 < number) × (r.made ≤ 1 → (head_tag s.words ≡ t) × (head_row s.words ≡ q)) → get_or s.words 0 0 ≡ t * row_limit + q
  lone_head s r one t q head = let within = r.within in head_word s.words t q (head.1 (omega arith))

  only_head : (s : S) (r : R s) (id : ℕ) (me : Mine U) → get_elem? s.views id ≡ some me.0 → IsOnly me
      → (t q : ℕ) → (made_few : (0 < me.0.pin.number) × (r.made ≤ 1 → (head_tag s.words ≡ t) × (head_row s.words ≡ q)))
      → get_or s.words 0 0 ≡ t * row_limit + q
  only_head s r id me at only t q head = let some_rows = only.0 in
      ⊎_elim (λ (e : me.0.sizes.rows ≡ 0). absurd (omega arith))
      (λ (e : me.0.sizes ≡ z). lone_head s r (subst (λ (y : Sizes). y.passes ≡ 1) e only.1) t q head)
      (r.seat id me.0 at).sizes_are

  -- Nobody's row but a free one has no claim: the account of a row that is free.
  module _ (s : S) (r : R s) (id : ℕ) (d : View U) (at : get_elem? s.views id ≡ some d) where
    free_row : (q k : ℕ) → 0 < q → q ≤ z.rows → r.owner q ≡ Free k
        → IsRow s.words (linked s.words) (lent s.words) (NotedAt noted s.words s.views)
        (claim_at s.views) q (Free k)
    free_row q k lo hi is =
        subst (IsRow s.words (linked s.words) (lent s.words) (NotedAt noted s.words s.views)
        (claim_at s.views) q) is (r.row q lo hi)

    -- The row that a seat claims is its own.
    pub owned : (q : ℕ) (c : Claim) → claim_of d.claims q ≡ some c → (0 < q) × (q ≤ z.rows)
        × (r.owner q ≡ Of id)
        × IsClaim s.words (linked s.words) (lent s.words) (NotedAt noted s.words s.views) q c
        × ((j : ℕ) → j ≢ id → claim_at s.views j q ≡ none)
    owned q c e = let range = (r.seat id d at).in_range q c e in
        by (r.owner q) refl (r.row q range.0 range.1)
      where
        here : claim_at s.views id q ≡ some c
        here = claim_there s.views id d d at q ∙ e

        by : (o : Owner) → r.owner q ≡ o
            → IsRow s.words (linked s.words) (lent s.words) (NotedAt noted s.words s.views)
            (claim_at s.views) q o → (0 < q)
            × (q ≤ z.rows) × (r.owner q ≡ Of id)
            × IsClaim s.words (linked s.words) (lent s.words) (NotedAt noted s.words s.views) q c
            × ((j : ℕ) → j ≢ id → claim_at s.views j q ≡ none)
        by (Free k) is x = absurd (some-ne-none c (sym here ∙ x.1 id))
        by Linked is x = absurd (some-ne-none c (sym here ∙ x.2 id))
        by (Of i) is x = dite (ℕ_discrete id i)
            (λ (same : id ≡ i). let w = x.0 in
            let c' : w.0 ≡ c = some-injective w.0 c (sym w.1
            ∙ (ap (λ y. claim_at s.views y q) (sym same) ∙ here)) in (
              let range = (r.seat id d at).in_range q c e in range.0,
              (let range = (r.seat id d at).in_range q c e in range.1),
              is ∙ ap Of (sym same),
              subst (IsClaim s.words (linked s.words) (lent s.words) (NotedAt noted s.words s.views)
                  q) c' w.2,
              λ j n. x.1 j (λ f. n (f ∙ sym same)),
            ))
            (λ other. absurd (some-ne-none c (sym here ∙ x.1 id other)))

    -- Where a seat has a note on a row, a pass that is pinned has.
    noted_at : (q : ℕ)
        → IsNoted linked lent noted fact s.words (uppers linked lent noted fact frames z s) q
        → (m : ℕ) × NotedAt noted s.words s.views m q
    noted_at q n = let x = at_map_back upper_of s.views n.0 n.1 n.2 in (
      x.0.pin.moment,
      record {
        seat = n.0;
        d = x.0;
        here = x.1;
        note = subst
            (λ (u : U). noted s.words u q) (sym x.2) n.3;
        at = refl;
      },
    )

    module _ (t q y m : ℕ) (found : get_or s.words 0 0 ≡ t * row_limit + q) (small : q < row_limit)
        (lo : 0 < q) (hi : q ≤ z.rows) (count : r.count ≡ suc m)
        (is : r.owner q ≡ Free m) (next : next_below z.rows q (first_of s.words q) ≡ y)
        (is_pass : 0 < d.pin.number) where
      abbrev taken : View U
      taken = let xs = claimed q (Holds (row_of s.words q)) d.claims in
          record d { stage = Idle; claims = xs; most = max d.most (held_count xs) }

      abbrev new_head : List ℕ
      new_head = set s.words 0 ((t + 1) * row_limit + y % row_limit)

      take_step : R record { words = new_head; homes = s.homes; views = set s.views id taken }
      take_step = let few = r.few in let free = free_row q m lo hi is in
          let y_in : y ≤ z.rows = subst
          (λ c. c ≤ z.rows) next (top_in_range z.rows r.owner m
          (next_below z.rows q (first_of s.words q)) (r.chain.below q m lo hi is).1) in
          let head : get_or new_head 0 0 ≡ (t + 1) * row_limit + y % row_limit =
          head_is s r ((t + 1) * row_limit + y % row_limit) in
          let parts = in_head (t + 1) (y % row_limit) (omega arith) in
          let tag : head_tag s.words ≡ t = ap (λ n. n / row_limit) found ∙ (in_head t q small).0 in
          let tag' : head_tag new_head ≡ t + 1 = ap (λ n. n / row_limit) head ∙ parts.0 in
          let row' : head_row new_head ≡ next_below z.rows q (first_of s.words q) = ap (λ n. n % row_limit) head
          ∙ (parts.1 ∙ (omega arith ∙ sym next)) in
          keeps_rule linked lent noted fact frames z s r id d taken at refl refl new_head
          (head_agrees (uppers linked lent noted fact frames z s) s.words _)
          (head_else s.words _ 1 (omega arith)) (head_told s r _) refl refl q
          (put r.owner q (Of id)) m
          (chain_takes z.rows r.owner s.words new_head r.count r.chain q m (Of id)
          (λ k e. cc) lo hi is count row' (λ c l. head_else s.words _ (row_words * c) (omega arith)))
          (λ c l _ n. record {
            owner_is = put_else r.owner q (Of id) c n;
            claim_is = claimed_else d.claims q c _ n;
            words_are = λ _ k _. head_else s.words _ (row_words * c + k) (omega arith);
          })
          (λ _ _. subst (Is linked lent noted fact frames z s r id d taken at refl refl new_head
          (head_agrees (uppers linked lent noted fact frames z s) s.words _) q)
          (sym (put_here r.owner q (Of id) q refl)) (
            (
              Holds (row_of s.words q),
              claim_mine s.views id d taken at q ∙ claimed_here d.claims q _,
              (
                row_of_long s.words z.rows q r.wide hi,
                (λ k l. head_else s.words _ (row_words * q + k) (omega arith)
                    ∙ row_of_spells s.words q k l),
                alone_now linked lent noted fact frames z s r id d taken at refl refl new_head
                    (head_agrees (uppers linked lent noted fact frames z s) s.words _) q free.0,
              ),
            ),
            λ j n. claim_others s.views id d taken at j q n ∙ free.1 j,
          ))
          (λ _ _. (lo, hi, inl is_pass)) (λ c n. claimed_else d.claims q c _ n)
          (stage_stays z.rows r.owner s.words new_head r.count r.chain (put r.owner q (Of id))
          (omega arith) (λ e. absurd (omega arith))) tt (heads_else s r id d at is_pass new_head) tt
          (r.seat id d at).unlost

    -- A row that the seat holds is written.
    module _ (q k v : ℕ) (its : List ℕ) (held : claim_of d.claims q ≡ some (Holds its))
        (inside : k < row_words) where
      abbrev written : View U
      written = record d { claims = claimed q (Holds (set its k v)) d.claims }

      abbrev new_words : List ℕ
      new_words = set s.words (row_words * q + k) v

      else_word : (c i : ℕ) → i < row_words → c ≢ q
          → get_or new_words (row_words * c + i) 0 ≡ get_or s.words (row_words * c + i) 0
      else_word c i l n = get_or-set_other s.words (row_words * q + k) (row_words * c + i) v 0
          (λ e. n (apart c q i k l inside e).0)

      low_word : (i : ℕ) → i < row_words → get_or new_words i 0 ≡ get_or s.words i 0
      low_word i l = let o = owned q (Holds its) held in let some_q = o.0 in
          get_or-set_other s.words (row_words * q + k) i v 0 (λ e. omega arith)

      write_agrees : Agrees linked lent noted fact (uppers linked lent noted fact frames z s)
          s.words new_words
      write_agrees = let o = owned q (Holds its) held in let alone = o.3.2 in record {
        wide = length-set s.words (row_words * q + k) v;
        control = λ i _ l. low_word i l;
        results = λ pass lo _. let w = r.wide in let hi = o.1 in
            result_else s.words (row_words * q + k) v pass (λ e. omega arith);
        seen = λ c i _ _ who l. else_word c i l
            (λ (e : c ≡ q). ⊎_elim (λ (y : linked s.words c). alone.0 (subst (linked s.words) e y))
            (λ (y : IsNoted linked lent noted fact s.words
            (uppers linked lent noted fact frames z s) c). let n = noted_at c y in
            alone.1 n.0 (subst (NotedAt noted s.words s.views n.0) e n.1)) who);
      }

      write_told : (pass : ℕ) → 0 < pass → pass ≤ 64 → announced new_words pass ≡ announced s.words pass
      write_told pass lo _ = let w = r.wide in let o = owned q (Holds its) held in let hi = o.1 in
          announced_else s.words (row_words * q + k) v pass (λ e. omega arith)

      free_next : (c j : ℕ) → r.owner c ≡ Free j → first_of new_words c ≡ first_of s.words c
      free_next c j is = let o = owned q (Holds its) held in
          let n : c ≢ q = λ f. let y : Of id ≡ Free j = sym o.2 ∙ (ap r.owner (sym f) ∙ is) in cc in
          let zero_is : row_words * c + 0 ≡ row_words * c = omega arith in
          subst (λ i. get_or new_words i 0
          ≡ get_or s.words i 0) zero_is (else_word c 0 (omega arith) n)

      spells_now : Spells new_words q (set its k v)
      spells_now i l = let o = owned q (Holds its) held in let hi = o.1 in let wide = r.wide in
          let long : length its ≡ row_words = o.3.0 in dite (ℕ_discrete i k)
          (λ (e : i ≡ k). ap (λ (j : ℕ). get_or new_words (row_words * q + j) 0) e
          ∙ (get_or-set_same s.words (row_words * q + k) v 0 (omega arith)
          ∙ sym (ap (λ (j : ℕ). get_or (set its k v) j 0) e
          ∙ get_or-set_same its k v 0 (omega arith))))
          (λ n. get_or-set_other s.words (row_words * q + k) (row_words * q + i) v 0 (λ e. n (omega arith))
          ∙ (o.3.1 i l ∙ sym (get_or-set_other its k i v 0 n)))

      write_step : R record { words = new_words; homes = s.homes; views = set s.views id written }
      write_step = let o = owned q (Holds its) held in
          keeps_rule linked lent noted fact frames z s r id d written at refl refl new_words
          write_agrees (low_word 1 (omega arith)) write_told refl refl q
          r.owner r.count
          (chain_stays z.rows r.owner s.words new_words r.count r.chain r.owner (ap
          (λ n. n % row_limit) (low_word 0 (omega arith)))
          (λ c j _ _ e. (e, free_next c j e)) (λ c j _ _ e. e))
          (λ c _ _ n. record {
            owner_is =
                refl;
            claim_is = claimed_else d.claims q c _ n;
            words_are = λ _ i l.
                else_word c i l n;
          })
          (λ _ _. subst (Is linked lent noted fact frames z s r id d written at refl refl new_words
          write_agrees q) (sym o.2) (
            (
              Holds (set its k v),
              claim_mine s.views id d written at q ∙ claimed_here d.claims q _,
              (
                length-set its k v ∙ o.3.0,
                spells_now,
                alone_now linked lent noted fact frames z s r id d written at refl refl new_words
                    write_agrees q o.3.2,
              ),
            ),
            λ j n. claim_others s.views id d written at j q n ∙ o.4 j n,
          ))
          (λ _ _. (o.0, o.1, inr (Holds its, held))) (λ c n. claimed_else d.claims q c _ n)
          (stage_stays z.rows r.owner s.words new_words r.count r.chain r.owner (subst
          (λ x. head_tag s.words ≤ x) (sym same_tag)
          (le_refl (head_tag s.words))) (λ _ c j lo hi e. ((j, lo, hi, e), free_next c j e)))
          (stage_stays z.rows r.owner s.words new_words r.count r.chain r.owner (subst
          (λ x. head_tag s.words ≤ x) (sym same_tag)
          (le_refl (head_tag s.words))) (λ _ c j lo hi e. ((j, lo, hi, e), free_next c j e))
          d.stage (r.seat id d at).stage_is)
          (λ j x _ _. head_stays r.made s.words new_words (low_word 0 (omega arith)) x.pin.number x.stage)
          (head_stays r.made s.words new_words (low_word 0 (omega arith)) d.pin.number d.stage
          (r.seat id d at).head_is) (r.seat id d at).unlost
        where
          same_tag : head_tag new_words ≡ head_tag s.words
          same_tag = ap (λ n. n / row_limit) (low_word 0 (omega arith))

    -- A row that the seat holds, whose first word says that the free row at the head is below it, is put on top.
    module _ (t h q : ℕ) (its : List ℕ) (found : get_or s.words 0 0 ≡ t * row_limit + h)
        (small : h < row_limit) (held : claim_of d.claims q ≡ some (Holds its))
        (next : get_or its 0 0 ≡ h + 1)
        (is_pass : 0 < d.pin.number) where
      abbrev given : View U
      given = record d { stage = Idle; claims = dropped q d.claims }

      abbrev head_with : List ℕ
      head_with = set s.words 0 (t * row_limit + q)

      give_step : R record { words = head_with; homes = s.homes; views = set s.views id given }
      give_step = let o = owned q (Holds its) held in let few = r.few in let hi = o.1 in
          let head : get_or head_with 0 0 ≡ t * row_limit + q = head_is s r (t * row_limit + q) in
          let parts = in_head t q (omega arith) in
          let tag : head_tag head_with ≡ head_tag s.words = ap (λ n. n / row_limit) head
          ∙ (parts.0 ∙ sym (ap (λ n. n / row_limit) found ∙ (in_head t h small).0)) in
          let zero_is : row_words * q + 0 ≡ row_words * q = omega arith in
          let its_next : first_of s.words q ≡ get_or its 0 0 = subst
          (λ i. get_or s.words i 0 ≡ get_or its 0 0) zero_is (o.3.1 0 (omega arith)) in
          let next' : next_below z.rows q (first_of head_with q) ≡ head_row s.words =
          ap (λ (first : ℕ). next_below z.rows q first)
          (head_else s.words _ (row_words * q) (let some_q = o.0 in omega arith)
          ∙ (its_next ∙ next)) ∙ (next_number z.rows q h ∙ sym (ap (λ n. n % row_limit) found ∙ (in_head t h small).1)) in
          let not_free : (k : ℕ) → r.owner q ≢ Free k = λ k e. let y : Of id ≡ Free k = sym o.2
          ∙ e in cc in
          let agrees =
          head_agrees (uppers linked lent noted fact frames z s) s.words (t * row_limit + q) in
          keeps_rule linked lent noted fact frames z s r id d given at refl refl head_with agrees
          (head_else s.words _ 1 (omega arith)) (head_told s r _) refl refl q
          (put r.owner q (Free r.count)) (suc r.count)
          (chain_gives z.rows r.owner s.words head_with r.count r.chain q not_free o.0 hi (ap
          (λ n. n % row_limit) head
          ∙ parts.1) next' (λ c l _. head_else s.words _ (row_words * c) (omega arith)))
          (λ c l _ n. record {
            owner_is = put_else r.owner q (Free r.count) c n;
            claim_is = dropped_else d.claims q c n;
            words_are = λ _ k _. head_else s.words _ (row_words * c + k) (omega arith);
          })
          (λ _ _. subst (Is linked lent noted fact frames z s r id d given at refl refl head_with
          agrees q) (sym (put_here r.owner q (Free r.count) q refl)) (
            alone_now linked lent noted fact frames z s r id d given at refl refl head_with agrees q
                o.3.2,
            λ j. dite (ℕ_discrete j id)
                (λ (e : j ≡ id). ap (λ (x : ℕ). claim_at (set s.views id given) x q) e
                ∙ (claim_mine s.views id d given at q ∙ dropped_here d.claims q))
                (λ n. claim_others s.views id d given at j q n ∙ o.4 j n),
          ))
          (λ _ _. (o.0, hi, inl is_pass)) (λ c n. dropped_else d.claims q c n)
          (stage_stays z.rows r.owner s.words head_with r.count r.chain
          (put r.owner q (Free r.count))
          (subst (λ x. head_tag s.words ≤ x) (sym tag) (le_refl (head_tag s.words)))
          (λ _ c j lo hi' e. (
            (
              j,
              lo,
              hi',
              put_else r.owner q (Free r.count) c
                  (λ f. not_free j (ap r.owner (sym f) ∙ e)) ∙ e,
            ),
            head_else s.words _ (row_words * c) (omega arith),
          ))) tt (heads_else s r id d at is_pass head_with) tt (r.seat id d at).unlost

  at_hit : (n old new : ℕ) → n ≡ old → either (eqb n old) new n ≡ new
  at_hit n old new e = ap (λ b. either b new n) (eq-eqb n old e)

  at_miss : (n old new : ℕ) → n ≢ old → either (eqb n old) new n ≡ n
  at_miss n old new e = ap (λ b. either b new n) (ne_eqb n old e)

  pub takes : (slots id : ℕ) (me : Mine U) (t q x y : ℕ) → me.0.stage ≡ Knew t q x
      → next_below z.rows q x ≡ y → 0 < q → q < row_limit
      → Allows R slots id me 0 (λ n. either (eqb n (t * row_limit + q)) ((t + 1) * row_limit + y % row_limit) n)
      (Took (step slots 0 (t * row_limit + q) ((t + 1) * row_limit + y % row_limit) none) me)
  takes slots id me t q x y is below lo small s r _ at _ = let head : ℕ = get_or s.words 0 0 in
      let old : ℕ = t * row_limit + q in
      let new : ℕ = (t + 1) * row_limit + y % row_limit in let d = me.0 in
      let w0 : View U = record d { stage = Idle; lost = d.lost + 1 } in
      let expected : Expects d.stage old = subst (λ (e : Stage). Expects e old) (sym is) refl in
      let who = subst (IsHead r.made s.words d.pin.number) is (r.seat id d at).head_is in
      dite (ℕ_discrete head old)
      (λ hit.
      let tag : head_tag s.words ≡ t = ap (λ n. n / row_limit) hit ∙ (in_head t q small).0 in
      let row : head_row s.words ≡ q = ap (λ n. n % row_limit) hit ∙ (in_head t q small).1 in
      let k = subst (IsStage z.rows r.owner s.words) is (r.seat id d at).stage_is in
      let next = ap (λ (first : ℕ). next_below z.rows q first) (k.1 (sym tag)).1 ∙ below in
      let top = top_free z.rows r.owner r.count q lo
      (subst (IsTop z.rows r.owner r.count) row r.chain.top) in (
        taken s r id d at t q y top.0 hit small lo top.2 top.1 top.3 next who.0,
        keeps,
        tt,
        subst (λ (n : ℕ).
            R (stepped s 0 n id me.1
            (taken s r id d at t q y top.0 hit small lo top.2 top.1 top.3 next who.0) keeps))
            (sym (at_hit head old new hit))
            (take_step s r id d at t q y top.0 hit small lo top.2 top.1 top.3 next who.0),
        (
          expected,
          (λ t' q' x' is'. let same : q ≡ q' = ap
              (λ (y : ℕ × ℕ × ℕ). y.1) (ap seen_in (sym is ∙ is')) in (
                (λ _. (
                  ap (claim_of d.claims) (sym same)
                      ∙ (sym (claim_there s.views id d d at q)
                      ∙ (free_row s r id d at q top.0 lo top.2 top.3).1 id),
                  (
                    row_of s.words q,
                    row_of_long s.words z.rows q r.wide top.2,
                    ap (λ y. with_most (with_claims me (claimed y (Holds (row_of s.words q)) d.claims)))
                        same,
                  ),
                )),
                λ not. absurd (not hit),
              )),
          λ _. hit,
        ),
      ))
      (λ miss. (
        w0,
        keeps,
        tt,
        subst (λ (n : ℕ). R (stepped s 0 n id me.1 w0 keeps)) (sym (at_miss head old new miss))
            (misses s r id d at (λ one. miss (lone_head s r one t q who))),
        (
          expected,
          (λ t' q' x' is'. ((λ hit. absurd (miss hit)), λ _. refl)),
          λ only. absurd (miss (only_head s r id me at only t q who)),
        ),
      ))

  pub recalls : (slots id : ℕ) (me : Mine U) (i : ℕ)
      → Allows R slots id me i (λ n. n) (Recalled (step slots i 0 0 none) me)
  recalls slots id me i s r _ at small = (
    me.0,
    keeps,
    tt,
    loaded s r i id me.0 me.0.stage me.0.lost me.0.empty me.0.worn at (r.seat id me.0 at).stage_is
        (r.seat id me.0 at).head_is (r.seat id me.0 at).unlost,
    (
      refl,
      λ q k its is inside held. let o = owned s r id me.0 at q (Holds its) held in
          ap (λ (j : ℕ). get_or s.words j 0) is ∙ o.3.1 k inside,
    ),
  )

  pub writes : (slots id : ℕ) (me : Mine U) (i q k v : ℕ) (its : List ℕ) → i ≡ row_words * q + k
      → claim_of me.0.claims q ≡ some (Holds its) → k < row_words
      → Allows R slots id me i (λ _. v) (λ _. Wrote (step slots i v 0 none) me v)
  writes slots id me i q k v its is held inside s r _ at _ = (
    written s r id me.0 at q k v its held inside,
    keeps,
    tt,
    subst (λ (j : ℕ). R record {
      words =
          set s.words j v;
      homes =
          s.homes;
      views = set s.views id (written s r id me.0 at q k v its held inside);
    }) (sym is)
        (write_step s r id me.0 at q k v its held inside),
    λ q' k' its' is' inside' held'. let same = apart q q' k k' inside inside' (sym is ∙ is') in
        let claims : Holds its ≡ Holds its' =
        some-injective (Holds its) (Holds its') (sym held
        ∙ (ap (claim_of me.0.claims) same.0 ∙ held')) in
        let its_same : its ≡ its' = cc in
        ap (λ (y : ℕ × ℕ × List ℕ).
        (record me.0 { claims = claimed y.0 (Holds (set y.2 y.1 v)) me.0.claims }, me.1))
        (λ j. (same.0 j, same.1 j, its_same j)),
  )

  pub gives : (slots id : ℕ) (me : Mine U) (t h q : ℕ) (its : List ℕ) → me.0.stage ≡ Saw t h
      → h < row_limit → q < row_limit → claim_of me.0.claims q ≡ some (Holds its) → get_or its 0 0 ≡ h + 1
      → Allows R slots id me 0
      (λ n. either (eqb n (t * row_limit + h)) (t * row_limit + q) n)
      (Gave (step slots 0 (t * row_limit + h) (t * row_limit + q) none) me)
  gives slots id me t h q its is small small_q held next s r _ at _ =
      let head : ℕ = get_or s.words 0 0 in let old : ℕ = t * row_limit + h in
      let new : ℕ = t * row_limit + q in let d = me.0 in
      let w0 : View U = record d { stage = Idle; lost = d.lost + 1 } in
      let expected : Expects d.stage old = subst (λ (y : Stage). Expects y old) (sym is) refl in
      let who = subst (IsHead r.made s.words d.pin.number) is (r.seat id d at).head_is in
      dite (ℕ_discrete head old)
      (λ hit. (
        given s r id d at t h q its hit small held next who.0,
        keeps,
        tt,
        subst (λ (n : ℕ).
            R (stepped s 0 n id me.1 (given s r id d at t h q its hit small held next who.0) keeps))
            (sym (at_hit head old new hit))
            (give_step s r id d at t h q its hit small held next who.0),
        (
          expected,
          (λ _. ap (λ y. with_claims me (dropped y d.claims)) (sym (in_head t q small_q).1)),
          (λ not. absurd (not hit)),
          λ _. hit,
        ),
      ))
      (λ miss. (
        w0,
        keeps,
        tt,
        subst (λ (n : ℕ). R (stepped s 0 n id me.1 w0 keeps)) (sym (at_miss head old new miss))
            (misses s r id d at (λ one. miss (lone_head s r one t h who))),
        (
          expected,
          (λ hit. absurd (miss hit)),
          (λ _. refl),
          λ only. absurd (miss (only_head s r id me at only t h who)),
        ),
      ))
