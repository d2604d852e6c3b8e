-- Looks at the others' announcements, and moving the epoch, keep the rule.
use Rattle.std.proofs.Common.{◌*◌, ◌≡◌, ◌≢◌, ◌⊎◌, ℕ, ◌+◌, ◌<◌, ◌≤◌, true, false, eqb, List, map, get_or, set, sym, refl, ap, ◌∙◌, subst, inl, inr, ⊎_elim, arith, le_refl, eq-eqb, ne_eqb, get_or-set_other, get_or-set_same}
use Rattle.std.proofs.lemmas.Bool.{cases_order}
use Rattle.std.proofs.lemmas.List.{set-get_or, set-set}
use mathlib.Core.Logic.{dite}
use mathlib.Core.Option.{some, none}
use native.Mathlib.Decide.{ℕ_discrete}
use lib.ListN.{get_elem?}
use prog.Atomic.{either}
use Rattle.atomic_table.specs.Table.{State, step, keeps, stepped, Allows}
use Rattle.atomic_table.proofs.Lists.{at_set, set_again}
use Rattle.ca_rows.specs.declared.sizes.Sizes.{Sizes}
use Rattle.ca_rows.specs.declared.view.Claim.TheVariants.{Keeps}
use Rattle.ca_rows.specs.declared.view.Pin.{Pin}
use Rattle.ca_rows.specs.declared.view.View.{View}
use Rattle.ca_rows.specs.Laws.{Frames}
use Rattle.ca_rows.specs.Pins.{IsPin, ArePins}
use Rattle.ca_rows.specs.Rule.{upper_of, pin_of, Ruled}
use Rattle.ca_rows.specs.Told.{IsOnly, Mine, Began, Scanned, Moved, Reread}
use Rattle.ca_rows.specs.Layout.{row_words, pass_words, last_epoch}
use Rattle.ca_rows.specs.Words.{epoch, announced}
use Rattle.ca_rows.proofs.OwnWords.{own_is, announced_else}
use Rattle.ca_rows.proofs.Pinned.{NewPin, pins_step, framed, repinned}
use Rattle.ca_rows.proofs.PinSteps.{nothing, own_agrees, pin_at, upper_at, own}
use Rattle.ca_rows.proofs.Claiming.{there as at_place_set}
use Rattle.ca_rows.proofs.Heads.{two_are_apart}
use Rattle.ca_rows.proofs.Steps.{owned}

pub less_or_not : (a b : ℕ) → (a < b) ⊎ (b ≤ a)
less_or_not a b = ⊎_elim (λ (e : a ≡ b). inr (omega arith))
    (λ t. ⊎_elim (λ l. inl l) (λ (l : b < a). inr (omega arith)) t) (cases_order a b)

-- The epoch moves by one, past no pass that is pinned.
pins_moved : (made : ℕ) (words words' : List ℕ) (pins : List Pin) → ArePins made words pins
    → epoch words' ≡ epoch words + 1 → epoch words < last_epoch
    → ((i : ℕ) → 0 < i → i ≤ 64 → announced words' i ≡ announced words i)
    → ((j : ℕ) (e : Pin) → get_elem? pins j ≡ some e → e.pinned ≡ true → epoch words ≤ e.moment)
    → (made ≤ 1 → (j : ℕ) (e : Pin) → get_elem? pins j ≡ some e → 0 < e.number → e.looks ≡ 0)
    → ArePins made words' pins
pins_moved made words words' pins p next room same past unbegun = record {
  few = p.few;
  small = omega arith;
  each = λ j e here. let k = p.each j e here in let in_range = k.in_range in let few = p.few in
      record {
        in_range = k.in_range;
        is_pass = k.is_pass;
        alone = k.alone;
        absent = λ lo un. same e.number lo (omega arith) ∙ k.absent lo un;
        present = λ pinned. same e.number (k.is_pass pinned) (omega arith) ∙ k.present pinned;
        pinned_at = λ pinned. let was = k.pinned_at pinned in let low = was.0 in let mid = was.1 in
            let now = past j e here pinned in
            (was.0, omega arith, omega arith);
        told_past = let low = k.told_past in omega arith;
        scan_past = let low = k.scan_past in omega arith;
        scanned = λ is. let low = k.scan_past in absurd (omega arith);
        only = λ lone lo begun. let none = unbegun lone j e here lo in absurd (omega arith);
      };
  unused = λ i lo hi. same i (omega arith) hi ∙ p.unused i lo hi;
}

module _ {U : Type 0} (linked lent : List ℕ → ℕ → Type 0) (noted : List ℕ → U → ℕ → Type 0)
    (fact : Sizes → ℕ → List ℕ → List U → Type 0)
    (frames : Frames linked lent noted fact) (z : Sizes) where
  abbrev R : State (Unit {0}) (View U) → Type 0
  R = Ruled linked lent noted fact z

  module _ (s : State (Unit {0}) (View U)) (r : R s) (id : ℕ) (d : View U)
      (at : get_elem? s.views id ≡ some d) where
    here : get_elem? (map pin_of s.views) id ≡ some d.pin
    here = pin_at linked lent noted fact frames z s r id d at

    mine : IsPin r.made s.words (map pin_of s.views) id d.pin
    mine = own linked lent noted fact frames z s r id d at

    -- What the seat saw of the others becomes this, which is so.
    may_see : (scan upto lag looks lags : ℕ) → scan ≤ epoch s.words
        → (scan ≡ epoch s.words → (i : ℕ) (x : Pin) → get_elem? (map pin_of s.views) i ≡ some x
        → x.number ≤ upto → x.pinned ≡ true → scan ≤ x.moment)
        → (r.made ≤ 1 → 0 < d.pin.number → 0 < looks → scan ≡ epoch s.words)
        → NewPin r.made s.words s.words (map pin_of s.views) r.pins id d.pin
        (record d.pin { scan = scan; upto = upto; lag = lag; looks = looks; lags = lags })
        here
    may_see scan upto lag looks lags past ok once =
        let e' : Pin =
        record d.pin { scan = scan; upto = upto; lag = lag; looks = looks; lags = lags } in record {
          number_is = refl;
          same_epoch = refl;
          others = λ i _ _ _. refl;
          moments = λ p. inl (p, refl);
          is_pass = mine.is_pass;
          absent = mine.absent;
          present = mine.present;
          pinned_at = mine.pinned_at;
          told_past = mine.told_past;
          scan_past = past;
          scanned = λ now i x there low p. ⊎_elim
              (λ (t : (i ≡ id) × (e' ≡ x)). subst (λ (y : Pin). scan ≤ y.moment) t.1
              (ok now id d.pin here (subst (λ (y : Pin). y.number ≤ upto) (sym t.1) low) (ap
              (λ (y : Pin). y.pinned) t.1 ∙ p)))
              (λ (t : (i ≢ id) × (get_elem? (map pin_of s.views) i ≡ some x)). ok now i x t.1 low p)
              (at_set (map pin_of s.views) id i e' x there);
          only = once;
        }

    -- A load after which the seat has this pin, or counts a loss.
    loaded : (i : ℕ) (e' : Pin) (lost : ℕ) → ArePins r.made s.words (set (map pin_of s.views) id e')
        → e'.number ≡ d.pin.number → e'.moment ≡ d.pin.moment → e'.pinned ≡ d.pin.pinned
        → (z.passes ≡ 1 → lost ≡ 0)
        → R record {
          words =
              set s.words i (get_or s.words i 0);
          homes =
              s.homes;
          views = set s.views id (record d { pin = e'; lost = lost });
        }
    loaded i e' lost pins number moment pinned unlost = let w : View U = record d { pin = e'; lost = lost } in
        subst (λ (ws : List ℕ). R record { words = ws; homes = s.homes; views = set s.views id w })
        (sym (set-get_or s.words i 0))
        (repinned linked lent noted fact frames z s r id d w at s.words
        (nothing linked lent noted fact frames z (map upper_of s.views) s.words) record {
          same_sizes = refl;
          same_made = refl;
          same_stage = refl;
          unlost = unlost;
          same_number = number;
          same_claims = refl;
          head = refl;
          rows_are = λ i _ _. refl;
          later = le_refl (epoch s.words);
          notes = λ q n. (n, moment, pinned ∙ (r.seat id d at).noted_pinned q n);
          pins = pins;
          above = subst (fact z r.made s.words)
              (sym (set_again (map upper_of s.views) id d.upper
              (upper_at linked lent noted fact frames z s r id d at)))
              r.above;
        })

    looked : (i scan upto lag looks lags : ℕ) → scan ≤ epoch s.words
        → (scan ≡ epoch s.words → (i : ℕ) (x : Pin) → get_elem? (map pin_of s.views) i ≡ some x
        → x.number ≤ upto → x.pinned ≡ true → scan ≤ x.moment)
        → (r.made ≤ 1 → 0 < d.pin.number → 0 < looks → scan ≡ epoch s.words)
        → R record {
          words = set s.words i (get_or s.words i 0);
          homes = s.homes;
          views = set s.views id
              (record d {
                pin =
                    record d.pin { scan = scan; upto = upto; lag = lag; looks = looks; lags = lags };
              });
        }
    looked i scan upto lag looks lags past ok once =
        let e' : Pin =
        record d.pin { scan = scan; upto = upto; lag = lag; looks = looks; lags = lags } in
        loaded i e' d.lost (pins_step r.made s.words s.words (map pin_of s.views) r.pins id d.pin e'
        here (may_see scan upto lag looks lags past ok once)) refl refl refl (r.seat id d at).unlost

    -- Nobody is looked at yet.
    nobody : {A : Type 0} (i : ℕ) (x : Pin) → get_elem? (map pin_of s.views) i ≡ some x
        → x.number ≤ 0 → x.pinned ≡ true → A
    nobody i x there low p = let lo = (r.pins.each i x there).is_pass p in absurd (omega arith)

    -- The exchange of an epoch that all passes were found at, by one of them.
    module _ (found : d.pin.scan ≡ epoch s.words) (all : r.made ≤ d.pin.upto)
        (room : epoch s.words < last_epoch) (is_pass : 0 < d.pin.number) where
      abbrev moved_words : List ℕ
      moved_words = set s.words 1 (epoch s.words + 1)

      else_word : (i : ℕ) → i ≢ 1 → get_or moved_words i 0 ≡ get_or s.words i 0
      else_word i n = get_or-set_other s.words 1 i (epoch s.words + 1) 0 n

      next : epoch moved_words ≡ epoch s.words + 1
      next = let w = r.wide in get_or-set_same s.words 1 (epoch s.words + 1) 0 (omega arith)

      -- The seat's looks are forgotten first: the others' scans are the epoch in no space of one pass.
      abbrev blank : Pin
      blank = record d.pin { looks = 0 }

      abbrev blank_pins : List Pin
      blank_pins = set (map pin_of s.views) id blank

      blank_at : get_elem? blank_pins id ≡ some blank
      blank_at = at_place_set (map pin_of s.views) id d.pin blank here

      before : ArePins r.made s.words blank_pins
      before = pins_step r.made s.words s.words (map pin_of s.views) r.pins id d.pin blank here
          (may_see d.pin.scan d.pin.upto d.pin.lag 0 d.pin.lags mine.scan_past mine.scanned
          (λ _ _ begun. absurd (omega arith)))

      moved_pins : ArePins r.made moved_words blank_pins
      moved_pins = pins_moved r.made s.words moved_words blank_pins before next room
          (λ i lo hi. let w = r.wide in announced_else s.words 1 (epoch s.words + 1) i (λ e. omega arith))
          (λ j x there p. let low = (before.each j x there).in_range in
          subst (λ y. y ≤ x.moment) found ((before.each id blank blank_at).scanned found j x there (omega arith) p))
          (λ lone j x there some_pass. ⊎_elim
          (λ (t : (j ≡ id) × (blank ≡ x)). ap (λ (y : Pin). y.looks) (sym t.1))
          (λ (t : (j ≢ id) × (get_elem? (map pin_of s.views) j ≡ some x)). absurd
          (two_are_apart r.made s.words (map pin_of s.views) j id x d.pin r.pins t.1 here t.0 some_pass is_pass lone))
          (at_set (map pin_of s.views) id j blank x there))

      move_step : R record {
        words = set s.words 1 (epoch s.words + 1);
        homes = s.homes;
        views = set s.views id
            (record d { pin = record d.pin { scan = epoch s.words + 1; upto = 0; moved = d.pin.moved + 1 } });
      }
      move_step = let e' : Pin = record d.pin { scan = epoch s.words + 1; upto = 0; moved = d.pin.moved + 1 } in
          let k = moved_pins.each id blank blank_at in
          let agrees =
          own_agrees linked lent noted fact frames z (map upper_of s.views) s.words 1
          (epoch s.words + 1) (let w = r.wide in omega arith) (inl refl) in
          repinned linked lent noted fact frames z s r id d (record d { pin = e' }) at moved_words
          agrees record {
            same_sizes = refl;
            same_made = refl;
            same_stage = refl;
            unlost = (r.seat id d at).unlost;
            same_number = refl;
            same_claims = refl;
            head = else_word 0 (λ e. omega arith);
            rows_are = λ i l _. else_word i (λ e. omega arith);
            later = let up = next in omega arith;
            notes = λ q n.
                let was = (framed linked lent noted fact frames z s r id d d at moved_words
                agrees).notes id d.upper
                (upper_at linked lent noted fact frames z s r id d at) q n in
                (was, refl, (r.seat id d at).noted_pinned q was);
            pins = subst (ArePins r.made moved_words) (set-set (map pin_of s.views) id blank e')
                (pins_step r.made moved_words moved_words blank_pins moved_pins id blank
                e' blank_at record {
                  number_is = refl;
                  same_epoch = refl;
                  others = λ i _ _ _. refl;
                  moments = λ p. inl (p, refl);
                  is_pass = k.is_pass;
                  absent = k.absent;
                  present = k.present;
                  pinned_at = k.pinned_at;
                  told_past = k.told_past;
                  scan_past = let up = next in omega arith;
                  scanned = λ _ i x there low p. ⊎_elim
                      (λ (t : (i ≡ id) × (e' ≡ x)).
                      nobody id d.pin here (subst (λ (y : Pin). y.number ≤ 0) (sym t.1) low) (ap
                      (λ (y : Pin). y.pinned) t.1 ∙ p))
                      (λ (t : (i ≢ id) × (get_elem? blank_pins i ≡ some x)).
                      let lo = (before.each i x t.1).is_pass p in absurd (omega arith))
                      (at_set blank_pins id i e' x there);
                  only = λ _ _ _. sym next;
                });
            above = subst (fact z r.made moved_words)
                (sym (set_again (map upper_of s.views) id d.upper
                (upper_at linked lent noted fact frames z s r id d at)))
                (framed linked lent noted fact frames z s r id d d at moved_words agrees).stays;
          }

  -- Where the seat knows that the space is for one pass, no more were made.
  lone_made : (s : State (Unit {0}) (View U)) (r : R s) (id : ℕ) (me : Mine U)
      → get_elem? s.views id ≡ some me.0 → IsOnly me → r.made ≤ 1
  lone_made s r id me at only = let some_rows = only.0 in let within = r.within in
      ⊎_elim (λ (e : me.0.sizes.rows ≡ 0). absurd (omega arith))
      (λ (e : me.0.sizes ≡ z). let one : z.passes ≡ 1 = subst (λ (y : Sizes). y.passes ≡ 1) e only.1 in
      omega arith) (r.seat id me.0 at).sizes_are

  pub begins : (slots id : ℕ) (me : Mine U)
      → Allows R slots id me 1 (λ x. x) (Began (step slots 1 0 0 none) me)
  begins slots id me s r _ at _ = (
    record me.0 {
      pin =
          record me.0.pin { scan = epoch s.words; upto = 0; lag = 0; looks = me.0.pin.looks + 1 };
    },
    keeps,
    tt,
    looked s r id me.0 at 1 (epoch s.words) 0 0 (me.0.pin.looks + 1) me.0.pin.lags
        (le_refl (epoch s.words)) (λ _ i x there low p. nobody s r id me.0 at i x there low p)
        (λ _ _ _. refl),
    (
      r.pins.small,
      (mine s r id me.0 at).scan_past,
      (λ q t e. (owned linked lent noted fact frames z s r id me.0 at q (Keeps t) e).3.2),
      refl,
    ),
  )

  pub scans : (slots id : ℕ) (me : Mine U) (i : ℕ)
      → i + pass_words ≡ row_words * z.rows + row_words + pass_words * (me.0.pin.upto + 1)
      → me.0.pin.upto + 1 ≤ 64 → 0 < me.0.pin.number
      → Allows R slots id me i (λ x. x) (Scanned (step slots i 0 0 none) me)
  scans slots id me i is few is_pass s r _ at _ = let d = me.0 in let k = mine s r id d at in
      let n : ℕ = get_or s.words i 0 in
      let word : announced s.words (d.pin.upto + 1) ≡ n = ap
      (λ j. get_or s.words j 0)
      (let own = own_is z.rows (d.pin.upto + 1) s.words r.wide (omega arith) in omega arith) in
      let fine : (n ≡ 0 ⊎ d.pin.scan < n) → R record {
        words = set s.words i n;
        homes = s.homes;
        views = set s.views id (record d { pin = record d.pin { upto = d.pin.upto + 1 } });
      } =
      λ f. looked s r id d at i d.pin.scan (d.pin.upto + 1) d.pin.lag d.pin.looks d.pin.lags
      k.scan_past
      (λ now j x there low p. dite (ℕ_discrete x.number (d.pin.upto + 1))
      (λ e. let own = r.pins.each j x there in
      let told : n ≡ x.told + 1 = sym word ∙ (ap (announced s.words) (sym e) ∙ own.present p) in
      let after = (own.pinned_at p).0 in ⊎_elim (λ o. absurd (omega arith)) (λ l. omega arith) f)
      (λ e. k.scanned now j x there (omega arith) p)) k.only in
      let behind : 0 < n → d.pin.pinned ≡ false
      → d.pin.upto + 1 ≢ d.pin.number = λ lo un e. let absent = k.absent (omega arith) un in
      let none_is : n ≡ 0 = sym word ∙ (ap (announced s.words) e ∙ absent) in omega arith in
      let other : 0 < n → d.pin.pinned ≡ false → ¬ IsOnly me = λ lo un only.
      let lone = lone_made s r id me at only in let low = k.in_range in
      dite (ℕ_discrete (d.pin.upto + 1) d.pin.number) (behind lo un)
      (λ ne. let none_is : n ≡ 0 = sym word ∙ r.pins.unused (d.pin.upto + 1) (omega arith) few in
      omega arith) in
      dite (ℕ_discrete n 0)
      (λ e. (
        record d { pin = record d.pin { upto = d.pin.upto + 1 } },
        keeps,
        tt,
        fine (inl e),
        ((λ _. refl), λ lo _. absurd (omega arith)),
      ))
      (λ ne. ⊎_elim
      (λ (l : d.pin.scan < n). (
        record d { pin = record d.pin { upto = d.pin.upto + 1 } },
        keeps,
        tt,
        fine (inr l),
        ((λ _. refl), λ _ hi. absurd (omega arith)),
      ))
      (λ (not : n ≤ d.pin.scan). (
        record d { pin = record d.pin { lag = d.pin.upto + 1; lags = d.pin.lags + 1 } },
        keeps,
        tt,
        looked s r id d at i d.pin.scan d.pin.upto (d.pin.upto + 1) d.pin.looks (d.pin.lags + 1)
            k.scan_past k.scanned k.only,
        ((λ f. absurd (⊎_elim ne (λ l. omega arith) f)), λ lo _. (behind lo, other lo, refl)),
      ))
      (less_or_not d.pin.scan n))

  pub moves : (slots id : ℕ) (me : Mine U) (e : ℕ) → me.0.pin.scan ≡ e → z.passes ≤ me.0.pin.upto
      → e < last_epoch → 0 < me.0.pin.number → 0 < me.0.pin.looks
      → Allows R slots id me 1
      (λ n. either (eqb n e) (e + 1) n) (Moved (step slots 1 e (e + 1) none) me)
  moves slots id me e is all room is_pass begun s r _ at _ = let d = me.0 in let within = r.within in
      let k = mine s r id d at in
      let w1 : View U = record d { pin = record d.pin { scan = e + 1; upto = 0; moved = d.pin.moved + 1 } } in
      let e0 : Pin = record d.pin { upto = 0 } in let w0 : View U = record d { pin = e0; lost = d.lost + 1 } in
      dite (ℕ_discrete (epoch s.words) e)
      (λ (hit : epoch s.words ≡ e). (
        w1,
        keeps,
        tt,
        subst (λ (x : ℕ). R (stepped s 1 x id me.1 w1 keeps))
            (sym (ap (λ b. either b (e + 1) (epoch s.words)) (eq-eqb (epoch s.words) e hit)))
            (subst (λ (x : ℕ). R record {
              words = set s.words 1 (x + 1);
              homes = s.homes;
              views = set s.views id (record d { pin = record d.pin { scan = x + 1; upto = 0; moved = d.pin.moved + 1 } });
            }) hit
            (move_step s r id d at (is ∙ sym hit) (omega arith) (omega arith) is_pass)),
        (sym is, (λ _. refl), (λ not. absurd (not hit)), λ _. hit),
      ))
      (λ miss. (
        w0,
        keeps,
        tt,
        subst (λ (x : ℕ). R (stepped s 1 x id me.1 w0 keeps))
            (sym (ap (λ b. either b (e + 1) (epoch s.words)) (ne_eqb (epoch s.words) e miss)))
            (loaded s r id d at 1 e0 (d.lost + 1)
            (pins_step r.made s.words s.words (map pin_of s.views) r.pins id d.pin e0 (here s r id d at)
            (may_see s r id d at d.pin.scan 0 d.pin.lag d.pin.looks d.pin.lags k.scan_past
            (λ _ i x there low p. nobody s r id d at i x there low p) k.only))
            refl refl refl (λ one. absurd (miss (sym (k.only (omega arith) is_pass begun) ∙ is)))),
        (
          sym is,
          (λ hit. absurd (miss hit)),
          (λ _. refl),
          λ only. absurd (miss (sym (k.only (lone_made s r id me at only) is_pass begun) ∙ is)),
        ),
      ))

  -- The pass's own announcement is loaded.
  pub rereads : (slots id : ℕ) (me : Mine U) (i : ℕ)
      → i + pass_words ≡ row_words * z.rows + row_words + pass_words * me.0.pin.number
      → 0 < me.0.pin.number
      → Allows R slots id me i (λ x. x) (Reread (step slots i 0 0 none) me)
  rereads slots id me i is lo s r _ at _ = let d = me.0 in (
    d,
    keeps,
    tt,
    loaded s r id d at i d.pin d.lost (subst (ArePins r.made s.words)
        (sym (set_again (map pin_of s.views) id d.pin (here s r id d at))) r.pins) refl refl refl
        (r.seat id d at).unlost,
    (
      refl,
      λ pinned. ap (λ (j : ℕ). get_or s.words j 0)
          (let own = own_is z.rows d.pin.number s.words r.wide lo in omega arith)
          ∙ (mine s r id d at).present pinned,
    ),
  )
