-- Announcing the epoch and taking the announcement back keep the rule.
use Rattle.std.proofs.Common.{◌≡◌, ◌≢◌, ◌⊎◌, ◌==◌, cond, ℕ, ◌+◌, ◌*◌, ◌<◌, ◌≤◌, true, false, List, map, length, get_or, set, sym, refl, ap, ◌∙◌, subst, inr, ⊎_elim, arith, le_refl, length-set, get_or-set_other, get_or-set_same}
use Rattle.std.proofs.lemmas.List.{set-get_or}
use mathlib.Core.Option.{some, none}
use lib.ListN.{get_elem?}
use Rattle.atomic_table.specs.Table.{State, step, keeps, Allows}
use Rattle.atomic_table.proofs.Lists.{at_set, at_map, set_again}
use Rattle.ca_rows.specs.declared.sizes.Sizes.{Sizes}
use Rattle.ca_rows.specs.declared.view.Pin.{Pin}
use Rattle.ca_rows.specs.declared.view.View.{View}
use Rattle.ca_rows.specs.Laws.{Agrees, Framed, Frames, Pinning}
use Rattle.ca_rows.specs.Pins.{IsPin}
use Rattle.ca_rows.specs.Rule.{upper_of, pin_of, Ruled}
use Rattle.ca_rows.specs.Told.{IsOnly, Mine, Asked, Announced, Left, begun_of, met_of}
use Rattle.ca_rows.specs.Words.{own_word, epoch, announced}
use Rattle.ca_rows.proofs.OwnWords.{own_is, own_same, announced_else, result_else}
use Rattle.ca_rows.proofs.Pinned.{NewPin, pins_step, repinned}
use Rattle.ca_rows.specs.Layout.{row_words, pass_words, passes_words}

module _ {U : Type 0} (linked lent : List ℕ → ℕ → Type 0) (noted : List ℕ → U → ℕ → Type 0)
    (fact : Sizes → ℕ → List ℕ → List U → Type 0)
    (frames : Frames linked lent noted fact) (z : Sizes) where
  abbrev R : State (Unit {0}) (View U) → Type 0
  R = Ruled linked lent noted fact z

  pub nothing : (us : List U) (words : List ℕ) → Agrees linked lent noted fact us words words
  nothing us words = record { wide = refl; control = λ i _ _. refl; results = λ _ _ _. refl; seen = λ r k _ _ _ _. refl }

  -- The epoch, or an announcement, is none of the words that the rule above looks at.
  pub own_agrees : (us : List U) (words : List ℕ) (i x : ℕ) → row_words + passes_words ≤ length words
      → (i ≡ 1) ⊎ ((pass : ℕ) × (0 < pass) × (i ≡ own_word words pass))
      → Agrees linked lent noted fact us words (set words i x)
  own_agrees us words i x wide which = record {
    wide = length-set words i x;
    control = λ j lo hi. get_or-set_other words i j x 0 (λ e. ⊎_elim
        (λ (one : i ≡ 1). omega arith)
        (λ (t : (pass : ℕ) × (0 < pass) × (i ≡ own_word words pass)).
        let some = t.1 in let there = t.2 in omega arith) which);
    results = λ pass lo hi. result_else words i x pass (λ e. ⊎_elim
        (λ (one : i ≡ 1). omega arith)
        (λ (t : (q : ℕ) × (0 < q) × (i ≡ own_word words q)).
        let some = t.1 in let there = t.2 in omega arith) which);
    seen = λ r k lo within _ inside. get_or-set_other words i (row_words * r + k) x 0 (λ e. ⊎_elim
        (λ (one : i ≡ 1). omega arith)
        (λ (t : (pass : ℕ) × (0 < pass) × (i ≡ own_word words pass)).
        let some = t.1 in let there = t.2 in omega arith) which);
  }

  module _ (s : State (Unit {0}) (View U)) (r : R s) (id : ℕ) (d : View U)
      (at : get_elem? s.views id ≡ some d) where
    pub pin_at : get_elem? (map pin_of s.views) id ≡ some d.pin
    pin_at = at_map pin_of s.views id d at

    pub upper_at : get_elem? (map upper_of s.views) id ≡ some d.upper
    upper_at = at_map upper_of s.views id d at

    pub own : IsPin r.made s.words (map pin_of s.views) id d.pin
    own = r.pins.each id d.pin pin_at

    -- Where the seat isn't pinned afterwards, what it saw of the others is so still.
    others_pinned : (e' : Pin) → e'.pinned ≡ false → (i : ℕ) (x : Pin)
        → get_elem? (set (map pin_of s.views) id e') i ≡ some x → x.pinned ≡ true
        → get_elem? (map pin_of s.views) i ≡ some x
    others_pinned e' un i x there pinned = ⊎_elim
        (λ (t : (i ≡ id) × (e' ≡ x)). let no : false ≡ true = sym un
        ∙ (ap (λ (y : Pin). y.pinned) t.1 ∙ pinned) in
        absurd cc) (λ (t : (i ≢ id) × (get_elem? (map pin_of s.views) i ≡ some x)). t.1)
        (at_set (map pin_of s.views) id i e' x there)

    module _ (un : d.pin.pinned ≡ false) where
      not_pinned : {A : Type 0} → d.pin.pinned ≡ true → A
      not_pinned p = let no : false ≡ true = sym un ∙ p in absurd cc

      asked : View U
      asked = record d { pin = record d.pin { told = epoch s.words } }

      asks_pin : NewPin r.made s.words s.words (map pin_of s.views) r.pins id d.pin
          (record d.pin { told = epoch s.words }) pin_at
      asks_pin = record {
        number_is = refl;
        same_epoch = refl;
        others = λ i _ _ _. refl;
        moments = λ p. not_pinned p;
        is_pass = λ p. not_pinned p;
        absent = λ lo p. own.absent lo p;
        present = λ p. not_pinned p;
        pinned_at = λ p. not_pinned p;
        told_past = le_refl (epoch s.words);
        scan_past = own.scan_past;
        scanned = λ now i x there low p.
            own.scanned now i x (others_pinned (record d.pin { told = epoch s.words }) un i x there
            p) low p;
        only = own.only;
      }

      ask_step : R record {
        words = set s.words 1 (get_or s.words 1 0);
        homes = s.homes;
        views = set s.views id (record d { pin = record d.pin { told = epoch s.words } });
      }
      ask_step = let w : View U = record d { pin = record d.pin { told = epoch s.words } } in
          subst (λ (ws : List ℕ). R record {
            words =
                ws;
            homes = s.homes;
            views = set s.views id w;
          }) (sym (set-get_or s.words 1 0))
          (repinned linked lent noted fact frames z s r id d w at s.words
          (nothing (map upper_of s.views) s.words) record {
            same_sizes = refl;
            same_made = refl;
            same_stage = refl;
            unlost = (r.seat id d at).unlost;
            same_number = refl;
            same_claims = refl;
            head = refl;
            rows_are = λ i _ _. refl;
            later = le_refl (epoch s.words);
            notes = λ q n. (n, refl, (r.seat id d at).noted_pinned q n);
            pins = pins_step r.made s.words s.words (map pin_of s.views) r.pins id d.pin
                (record d.pin { told = epoch s.words }) pin_at asks_pin;
            above = subst (fact z r.made s.words)
                (sym (set_again (map upper_of s.views) id d.upper upper_at)) r.above;
          })

    -- A store of the seat's own announcement.
    module _ (lo : 0 < d.pin.number) (x : ℕ) where
      abbrev new_words : List ℕ
      new_words = set s.words (own_word s.words d.pin.number) x

      small : d.pin.number ≤ 64
      small = let a = own.in_range in let b = r.pins.few in omega arith

      else_word : (i : ℕ) → i ≢ own_word s.words d.pin.number
          → get_or new_words i 0 ≡ get_or s.words i 0
      else_word i n = get_or-set_other s.words (own_word s.words d.pin.number) i x 0 n

      else_told : (pass : ℕ) → 0 < pass → pass ≢ d.pin.number
          → announced new_words pass ≡ announced s.words pass
      else_told pass far n = let w = r.wide in
          announced_else s.words (own_word s.words d.pin.number) x pass (λ e. n (omega arith))

      now_told : announced new_words d.pin.number ≡ x
      now_told = let w = r.wide in let s' = small in
          ap (λ (n : ℕ). get_or new_words n 0)
          (own_same s.words new_words d.pin.number (length-set s.words (own_word s.words d.pin.number) x))
          ∙ get_or-set_same s.words (own_word s.words d.pin.number) x 0 (omega arith)

      agrees : Agrees linked lent noted fact (map upper_of s.views) s.words new_words
      agrees = let w = r.wide in
          own_agrees (map upper_of s.views) s.words (own_word s.words d.pin.number) x (omega arith)
          (inr (d.pin.number, lo, refl))

      same_epoch : epoch new_words ≡ epoch s.words
      same_epoch = let w = r.wide in else_word 1 (λ e. omega arith)

      -- The seat's pin and upper part become these.
      stores : (e' : Pin) (u' : U)
          → NewPin r.made s.words new_words (map pin_of s.views) r.pins id d.pin e' pin_at
          → ((q : ℕ) → ¬ noted new_words u' q)
          → fact z r.made new_words (set (map upper_of s.views) id u')
          → R record {
            words =
                new_words;
            homes =
                s.homes;
            views = set s.views id (record d { pin = e'; upper = u' });
          }
      stores e' u' pin unnoted above =
          repinned linked lent noted fact frames z s r id d (record d { pin = e'; upper = u' }) at
          new_words agrees record {
            same_sizes = refl;
            same_made = refl;
            same_stage = refl;
            unlost = (r.seat id d at).unlost;
            same_number = pin.number_is;
            same_claims = refl;
            head = let w = r.wide in else_word 0 (λ e. omega arith);
            rows_are = λ i _ l. let w = r.wide in else_word i (λ e. omega arith);
            later = subst (λ y. epoch s.words ≤ y) (sym same_epoch) (le_refl (epoch s.words));
            notes = λ q n. absurd (unnoted q n);
            pins = pins_step r.made s.words new_words (map pin_of s.views) r.pins id d.pin e' pin_at
                pin;
            above = above;
          }

      framed_now : Framed linked lent noted fact z r.made (map upper_of s.views) s.words new_words
      framed_now = frames z r.made (map upper_of s.views) s.words new_words r.above agrees

    module _ (enters leaves : U → U) (law : Pinning linked lent noted fact enters leaves)
        (lo : 0 < d.pin.number) where
      announce_step : d.pin.pinned ≡ false → R record {
        words = set s.words (own_word s.words d.pin.number) (d.pin.told + 1);
        homes = s.homes;
        views = set s.views id
            (record d {
              pin =
                  record d.pin {
                    pinned =
                        true;
                    pins = d.pin.pins + 1;
                    moment =
                        epoch s.words;
                    entered =
                        record { lost = d.lost; empty = d.empty; worn = d.worn; lags = d.pin.lags };
                    begun = cond (d.pin.looks == d.pin.begun_at) d.pin.begun d.claims;
                    begun_at = d.pin.looks;
                  };
              upper =
                  enters d.upper;
            });
      }
      announce_step un =
          let e' : Pin =
          record d.pin {
            pinned =
                true;
            pins = d.pin.pins + 1;
            moment =
                epoch s.words;
            entered =
                record { lost = d.lost; empty = d.empty; worn = d.worn; lags = d.pin.lags };
            begun = cond (d.pin.looks == d.pin.begun_at) d.pin.begun d.claims;
            begun_at = d.pin.looks;
          } in
          stores lo (d.pin.told + 1) e' (enters d.upper)
          record {
            number_is = refl;
            same_epoch = same_epoch lo (d.pin.told + 1);
            others = λ i some _ n. else_told lo (d.pin.told + 1) i some n;
            moments = λ _. inr refl;
            is_pass = λ _. lo;
            absent = λ _ p. absurd cc;
            present = λ _. now_told lo (d.pin.told + 1);
            pinned_at = λ _. (own.told_past, le_refl (epoch s.words), omega arith);
            told_past = own.told_past;
            scan_past = own.scan_past;
            scanned = λ now i y there low p. ⊎_elim
                (λ (t : (i ≡ id) × (e' ≡ y)). subst
                (λ (w : Pin). d.pin.scan ≤ w.moment) t.1 own.scan_past)
                (λ (t : (i ≢ id)
                × (get_elem? (map pin_of s.views) i ≡ some y)). own.scanned now i y t.1 low p)
                (at_set (map pin_of s.views) id i e' y there);
            only = own.only;
          }
          (λ q n. let before =
          (framed_now lo (d.pin.told + 1)).notes id d.upper upper_at q
          (law.entering_notes (new_words lo (d.pin.told + 1)) d.upper q n) in
          not_pinned un ((r.seat id d at).noted_pinned q before))
          (law.keeps_entering z r.made (map upper_of s.views) (new_words lo (d.pin.told + 1)) id
          d.upper (framed_now lo (d.pin.told + 1)).stays upper_at)

      leave_step : R record {
        words = set s.words (own_word s.words d.pin.number) 0;
        homes = s.homes;
        views = set s.views id
            (record d {
              pin =
                  record d.pin {
                    pinned =
                        false;
                    left =
                        record { lost = d.lost; empty = d.empty; worn = d.worn; lags = d.pin.lags };
                  };
              upper =
                  leaves d.upper;
            });
      }
      leave_step =
          let e' : Pin =
          record d.pin {
            pinned =
                false;
            left =
                record { lost = d.lost; empty = d.empty; worn = d.worn; lags = d.pin.lags };
          } in
          stores lo 0 e' (leaves d.upper)
          record {
            number_is = refl;
            same_epoch = same_epoch lo 0;
            others = λ i some _ n. else_told lo 0 i some n;
            moments = λ p. absurd cc;
            is_pass = λ p. absurd cc;
            absent = λ _ _. now_told lo 0;
            present = λ p. absurd cc;
            pinned_at = λ p. absurd cc;
            told_past = own.told_past;
            scan_past = own.scan_past;
            scanned = λ now i y there low p.
                own.scanned now i y (others_pinned e' refl i y there p) low p;
            only = own.only;
          }
          (λ q n. law.leaving_notes (new_words lo 0) d.upper q n)
          (law.keeps_leaving z r.made (map upper_of s.views) (new_words lo 0) id d.upper
          (framed_now lo 0).stays upper_at)

  pub asks : (slots id : ℕ) (me : Mine U) → me.0.pin.pinned ≡ false
      → Allows R slots id me 1 (λ x. x) (Asked (step slots 1 0 0 none) me)
  asks slots id me un s r _ at _ = (
    record me.0 { pin = record me.0.pin { told = epoch s.words } },
    keeps,
    tt,
    ask_step s r id me.0 at un,
    (r.pins.small, refl),
  )

  -- Who knows that the space is for one pass lost no exchange.
  lone_unlost : (s : State (Unit {0}) (View U)) (r : R s) (id : ℕ) (me : Mine U)
      → get_elem? s.views id ≡ some me.0 → IsOnly me → me.0.lost ≡ 0
  lone_unlost s r id me at only = let some_rows = only.0 in
      ⊎_elim (λ (e : me.0.sizes.rows ≡ 0). absurd (omega arith))
      (λ (e : me.0.sizes ≡ z). (r.seat id me.0 at).unlost (subst (λ (y : Sizes). y.passes ≡ 1) e only.1))
      (r.seat id me.0 at).sizes_are

  -- A pass's own words begin at this place.
  there : (s : State (Unit {0}) (View U)) → R s → (pass i : ℕ) → 0 < pass
      → i + pass_words ≡ row_words * z.rows + row_words + pass_words * pass → i ≡ own_word s.words pass
  there s r pass i lo is = let own = own_is z.rows pass s.words r.wide lo in omega arith

  module _ (enters leaves : U → U) (law : Pinning linked lent noted fact enters leaves) where
    pub announces : (slots id : ℕ) (me : Mine U) (i x : ℕ)
        → i + pass_words ≡ row_words * z.rows + row_words + pass_words * me.0.pin.number
        → x ≡ me.0.pin.told + 1 → 0 < me.0.pin.number → me.0.pin.pinned ≡ false
        → Allows R slots id me i (λ _. x) (λ _. Announced enters (step slots i x 0 none) me x)
    announces slots id me i x is_i is_x lo un s r _ at _ = let w : View U =
        record me.0 {
          pin =
              record me.0.pin {
                pinned =
                    true;
                pins = me.0.pin.pins + 1;
                moment = epoch s.words;
                entered = met_of me;
                begun = begun_of me;
                begun_at = me.0.pin.looks;
              };
          upper = enters me.0.upper;
        } in (
          w,
          keeps,
          tt,
          subst (λ (y : ℕ × ℕ). R record {
            words =
                set s.words y.0 y.1;
            homes = s.homes;
            views = set s.views id w;
          })
              (λ j. (sym (there s r me.0.pin.number i lo is_i) j, sym is_x j))
              (announce_step s r id me.0 at enters leaves law lo un),
          (epoch s.words, (own s r id me.0 at).told_past, refl),
        )

    pub unpins : (slots id : ℕ) (me : Mine U) (i : ℕ)
        → i + pass_words ≡ row_words * z.rows + row_words + pass_words * me.0.pin.number
        → 0 < me.0.pin.number
        → Allows R slots id me i (λ _. 0) (λ _. Left leaves (step slots i 0 0 none) me 0)
    unpins slots id me i is_i lo s r _ at _ =
        let w : View U =
        record me.0 {
          pin =
              record me.0.pin { pinned = false; left = met_of me };
          upper = leaves me.0.upper;
        } in (
          w,
          keeps,
          tt,
          subst (λ (y : ℕ). R record {
            words =
                set s.words y 0;
            homes = s.homes;
            views = set s.views id w;
          }) (sym (there s r me.0.pin.number i lo is_i))
              (leave_step s r id me.0 at enters leaves law lo),
          (refl, λ only. lone_unlost s r id me at only),
        )
