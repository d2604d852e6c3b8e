-- What one round of giving kept rows back comes to, and three of them.
use Rattle.std.proofs.Common.{◌≡◌, ◌⊎◌, ℕ, ◌+◌, ◌<◌, ◌≤◌, Bool, true, false, List, [], ◌∷◌, length, cond, Vec, Global, ◌-◌, sym, refl, ap, ◌∙◌, subst, inl, inr, ⊎_elim, arith, le_refl}
use mathlib.Core.Option.{some}
use Rattle.std.specs.declared.option.Option.TheVariants.{None, Some}
use Rattle.ca_rows.specs.declared.kept.Kept.{Kept}
use Rattle.ca_rows.specs.declared.reclaimed.Round.{Round}
use Rattle.ca_rows.specs.declared.view.Claim.TheVariants.{Keeps}
use Rattle.ca_rows.specs.declared.view.Pin.{Pin}
use Rattle.ca_rows.specs.Claims.{claim_of, held_count}
use Rattle.ca_rows.specs.Kept.{kept_of, AreKept}
use Rattle.ca_rows.specs.Reclaiming.{Reclaims, IsLook, Moves, Rounds}
use Rattle.ca_rows.specs.Told.{Mine, lost_epoch, with_pin}
use Rattle.ca_rows.proofs.GivingBack.{reclaims_trans, was_kept}
use Rattle.ca_rows.proofs.Keeping.{no_rows}
use Rattle.ca_rows.proofs.Scanning.{less_or_not}
use Rattle.ca_rows.specs.Layout.{last_epoch}

pub nothing_in : (xs : List Kept) → length xs ≡ 0 → xs ≡ []
nothing_in [] e = refl
nothing_in (x ∷ xs) e = absurd (omega arith)

module _ {U : Type 0} where
  -- The seat saw more of the others, in an epoch that isn't lower.
  pub saw_more : (m m' : Mine U) (scan upto lag looks lags moved : ℕ)
      → m' ≡ with_pin m (record m.0.pin {
        scan =
            scan;
        upto = upto;
        lag = lag;
        looks = looks;
        lags = lags;
        moved = moved;
      })
      → m.0.pin.scan ≤ scan → m.0.pin.looks ≤ looks → m.0.pin.lags ≤ lags → Reclaims m m'
  saw_more m m' scan upto lag looks lags moved e up more more_lags = subst
      (λ x. Reclaims m x) (sym e) record {
        same_sizes = refl;
        same_made = refl;
        same_number = refl;
        same_pinned = refl;
        same_pins = refl;
        same_told = refl;
        same_moment = refl;
        same_entered = refl;
        same_left = refl;
        same_begun = (refl, refl);
        same_upper = refl;
        same_slots = refl;
        later = up;
        more_looks = more;
        more_lags = more_lags;
        more_lost = le_refl m.0.lost;
        same_empty = refl;
        same_worn = refl;
        no_more_held = le_refl (held_count m.0.claims);
        more_most = le_refl m.0.most;
        least_most = omega arith;
        others = λ r n. refl;
        kept = λ r t e. inr (t, le_refl t, e, λ _. refl);
      }

  lost_one : (m m' : Mine U) → m' ≡ lost_epoch m → Reclaims m m'
  lost_one m m' e = subst (λ x. Reclaims m x) (sym e) record {
    same_sizes = refl;
    same_made = refl;
    same_number = refl;
    same_pinned = refl;
    same_pins = refl;
    same_told = refl;
    same_moment = refl;
    same_entered = refl;
    same_left = refl;
    same_begun = (refl, refl);
    same_upper = refl;
    same_slots = refl;
    later = le_refl m.0.pin.scan;
    more_looks = le_refl m.0.pin.looks;
    more_lags = le_refl m.0.pin.lags;
    more_lost = omega arith;
    same_empty = refl;
    same_worn = refl;
    no_more_held = le_refl (held_count m.0.claims);
    more_most = le_refl m.0.most;
    least_most = omega arith;
    others = λ r n. refl;
    kept = λ r t e. inr (t, le_refl t, e, λ _. refl);
  }

  -- A round that loaded the epoch e and gave rows back.
  module _ (passes number : ℕ) (m m1 m2 : Mine U) (e : ℕ) (later : m.0.pin.scan ≤ e)
      (past : (r t : ℕ) → claim_of m.0.claims r ≡ some (Keeps t) → t ≤ e)
      (began : m1
      ≡ with_pin m (record m.0.pin { scan = e; upto = 0; lag = 0; looks = m.0.pin.looks + 1 }))
      (gave : Reclaims m1 m2) (same : m2.0.pin ≡ m1.0.pin) (freed losses : ℕ)
      (ks ks' : List Kept) (count : freed + length ks' ≡ length ks)
      (lost : m2.0.lost ≡ m1.0.lost + losses) (few : freed + losses ≤ length ks)
      (young : (r t : ℕ) → kept_of ks' r ≡ some t → e < t + 2) where
    pin_is : m2.0.pin ≡ record m.0.pin { scan = e; upto = 0; lag = 0; looks = m.0.pin.looks + 1 }
    pin_is = same ∙ ap (λ (x : Mine U). x.0.pin) began

    so_far : Reclaims m m2
    so_far = reclaims_trans m m1 m2
        (saw_more m m1 e 0 0 (m.0.pin.looks + 1) m.0.pin.lags m.0.pin.moved began later (omega arith)
        (le_refl m.0.pin.lags)) gave

    lost_so_far : m2.0.lost ≡ m.0.lost + losses
    lost_so_far = let before = ap (λ (x : Mine U). x.0.lost) began in omega arith

    -- It left nothing, or found the epoch at its last value.
    pub round_ends : (length ks' ≡ 0) ⊎ (e ≡ last_epoch)
        → Rounds passes number (record {
          freed =
              freed;
          lag = None;
          losses = losses;
          epoch = e;
          more = false;
        }) m m2 ks ks'
    round_ends why = record {
      e = e;
      later = later;
      past = past;
      reclaims = so_far;
      looked = ap (λ (p : Pin). p.looks) pin_is;
      freed = count;
      lost = lost_so_far;
      few = omega arith;
      epoch_is = sym (ap (λ (p : Pin). p.scan) pin_is);
      lag = ap (λ (p : Pin). p.lag) pin_is;
      lags = let same = ap (λ (p : Pin). p.lags) pin_is in omega arith;
      unlagged = λ go. absurd cc;
      young = young;
      goes_on = λ go _. absurd cc;
      near = let scan = ap (λ (p : Pin). p.scan) pin_is in omega arith;
      stops = λ _. ap (λ (p : Pin). p.scan) pin_is;
      ends = λ _ _ room. ⊎_elim (λ n. nothing_in ks' n)
          (λ (last : e ≡ last_epoch). let scan = ap (λ (p : Pin). p.scan) pin_is in
          absurd (omega arith)) why;
      rests = λ _. (refl, refl, omega arith);
    }

    -- Some rows are kept still.
    module _ (some_kept : 0 < length ks') where
      nothing_kept : ks' ≡ [] → ⊥
      nothing_kept none = let n = ap (λ (xs : List Kept). length xs) none in absurd (omega arith)

      -- A pass lags.
      pub round_lags : (j : ℕ) (m3 : Mine U) → m2.0.pin.number ≡ number → IsLook passes (Some j) m2 m3
          → Rounds passes number (record {
            freed =
                freed;
            lag = Some j;
            losses = losses;
            epoch = e;
            more = false;
          }) m m3 ks ks'
      round_lags j m3 is look = let saw = look.3.1 in record {
        e = e;
        later = later;
        past = past;
        reclaims =
            reclaims_trans m m2 m3 so_far
            (saw_more m2 m3 m2.0.pin.scan look.3.0 j m2.0.pin.looks (m2.0.pin.lags + 1) m2.0.pin.moved saw
            (le_refl m2.0.pin.scan) (le_refl m2.0.pin.looks) (omega arith));
        looked = ap (λ (x : Mine U). x.0.pin.looks) saw ∙ ap (λ (p : Pin). p.looks) pin_is;
        freed = count;
        lost = ap (λ (x : Mine U). x.0.lost) saw ∙ lost_so_far;
        few = omega arith;
        epoch_is = sym (ap (λ (x : Mine U). x.0.pin.scan) saw ∙ ap (λ (p : Pin). p.scan) pin_is);
        lag = (look.0, look.1, (λ f. look.2 (f ∙ sym is)), ap (λ (x : Mine U). x.0.pin.lag) saw);
        lags = let one = ap (λ (x : Mine U). x.0.pin.lags) saw in
            let none = ap (λ (p : Pin). p.lags) pin_is in omega arith;
        unlagged = λ go. absurd cc;
        young = young;
        goes_on = λ go _. absurd cc;
        near = let scan = ap (λ (x : Mine U). x.0.pin.scan) saw ∙ ap (λ (p : Pin). p.scan) pin_is in
            omega arith;
        stops = λ _. ap (λ (x : Mine U). x.0.pin.scan) saw ∙ ap (λ (p : Pin). p.scan) pin_is;
        ends = λ _ f _. absurd cc;
        rests = λ none. absurd (nothing_kept none);
      }

      -- None does, and the epoch moved by one.
      pub round_moves : (m3 m4 : Mine U) → IsLook passes None m2 m3 → Moves true e m3 m4
          → Rounds passes number (record {
            freed =
                freed;
            lag = None;
            losses = losses;
            epoch = e + 1;
            more = true;
          }) m m4 ks ks'
      round_moves m3 m4 look move = let scan = ap (λ (p : Pin). p.scan) pin_is in
          let scan' = ap (λ (x : Mine U). x.0.pin.scan) look in
          let to_3 =
          saw_more m2 m3 m2.0.pin.scan passes m2.0.pin.lag m2.0.pin.looks m2.0.pin.lags m2.0.pin.moved look
          (le_refl m2.0.pin.scan)
          (le_refl m2.0.pin.looks) (le_refl m2.0.pin.lags) in
          let to_4 =
          saw_more m3 m4 (e + 1) 0 m3.0.pin.lag m3.0.pin.looks m3.0.pin.lags (m3.0.pin.moved + 1) move (omega arith)
          (le_refl m3.0.pin.looks) (le_refl m3.0.pin.lags) in record {
            e = e;
            later = later;
            past = past;
            reclaims = reclaims_trans m m2 m4 so_far (reclaims_trans m2 m3 m4 to_3 to_4);
            looked = ap (λ (x : Mine U). x.0.pin.looks) move
                ∙ (ap (λ (x : Mine U). x.0.pin.looks) look ∙ ap (λ (p : Pin). p.looks) pin_is);
            freed = count;
            lost = ap (λ (x : Mine U). x.0.lost) move
                ∙ (ap (λ (x : Mine U). x.0.lost) look ∙ lost_so_far);
            few = omega arith;
            epoch_is = sym (ap (λ (x : Mine U). x.0.pin.scan) move);
            lag = ap (λ (x : Mine U). x.0.pin.lag) move
                ∙ (ap (λ (x : Mine U). x.0.pin.lag) look ∙ ap (λ (p : Pin). p.lag) pin_is);
            lags = let same = ap (λ (x : Mine U). x.0.pin.lags) move
                ∙ (ap (λ (x : Mine U). x.0.pin.lags) look ∙ ap (λ (p : Pin). p.lags) pin_is) in
                omega arith;
            unlagged = λ _. refl;
            young = young;
            goes_on = λ _ _. ap (λ (x : Mine U). x.0.pin.scan) move;
            near = let moved = ap (λ (x : Mine U). x.0.pin.scan) move in omega arith;
            stops = λ f. absurd cc;
            ends = λ f _ _. absurd cc;
            rests = λ none. absurd (nothing_kept none);
          }

      -- None does, and the exchange of the epoch lost.
      pub round_misses : (m3 m4 : Mine U) → IsLook passes None m2 m3 → Moves false e m3 m4
          → Rounds passes number (record {
            freed =
                freed;
            lag = None;
            losses = losses + 1;
            epoch = e;
            more = true;
          }) m m4 ks ks'
      round_misses m3 m4 look move =
          let to_3 =
          saw_more m2 m3 m2.0.pin.scan passes m2.0.pin.lag m2.0.pin.looks m2.0.pin.lags m2.0.pin.moved look
          (le_refl m2.0.pin.scan)
          (le_refl m2.0.pin.looks) (le_refl m2.0.pin.lags) in
          let count_2 = lost_so_far in let count_3 = ap (λ (x : Mine U). x.0.lost) look in
          let count_4 = ap (λ (x : Mine U). x.0.lost) move in record {
            e = e;
            later = later;
            past = past;
            reclaims =
                reclaims_trans m m2 m4 so_far (reclaims_trans m2 m3 m4 to_3 (lost_one m3 m4 move));
            looked = ap (λ (x : Mine U). x.0.pin.looks) move
                ∙ (ap (λ (x : Mine U). x.0.pin.looks) look ∙ ap (λ (p : Pin). p.looks) pin_is);
            freed = count;
            lost = omega arith;
            few = omega arith;
            epoch_is = sym (ap (λ (x : Mine U). x.0.pin.scan) move
                ∙ (ap (λ (x : Mine U). x.0.pin.scan) look ∙ ap (λ (p : Pin). p.scan) pin_is));
            lag = ap (λ (x : Mine U). x.0.pin.lag) move
                ∙ (ap (λ (x : Mine U). x.0.pin.lag) look ∙ ap (λ (p : Pin). p.lag) pin_is);
            lags = let same = ap (λ (x : Mine U). x.0.pin.lags) move
                ∙ (ap (λ (x : Mine U). x.0.pin.lags) look ∙ ap (λ (p : Pin). p.lags) pin_is) in
                omega arith;
            unlagged = λ _. refl;
            young = young;
            goes_on = λ _ f. absurd (omega arith);
            near = let same = ap (λ (x : Mine U). x.0.pin.scan) move
                ∙ (ap (λ (x : Mine U). x.0.pin.scan) look ∙ ap (λ (p : Pin). p.scan) pin_is) in
                omega arith;
            stops = λ f. absurd cc;
            ends = λ f _ _. absurd cc;
            rests = λ none. absurd (nothing_kept none);
          }

pub true_or_false : (b : Bool) → (b ≡ true) ⊎ (b ≡ false)
true_or_false true = inl refl
true_or_false false = inr refl

pub fewer : (more : Bool) (left left' : ℕ) → left ≤ 3 → left' ≡ cond more (left - 1) 0 → left' ≤ 3
fewer true left left' l e = omega arith
fewer false left left' l e = omega arith

pub one_less : (more : Bool) (left left' : ℕ) → 0 < left → left' ≡ cond more (left - 1) 0
    → left' + 1 ≤ left
one_less true left left' lo e = omega arith
one_less false left left' lo e = omega arith

-- One round more of three, of which so many were left.
module _ {U : Type 0} (rows passes number : ℕ) (m m' : Mine U) (kept kept' : Vec Kept Global)
    (k : AreKept rows m.0.claims kept)
    (k' : AreKept rows m'.0.claims kept') (answer : Round)
    (x : Rounds passes number answer m m' kept.items kept'.items) (left left' : ℕ)
    (few : left ≤ 3)
    (go_on : answer.more ≡ true → left' ≡ left - 1) (stop : answer.more ≡ false → left' ≡ 0)
    (older : left < 3 → (r t : ℕ) → kept_of kept.items r ≡ some t → t + 3 ≤ m.0.pin.scan + left)
    (some_left : 0 < left) (none_lost : answer.losses ≡ 0) where
  -- What is kept still was kept before, since the same epoch.
  same_epoch : (r t : ℕ) → kept_of kept'.items r ≡ some t → claim_of m.0.claims r ≡ some (Keeps t)
  same_epoch r t e = let was = was_kept m m' x.reclaims r t (k'.are.are_claimed r t e).2 in
      let lost = x.lost in let same : m'.0.lost ≡ m.0.lost = omega arith in
      subst (λ y. claim_of m.0.claims r ≡ some (Keeps y)) (sym (was.2 same)) was.1

  -- since an epoch below that of this round, by the number of rounds before it
  before : (r t : ℕ) → kept_of kept'.items r ≡ some t → t + 3 ≤ x.e + left
  before r t e = let claimed_too = same_epoch r t e in let past = x.past r t claimed_too in
      let later = x.later in ⊎_elim
      (λ (l : left < 3). let low = older l r t (k.are.are_listed r t claimed_too) in omega arith)
      (λ (l : 3 ≤ left). omega arith) (less_or_not left 3)

  pub older_still : 0 < left' → (r t : ℕ) → kept_of kept'.items r ≡ some t
      → t + 3 ≤ m'.0.pin.scan + left'
  older_still lo r t e = let low = before r t e in ⊎_elim
      (λ more. let scan = x.goes_on more none_lost in let less = go_on more in omega arith)
      (λ more. let zero_is = stop more in absurd (omega arith)) (true_or_false answer.more)

  pub none_left : left' ≡ 0 → answer.lag ≡ None → m'.0.pin.scan < last_epoch
      → kept'.items ≡ []
  none_left zero_is lag room = ⊎_elim
      (λ more. let less = go_on more in nothing_in kept'.items
      (no_rows kept'.items (λ r t e. let low = before r t e in
      let young = x.young r t e in omega arith)))
      (λ more. x.ends more lag room) (true_or_false answer.more)

  pub young_left : left' ≡ 0 → (r t : ℕ) → kept_of kept'.items r ≡ some t → m'.0.pin.scan < t + 2
  young_left zero_is r t e = let young = x.young r t e in ⊎_elim
      (λ more. let less = go_on more in let low = before r t e in absurd (omega arith))
      (λ more. let scan = x.stops more in omega arith) (true_or_false answer.more)
