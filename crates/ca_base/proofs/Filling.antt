-- A row that a seat holds is filled word by word.
use Rattle.std.proofs.Common.{◌≡◌, ℕ, ◌+◌, ◌-◌, ◌<◌, ◌≤◌, List, length, get_or, set, sym, refl, ap, ◌∙◌, subst, ⊎_elim, arith, length-set, get_or-set_other, get_or-set_same, le_refl}
use Rattle.std.proofs.lemmas.Bool.{cases_lt}
use mathlib.Core.Logic.{dite}
use mathlib.Core.Option.{some}
use native.Mathlib.Decide.{ℕ_discrete}
use Rattle.atomic_table.specs.declared.shared.Seat.{Seat}
use Rattle.atomic_table.specs.Seated.{TableId}
use Rattle.ca_node.specs.Told.{MyTree}
use Rattle.ca_node.specs.TreeView.{TreeView}
use Rattle.ca_base.specs.Writing.{IsHeld, IsRewritten, HasSet, IsFilled, HasFilled}
use Rattle.ca_rows.specs.declared.sizes.Sizes.{Sizes}
use Rattle.ca_rows.specs.declared.view.Claim.TheVariants.{Holds}
use Rattle.ca_rows.specs.declared.view.View.{View}
use Rattle.ca_rows.specs.Calls.{IsOf, IsSame, IsStill}
use Rattle.ca_rows.specs.Claims.{claim_of, claimed, held_count}
use Rattle.ca_rows.proofs.Claiming.{claimed_here, claimed_else}
use Rattle.ca_rows.proofs.HeldCount.{written_no_more}
use Rattle.ca_rows.specs.Layout.{row_words}

abbrev pub MySeat : Type 0
MySeat = Seat (Unit {0}) (View TreeView)

-- A word of the row was written.
pub rewritten : (row : ℕ) (its new : List ℕ) (m m' : MyTree)
    → claim_of m.0.claims row ≡ some (Holds its)
    → m' ≡ (record m.0 { claims = claimed row (Holds new) m.0.claims }, m.1)
    → IsRewritten row new m m'
rewritten row its new m m' has is = let claims = ap (λ (y : MyTree). y.0.claims) is in record {
  here = ap (λ (y : MyTree). claim_of y.0.claims row) is ∙ claimed_here m.0.claims row (Holds new);
  others = λ r n. ap (λ (y : MyTree). claim_of y.0.claims r) is
      ∙ claimed_else m.0.claims row r (Holds new) n;
  no_more = subst
      (λ (y : MyTree). held_count y.0.claims ≤ held_count m.0.claims) (sym is)
      (written_no_more row its new m.0.claims has);
  only = is ∙ ap (λ xs. (record m.0 { claims = xs }, m.1)) (sym claims);
}

-- It is what it was.
pub kept_so : (row : ℕ) (its : List ℕ) (m m' : MyTree) → claim_of m.0.claims row ≡ some (Holds its)
    → m' ≡ m → IsRewritten row its m m'
kept_so row its m m' has is = subst (IsRewritten row its m) (sym is) record {
  here = has;
  others = λ r n. refl;
  no_more = le_refl (held_count m.0.claims);
  only = refl;
}

pub rewritten_again : (row : ℕ) (its new : List ℕ) (a b c : MyTree) → IsRewritten row its a b
    → IsRewritten row new b c → IsRewritten row new a c
rewritten_again row its new a b c x y = record {
  here = y.here;
  others = λ r n. y.others r n ∙ x.others r n;
  no_more = let one = x.no_more in let two = y.no_more in omega arith;
  only = y.only ∙ ap (λ (m : MyTree). (record m.0 { claims = c.0.claims }, m.1)) x.only;
}

-- Nothing was filled yet.
pub none_filled : (row at : ℕ) (says : ℕ → ℕ → Type 0) (m : MyTree) → HasFilled row at 0 says m m
none_filled row at says m its long has = (
  its,
  record {
    long = refl;
    inside = λ k l. absurd (omega arith);
    before = λ k l. refl;
    behind = λ k l.
        refl;
  },
  kept_so row its m m has refl,
)

-- One more word was.
pub one_more : (at count v : ℕ) (says : ℕ → ℕ → Type 0) (its new : List ℕ) → at + count < length its
    → says count v → IsFilled at count says its new
    → IsFilled at (count + 1) says its (set new (at + count) v)
one_more at count v says its new l say f = let long = f.long in record {
  long = length-set new (at + count) v ∙ f.long;
  inside = λ k small. dite (ℕ_discrete k count)
      (λ e. subst (λ (y : ℕ). says y (get_or (set new (at + count) v) (at + y) 0)) (sym e)
      (subst (says count) (sym (get_or-set_same new (at + count) v 0 (omega arith))) say))
      (λ n. subst (says k) (sym (get_or-set_other new (at + count) (at + k) v 0
      (λ e. n (omega arith)))) (f.inside k (omega arith)));
  before = λ k small. get_or-set_other new (at + count) k v 0 (λ e. omega arith) ∙ f.before k small;
  behind = λ k large. get_or-set_other new (at + count) k v 0 (λ e. omega arith)
      ∙ f.behind k (omega arith);
}

-- A pass fills a row: so many words of it were filled since.
pub record IsFilling (table : TableId) (z : Sizes) (row at : ℕ) (says : ℕ → ℕ → Type 0)
    (first now : MySeat) (count : ℕ) : Type 0 where
  pub of : IsOf table z now
  pub still : IsStill first now
  pub held : IsHeld now.me row
  pub filled : HasFilled row at count says first.me now.me

pub begins : (table : TableId) (z : Sizes) (row at : ℕ) (says : ℕ → ℕ → Type 0) (first : MySeat)
    → IsOf table z first → IsHeld first.me row
    → IsFilling table z row at says first first 0
begins table z row at says first of held =
    record {
      of = of;
      still = (
        refl,
        refl,
        refl,
        refl,
        refl,
      );
      held = held;
      filled = none_filled row at says first.me;
    }

-- One more word was written, at its place.
pub goes_on : (table : TableId) (z : Sizes) (row at : ℕ) (says : ℕ → ℕ → Type 0)
    (first a b : MySeat) (count place v : ℕ) → place ≡ at + count
    → place < row_words → says count v → IsFilling table z row at says first a count → IsStill a b
    → HasSet row place v a.me b.me
    → IsFilling table z row at says first b (count + 1)
goes_on table z row at says first a b count place v is l say f s wrote' = let h = f.held in
    let wrote = subst (λ (y : ℕ). HasSet row y v a.me b.me) is wrote' in
    let w = wrote h.0 h.2 in record {
      of = (s.0 ∙ f.of.0, s.2 ∙ f.of.1);
      still = (s.0 ∙ f.still.0, s.1 ∙ f.still.1, s.2 ∙ f.still.2, s.3 ∙ f.still.3, s.4 ∙ f.still.4);
      held = (set h.0 (at + count) v, length-set h.0 (at + count) v ∙ h.1, w.here);
      filled = λ its long has. let x = f.filled its long has in let new = wrote x.0 x.2.here in (
        set x.0 (at + count) v,
        one_more at count v says its x.0 (omega arith) say x.1,
        rewritten_again row x.0 (set x.0 (at + count) v) first.me a.me b.me x.2 new,
      );
    }

-- The same where the row was looked at before the word was written.
pub goes_on_behind : (table : TableId) (z : Sizes) (row at : ℕ) (says : ℕ → ℕ → Type 0)
    (first a b d : MySeat) (count place v : ℕ) → place ≡ at + count
    → place < row_words → says count v → IsFilling table z row at says first a count → IsSame a b
    → b.me ≡ a.me → IsStill b d → HasSet row place v b.me d.me
    → IsFilling table z row at says first d (count + 1)
goes_on_behind table z row at says first a b d count place v is l say f same looked s wrote =
    goes_on table z row at says first a d count place v is l say f (
      s.0 ∙ same.0,
      s.1 ∙ same.1,
      s.2 ∙ ap (λ (m : MyTree). m.0.sizes) looked,
      s.3 ∙ ap (λ (m : MyTree). m.0.pin) looked,
      s.4 ∙ ap (λ (m : MyTree). m.0.upper) looked,
    )
    (subst (λ (m : MyTree). HasSet row place v m d.me) looked wrote)

-- What is said of the words that were written, in other words.
pub filled_as : (row at count : ℕ) (says tells : ℕ → ℕ → Type 0) (m m' : MyTree)
    → ((k word : ℕ) → k < count → says k word → tells k word)
    → HasFilled row at count says m m' → HasFilled row at count tells m m'
filled_as row at count says tells m m' so f its long has = let x = f its long has in (
  x.0,
  record {
    long = x.1.long;
    inside = λ k l. so k (get_or x.0 (at + k) 0) l (x.1.inside k l);
    before = x.1.before;
    behind = x.1.behind;
  },
  x.2,
)

-- Words were written, and then more behind them.
pub filled_on : (row at a b : ℕ) (says : ℕ → ℕ → Type 0) (k m n : MyTree)
    → HasFilled row at a says k m
    → HasFilled row (at + a) b (λ j. says (a + j)) m n → HasFilled row at (a + b) says k n
filled_on row at a b says k m n f g its long has = let x = f its long has in
    let y = g x.0 (x.1.long ∙ long) x.2.here in (
      y.0,
      record {
        long = y.1.long ∙ x.1.long;
        inside = λ j l. ⊎_elim
            (λ (h : j < a). subst (says j) (sym (y.1.before (at + j) (omega arith))) (x.1.inside j h))
            (λ (h : a ≤ j). let there : at + a + (j - a) ≡ at + j = omega arith in
            let same : a + (j - a) ≡ j = omega arith in
            subst (λ (i : ℕ). says i (get_or y.0 (at + j) 0)) same
            (subst (λ (i : ℕ). says (a + (j - a)) (get_or y.0 i 0)) there
            (y.1.inside (j - a) (omega arith))))
            (cases_lt j a);
        before = λ j l. y.1.before j (omega arith) ∙ x.1.before j l;
        behind = λ j l. y.1.behind j (omega arith) ∙ x.1.behind j (omega arith);
      },
      rewritten_again row x.0 y.0 k m n x.2 y.2,
    )
