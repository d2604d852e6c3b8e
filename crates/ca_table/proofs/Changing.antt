-- A function that updates an object, handed to a store's `change`.
use Rattle.std.proofs.Common.{◌≡◌, ℕ, ◌≤◌, Bool, true, false, List, None, Some, refl, sym, ◌∙◌, ap, subst}
use Rattle.std.specs.Prelude.{Result, Ok, Err}
use denote.Ref.{Bor, MutBor}
use denote.Param.Members.{Shared}
use Rattle.arrayvec.specs.ArrayVec.{ArrayVec}
use Rattle.ca_term.specs.Tree.{Tree, Row, Tuple}
use Rattle.ca_term.specs.Code.{code_of}
use Rattle.ca_term.specs.Object.{key_of}
use Rattle.ca_term.specs.Updates.{ElementFault}
use Rattle.ca_term.specs.UpdateLaws.{KeepsKey as KeepsTheKey}
use Rattle.ca_model.specs.declared.outcome.Changed.{Changed}
use Rattle.ca_model.specs.declared.outcome.Changed.TheVariants as changed
use Rattle.ca_model.specs.declared.outcome.Outcome.{Outcome}
use Rattle.ca_model.specs.declared.outcome.Outcome.TheVariants as outcome
use Rattle.ca_model.specs.StoreMap.{Pair, IsPair}
use Rattle.ca_model.specs.Event.{Change}
use Rattle.ca_model.specs.Function.{KeepsKey, MayLeave, StandsAt}
use Rattle.ca_model.specs.Known.{Known, Meets}
use Rattle.ca_model.specs.Answer.{Altered, IfDone}
use Rattle.ca_explain.proofs.Pairs.{pair_of_object}
use Rattle.ca_table.specs.Renewed.{IsObjectCode, IsWritten, Renews, Update, Updated}
use Rattle.ca_table.proofs.ReadBack.{met_pair, row_of_pair}

-- Where one thing holds of a call's value, a weaker one holds too.
if_done : {T : Type 0} (r : Outcome T) (P Q : T → Type 0) → ((x : T) → P x → Q x) → IfDone r P → IfDone r Q
if_done (outcome.Done x) P Q weaker h = weaker x h
if_done (outcome.Busy s) P Q weaker h = tt
if_done (outcome.Full s) P Q weaker h = tt
if_done (outcome.Deep s) P Q weaker h = tt
if_done (outcome.Worn s) P Q weaker h = tt

-- what is written where a function answers true
record HasWritten (p : ℕ) (old : Tree) (update : Result Tree ElementFault) (bytes : List ℕ) (at : ℕ) : Type 0 where
  new : Tree
  updated : update ≡ Ok new
  written : IsWritten p old new bytes at

on_true : (p : ℕ) (old : Tree) (update : Result Tree ElementFault) (bytes : List ℕ) (at : ℕ) → Renews p old update true bytes at
    → HasWritten p old update bytes at
on_true p old (Ok new) bytes at h = record { new = new; updated = refl; written = h }
on_true p old (Err fault) bytes at h = absurd h

-- why nothing is written where it answers false
record HasFailed (update : Result Tree ElementFault) : Type 0 where
  fault : ElementFault
  failed : update ≡ Err fault

on_false : (p : ℕ) (old : Tree) (update : Result Tree ElementFault) (bytes : List ℕ) (at : ℕ) → Renews p old update false bytes at → HasFailed update
on_false p old (Ok new) bytes at h = absurd h
on_false p old (Err fault) bytes at h = record { fault = fault; failed = refl }

module _ {F : Type 0} (g : Shared F (Bor (List ℕ) × (MutBor (ArrayVec ℕ) × (MutBor ℕ × Unit {0}))) (Bool × (MutBor (ArrayVec ℕ) × (MutBor ℕ × Unit {0}))))
    (f : F) (p : ℕ) (positive : 1 ≤ p) (update : Update)
    (pre : (shown : Bor (List ℕ)) (into : MutBor (ArrayVec ℕ)) (start : MutBor ℕ) (row : Row) → IsObjectCode p row shown.now
    → g.pre f (shown, (into, (start, tt))))
    (post : (shown : Bor (List ℕ)) (into : MutBor (ArrayVec ℕ)) (start : MutBor ℕ) (answer : Bool) (left : MutBor (ArrayVec ℕ)) (number : MutBor ℕ)
    → g.post f (shown, (into, (start, tt))) (answer, (left, (number, tt))) → (row : Row) → IsObjectCode p row shown.now
    → Renews p (Tuple row) (update (Tuple row)) answer left.now.items number.now) where
  -- what the function does to an object
  renews : (row : Row) (o w : List ℕ) (answer : Bool) (at : ℕ) → IsObjectCode p row o → MayLeave g f o answer w at
      → Renews p (Tuple row) (update (Tuple row)) answer w at
  renews row o w answer at h m =
      let there = subst (λ (x : List ℕ). IsObjectCode p row x) (sym m.shows) h in
      let r = post m.shown m.into m.start answer m.into_after m.start_after m.met row there in
      subst (λ (x : List ℕ). Renews p (Tuple row) (update (Tuple row)) answer x at) m.leaves
      (subst (λ (x : ℕ). Renews p (Tuple row) (update (Tuple row)) answer m.into_after.now.items x) m.counts r)

  keeps : (key : List ℕ) → KeepsKey g f p key
  keeps key = record {
    callable = λ o pair shown into start shows empty.
        let r = row_of_pair p key o positive pair in pre shown into start r.row (subst (λ (x : List ℕ). IsObjectCode p r.row x) (sym shows) r.code);
    keeps = λ o w at pair m.
        let r = row_of_pair p key o positive pair in
        let n = on_true p (Tuple r.row) (update (Tuple r.row)) w at (renews r.row o w true at r.code m) in
        let k = n.written.keeps in
        let key_is : code_of (key_of p n.new) ≡ key = ap code_of k.key_is ∙ sym r.key_is in
        let new : IsPair p (code_of (key_of p n.new), code_of n.new) =
        pair_of_object p n.new positive k.bounded (record { object = k.object; fitting = k.small }) in (
          subst (λ (x : Pair). IsPair p x) (λ i. (key_is i, sym n.written.code_is i)) new,
          subst (λ (x : List ℕ). StandsAt x w at) key_is n.written.key_stands,
        );
  }

  -- It keeps the key.
  pub keeps_key : (key : List ℕ) (n : ℕ) → p ≡ n → KeepsKey g f n key
  keeps_key key n same = subst (λ (x : ℕ). KeepsKey g f x key) same (keeps key)

  updated : (a b : Known) (key old : List ℕ) → p ≡ a.keypos → (c : Changed) → Altered g f a b key c old → Updated a b key update c old
  updated a b key old same changed.Absent h = h.0
  updated a b key old same changed.Kept h =
      let pair = met_pair a b (Change key (Some old) None) key old h.1 h.1.answer in
      let r = row_of_pair p key old positive (subst (λ (n : ℕ). IsPair n (key, old)) (sym same) pair) in
      let n = on_false p (Tuple r.row) (update (Tuple r.row)) h.0.0 h.0.1 (renews r.row old h.0.0 false h.0.1 r.code h.0.2) in
      record {
        row = r.row;
        object = subst (λ (n : ℕ). IsObjectCode n r.row old) same r.code;
        fault = n.fault;
        failed = n.failed;
        met = h.1;
      }
  updated a b key old same changed.Put h =
      let w = h.0 in
      let at = h.1 in
      let pair = met_pair a b (Change key (Some old) (Some w)) key old h.3 h.3.answer in
      let r = row_of_pair p key old positive (subst (λ (n : ℕ). IsPair n (key, old)) (sym same) pair) in
      let n = on_true p (Tuple r.row) (update (Tuple r.row)) w at (renews r.row old w true at r.code h.2) in
      record {
        row = r.row;
        object = subst (λ (n : ℕ). IsObjectCode n r.row old) same r.code;
        new = n.new;
        updated = n.updated;
        keeps = subst (λ (m : ℕ). KeepsTheKey m (Tuple r.row) n.new) same n.written.keeps;
        met = subst (λ (x : List ℕ). Meets a b (Change key (Some old) (Some x))) n.written.code_is h.3;
      }

  -- What came of a store's `change` with it.
  pub updated_done : (a b : Known) (slice key old : List ℕ) (r : Outcome Changed) → p ≡ a.keypos → slice ≡ key
      → IfDone r (λ c. Altered g f a b slice c old) → IfDone r (λ c. Updated a b key update c old)
  updated_done a b slice key old r same e h =
      subst (λ (x : List ℕ). IfDone r (λ c. Updated a b x update c old)) e
      (if_done r (λ c. Altered g f a b slice c old) (λ c. Updated a b slice update c old) (updated a b slice old same) h)
