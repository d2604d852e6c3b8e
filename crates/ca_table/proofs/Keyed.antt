-- How the calls with a key end: `lookup`, `member`, `delete` and `take`.
use Rattle.std.proofs.Common.{◌≡◌, ℕ, ◌≤◌, Bool, true, false, List, [], length, sym, refl, subst, ap, Some, None, arith}
use Rattle.ca_term.specs.Tree.{Tree}
use Rattle.ca_term.specs.Code.{code_of}
use Rattle.ca_ets.specs.Command.{Continuation, Truth, Items}
use Rattle.ca_ets.specs.declared.command.Cmd.TheVariants.{Lookup, Member, Delete, Take}
use Rattle.ca_order.specs.Languages.{IsTermCode}
use Rattle.ca_order.proofs.Skipped.{code_begun}
use Rattle.ca_model.specs.Event.{Get, Remove}
use Rattle.ca_model.specs.Known.{Known, Meets}
use Rattle.ca_model.specs.Answer.{Got, Removed}
use Rattle.ca_model.specs.declared.outcome.Changed.TheVariants as changed
use Rattle.ca_explain.specs.Steps.{Refrains, Overtaken}
use Rattle.ca_explain.proofs.Calls.{one_read, one_read_left}
use Rattle.ca_explain.proofs.Carrying.{lookup_found, lookup_absent}
use Rattle.ca_explain.proofs.Overtaking.{overtaken}
use Rattle.ca_table.specs.Codes.{HasKeyCode, IsOnly}
use Rattle.ca_table.specs.Refusals.{RemovedSame}
use Rattle.ca_table.proofs.ReadBack.{found_code}
use Rattle.ca_table.proofs.Carried.{member_found, member_absent, delete_found, delete_absent, take_found, take_absent}
use Rattle.ca_table.specs.ComesTo.{StepsOnce}
use Rattle.ca_table.proofs.Once.{behind_reads, once}

module _ (k : Tree) (bytes : List ℕ) (h : HasKeyCode k bytes) where
  -- A key's code is not empty.
  pub key_begins : 1 ≤ length bytes
  key_begins = omega (arith, code_begun k, ap length h.code_is)

  module _ (a b : Known) where
    -- What `get` tells where it finds nothing.
    pub got_none : (found : Bool) (into : List ℕ) → found ≡ false → Got a b bytes found into → Meets a b (Get (code_of k) None)
    got_none found into e got =
        let none : Got a b bytes false into = subst (λ (f : Bool). Got a b bytes f into) e got in
        subst (λ (x : List ℕ). Meets a b (Get x None)) h.code_is none.0

    -- What `get` tells where it finds an object.
    pub got_some : (found : Bool) (into : List ℕ) → found ≡ true → Got a b bytes found into → Meets a b (Get (code_of k) (Some into))
    got_some found into e got =
        let some : Meets a b (Get bytes (Some into)) = subst (λ (f : Bool). Got a b bytes f into) e got in
        subst (λ (x : List ℕ). Meets a b (Get x (Some into))) h.code_is some

    -- Nothing is found: `lookup` answers the empty list.
    pub lookup_none : (found : Bool) (into : List ℕ) (ts : List Tree) → found ≡ false → Got a b bytes found into → ts ≡ [] → (l : Continuation)
        → StepsOnce a b l (Lookup k) (Items ts) l
    lookup_none found into ts e got empty l =
        subst (λ (x : List Tree). StepsOnce a b l (Lookup k) (Items x) l) (sym empty)
        ((once a b _ l l _ _ (got_none found into e got) (lookup_absent a.keypos k h.bounded h.fitting l)))

    -- An object is found: `lookup` answers its list.
    pub lookup_one : (found : Bool) (into : List ℕ) (ts : List Tree) → found ≡ true → Got a b bytes found into → IsOnly into ts → (l : Continuation)
        → StepsOnce a b l (Lookup k) (Items ts) l
    lookup_one found into ts e got only l =
        let met = subst (λ (x : List ℕ). Meets a b (Get (code_of k) (Some x))) only.code_is (got_some found into e got) in
        subst (λ (x : List Tree). StepsOnce a b l (Lookup k) (Items x) l) (sym only.terms_are)
        ((once a b _ l l _ _ met (lookup_found a.keypos k h.bounded h.fitting l only.term only.bounded)))

    -- What is found is the code of a term.
    pub read_code : (found : Bool) (into : List ℕ) → found ≡ true → Got a b bytes found into → IsTermCode into
    read_code found into e got = found_code a b (code_of k) into (got_some found into e got)

    -- An object was read, and no edit was made.
    pub only_read : (found : Bool) (into : List ℕ) → found ≡ true → Got a b bytes found into → Refrains a b a.counts
    only_read found into e got = one_read a b (Get (code_of k) (Some into)) refl (got_some found into e got)

    -- `member` answers what is found.
    pub member_done : (found : Bool) (into : List ℕ) → Got a b bytes found into → (l : Continuation) → StepsOnce a b l (Member k) (Truth found) l
    member_done true into got l =
        (once a b _ l l _ _ (got_some true into refl got) (member_found a.keypos k h.bounded h.fitting l into))
    member_done false into got l =
        (once a b _ l l _ _ (got_none false into refl got) (member_absent a.keypos k h.bounded h.fitting l))

    -- `delete` answers true, whether there was an object or not.
    pub delete_done : (was : Bool) (old : List ℕ) → Removed a b bytes was old → (l : Continuation) → StepsOnce a b l (Delete k) (Truth true) l
    delete_done true old removed l =
        let met = subst (λ (x : List ℕ). Meets a b (Remove x (Some old))) h.code_is removed in
        (once a b _ l l _ _ met (delete_found a.keypos k h.bounded h.fitting l old))
    delete_done false old removed l =
        let met = subst (λ (x : List ℕ). Meets a b (Remove x None)) h.code_is removed.0 in
        (once a b _ l l _ _ met (delete_absent a.keypos k h.bounded h.fitting l))

    -- Nothing is found: `take` answers the empty list.
    pub take_none : (found : Bool) (into : List ℕ) (ts : List Tree) → found ≡ false → Got a b bytes found into → ts ≡ [] → (l : Continuation)
        → StepsOnce a b l (Take k) (Items ts) l
    take_none found into ts e got empty l =
        subst (λ (x : List Tree). StepsOnce a b l (Take k) (Items x) l) (sym empty)
        ((once a b _ l l _ _ (got_none found into e got) (take_absent a.keypos k h.bounded h.fitting l)))

  one_before : (a m : Known) (found : Bool) (into : List ℕ) (e : found ≡ true) (got : Got a m bytes found into)
      → length (only_read a m found into e got).left ≤ 1
  unfolding only_read
  one_before a m found into e got =
      let one = one_read_left a m (Get (code_of k) (Some into)) refl (got_some a m found into e got) in
      omega (arith, one)

  -- an object was read into a Code, and is the only term of a list
  module _ (a m b : Known) (found : Bool) (into : List ℕ) (ts : List Tree) (e : found ≡ true) (got : Got a m bytes found into) (only : IsOnly into ts) where
    -- The object that was read is removed: `take` answers its list.
    pub take_put : RemovedSame m b bytes into changed.Put → (l : Continuation) → StepsOnce a b l (Take k) (Items ts) l
    take_put removed l =
        let here = subst (λ (x : List ℕ). Meets m b (Remove x (Some into))) h.code_is removed in
        let met = subst (λ (x : List ℕ). Meets m b (Remove (code_of k) (Some x))) only.code_is here in
        subst (λ (x : List Tree). StepsOnce a b l (Take k) (Items x) l) (sym only.terms_are)
        (behind_reads a m b _ l l _ _ (only_read a m found into e got) (one_before a m found into e got) met
        (take_found a.keypos k h.bounded h.fitting l only.term only.bounded))

    -- No object is there any more: `take` answers the empty list.
    pub take_gone : RemovedSame m b bytes into changed.Absent → (none : List Tree) → none ≡ [] → (l : Continuation)
        → StepsOnce a b l (Take k) (Items none) l
    take_gone removed none empty l =
        let met = subst (λ (x : List ℕ). Meets m b (Get x None)) h.code_is removed in
        subst (λ (x : List Tree). StepsOnce a b l (Take k) (Items x) l) (sym empty)
        (behind_reads a m b _ l l _ _ (only_read a m found into e got) (one_before a m found into e got) met
        (take_absent a.keypos k h.bounded h.fitting l))

    -- Another object is there: `take` is overtaken.
    pub take_overtaken : RemovedSame m b bytes into changed.Kept → Overtaken a b (code_of k)
    take_overtaken kept =
        let met = subst (λ (x : List ℕ). Meets m b (Get x (Some kept.0))) h.code_is kept.2 in
        overtaken a m b (code_of k) into kept.0 (got_some a m found into e got) met kept.1
