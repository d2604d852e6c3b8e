-- The update that makes the next edit of the history is taken: its step leads from the state before the edit to the one after it.
use Rattle.std.proofs.Common.{◌≡◌, ℕ, suc, ◌-◌, ◌==◌, true, List, [], ◌∷◌, ◌++◌, length, take, arith, refl, sym, ◌∙◌, ap, subst}
use Rattle.std.specs.Prelude.{Option}
use Rattle.ca_term.specs.Tree.{Tree}
use Rattle.ca_ets.specs.Command.{Continuation}
use Rattle.ca_ets.specs.Merge.{items_of}
use Rattle.ca_ets.proofs.Merges.{itself}
use Rattle.ca_model.specs.StoreMap.{StoreMap}
use Rattle.ca_model.specs.History.{Edit, History, state, after, after_edit}
use Rattle.ca_model.specs.Event.{Entry, IsAnswer}
use Rattle.ca_model.specs.Lawful.{AreEntries, IsEntryAt, PlacesRise}
use Rattle.ca_explain.specs.Stands.{Stands}
use Rattle.ca_explain.specs.Carries.{IsCarried, Carries, with_edits}
use Rattle.ca_explain.specs.Clients.{from_event}
use Rattle.ca_explain.specs.Places.{Turn}
use Rattle.ca_explain.proofs.Updates.{updates, with_update, numbered}
use Rattle.ca_explain.proofs.Waits.{Waits, Taken, entries_of}
use Rattle.ca_explain.proofs.NextUpdates.{NextUpdate}

-- The map after two histories is the map after the second one on that after the first.
pub after-append : (xs ys : History) (m : StoreMap) → after (xs ++ ys) m ≡ after ys (after xs m)
after-append [] ys m = refl
after-append (x ∷ xs) ys m = after-append xs ys (after_edit x.1 m)

take_front : {A : Type 0} (xs ys : List A) → take (length xs) (xs ++ ys) ≡ xs
take_front [] ys = refl
take_front (x ∷ xs) ys = ap (λ zs. x ∷ zs) (take_front xs ys)

take_one_more : {A : Type 0} (xs : List A) (y : A) (ys : List A) → take (suc (length xs)) (xs ++ y ∷ ys) ≡ xs ++ y ∷ []
take_one_more [] y ys = refl
take_one_more (x ∷ xs) y ys = ap (λ zs. x ∷ zs) (take_one_more xs y ys)

-- the state after one more edit
state_more : (history before : History) (i : ℕ) (edit : Edit) (steps : History) → history ≡ before ++ (i, edit) ∷ steps
    → after_edit edit (state history (length before)) ≡ state history (suc (length before))
state_more history before i edit steps e =
    let here : take (length before) history ≡ before = ap (take (length before)) e ∙ take_front before ((i, edit) ∷ steps) in
    let next : take (suc (length before)) history ≡ before ++ (i, edit) ∷ [] = ap (take (suc (length before))) e ∙ take_one_more before (i, edit) steps in
    ap (λ (h : History). after_edit edit (after h [])) here ∙ sym (after-append before ((i, edit) ∷ []) []) ∙ sym (ap (λ (h : History). after h []) next)

-- The next edit of the history is client j's, and so is its first turn: the turn is taken.
pub take_update : (p : ℕ) (history before : History) (j : ℕ) (edit : Edit) (steps : History) → history ≡ before ++ (j, edit) ∷ steps →
    (k : Continuation) (t : List Tree) (s : List Turn) (up : NextUpdate (length before) edit s) → Stands p (state history (length before)) t
    → Waits p history (length before) ((j, edit) ∷ steps) j k s → Taken p history (suc (length before)) steps j k t up.turn up.others
take_update p history before j edit steps e k t s up st waits =
    let q = length before in
    let x = up.turn in
    let xs = up.others in
    let event = up.event in
    let eff = up.edits in
    let w : Waits p history q ((j, edit) ∷ steps) j k (x ∷ xs) = subst (λ (s : List Turn). Waits p history q ((j, edit) ∷ steps) j k s) up.is waits in
    let carries : Carries p event k x.command x.response w.turns.0 =
    subst (λ (entry : Option Entry). IsCarried p entry k x.command x.response w.turns.0) up.entry w.turns.1 in
    let entries : AreEntries j history ((event, suc q) ∷ entries_of xs) =
    subst (λ (entry : Option Entry). AreEntries j history (from_event entry (entries_of xs))) up.entry w.entries in
    let entry : IsEntryAt j history event (suc q) (edit ∷ []) = subst (λ (es : List Edit). IsEntryAt j history event (suc q) es) eff entries.0 in
    let back : suc q - 1 ≡ q = omega arith in
    let answer : IsAnswer event (state history q) = subst (λ (n : ℕ). IsAnswer event (state history n)) back entry.3 in
    let done = carries.at (state history q) t st answer in
    let made : Stands p (with_edits (edit ∷ []) (state history q)) done.0 =
    subst (λ (es : List Edit). Stands p (with_edits es (state history q)) done.0) eff done.2 in
    let rise : PlacesRise q ((event, suc q) ∷ entries_of xs) =
    subst (λ (entry : Option Entry). PlacesRise q (from_event entry (entries_of xs))) up.entry w.places in
    let here : (j == j) ≡ true = itself j in
    let own_edits : items_of j (numbered q ((j, edit) ∷ steps)) ≡ updates ((event, suc q) ∷ entries_of xs) =
    subst (λ (entry : Option Entry). items_of j (numbered q ((j, edit) ∷ steps)) ≡ updates (from_event entry (entries_of xs))) up.entry w.edits in
    let first : (edit, suc q) ∷ items_of j (numbered (suc q) steps) ≡ updates ((event, suc q) ∷ entries_of xs) = rw here at own_edits in
    let second : (edit, suc q) ∷ items_of j (numbered (suc q) steps) ≡ (edit, suc q) ∷ updates (entries_of xs) =
    subst (λ (es : List Edit). (edit, suc q) ∷ items_of j (numbered (suc q) steps) ≡ with_update es (suc q) (updates (entries_of xs))) eff first in
    let rest : items_of j (numbered (suc q) steps) ≡ updates (entries_of xs) = cc in
    record {
      continuation = w.turns.0;
      table = done.0;
      steps = done.1;
      stands = subst (λ (m : StoreMap). Stands p m done.0) (state_more history before j edit steps e) made;
      waits = record { turns = w.turns.2; entries = entries.1; places = rise.1; edits = rest };
    }
