-- A call of the store inside, which nobody else edits, as one event on the map that it knew.
use Rattle.std.proofs.Common.{◌≡◌, ℕ, ◌+◌, ◌≤◌, Bool, true, false, List, [], ◌∷◌, ◌++◌, append-nil, arith, refl, sym, ◌∙◌, ap, subst, Some, None}
use denote.Ref.{Bor, MutBor}
use denote.Param.Members.{Shared}
use Rattle.arrayvec.specs.ArrayVec.{ArrayVec}
use Rattle.ca_model.specs.declared.outcome.Outcome.{Outcome}
use Rattle.ca_model.specs.declared.outcome.Outcome.TheVariants.{Done}
use Rattle.ca_model.specs.declared.outcome.Changed.{Changed}
use Rattle.ca_model.specs.declared.outcome.Changed.TheVariants as changed
use Rattle.ca_model.specs.StoreMap.{StoreMap, IsStoreMap}
use Rattle.ca_model.specs.History.{Edit, History, after, after_edit, by_pass, AreEdits}
use Rattle.ca_model.specs.Event.{Event, Get, Remove, Change, Above, Below, Range, IsAnswer, effect}
use Rattle.ca_model.specs.Known.{Known, Meets, around}
use Rattle.ca_model.specs.Answer.{IfDone, Got, Removed, Altered, RemovedIf, FoundAbove, FoundBelow}
use Rattle.ca_model.specs.Edges.{Bound}
use Rattle.ca_model.specs.Runs.{Opens}
use Rattle.ca_model.proofs.Edits.{map_after}
use Rattle.ca_test_store.specs.Script.{after_edits}
use Rattle.ca_test_store.specs.Played.{GotSuch, RemovedSuch, RemovedIfSuch, AlteredSuch, AboveSuch, BelowSuch}
use Rattle.ca_test_store.specs.Inner.{IsInner, Answers, InnerOpens}

-- The map after edits is the same whichever pass made them.
pub after_pass : (pass : ℕ) (edits : List Edit) (m : StoreMap) → after (by_pass pass edits) m ≡ after_edits edits m
after_pass pass [] m = refl
after_pass pass (edit ∷ edits) m = after_pass pass edits (after_edit edit m)

-- Edits may be made whichever pass makes them.
pub edits_pass : (keypos p q : ℕ) (edits : List Edit) → AreEdits keypos (by_pass p edits) → AreEdits keypos (by_pass q edits)
edits_pass keypos p q [] h = tt
edits_pass keypos p q (edit ∷ edits) h = (h.0, edits_pass keypos p q edits h.1)

-- The value of a call that was done.
pub done_value : {T : Type 0} (r : Outcome T) (x : T) (P : T → Type 0) → r ≡ Done x → IfDone r P → P x
done_value {T} r x P e h = subst (λ (q : Outcome T). IfDone q P) e h

-- What the contract of a store says of a call, where nobody else edits.
pub answered : (a b : Known) (room : ℕ) (event : Event) → IsInner a → a.spare ≤ b.spare + room → b.run ≡ None
    → Meets a b event → Answers a b room event
answered a b room event inner spare closed met =
    let none = met.alone inner.owned.alone in
    let own = by_pass a.pass (effect event) in
    let learnt : around a.pass met.earlier event met.later ≡ own =
    ap (λ (h : History). h ++ own ++ met.later) none.0 ∙ ap (λ (h : History). own ++ h) none.1 ∙ append-nil own in
    let map : IsStoreMap a.keypos b.map =
    subst (λ (m : StoreMap). IsStoreMap a.keypos m) (sym met.learns.map)
    (map_after a.keypos (around a.pass met.earlier event met.later) a.map met.learns.edits met.learns.valid) in
    record {
      inner = record {
        owned = record {
          alone = met.learns.same.alone ∙ inner.owned.alone;
          sure = met.learns.same.sure ∙ inner.owned.sure;
          ordered = subst (λ (n : ℕ). IsStoreMap n b.map) (sym met.learns.same.keypos) map;
        };
        closed = closed;
      };
      keypos = met.learns.same.keypos;
      answer = subst (λ (h : History). IsAnswer event (after h a.map)) none.0 met.answer;
      map = met.learns.map ∙ ap (λ (h : History). after h a.map) learnt ∙ after_pass a.pass (effect event) a.map;
      edits = edits_pass a.keypos a.pass 1 (effect event) (subst (λ (h : History). AreEdits a.keypos h) learnt met.learns.edits);
      spare = spare;
    }

-- The same by the answer of a call.
module _ (a b : Known) (inner : IsInner a) (spare : a.spare ≤ b.spare) (closed : b.run ≡ None) (key : List ℕ) where
  met : (event : Event) → Meets a b event → Answers a b 0 event
  met event m = answered a b 0 event inner (omega (arith, spare)) closed m

  pub got : (found : Bool) (into : List ℕ) → Got a b key found into → GotSuch (Answers a b 0) key found into
  got true into m = met (Get key (Some into)) m
  got false into m = (met (Get key None) m.0, m.1)

  pub removed : (was : Bool) (old : List ℕ) → Removed a b key was old → RemovedSuch (Answers a b 0) key was old
  removed true old m = met (Remove key (Some old)) m
  removed false old m = (met (Remove key None) m.0, m.1)

  pub removed_if : {F : Type 0} (g : Shared F (Bor (List ℕ) × Unit {0}) Bool) (f : F) (result : Changed) (old : List ℕ)
      → RemovedIf g f a b key result old → RemovedIfSuch g f (Answers a b 0) key result old
  removed_if g f changed.Absent old m = (met (Get key None) m.0, m.1)
  removed_if g f changed.Kept old m = (m.0, met (Get key (Some old)) m.1)
  removed_if g f changed.Put old m = (m.0, met (Remove key (Some old)) m.1)

  pub altered : {F : Type 0} (g : Shared F (Bor (List ℕ) × (MutBor (ArrayVec ℕ) × (MutBor ℕ × Unit {0}))) (Bool
      × (MutBor (ArrayVec ℕ) × (MutBor ℕ × Unit {0})))) (f : F) (result : Changed) (old : List ℕ)
      → Altered g f a b key result old → AlteredSuch g f (Answers a b 0) key result old
  altered g f changed.Absent old m = (met (Change key None None) m.0, m.1)
  altered g f changed.Kept old m = (m.0, met (Change key (Some old) None) m.1)
  altered g f changed.Put old m = (m.0, m.1, m.2, met (Change key (Some old) (Some m.0)) m.3)

-- The same of a walk, by its edge.
module _ (a b : Known) (inner : IsInner a) (spare : a.spare ≤ b.spare) (closed : b.run ≡ None) (edge : Bound) where
  walked : (event : Event) → Meets a b event → Answers a b 0 event
  walked event m = answered a b 0 event inner (omega (arith, spare)) closed m

  pub above : (found : Bool) (into : List ℕ) → FoundAbove a b edge found into → AboveSuch (Answers a b 0) edge found into
  above true into m = walked (Above edge (Some into)) m
  above false into m = (walked (Above edge None) m.0, m.1)

  pub below : (found : Bool) (into : List ℕ) → FoundBelow a b edge found into → BelowSuch (Answers a b 0) edge found into
  below true into m = walked (Below edge (Some into)) m
  below false into m = (walked (Below edge None) m.0, m.1)

-- The same of a run that is whole.
pub opened : {F : Type 0} (g : Shared F (Bor (List ℕ) × Unit {0}) Bool) (f : F) (a b : Known) (lo hi : Bound) (want : ℕ) (whole : Bool)
    → IsInner a → a.spare ≤ b.spare → whole ≡ true → Opens g f a b lo hi want whole → (objects : List (List ℕ)) × InnerOpens a b lo hi objects
opened g f a b lo hi want true inner spare is opens =
    let none = opens.met.alone inner.owned.alone in
    let event = Range lo hi opens.cut opens.objects in
    let learnt : around a.pass opens.met.earlier event opens.met.later ≡ [] =
    ap (λ (h : History). h ++ [] ++ opens.met.later) none.0 ∙ none.1 in
    let same : b.map ≡ a.map = opens.met.learns.map ∙ ap (λ (h : History). after h a.map) learnt in
    let answer : IsAnswer event a.map = subst (λ (h : History). IsAnswer event (after h a.map)) none.0 opens.met.answer in (
      opens.objects,
      record {
        owned = record {
          alone = opens.met.learns.same.alone ∙ inner.owned.alone;
          sure = opens.met.learns.same.sure ∙ inner.owned.sure;
          ordered = subst (λ (n : ℕ). IsStoreMap n b.map) (sym opens.met.learns.same.keypos)
              (subst (λ (m : StoreMap). IsStoreMap a.keypos m) (sym same) inner.owned.ordered);
        };
        keypos = opens.met.learns.same.keypos;
        answer = subst (λ (cut : Bound). IsAnswer (Range lo hi cut opens.objects) a.map) opens.reaches answer;
        map = same;
        spare = spare;
        run = opens.run;
      },
    )
opened g f a b lo hi want false inner spare is opens = absurd (let no : false ≡ true = is in cc)
