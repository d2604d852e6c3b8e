-- A turn that is added to a script, with room for its edits.
use Rattle.std.proofs.Common.{◌≡◌, ℕ, ◌+◌, ◌≤◌, ◌<◌, ◌^◌, List, [], ◌∷◌, ◌++◌, length, length-append, arith, sym, ◌∙◌, ap, subst}
use Rattle.ca_model.specs.StoreMap.{StoreMap, IsStoreMap}
use Rattle.ca_model.specs.History.{Edit}
use Rattle.ca_model.specs.Known.{Known, Counts, Stays}
use Rattle.ca_test_store.specs.Script.{ScriptTurn, AreProper, IsProperTurn, AreProperTurns, count_edits}
use Rattle.ca_test_store.specs.Inner.{IsOwned}
use Rattle.ca_test_store.specs.ScriptedView.{IsKeptWith}

stays_owned : (a b : Known) → Stays a b → IsOwned a → IsOwned b
stays_owned a b stays owned = record {
  alone = stays.same.alone ∙ owned.alone;
  sure = stays.same.sure ∙ owned.sure;
  ordered = subst (λ (n : ℕ). IsStoreMap n b.map) (sym stays.same.keypos) (subst (λ (m : StoreMap). IsStoreMap a.keypos m) (sym stays.map) owned.ordered);
}

proper_added : (keypos : ℕ) (turns : List ScriptTurn) (turn : ScriptTurn) → AreProperTurns keypos turns → IsProperTurn keypos turn
    → AreProperTurns keypos (turns ++ turn ∷ [])
proper_added keypos [] turn h one = (one, tt)
proper_added keypos (t ∷ turns) turn h one = (h.0, proper_added keypos turns turn h.1 one)

count_added : (turns : List ScriptTurn) (turn : ScriptTurn) → count_edits (turns ++ turn ∷ []) ≡ count_edits turns + (length turn.before + length turn.after)
count_added [] turn = omega arith
count_added (t ∷ turns) turn = let rest = count_added turns turn in omega (arith, rest)

-- The store inside got room at `q` for the edits before the turn's call, and at `r` for those behind it.
pub added : (o q r : Known) (turns all : List ScriptTurn) (turn : ScriptTurn) (before after : List Edit) (counts : Counts) (spare made more : ℕ)
    (waiting : List Edit) → IsKeptWith o turns counts spare made waiting → IsProperTurn o.keypos turn
    → Stays o q → o.spare + length before ≤ q.spare → before ≡ turn.before
    → Stays q r → q.spare + length after ≤ r.spare → after ≡ turn.after → all ≡ turns ++ turn ∷ [] → (made + 1 < 2 ^ 64) × (more ≡ made + 1)
    → IsKeptWith r all counts spare more waiting
added o q r turns all turn before after counts spare made more waiting kept proper first room_before e second room_after f whole next =
    let long = ap (λ (ts : List ScriptTurn). length ts) whole in
    let longer = length-append turns (turn ∷ []) in
    let many = ap count_edits whole in
    let more_edits = count_added turns turn in
    record {
      owned = stays_owned q r second (stays_owned o q first kept.owned);
      proper = subst (λ (ts : List ScriptTurn). AreProperTurns r.keypos ts) (sym whole)
          (subst (λ (n : ℕ). AreProperTurns n (turns ++ turn ∷ [])) (sym (second.same.keypos ∙ first.same.keypos))
          (proper_added o.keypos turns turn kept.proper proper));
      waiting_proper = subst (λ (n : ℕ). AreProper n waiting) (sym (second.same.keypos ∙ first.same.keypos)) kept.waiting_proper;
      closed = λ none. kept.closed (sym (second.run ∙ first.run) ∙ none);
      room = omega (arith, many, more_edits, kept.room, room_before, room_after, ap (λ (es : List Edit). length es) e, ap (λ (es : List Edit). length es) f);
      counted = record {
        busy = omega (arith, long, longer, kept.counted.busy, next.1);
        full = omega (arith, long, longer, kept.counted.full, next.1);
        deep = omega (arith, long, longer, kept.counted.deep, next.1);
        worn = omega (arith, long, longer, kept.counted.worn, next.1);
        most = omega (arith, next.0, next.1);
      };
    }
