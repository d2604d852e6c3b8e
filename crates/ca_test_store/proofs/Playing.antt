-- A call that was begun, answered inside, and followed by the edits behind it.
use Rattle.std.proofs.Common.{◌≡◌, ℕ, ◌≢◌, List, [], ◌∷◌, ◌++◌, Bool, true, arith, refl, sym, ◌∙◌, ap, subst, Option, None}
use denote.Ref.{Bor}
use denote.Param.Members.{Shared}
use Rattle.ca_model.specs.StoreMap.{StoreMap}
use Rattle.ca_model.specs.History.{Edit, after, by_pass, AreEdits, AreByPasses}
use Rattle.ca_model.specs.Edges.{Bound}
use Rattle.ca_model.specs.Event.{Event, Range, IsAnswer, effect}
use Rattle.ca_model.specs.Runs.{Opens}
use Rattle.ca_model.specs.Known.{Known, Counts, Seen, Meets, around, seen_with, place_of}
use Rattle.ca_test_store.specs.declared.refusal.Call.{Call}
use Rattle.ca_test_store.specs.Script.{ScriptTurn, ScriptedStore, after_edits}
use Rattle.ca_test_store.specs.Inner.{HasMade, Answers, InnerOpens, Begins}
use Rattle.ca_test_store.specs.ScriptedView.{store_with}
use Rattle.ca_test_store.proofs.Answering.{after_pass}
use Rattle.ca_test_store.proofs.Passes.{after_three, edits_append, passes_append, proper_edits, passes_by, others_by}

not_two : (n : ℕ) → n ≡ 1 → 2 ≢ n
not_two n e same = absurd (omega (arith, e, same))

-- The store inside was at `o` after the edits before the call, and nothing waited behind a run.
module _ (a m : ScriptedStore) (o : Known) (turns : List ScriptTurn) (counts : Counts) (spare : ℕ) (asked : Call) (turn : ScriptTurn)
    (waiting : List Edit) (view : store_with o turns counts spare waiting ≡ m) (begins : Begins a m asked turn)
    (kept_closed : o.run ≡ None → waiting ≡ []) where
  none : waiting ≡ []
  none = kept_closed (ap (λ (x : ScriptedStore). x.known.run) view ∙ begins.closed)

  start : Begins a (store_with o turns counts spare []) asked turn
  start = subst (λ (x : ScriptedStore). Begins a x asked turn) (sym (ap (store_with o turns counts spare) (sym none) ∙ view)) begins

  -- In the end it is at `r`, and these edits wait. The call was its event at the state behind the edits before it.
  plays_by : (event : Event) (r : Known) (left : ℕ) (waits : List Edit) → r.keypos ≡ o.keypos → IsAnswer event o.map
      → AreEdits o.keypos (by_pass 1 (effect event)) → after_edits waits r.map ≡ after_edits turn.after (after_edits (effect event) o.map)
      → Meets a.known (store_with r turns counts left waits).known event
  plays_by event r left waits keypos answer own_edits is =
      let own = effect event in
      let earlier = by_pass 2 turn.before in
      let later = by_pass 2 turn.after in
      let whole : after_edits waits r.map ≡ after_edits turn.after (after_edits own (after_edits turn.before a.known.map)) =
      is ∙ ap (λ (n : StoreMap). after_edits turn.after (after_edits own n)) start.map in
      let history = around 1 earlier event later in
      let pass = start.first.pass in
      record {
        earlier = earlier;
        later = later;
        answer = subst (λ (n : StoreMap). IsAnswer event n) (start.map ∙ sym (after_pass 2 turn.before a.known.map)) answer;
        learns = record {
          same = record {
            store = start.same.store;
            keypos = keypos ∙ start.same.keypos;
            pass = start.same.pass;
            passes = start.same.passes;
            alone = start.same.alone;
            sure = start.same.sure;
          };
          map = whole ∙ sym (after_three 2 1 turn.before own turn.after a.known.map)
              ∙ ap (λ (n : ℕ). after (around n earlier event later) a.known.map) (sym pass);
          seen = sym (ap (λ (s : Option Seen). seen_with s (around a.known.pass earlier event later) ((event, place_of a.known earlier event) ∷ []))
              start.first.seen);
          valid = start.valid;
          edits = subst (λ (n : ℕ). AreEdits a.known.keypos (around n earlier event later)) (sym pass)
              (edits_append a.known.keypos (earlier ++ by_pass 1 own) later
              (edits_append a.known.keypos earlier (by_pass 1 own) (proper_edits a.known.keypos 2 turn.before start.proper.before)
              (subst (λ (n : ℕ). AreEdits n (by_pass 1 own)) start.same.keypos own_edits))
              (proper_edits a.known.keypos 2 turn.after start.proper.after));
          passes = subst (λ (n : ℕ). AreByPasses n (around a.known.pass earlier event later)) (sym start.first.passes)
              (subst (λ (n : ℕ). AreByPasses 2 (around n earlier event later)) (sym pass)
              (passes_append 2 (earlier ++ by_pass 1 own) later
              (passes_append 2 earlier (by_pass 1 own) (passes_by 2 2 turn.before (omega arith) (omega arith))
              (passes_by 2 1 own (omega arith) (omega arith)))
              (passes_by 2 2 turn.after (omega arith) (omega arith))));
        };
        others_earlier = others_by a.known.pass 2 turn.before (not_two a.known.pass pass);
        others_later = others_by a.known.pass 2 turn.after (not_two a.known.pass pass);
        alone = λ h. absurd (let no = sym start.first.alone ∙ h in cc);
        counts = start.counts;
      }

  -- A call inside led to `q`, and the edits behind it to `r`.
  pub plays_met : (q r : Known) (left room : ℕ) (edits : List Edit) → edits ≡ turn.after → (event : Event) → Answers o q room event → HasMade q r edits
      → Meets a.known (store_with r turns counts left waiting).known event
  plays_met q r left room edits behind event answers makes =
      plays_by event r left waiting (makes.keypos ∙ answers.keypos) answers.answer answers.edits
      (ap (λ (w : List Edit). after_edits w r.map) none ∙ makes.map ∙ ap (λ (es : List Edit). after_edits es q.map) behind
      ∙ ap (after_edits turn.after) answers.map)

  -- A run was opened inside, at `q`; the edits behind it wait.
  pub opens_met : {F : Type 0} (g : Shared F (Bor (List ℕ) × Unit {0}) Bool) (f : F) (q : Known) (waits : List Edit) (lo hi : Bound) (want : ℕ)
      → waits ≡ turn.after → (objects : List (List ℕ)) × InnerOpens o q lo hi objects
      → Opens g f a.known (store_with q turns counts spare waits).known lo hi want true
  opens_met g f q waits lo hi want behind opens = record {
    cut = hi;
    objects = opens.0;
    met = plays_by (Range lo hi hi opens.0) q spare waits opens.1.keypos opens.1.answer tt
        (ap (λ (es : List Edit). after_edits es q.map) behind ∙ ap (after_edits turn.after) opens.1.map);
    run = opens.1.run;
    reaches = refl;
  }
