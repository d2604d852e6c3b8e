-- A call that is refused.
use Rattle.std.proofs.Common.{◌≡◌, ℕ, ◌≢◌, true, false, List, [], ◌++◌, drop, arith, refl, sym, ◌∙◌, ap, subst, Some, None}
use Rattle.ca_model.specs.StoreMap.{StoreMap}
use Rattle.ca_model.specs.History.{Edit, by_pass}
use Rattle.ca_model.specs.Known.{Known, Counts, Declines}
use Rattle.ca_test_store.specs.declared.refusal.Refusal.{Refusal}
use Rattle.ca_test_store.specs.declared.refusal.Call.{Call}
use Rattle.ca_test_store.specs.Script.{ScriptTurn, ScriptedStore, next_turn, after_edits}
use Rattle.ca_test_store.specs.Refusals.{counted}
use Rattle.ca_test_store.specs.Played.{Skips}
use Rattle.ca_test_store.specs.Inner.{HasMade, refusal_at, Refuses}
use Rattle.ca_test_store.specs.ScriptedView.{store_with, IsKeptWith}
use Rattle.ca_test_store.proofs.Passes.{after_two, edits_append, passes_append, others_append, proper_edits, passes_by, others_by}
use Rattle.ca_test_store.proofs.Turns.{turn_proper}

differs : (m n : ℕ) → m ≡ 2 → n ≡ 1 → m ≢ n
differs m n e f same = absurd (omega (arith, e, f, same))

two_not_one : (let m : ℕ = 2 in let n : ℕ = 1 in m ≢ n)
two_not_one = differs 2 1 refl refl

-- The store inside was at `o` before, at `q` after the edits before the call, and at `r` in the end.
module _ (o : Known) (turns left : List ScriptTurn) (counts : Counts) (spare made : ℕ) (asked : Call) (budget : ℕ) (turn : ScriptTurn)
    (waiting : List Edit) (kept : IsKeptWith o turns counts spare made waiting) (next : turn ≡ next_turn turns) (rest : left ≡ drop 1 turns) where
  first_map : (q : Known) (edits : List Edit) → edits ≡ turn.before → HasMade o q edits → q.map ≡ after_edits turn.before o.map
  first_map q edits e makes = makes.map ∙ ap (λ (es : List Edit). after_edits es o.map) e

  module _ (found : Refusal) (refuses : refusal_at asked turn.refusal ≡ Some found) where
    module _ (q r : Known) (more : Counts) (edits behind : List Edit) (e : edits ≡ turn.before) (f : behind ≡ turn.after) (makes : HasMade o q edits)
        (ends : HasMade q r behind) (rises : more ≡ counted found budget counts) where
      last_map : r.map ≡ after_edits turn.after (after_edits turn.before o.map)
      last_map = ends.map ∙ ap (λ (es : List Edit). after_edits es q.map) f ∙ ap (λ (n : StoreMap). after_edits turn.after n) (first_map q edits e makes)

      declines : Declines (store_with o turns counts spare []).known (store_with r left more spare []).known (counted found budget counts)
      declines =
          let proper = turn_proper o.keypos turns turn kept.proper next in
          let earlier = by_pass 2 turn.before in
          let later = by_pass 2 turn.after in
          record {
            learnt = earlier ++ later;
            learns = record {
              same = record { store = refl; keypos = ends.keypos ∙ makes.keypos; pass = refl; passes = refl; alone = refl; sure = refl };
              map = last_map ∙ sym (after_two 2 turn.before turn.after o.map);
              seen = refl;
              valid = kept.owned.ordered;
              edits = edits_append o.keypos earlier later (proper_edits o.keypos 2 turn.before proper.before)
                  (proper_edits o.keypos 2 turn.after proper.after);
              passes = passes_append 2 earlier later (passes_by 2 2 turn.before (omega arith) (omega arith))
                  (passes_by 2 2 turn.after (omega arith) (omega arith));
            };
            others = others_append 1 earlier later (others_by 1 2 turn.before two_not_one) (others_by 1 2 turn.after two_not_one);
            alone = λ h. absurd (let no : false ≡ true = h in cc);
            counts_are = rises;
            unsure = refl;
          }

      skips : Skips (store_with o turns counts spare []) (store_with r left more spare [])
      skips = record {
        turns = rest;
        map = last_map ∙ ap (λ (x : ScriptTurn). after_edits x.after (after_edits x.before o.map)) next;
      }

      -- The call was refused, and learnt of all edits of its turn.
      pub was_refused : (a : ScriptedStore) → store_with o turns counts spare waiting ≡ a → a.known.run ≡ None
          → Refuses a (store_with r left more spare waiting) asked budget found
      was_refused a view closed =
          let none : waiting ≡ [] = kept.closed (ap (λ (x : ScriptedStore). x.known.run) view ∙ closed) in
          let start : store_with o turns counts spare [] ≡ a = ap (store_with o turns counts spare) (sym none) ∙ view in
          subst (λ (w : List Edit). Refuses a (store_with r left more spare w) asked budget found) (sym none)
          (subst (λ (x : ScriptedStore). Refuses x (store_with r left more spare []) asked budget found) start (record {
            refusal_is = ap (λ (x : ScriptTurn). refusal_at asked x.refusal) (sym next) ∙ refuses;
            skips = skips;
            closed = ends.inner.closed;
            declines = declines;
          }))
