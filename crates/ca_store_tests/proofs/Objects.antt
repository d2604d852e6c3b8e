-- Edits of objects that tests make.
use Rattle.std.proofs.Common.{ℕ, ◌≤◌, ◌-◌, List, [], ◌∷◌, ◌++◌, length, take, drop, sym, ◌∙◌, ap, subst}
use Rattle.std.specs.List.{slice_range}
use Rattle.std.proofs.lemmas.List.{length-take-le, take-append-drop}
use Rattle.ca_term.specs.Tree.{Tree}
use Rattle.ca_model.specs.StoreMap.{Pair, IsPair}
use Rattle.ca_model.specs.History.{Edit}
use Rattle.ca_model.specs.Function.{StandsAt}
use Rattle.ca_explain.proofs.Pairs.{pair_of_object}
use Rattle.ca_table.specs.Codes.{HasObjectCode}
use Rattle.ca_test_store.specs.Script.{IsProper, AreProper}
use Rattle.ca_store_tests.specs.Samples.{HasKeyAt}

-- A part that is cut out of bytes stands there.
pub cut_stands : (bytes : List ℕ) (start end : ℕ) → start ≤ length bytes → StandsAt (slice_range bytes start end) bytes start
cut_stands bytes start end inside = record {
  before = take start bytes;
  behind = drop (end - start) (drop start bytes);
  bytes = sym (take-append-drop start bytes) ∙ ap (λ (rest : List ℕ). take start bytes ++ rest) (sym (take-append-drop (end - start) (drop start bytes)));
  place = sym (length-take-le start bytes inside);
}

-- An object's code with its key's is a pair.
pub has_key : (p : ℕ) (o : Tree) (bytes : List ℕ) (start end : ℕ) → 1 ≤ p → start ≤ length bytes → HasObjectCode p o bytes start end
    → HasKeyAt p bytes start end
has_key p o bytes start end positive within h =
    let pair = pair_of_object p o positive h.bounded (record { object = h.is; fitting = h.fitting }) in
    record {
      rising = h.rising;
      inside = h.inside;
      pair = subst (λ (q : Pair). IsPair p q) (λ i. (sym h.key_is i, sym h.code_is i)) pair;
      stands = cut_stands bytes start end within;
    }

-- Proper edits with one more proper one behind them.
pub proper_added : (p : ℕ) (edits : List Edit) (edit : Edit) → AreProper p edits → IsProper p edit → AreProper p (edits ++ edit ∷ [])
proper_added p [] edit h one = (one, tt)
proper_added p (e ∷ edits) edit h one = (h.0, proper_added p edits edit h.1 one)
