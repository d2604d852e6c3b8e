-- What a pass knows more after a call meets a store's contract.
use Rattle.std.proofs.Common.{◌≡◌, ℕ, ◌≤◌, ◌==◌, Bool, true, false, cond, List, [], ◌∷◌, ◌++◌, length, Some, sym, refl, ap, ◌∙◌, subst, arith, append-nil}
use Rattle.std.proofs.lemmas.Bool.Decides.{nat_tests}
use Rattle.atomic_table.specs.Seated.{TableId}
use Rattle.ca_model.specs.Event.{Event, Entry, effect}
use Rattle.ca_model.specs.History.{Edit, History, state, after, by_pass, edits_of_pass, AreEdits, AreByPasses}
use Rattle.ca_model.specs.Known.{Counts, Meets, Declines}
use Rattle.ca_model.specs.Lawful.{IsPlaceFrom, edits_of_log}
use Rattle.ca_model.specs.Passes.{HasSeen}
use Rattle.ca_model.proofs.Edits.{map_after}
use Rattle.ca_model.proofs.Parts.{by_others, edits_in_parts, log_more, same_behind, second_edits, second_passes}
use Rattle.ca_model.proofs.Passing.{passes_meet}
use Rattle.ca_node.specs.Told.{IsKnown}
use Rattle.ca_node.specs.TreeView.{TreeView}
use Rattle.ca_node.proofs.Logs.{after_more, state_there}
use Rattle.ca_node.proofs.Looking.{further, starts_shorter}
use Rattle.ca_base.specs.Progress.{IsFurther, HasDone, IsRefused}
use Rattle.ca_replace.specs.Resting.{known_of}
use Rattle.ca_range.proofs.LoneSnaps.{own_alone}
use Rattle.ca_rows.specs.declared.sizes.Sizes.{Sizes}

-- What is known is what was seen.
has_seen : (table : TableId) (z : Sizes) (u : TreeView) → IsKnown z u
    → HasSeen (known_of table z u) u.seen u.log
has_seen table z u k = record {
  seen = refl;
  map = sym (ap (λ h. state h (length u.seen)) (sym (append-nil u.seen)) ∙ state_there u.seen []);
  lawful = k.lawful;
  edits = k.edits;
  passes = k.by_passes;
}

-- Where it is so, the pass is the only one that there may be, and has number 1.
by_test : (a b : Bool) → cond a b false ≡ true → (a ≡ true) × (b ≡ true)
by_test true b e = (refl, e)
by_test false b e = cc

same_numbers : (a b : ℕ) → (a == b) ≡ true → a ≡ b
same_numbers a b e = grind (arith, nat_tests, e)

abbrev only_one : ℕ → ℕ → Bool
only_one passes number = cond (passes == 1) (number == 1) false

is_alone : (passes number : ℕ) → only_one passes number ≡ true → (passes ≡ 1) × (number ≡ 1)
is_alone passes number e = let t = by_test (passes == 1) (number == 1) e in
    (same_numbers passes 1 t.0, same_numbers number 1 t.1)

module _ (table : TableId) (z : Sizes) (u v : TreeView) (before : IsKnown z u)
    (behind : IsKnown z v) where
  -- What was learnt since was made by passes that there are.
  learnt_by : (more : History) → v.seen ≡ u.seen ++ more → AreByPasses z.passes more
  learnt_by more whole =
      second_passes z.passes u.seen more (subst (AreByPasses z.passes) whole behind.by_passes)

  -- A pass that is alone learns of its own edits.
  own_more : (more : History) (edits : List Edit) → v.seen ≡ u.seen ++ more
      → edits_of_pass u.number more ≡ edits → only_one z.passes u.number ≡ true
      → more ≡ by_pass u.number edits
  own_more more edits whole own e = let a = is_alone z.passes u.number e in
      subst (λ (n : ℕ). more ≡ by_pass n edits) (sym a.1)
      (own_alone more (subst (λ (n : ℕ). AreByPasses n more) a.0 (learnt_by more whole))
      ∙ ap (by_pass 1) (ap (λ (n : ℕ). edits_of_pass n more) (sym a.1) ∙ own))

  -- What the pass itself edited is what its log has more.
  own_since : {event : Event} (d : HasDone event u v)
      → edits_of_pass u.number d.seen.0 ≡ effect event
  own_since {event} d =
      same_behind (edits_of_pass u.number u.seen) (edits_of_pass u.number d.seen.0) (effect event)
      (sym (edits_in_parts u.number u.seen d.seen.0)
      ∙ (ap (edits_of_pass u.number) (sym d.seen.1)
      ∙ (ap (λ n. edits_of_pass n v.seen) (sym d.number)
      ∙ (behind.lawful.edits ∙ (ap edits_of_log d.log ∙ (log_more u.log event d.at
      ∙ ap (λ (es : List Edit). es ++ effect event) (sym before.lawful.edits)))))))

  -- A call that was entered in the log.
  pub meets : (event : Event) → HasDone event u v
      → Meets (known_of table z u) (known_of table z v) event
  meets event d = passes_meet (known_of table z u) (known_of table z v) event record {
    history = u.seen;
    more = d.seen.0;
    log = u.log;
    at = d.at;
    same = record {
      store = refl;
      keypos = refl;
      pass = d.number;
      passes = refl;
      alone =
          ap (only_one z.passes) d.number;
      sure = refl;
    };
    before = has_seen table z u before;
    behind = subst (λ (x : History × List Entry). HasSeen (known_of table z v) x.0 x.1)
        (λ i. (d.seen.1 i, d.log i)) (has_seen table z v behind);
    from = d.from;
    alone = own_more d.seen.0 (effect event) d.seen.1 (own_since d);
    counts = d.counts;
  }

  -- One that was refused.
  pub declines : (rise : Counts → Counts) → IsRefused rise u v
      → Declines (known_of table z u) (known_of table z v) (rise u.counts)
  declines rise d = let whole = d.seen.1 in
      let own : edits_of_pass u.number v.seen ≡ edits_of_pass u.number u.seen = ap
      (λ n. edits_of_pass n v.seen) (sym d.number)
      ∙ (behind.lawful.edits ∙ (ap edits_of_log d.log ∙ sym before.lawful.edits)) in
      let none = same_behind (edits_of_pass u.number u.seen) (edits_of_pass u.number d.seen.0) []
      (sym (edits_in_parts u.number u.seen d.seen.0) ∙ (ap (edits_of_pass u.number) (sym whole)
      ∙ (own ∙ sym (append-nil (edits_of_pass u.number u.seen))))) in record {
        learnt = d.seen.0;
        learns = record {
          same = record {
            store = refl;
            keypos = refl;
            pass = d.number;
            passes = refl;
            alone =
                ap (only_one z.passes) d.number;
            sure = refl;
          };
          map = ap (λ (h : History). after h []) whole ∙ after_more u.seen d.seen.0 [];
          seen = ap (λ (x : History × List Entry). Some (record { history = x.0; log = x.1 }))
              (λ i. (whole i, (d.log ∙ sym (append-nil u.log)) i));
          valid = map_after z.keypos u.seen [] before.edits tt;
          edits = second_edits z.keypos u.seen d.seen.0
              (subst (AreEdits z.keypos) whole behind.edits);
          passes = learnt_by d.seen.0 whole;
        };
        others = by_others u.number d.seen.0 none;
        alone = own_more d.seen.0 [] whole none;
        counts_are = d.counts;
        unsure = refl;
      }

-- Going further, and further still.
pub further_on : (u v w : TreeView) → IsFurther u v → IsFurther v w → IsFurther u w
further_on u v w a b = record {
  number = b.number ∙ a.number;
  seen = further w.seen v.seen u.seen b.seen a.seen;
  log = b.log ∙ a.log;
  counts = b.counts ∙ a.counts;
}

-- A call that is done after that.
pub done_on : (u v w : TreeView) (event : Event) → IsFurther u v → HasDone event v w
    → HasDone event u w
done_on u v w event a b = record {
  number = b.number ∙ a.number;
  seen = further w.seen v.seen u.seen b.seen a.seen;
  at = b.at;
  from = lower (effect event) (starts_shorter v.seen u.seen a.seen) b.from;
  log = b.log ∙ ap (λ (l : List Entry). l ++ (event, b.at) ∷ []) a.log;
  counts = b.counts ∙ a.counts;
}
  where
    lower : (edits : List Edit) → length u.seen ≤ length v.seen
        → IsPlaceFrom (length v.seen) b.at edits → IsPlaceFrom (length u.seen) b.at edits
    lower [] l p = omega arith
    lower (e ∷ es) l p = omega arith
