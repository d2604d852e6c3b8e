-- What steps leave of what a pass knows that helps ranges.
use Rattle.std.proofs.Common.{◌≡◌, ◌≢◌, ◌⊎◌, ℕ, suc, ◌+◌, ◌*◌, ◌/◌, ◌%◌, ◌<◌, ◌≤◌, Bool, true, false, cond, eqb, List, [], ◌∷◌, ◌++◌, length, Some, None, sym, refl, ap, ◌∙◌, subst, inl, inr, ⊎_elim, append-nil, append_assoc, arith, eq-eqb, ne_eqb}
use mathlib.Core.Logic.{dite}
use native.Mathlib.Decide.{ℕ_discrete}
use Rattle.ca_model.specs.History.{History, AreEdits, AreByPasses}
use Rattle.ca_model.specs.Lawful.{IsLawful}
use Rattle.ca_base.specs.declared.stop.Exchange.{Exchange}
use Rattle.ca_base.specs.declared.stop.Exchange.TheVariants as exchange
use Rattle.ca_base.specs.declared.stop.Stop.TheVariants as stop
use Rattle.ca_base.specs.Putting.{stopped}
use Rattle.ca_node.specs.Copies.{Copy, copied}
use Rattle.ca_node.specs.Endings.{HasHelped, helped, too_late}
use Rattle.ca_node.specs.Laws.{in_nothing}
use Rattle.ca_node.specs.Layout.{sequence_unit}
use Rattle.ca_node.specs.Links.{IsIn}
use Rattle.ca_node.specs.Told.{MyTree, HasWatched, IsKnown, but_of, finished_by, met_by, one_more_lost, turned_by, unfinished_by, watched, active_of}
use Rattle.ca_node.specs.Tree.{ArePast}
use Rattle.ca_node.specs.TreeView.{Border, Over, Turns, Unfinished, TreeView}
use Rattle.ca_node.specs.Walking.{IsWalked}
use Rattle.ca_node.specs.declared.cursor.Cursor.{Cursor}
use Rattle.ca_node.specs.declared.cursor.Spot.{Spot}
use Rattle.ca_node.proofs.Looking.{in_more}
use Rattle.ca_rows.specs.Layout.{row_limit}
use Rattle.ca_rows.specs.declared.sizes.Sizes.{Sizes}
use Rattle.ca_range.specs.Ahead.{IsKnownOver}
use Rattle.ca_range.specs.Filling.{links_of}
use Rattle.ca_range.specs.Staying.{IsCounted, OnlySteps, with_steps_of}
use Rattle.ca_range.specs.declared.account.Range.{Range}

-- None is one of them.
pub none_more : (u : TreeView) → (more : History) × (u.seen ≡ u.seen ++ more)
none_more u = ([], sym (append-nil u.seen))

-- A history is known still where neither the log nor what was seen is another one.
pub known_same : (z : Sizes) (u v : TreeView) → v.number ≡ u.number → v.seen ≡ u.seen → v.log ≡ u.log → IsKnown z u → IsKnown z v
known_same z u v n s l k = record {
  lawful = subst (λ (x : TreeView). IsLawful x.number x.seen x.log) (λ i. record u { number = sym n i; seen = sym s i; log = sym l i }) k.lawful;
  past = subst (λ (x : TreeView). ArePast (length x.seen) x.log) (λ i. record u { seen = sym s i; log = sym l i }) k.past;
  edits = subst (λ (h : History). AreEdits z.keypos h) (sym s) k.edits;
  enrolled = subst (λ (p : ℕ). p ≤ z.passes) (sym n) k.enrolled;
  by_passes = subst (λ (h : History). AreByPasses z.passes h) (sym s) k.by_passes;
}

module _ (pass : ℕ) where
  -- A range of another pass is left without those of the pass.
  in_but : (x : Unfinished) (xs : List Unfinished) → x.pass ≢ pass → IsIn x xs → IsIn x (but_of pass xs)
  in_but x [] n i = absurd (in_nothing x [] refl i)
  in_but x (y ∷ ys) n i = dite (ℕ_discrete y.pass pass)
      (λ e. subst (λ (b : Bool). IsIn x (cond b (but_of pass ys) (y ∷ but_of pass ys))) (sym (eq-eqb y.pass pass e))
      (in_but x ys n (⊎_elim (λ (f : y ≡ x). absurd (n (sym (ap (λ (w : Unfinished). w.pass) f) ∙ e))) (λ (j : IsIn x ys). j) (in_more y x ys i))))
      (λ m. subst (λ (b : Bool). IsIn x (cond b (but_of pass ys) (y ∷ but_of pass ys))) (sym (ne_eqb y.pass pass m))
      (⊎_elim (λ (f : y ≡ x). subst (λ (w : Unfinished). IsIn w (y ∷ but_of pass ys)) f (0, refl))
      (λ (j : IsIn x ys). let k = in_but x ys n j in (suc k.0, k.1)) (in_more y x ys i)))

  more_than : (a b : ℕ) → 0 < b → 0 < a + b
  more_than a b l = omega arith

  -- One of the pass is finished where its word isn't that of the range.
  some_finished : (word : ℕ) (x : Unfinished) (xs : List Unfinished) → x.pass ≡ pass → word ≢ sequence_unit * x.number + row_limit → IsIn x xs
      → 0 < finished_by pass word xs
  some_finished word x [] e n i = absurd (in_nothing x [] refl i)
  some_finished word x (y ∷ ys) e n i = ⊎_elim
      (λ (f : y ≡ x). let a = eq-eqb y.pass pass (ap (λ (w : Unfinished). w.pass) f ∙ e) in
      let b = ne_eqb word (sequence_unit * y.number + row_limit) (λ g. n (g ∙ ap (λ (w : Unfinished). sequence_unit * w.number + row_limit) f)) in
      subst (λ (p : Bool × Bool). 0 < cond p.0 (cond p.1 0 1) 0 + finished_by pass word ys) (λ j. (sym a j, sym b j)) (omega arith))
      (λ (j : IsIn x ys). more_than (cond (eqb y.pass pass) (cond (eqb word (sequence_unit * y.number + row_limit)) 0 1) 0) (finished_by pass word ys)
      (some_finished word x ys e n j)) (in_more y x ys i)

  -- What is found unfinished by a word, or is finished.
  goes_by : (word : ℕ) (x : Unfinished) (xs : List Unfinished) → IsIn x xs → IsIn x (unfinished_by pass word xs) ⊎ (0 < finished_by pass word xs)
  goes_by word x xs i = dite (ℕ_discrete x.pass pass)
      (λ e. dite (ℕ_discrete word (sequence_unit * x.number + row_limit)) (λ w. inl (at_head e w)) (λ w. inr (some_finished word x xs e w i)))
      (λ n. inl (behind (in_but x xs n i) (eqb (word % sequence_unit) row_limit)))
    where
      one : Unfinished
      one = record { pass = pass; number = word / sequence_unit }

      behind : IsIn x (but_of pass xs) → (b : Bool) → IsIn x (cond b (one ∷ but_of pass xs) (but_of pass xs))
      behind k true = (suc k.0, k.1)
      behind k false = k

      at_head : x.pass ≡ pass → word ≡ sequence_unit * x.number + row_limit → IsIn x (unfinished_by pass word xs)
      at_head e w = let r : word % sequence_unit ≡ row_limit = omega arith in let q : word / sequence_unit ≡ x.number = omega arith in
          subst (λ (b : Bool). IsIn x (cond b (one ∷ but_of pass xs) (but_of pass xs))) (sym (eq-eqb (word % sequence_unit) row_limit r))
          (subst (λ (w : Unfinished). IsIn x (w ∷ but_of pass xs)) (λ j. record { pass = e j; number = sym q j }) (0, refl))

module _ (u : TreeView) (pass word : ℕ) where
  abbrev turned : Bool → Turns
  turned b = cond b u.turns (record u.turns { helped = u.turns.helped + finished_by pass word u.ranges.unfinished })

  no_fewer : (b : Bool) → u.turns.helped ≤ (turned b).helped
  no_fewer true = omega arith
  no_fewer false = omega arith

  -- A range that was found unfinished is so still by the word, or one is counted.
  watched_goes : (x : Unfinished) → IsIn x u.ranges.unfinished → IsIn x (met_by pass word u) ⊎ (u.turns.helped < (turned_by pass word u).helped)
  watched_goes x i = dite (ℕ_discrete pass u.number)
      (λ e. inl (subst (λ (b : Bool). IsIn x (cond b u.ranges.unfinished (unfinished_by pass word u.ranges.unfinished))) (sym (eq-eqb pass u.number e)) i))
      (λ n. subst (λ (b : Bool). IsIn x (cond b u.ranges.unfinished (unfinished_by pass word u.ranges.unfinished)) ⊎ (u.turns.helped < (turned b).helped))
      (sym (ne_eqb pass u.number n))
      (⊎_elim (λ (j : IsIn x (unfinished_by pass word u.ranges.unfinished)). inl j)
      (λ (l : 0 < finished_by pass word u.ranges.unfinished). inr (omega arith)) (goes_by pass word x u.ranges.unfinished i)))

-- One of another pass that was found unfinished is counted where it isn't the active one.
pub over_counted : (range : Range) (m m' : MyTree) (word : ℕ) → HasWatched range.owner m word m' → range.owner ≢ m.0.upper.number
    → ¬ (active_of word ≡ Some range.number) → IsCounted range m.0.upper m'.0.upper
over_counted range m m' word h other off i = let u = m.0.upper in
    let x : Unfinished = record { pass = range.owner; number = range.number } in
    let some = some_finished range.owner word x u.ranges.unfinished refl (λ w. off (is_on w)) i in
    subst (λ (y : MyTree). u.turns.helped < y.0.upper.turns.helped) (sym h.now)
    (subst (λ (b : Bool). u.turns.helped < (turned u range.owner word b).helped) (sym (ne_eqb range.owner u.number other)) (omega arith))
  where
    is_on : word ≡ sequence_unit * range.number + row_limit → active_of word ≡ Some range.number
    is_on w = let r : word % sequence_unit ≡ row_limit = omega arith in let q : word / sequence_unit ≡ range.number = omega arith in
        ap (λ (b : Bool). cond b (Some (word / sequence_unit)) None) (eq-eqb (word % sequence_unit) row_limit r) ∙ ap (λ (n : ℕ). Some n) q

pub steps_none : {z : Sizes} (u : TreeView) → OnlySteps z 0 u u
steps_none u = record {
  only = refl;
  seen = none_more u;
  over = λ x i. i;
  lost_is = omega arith;
  known = λ k. k;
  helped = omega arith;
  unfinished = λ x i. inl i;
  joins = omega arith;
  joined = omega arith;
}

pub steps_both : {z : Sizes} {n : ℕ} (u v w : TreeView) → OnlySteps z 0 u v → OnlySteps z n v w → OnlySteps z n u w
steps_both u v w a b = let less = a.helped in let less' = b.helped in let lost = a.lost_is in let lost' = b.lost_is in
    let joins = a.joins in let joins' = b.joins in let joined = a.joined in let joined' = b.joined in record {
      only = b.only ∙ ap (λ (x : TreeView). with_steps_of x w) a.only;
      seen = (a.seen.0 ++ b.seen.0, b.seen.1 ∙ (ap (λ (h : History). h ++ b.seen.0) a.seen.1 ∙ append_assoc u.seen a.seen.0 b.seen.0));
      over = λ x i. b.over x (a.over x i);
      lost_is = omega arith;
      known = λ k. b.known (a.known k);
      helped = omega arith;
      unfinished = λ x i. ⊎_elim
          (λ (j : IsIn x v.ranges.unfinished). ⊎_elim (λ (k : IsIn x w.ranges.unfinished). inl k)
          (λ (l : v.turns.helped < w.turns.helped). inr (omega arith)) (b.unfinished x j))
          (λ (l : u.turns.helped < v.turns.helped). inr (omega arith)) (a.unfinished x i);
      joins = omega arith;
      joined = omega arith;
    }

-- A range was counted, by these steps or by what came then.
pub counted_both : {z : Sizes} (range : Range) (u v w : TreeView) → OnlySteps z 0 u v → v.turns.helped ≤ w.turns.helped → IsCounted range v w
    → IsCounted range u w
counted_both range u v w a more counted i = let less = a.helped in let x : Unfinished = record { pass = range.owner; number = range.number } in
    ⊎_elim (λ (j : IsIn x v.ranges.unfinished). let then = counted j in omega arith) (λ (l : u.turns.helped < v.turns.helped). omega arith) (a.unfinished x i)

pub steps_watched : {z : Sizes} (u : TreeView) (pass word : ℕ) (borders : List Border) → OnlySteps z 0 u (watched u pass word borders)
steps_watched {z} u pass word borders = record {
  only = refl;
  seen = none_more u;
  over = λ x i. (suc i.0, i.1);
  lost_is = omega arith;
  known = known_same z u (watched u pass word borders) refl refl refl;
  helped = no_fewer u pass word (eqb pass u.number);
  unfinished = watched_goes u pass word;
  joins = omega arith;
  joined = let more = no_fewer u pass word (eqb pass u.number) in omega arith;
}

pub steps_copied : {z : Sizes} (u : TreeView) (new : ℕ) (x : Copy) → OnlySteps z 0 u (copied [] u.ranges new x u)
steps_copied {z} u new x = record {
  only = refl;
  seen = none_more u;
  over = λ x i. i;
  lost_is = omega arith;
  known = known_same z u (copied [] u.ranges new x u) refl refl refl;
  helped = omega arith;
  unfinished = λ x i. inl i;
  joins = omega arith;
  joined = omega arith;
}

pub steps_lost : {z : Sizes} (u : TreeView) → OnlySteps z 1 u (one_more_lost u)
steps_lost {z} u = record {
  only = refl;
  seen = none_more u;
  over = λ x i. i;
  lost_is = refl;
  known = known_same z u (one_more_lost u) refl refl refl;
  helped = omega arith;
  unfinished = λ x i. inl i;
  joins = omega arith;
  joined = omega arith;
}

-- A try lost this exchange.
pub steps_lost_by : {z : Sizes} (u : TreeView) (x : Exchange) → OnlySteps z (links_of x) u (stopped (stop.Lost x) u)
steps_lost_by u exchange.Link = steps_lost u
steps_lost_by u exchange.Head = steps_none u

steps_helped : {z : Sizes} (u : TreeView) (pass number border : ℕ) → OnlySteps z 0 u (helped pass number border u)
steps_helped {z} u pass number border = record {
  only = refl;
  seen = none_more u;
  over = λ x i. (suc i.0, i.1);
  lost_is = omega arith;
  known = known_same z u (helped pass number border u) refl refl refl;
  helped = omega arith;
  unfinished = λ x i. inr (omega arith);
  joins = omega arith;
  joined = omega arith;
}

steps_too_late : {z : Sizes} (u : TreeView) (pass number : ℕ) → OnlySteps z 0 u (too_late pass number u)
steps_too_late {z} u pass number = record {
  only = refl;
  seen = none_more u;
  over = λ x i. (suc i.0, i.1);
  lost_is = omega arith;
  known = known_same z u (too_late pass number u) refl refl refl;
  helped = omega arith;
  unfinished = λ x i. inr (omega arith);
  joins = omega arith;
  joined = omega arith;
}

-- A walk came to a base.
pub steps_by_walk : {z : Sizes} (spot : Spot) (m m' : MyTree) (cursor : Cursor) → IsWalked z spot m cursor m' → OnlySteps z 0 m.0.upper m'.0.upper
steps_by_walk {z} spot m m' cursor w = let u = m.0.upper in record {
  only = ap (λ (x : MyTree). x.0.upper) w.now ∙ sym (ap (λ (x : MyTree). with_steps_of u x.0.upper) w.now);
  seen = (w.more, ap (λ (x : MyTree). x.0.upper.seen) w.now);
  over = subst (λ (x : MyTree). (o : Over) → IsIn o u.ranges.over → IsIn o x.0.upper.ranges.over) (sym w.now) (λ o i. i);
  lost_is = let same = ap (λ (x : MyTree). x.0.upper.lost) w.now in omega arith;
  known = λ k. w.known;
  helped = let same = ap (λ (x : MyTree). x.0.upper.turns.helped) w.now in omega arith;
  unfinished = λ x i. inl (subst (λ (y : MyTree). IsIn x y.0.upper.ranges.unfinished) (sym w.now) i);
  joins = let same = ap (λ (x : MyTree). x.0.upper.joins) w.now in omega arith;
  joined = let same = ap (λ (x : MyTree). x.0.upper.joins) w.now in let alike = ap (λ (x : MyTree). x.0.upper.turns.helped) w.now in omega arith;
}

-- The word of a pass's last range was loaded.
pub steps_by_word : {z : Sizes} (pass word : ℕ) (m m' : MyTree) → HasWatched pass m word m' → OnlySteps z 0 m.0.upper m'.0.upper
steps_by_word {z} pass word m m' h = subst (λ (x : MyTree). OnlySteps z 0 m.0.upper x.0.upper) (sym h.now) (steps_watched m.0.upper pass word h.borders)

-- Another pass's range was decided.
pub steps_by_help : {z : Sizes} (won : Bool) (pass number border : ℕ) (m m' : MyTree) → HasHelped won pass number border m m'
    → OnlySteps z 0 m.0.upper m'.0.upper
steps_by_help {z} true pass number border m m' e = subst (λ (x : MyTree). OnlySteps z 0 m.0.upper x.0.upper) (sym e)
    (steps_helped m.0.upper pass number border)
steps_by_help {z} false pass number border m m' e = subst (λ (x : MyTree). OnlySteps z 0 m.0.upper x.0.upper) (sym e)
    (steps_too_late m.0.upper pass number)

-- So it is counted.
pub one_by_help : (won : Bool) (pass number border : ℕ) (m m' : MyTree) → HasHelped won pass number border m m'
    → m.0.upper.turns.helped < m'.0.upper.turns.helped
one_by_help true pass number border m m' e = let more = ap (λ (x : MyTree). x.0.upper.turns.helped) e in omega arith
one_by_help false pass number border m m' e = let more = ap (λ (x : MyTree). x.0.upper.turns.helped) e in omega arith

-- So it is over.
pub over_by_help : (won : Bool) (range : Range) (border : ℕ) (m m' : MyTree) → HasHelped won range.owner range.number border m m' → IsKnownOver m'.0.upper range
over_by_help true range border m m' e = subst (λ (x : MyTree). IsKnownOver x.0.upper range) (sym e)
    (record { pass = range.owner; below = range.number + 1 }, (0, refl), refl, omega arith)
over_by_help false range border m m' e = subst (λ (x : MyTree). IsKnownOver x.0.upper range) (sym e)
    (record { pass = range.owner; below = range.number + 1 }, (0, refl), refl, omega arith)

-- The same rows are remembered.
pub notes_by_help : (won : Bool) (pass number border : ℕ) (m m' : MyTree) → HasHelped won pass number border m m' → m'.0.upper.notes ≡ m.0.upper.notes
notes_by_help true pass number border m m' e = ap (λ (x : MyTree). x.0.upper.notes) e
notes_by_help false pass number border m m' e = ap (λ (x : MyTree). x.0.upper.notes) e

-- No link was loaded.
pub loads_by_help : (won : Bool) (pass number border : ℕ) (m m' : MyTree) → HasHelped won pass number border m m' → m'.0.upper.loads ≡ m.0.upper.loads
loads_by_help true pass number border m m' e = ap (λ (x : MyTree). x.0.upper.loads) e
loads_by_help false pass number border m m' e = ap (λ (x : MyTree). x.0.upper.loads) e
