-- A snapshot of a pass that is alone.
use Rattle.std.proofs.Common.{◌≡◌, ⊎_elim, ◌<◌, ◌≤◌, ℕ, List, [], ◌∷◌, length, vec_len, Err, if◌then◌else◌, refl, sym, ap, ◌∙◌, subst, arith, eq-eqb}
use Rattle.ca_base.specs.Counting.{losses, HasStoppedBy, TakesKept, TakesTooFew}
use Rattle.ca_base.specs.Crowded.{FindsCrowded, IsCrowded}
use Rattle.ca_base.specs.Taking.{AreHeld}
use Rattle.ca_base.specs.declared.stop.Stop.{Stop}
use Rattle.ca_base.specs.declared.stop.Stop.TheVariants as stop
use Rattle.ca_model.specs.History.{History, by_pass, edits_of_pass, AreByPasses}
use Rattle.ca_model.specs.Lawful.{edits_of_log}
use Rattle.ca_node.specs.Inventory.{HasFewRows}
use Rattle.ca_node.specs.States.{IsAlone}
use Rattle.ca_node.specs.Told.{MyTree, IsKnown}
use Rattle.ca_node.specs.TreeView.{TreeView}
use Rattle.ca_rows.specs.declared.kept.Kept.{Kept}
use Rattle.ca_rows.specs.declared.kept.KeptRows.{KeptRows}
use Rattle.ca_rows.specs.declared.sizes.Sizes.{Sizes}
use Rattle.ca_rows.specs.Kept.{AreYoung, IsTakenOut}
use Rattle.ca_rows.specs.Told.{IsOnly}
use Rattle.ca_range.specs.Gathering.{refused_by}
use Rattle.ca_range.specs.Lonely.{EndsAlone, SnapsAlone}
use Rattle.ca_range.specs.Snapshots.{OnlyRanges}
use Rattle.ca_range.specs.declared.sought.Snapped.{Snapped}
use Rattle.ca_range.proofs.LoneMarks.{only_one, taken_fewer}
use Rattle.ca_range.proofs.LoneSteps.{nothing_ended}
use Rattle.ca_range.proofs.LoneStops.{crowds_now, stopped_empty, stopped_told}

-- What the pass with number 1 made, in order, where there is no other one.
pub own_alone : (h : History) → AreByPasses 1 h → h ≡ by_pass 1 (edits_of_pass 1 h)
own_alone [] by = refl
own_alone (step ∷ steps) by = let lo = by.0 in let hi = by.1 in let one : step.0 ≡ 1 = omega arith in
    ap (λ (n : ℕ). (n, step.1) ∷ steps) one
    ∙ (ap (λ (xs : History). (1, step.1) ∷ xs) (own_alone steps by.2)
    ∙ ap (λ b. by_pass 1 (if b then step.1 ∷ edits_of_pass 1 steps else edits_of_pass 1 steps)) (sym (eq-eqb step.0 1 one)))

-- A pass that is alone has number 1.
first_one : (z : Sizes) (u : TreeView) → IsAlone z u → IsKnown z u → u.number ≡ 1
first_one z u a k = let one = a.0 in let pass = a.1 in let few = k.enrolled in omega arith

-- What a pass that is alone has seen is what its log tells.
pub seen_is : (z : Sizes) (u : TreeView) → IsAlone z u → IsKnown z u → u.seen ≡ by_pass 1 (edits_of_log u.log)
seen_is z u a k = own_alone u.seen (subst (λ (n : ℕ). AreByPasses n u.seen) a.0 k.by_passes)
    ∙ ap (by_pass 1) (ap (λ (n : ℕ). edits_of_pass n u.seen) (sym (first_one z u a k)) ∙ k.lawful.edits)

-- So it learns of nothing while no call is entered in its log.
pub seen_still : (z : Sizes) (u v : TreeView) → IsAlone z u → IsKnown z u → OnlyRanges z u v → v.seen ≡ u.seen
seen_still z u v a k f = seen_is z v (a.0, subst (λ (n : ℕ). 0 < n) (sym (ap (λ (x : TreeView). x.number) f.only)) a.1) (f.known k)
    ∙ (ap (λ (x : TreeView). by_pass 1 (edits_of_log x.log)) f.only ∙ sym (seen_is z u a k))

-- So the snapshot comes out.
pub snaps_alone : (z : Sizes) (come : Snapped) (a b : ℕ) (m n : MyTree) → IsAlone z m.0.upper → IsKnown z m.0.upper
    → OnlyRanges z m.0.upper n.0.upper → HasFewRows m.0.upper → EndsAlone z come a b m n → SnapsAlone z come a b m n
snaps_alone z come a b m n alone known only few e = record {
  goes = record {
    unlost = e.spends.unlost;
    unhelped = e.spends.unhelped;
    passed = e.spends.passed;
    few = e.few;
    keeps = e.spends.keeps;
    bases = e.spends.bases;
    rows = let rows = e.spends.rows in omega arith;
    still = seen_still z m.0.upper n.0.upper alone known only;
    unmet = e.spends.unmet;
  };
  told = e.told;
  crowded = e.crowded;
  few = few;
}

-- No more rows are kept than before some were taken.
pub takes_fewer_all : (told : ℕ) (likes : List ℕ) (ks left : List Kept) → TakesKept told likes ks left → length left ≤ length ks
takes_fewer_all told [] ks left h = let same = ap (λ (l : List Kept). length l) h in omega arith
takes_fewer_all told (like ∷ likes) ks left h = let rest = takes_fewer_all told likes h.0 left h.2 in
    ⊎_elim (λ (some : (row : ℕ) × IsTakenOut told like row ks h.0). let one = taken_fewer told like some.0 ks h.0 some.1 in
    let fewer : length left ≤ length ks = omega arith in fewer)
    (λ (none : AreYoung told ks × (h.0 ≡ ks)). let same = ap (λ (l : List Kept). length l) none.1 in
    let fewer : length left ≤ length ks = omega arith in fewer) h.1

pub took_fewer : (told : ℕ) (likes : List ℕ) (kept kept' : KeptRows) → TakesKept told likes kept.rows.items kept'.rows.items
    → vec_len kept'.rows ≤ vec_len kept.rows
took_fewer told likes kept kept' h = let fewer = takes_fewer_all told likes kept.rows.items kept'.rows.items h in let long = kept.rows.ok.0 in
    let long' = kept'.rows.ok.0 in omega arith

-- Too few rows were free for a range.
pub none_begun : (z : Sizes) (why : Stop) (likes : List ℕ) (kept kept' : KeptRows) (k m n : MyTree) → m.0.sizes ≡ z → n.0.sizes ≡ z → 0 < z.rows
    → IsAlone z m.0.upper → losses m ≡ losses k → m.0.upper.turns ≡ k.0.upper.turns → m.0.upper.inventory ≡ k.0.upper.inventory
    → k.0.upper.ranges.unfinished ≡ [] → m.0.upper.ranges.unfinished ≡ k.0.upper.ranges.unfinished → n.0.upper ≡ m.0.upper
    → (IsOnly m → losses n ≡ losses m) → HasStoppedBy why m n → FindsCrowded {T = ℕ × ℕ} (Err why) m n → TakesTooFew likes why m n kept kept'
    → AreHeld z.rows kept'.rows n.0 [] → EndsAlone z (refused_by why) (vec_len kept.rows) (vec_len kept'.rows) k n
none_begun z why likes kept kept' k m n own own' rows alone lost turns tree unmet same still only found crowded few held =
    let lost' = only (only_one z m own rows alone.0) in
    nothing_ended z (refused_by why) (vec_len kept.rows) (vec_len kept'.rows) k n
    (let fewer = takes_fewer_all m.0.pin.told likes kept.rows.items few.0 few.1 in let back = few.3.0 in let long = kept.rows.ok.0 in omega arith)
    (lost' ∙ lost) (ap (λ (u : TreeView). u.turns) still ∙ turns) (ap (λ (u : TreeView). u.inventory) still ∙ tree)
    (ap (λ (u : TreeView). u.ranges.unfinished) still ∙ (same ∙ unmet)) (stopped_told why m n lost' found)
    (λ e. crowds_now z kept' n (empty why crowded (stopped_empty why e)) held own')
  where
    empty : (why : Stop) → FindsCrowded {T = ℕ × ℕ} (Err why) m n → why ≡ stop.Empty → IsCrowded n
    empty (stop.Lost e) c is = absurd cc
    empty stop.Empty c is = c (only_one z m own rows alone.0) alone.1
    empty stop.Worn c is = absurd cc
