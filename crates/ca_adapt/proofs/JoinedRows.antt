-- The joined base took the place of its route, or it didn't: which rows the pass has then, and what
-- it counts.
use Rattle.std.proofs.Common.{◌≡◌, ◌≢◌, ℕ, ◌+◌, Bool, true, false, cond, eqb, min, List, [], ◌∷◌, get_or, sym, refl, ap, ◌∙◌, subst, inl, inr, ⊎_elim, arith}
use Rattle.ca_model.specs.declared.outcome.Spent.{Spent}
use Rattle.ca_node.proofs.HeldRows.{given_fewer, taken_out_more}
use Rattle.ca_node.proofs.Looking.{in_more}
use Rattle.ca_node.proofs.Tallies.{tallied_join}
use Rattle.ca_node.specs.Laws.{in_nothing}
use Rattle.ca_node.specs.Links.{IsIn}
use Rattle.ca_node.specs.Tallied.{IsTallied}
use Rattle.ca_node.specs.Told.{MyTree, IsShownWord, given, taken_out, with_upper}
use Rattle.ca_node.specs.TreeView.{Attempt, Joining, Left, Marking, Quiet, Ranging, Secured, Turns, Unmarked, Way, TreeView, own_behind}
use Rattle.ca_node.specs.Unlinks.{Unlinking, attempt_by, IsUnlinked, HasUnlinked, gone_by, one_unlinking_lost, turns_after, unlinked}
use Rattle.ca_rows.specs.Tallied.{HasTalliedJoin}
use Rattle.ca_rows.specs.declared.kept.KeptRows.{KeptRows}
use Rattle.ca_rows.specs.declared.tally.Tally.{Tally}
use Rattle.ca_base.specs.Counting.{losses, HasMet}
use Rattle.ca_base.specs.Spending.{IsSpentOn}
use Rattle.ca_base.specs.Taking.{AreHeld, AreUnlinked, HasHeld, HasTakenOut, lent_of}
use Rattle.ca_base.proofs.Spends.{rises_not}
use Rattle.ca_base.proofs.Tallies.{tallied_as}
use Rattle.ca_base.proofs.Unlinking.{few_at_once, unlinked_then}
use Rattle.ca_adapt.specs.Finishing.{AreRowsOf}
use Rattle.ca_adapt.specs.declared.finishing.Union.{Union}

-- Behind the exchange the seat lends what it lent.
lent_cond : (b c : Bool) (y : Attempt) → lent_of
    (cond b (cond c Quiet (Secured y)) (Secured y)) ≡ []
lent_cond true true y = refl
lent_cond true false y = refl
lent_cond false c y = refl

lent_behind : (x : Attempt) (own : Ranging) → lent_of (own_behind x own) ≡ lent_of own
lent_behind x Quiet = refl
lent_behind x (Unmarked begun) = refl
lent_behind x (Marking begun border) = refl
lent_behind x Left = refl
lent_behind x (Joining y) = refl
lent_behind x (Secured y) = lent_cond (eqb y.route x.route) (eqb y.number x.number) y

-- After the exchange the route and both bases are unlinked, and the pass has no other row.
pub joined_rows : (rows : ℕ) (kept kept' : KeptRows) (m m' : MyTree) (new : ℕ) (x : Unlinking)
    (out : Union) → AreRowsOf x out → IsUnlinked new x m m'
    → kept' ≡ kept → AreHeld rows kept.rows m.0 (new ∷ [])
    → AreUnlinked rows kept'.rows m'.0 (out.attempt.route ∷ out.left ∷ out.right ∷ [])
joined_rows rows kept kept' m m' new x out are d too h =
    let comes : List ℕ = new ∷ [] in let goes : List ℕ = gone_by x in
    let then = unlinked_then rows kept.rows m.0.claims (lent_of m.0.upper.ranges.own) comes goes h.0
    d.unclaimed in
    let came = given_fewer comes m.0.claims (in_nothing new [] refl, tt)
    (λ r i. let own = (h.0.each r i).2 in (own.0, own.2)) in
    let went = taken_out_more goes (given comes m.0.claims) in let before = h.1.now in let ever =
    h.1.ever in
    let now = subst (λ (y : MyTree × KeptRows). AreUnlinked rows y.1.rows y.0.0 goes)
    (λ i. (sym d.now i, sym too i)) (
      subst (λ (lent : List ℕ). HasTakenOut rows kept.rows
          (taken_out goes (given comes m.0.claims)) lent goes)
          (sym (lent_behind (attempt_by x) m.0.upper.ranges.own)) then,
      record {
        now = omega arith;
        ever = few_at_once goes (given comes m.0.claims) m.0.most ever
            (omega arith);
      },
    ) in
    subst (λ (ys : List ℕ). AreUnlinked rows kept'.rows m'.0 ys)
    (λ i. are.route i ∷ are.left i ∷ are.right i ∷ []) now

-- They are three.
not_two : (a b c : ℕ) → a ≢ b → a ≢ c → ¬ IsIn a (b ∷ c ∷ [])
not_two a b c n m i = ⊎_elim (λ (e : b ≡ a). n (sym e))
    (λ (j : IsIn a (c ∷ [])). ⊎_elim (λ (e : c ≡ a). m (sym e))
    (λ (k : IsIn a []). in_nothing a [] refl k) (in_more c a [] j)) (in_more b a (c ∷ []) i)

not_one : (a b : ℕ) → a ≢ b → ¬ IsIn a (b ∷ [])
not_one a b n i = ⊎_elim (λ (e : b ≡ a). n (sym e)) (λ (k : IsIn a []). in_nothing a [] refl k)
    (in_more b a [] i)

pub joined_apart : (new : ℕ) (m m' : MyTree) (x : Unlinking) (out : Union) → AreRowsOf x out
    → IsUnlinked new x m m'
    → (¬ IsIn out.attempt.route (out.left ∷ out.right ∷ [])) × (¬ IsIn out.left (out.right ∷ []))
joined_apart new m m' x out are d =
    subst (λ (y : ℕ × ℕ × ℕ). (¬ IsIn y.0 (y.1 ∷ y.2 ∷ [])) × (¬ IsIn y.1 (y.2 ∷ [])))
    (λ i. (are.route i, are.left i, are.right i)) (
      not_two x.way.row x.left.row x.right.row d.apart.0 d.apart.1,
      not_one x.left.row x.right.row d.apart.2,
    )

-- Where the exchange was lost the same rows are held.
pub held_lost : (x : Unlinking) (rows : ℕ) (kept kept' : KeptRows) (m m' : MyTree) (held : List ℕ)
    → m' ≡ with_upper m
    (one_unlinking_lost x m.0.upper) → kept' ≡ kept
    → AreHeld rows kept.rows m.0 held → AreHeld rows kept'.rows m'.0 held
held_lost x rows kept kept' m m' held same too h =
    subst (λ (y : MyTree × KeptRows). AreHeld rows y.1.rows y.0.0 held)
    (λ i. (sym same i, sym too i)) (
      subst (λ (lent : List ℕ). HasHeld rows kept.rows m.0.claims lent held)
          (sym (lent_behind (attempt_by x) m.0.upper.ranges.own)) h.0,
      record {
        now = h.1.now;
        ever = h.1.ever;
      },
    )

-- A join that was carried out is counted.
pub tallied_joined : (won : Bool) (new : ℕ) (x : Unlinking) (m m' : MyTree) (v : TreeView)
    (t t' t'' : Tally) → HasUnlinked won new x m m'
    → HasTalliedJoin won t t' → v ≡ m'.0.upper → t'' ≡ t' → IsTallied t m.0.upper → IsTallied t'' v
tallied_joined won new x m m' v t t' t'' d c e same h =
    tallied_as t' t'' m'.0.upper v same e (tallied_join won new x m m' t t' d c h)

-- Nothing was met of the pool.
pub none_met : (m m' : MyTree) → m'.0.empty ≡ m.0.empty → m'.0.worn ≡ m.0.worn → HasMet 0 0 m m'
none_met m m' empty worn = (omega arith, omega arith)

-- One operation more was helped, but where it was counted before.
pub on_joined : (new : ℕ) (x : Unlinking) (a b : Spent) (k m : MyTree) → x.counts ≡ true
    → m.0.upper ≡ unlinked new x k.0.upper → losses m ≡ losses k
    → b.lost ≡ a.lost → b.helped ≡ min (a.helped + 1) 4294967295 → b.passed ≡ a.passed
    → IsSpentOn a b k m
on_joined new x a b k m counts now lost same one passed =
    let turns = ap (λ (y : TreeView). y.turns) now in
    let more : m.0.upper.turns.helped ≡ k.0.upper.turns.helped + 1 =
    ap (λ (t : Turns). t.helped) turns
    ∙ ap (λ (c : Bool). (turns_after c k.0.upper.turns).helped) counts in record {
      lost = rises_not a.lost b.lost (losses k) (losses m) same lost;
      helped = record { more = omega arith; now_is = λ fits. omega arith };
      passed = rises_not a.passed b.passed k.0.upper.turns.passed m.0.upper.turns.passed passed
          (ap (λ (t : Turns). t.passed) turns
          ∙ ap (λ (c : Bool). (turns_after c k.0.upper.turns).passed) counts);
    }

-- The first word of a route that is remembered.
pub way_word : (u : TreeView) (route : ℕ) (way : Way) → IsIn way u.ways → way.row ≡ route
    → IsShownWord u route 0 (get_or way.its 0 0)
way_word u route way i is = (
  way.its,
  inr (inl (
    (way, i, is, refl),
    (omega arith, λ e. absurd cc, λ e. absurd cc, λ e. absurd cc),
  )),
  refl,
)
