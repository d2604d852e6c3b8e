-- A range of a pass's own was decided by another one: its run is taken.
use Rattle.std.proofs.Common.{◌≡◌, ◌≢◌, ℕ, ◌+◌, ◌*◌, ◌/◌, ◌%◌, ◌<◌, ◌≤◌, ◌++◌, Bool, true, false, cond, eqb, List, ◌∷◌, sym, refl, ap, ◌∙◌, subst, ⊎_elim, arith, eq-eqb, ne_eqb}
use denote.Ref.{Bor}
use denote.Param.Members.{Shared}
use mathlib.Core.Option.{some}
use Rattle.ca_model.specs.Edges.{Bound, bound_of, is_up_to}
use Rattle.ca_node.specs.Endings.{active_word, decided_word, over_up_to}
use Rattle.ca_node.specs.Layout.{sequence_unit}
use Rattle.ca_node.specs.Links.{IsIn}
use Rattle.ca_node.specs.OwnRanges.{HasFoundRun, IsFoundSo, IsKnownEnded, numbered_by}
use Rattle.ca_node.specs.Told.{MyTree, IsKnown, status_of, with_upper}
use Rattle.ca_node.specs.TreeView.{Begun, Border, Marking, Note}
use Rattle.ca_node.specs.declared.range_state.RangeState.{RangeState}
use Rattle.ca_node.specs.declared.range_state.RangeState.TheVariants.{Idle, Active, Decided}
use Rattle.ca_rows.specs.Layout.{row_limit}
use Rattle.ca_rows.specs.declared.sizes.Sizes.{Sizes}
use Rattle.ca_range.specs.Gathering.{HasLoadedRun, IsBetween}
use Rattle.ca_range.specs.Snapshots.{HasRun}
use Rattle.ca_range.specs.declared.own.Own.{Own}
use Rattle.ca_range.specs.declared.sought.Sought.{Sought}
use Rattle.ca_range.proofs.NextGathered.{needed_on}
use Rattle.ca_range.proofs.OwnEnds.{HasEndedOwn, ended_own}
use Rattle.ca_range.proofs.OwnRuns.{own_run}
use Rattle.ca_range.proofs.Stepping.{known_same}

-- What a word tells that is that of a range that was decided.
decided_is : (k last n : ℕ) → last < row_limit → n ≡ decided_word k last → status_of n ≡ Decided (n / sequence_unit) (n % row_limit)
decided_is k last n l e = let off : n % sequence_unit ≡ 2 * row_limit + last = omega arith in let two : n / row_limit % 4 ≡ 2 = omega arith in
    let other : n % sequence_unit ≢ row_limit = λ on. omega arith in
    ap (λ (b : Bool). cond b (Active (n / sequence_unit))
    (cond (eqb (n / row_limit % 4) 2) (Decided (n / sequence_unit) (n % row_limit)) (Idle (n / sequence_unit)))) (ne_eqb (n % sequence_unit) row_limit other)
    ∙ ap (λ (b : Bool). cond b (Decided (n / sequence_unit) (n % row_limit)) (Idle (n / sequence_unit))) (eq-eqb (n / row_limit % 4) 2 two)

-- the last base of the run, where it was decided
abbrev pub last_in : RangeState → ℕ
last_in (Idle k) = 0
last_in (Active k) = 0
last_in (Decided k last) = last

-- Of a range that is known to be over another pass's decision is found.
pub loaded_by : (state : RangeState) (m m' : MyTree) (n : ℕ) (begun : Begun) (border : Border) → state ≡ status_of n → IsFoundSo m n m' (Marking begun border)
    → IsKnownEnded m.0.upper begun.number → (last : ℕ) × (state ≡ Decided (n / sequence_unit) last) × HasLoadedRun begun border last m m'
loaded_by state m m' n begun border e found over = ⊎_elim
    (λ (a : (n ≡ active_word begun.number) × (m' ≡ with_upper m (numbered_by n m.0.upper)) × ¬ IsKnownEnded m.0.upper begun.number). absurd (a.2 over))
    (λ (f : HasFoundRun m n m' begun border). let small = f.small in let word = f.word in
    let same : f.last ≡ n % row_limit = omega arith in
    (n % row_limit, e ∙ decided_is begun.number f.last n f.small f.word, (n, f, same)))
    found

-- The range is over then.
pub found_so : (z : Sizes) (begun : Begun) (border : Border) (n : ℕ) (m m' : MyTree) → m.0.sizes ≡ z → 0 < z.rows → HasFoundRun m n m' begun border
    → HasEndedOwn z m m'
found_so z begun border n m m' sizes rows f = subst (HasEndedOwn z m) (sym f.now)
    (ended_own z m (m.0.upper.seen ++ f.more) (over_up_to m.0.upper.number begun.number ∷ m.0.upper.ranges.over) f.run (some begun.number)
    m.0.upper.inventory m.0.most (f.more, refl)
    (λ k. known_same z (record m.0.upper { seen = m.0.upper.seen ++ f.more }) _ refl refl refl
    (subst (λ (y : Sizes). IsKnown y (record m.0.upper { seen = m.0.upper.seen ++ f.more })) sizes
    (f.known (subst (λ (y : Sizes). 0 < y.rows) (sym sizes) rows)))) (omega arith))

module _ {F : Type 0} (g : Shared F (Bor (List ℕ) × Unit {0}) Bool) (sought : Sought F) where
  -- It has all up to the upper edge.
  pub found_run : (z : Sizes) (n : ℕ) (m m' : MyTree) (own : Own) (b : IsBetween g sought z m.0.upper own) → m.0.sizes ≡ z → 0 < z.rows → z.leaf ≤ 120
      → IsKnown z m.0.upper → (f : HasFoundRun m n m' b.marking.begun b.marking.border)
      → HasRun g sought z m'.0.upper (record { last = f.last; chained = true; whole = true })
  found_run z n m m' own b sizes rows leaf known f = own_run g sought z m m' b.marking.begun f.more f.last f.run f.seen f.some_row
      (ap (λ (x : MyTree). x.0.upper.ranges.run) f.now) (ap (λ (x : MyTree). x.0.upper.seen) f.now) (ap (λ (x : MyTree). x.0.upper.since) f.now)
      sizes rows leaf ((found_so z b.marking.begun b.marking.border n m m' sizes rows f).only.known known) true (bound_of sought.hi) b.edge
      (subst (λ (top : Bound). (key : List ℕ) → is_up_to top key ≡ true → is_up_to f.seen.shown.high key ≡ true) b.top f.whole)
      (λ e. let no : true ≡ false = e in absurd cc) refl own.number
      (needed_on g sought m.0.upper m'.0.upper own.number (ap (λ (x : MyTree). x.0.upper.number) f.now)
      (λ x i. subst (λ (ns : List Note). IsIn x ns) (sym (ap (λ (y : MyTree). y.0.upper.notes) f.now)) i) b.needed)
