-- What calls count, one after another.
use Rattle.std.proofs.Common.{◌≡◌, inr, ℕ, ◌+◌, ◌≤◌, List, [], ◌∷◌, ◌++◌, length, Result, Ok, Err, ap, sym, refl, ◌∙◌, subst, arith, min, vec_len}
use Rattle.ca_model.specs.declared.outcome.Spent.{Spent}
use Rattle.ca_node.specs.Told.{MyTree}
use Rattle.ca_base.specs.declared.stop.Stop.{Stop}
use Rattle.ca_base.specs.declared.stop.Stop.TheVariants as stop
use Rattle.ca_base.specs.Counting.{losses, IsSpent, HasCleared, HasFound, HasMet, HasPutBack, HasStoppedBy, KeepsBack, KeepsMore, PutsBack, TakesKept, TakesTooFew, lost_by}
use Rattle.ca_base.specs.Taking.{TakesForBase, TakesOldest}
use Rattle.ca_node.specs.Layout.{base_form}
use Rattle.ca_base.specs.Writing.{IsRewritten}
use Rattle.ca_rows.specs.declared.kept.Kept.{Kept}
use Rattle.ca_rows.specs.declared.kept.KeptRows.{KeptRows}
use Rattle.ca_rows.specs.declared.view.Pin.{Pin}
use Rattle.ca_rows.specs.Kept.{AreYoung}

-- Two calls, one after the other.
pub spent_both : (a b c : Spent) (k m n : MyTree) → IsSpent a b k m → IsSpent b c m n
    → IsSpent a c k n
spent_both a b c k m n x y = let more = x.more in let more' = y.more in record {
  more = omega arith;
  lost = λ fits. let one = x.lost fits in let two = y.lost (omega arith) in omega arith;
  helped = y.helped ∙ x.helped;
  passed = y.passed ∙ x.passed;
}

-- One exchange was lost, and counted.
pub one_spent : (a b : Spent) (m m' : MyTree) → b.lost ≡ min 4294967295 (a.lost + 1) → (b.helped ≡ a.helped) × (b.passed ≡ a.passed)
    → losses m' ≡ losses m + 1 → IsSpent a b m m'
one_spent a b m m' lost others more = record {
  more = omega arith;
  lost = λ fits. omega arith;
  helped = others.0;
  passed = others.1;
}

-- Nothing was lost.
pub none_spent : (a : Spent) (m m' : MyTree) → losses m' ≡ losses m → IsSpent a a m m'
none_spent a m m' same =
    record { more = omega arith; lost = λ fits. omega arith; helped = refl; passed = refl }

pub met_both : (a b c d : ℕ) (k m n : MyTree) → HasMet a b k m → HasMet c d m n
    → HasMet (a + c) (b + d) k n
met_both a b c d k m n x y = let e = x.0 in let w = x.1 in let e' = y.0 in let w' = y.1 in
    (omega arith, omega arith)

-- Where all kept rows are young none is taken, for whatever form.
pub takes_nothing : (told : ℕ) (likes : List ℕ) (ks : List Kept) → AreYoung told ks
    → TakesKept told likes ks ks
takes_nothing told [] ks young = refl
takes_nothing told (like ∷ likes) ks young =
    (ks, inr (young, refl), takes_nothing told likes ks young)

-- Rows were taken for some forms, and then for others.
pub takes_both : (told : ℕ) (these those : List ℕ) (ks next left : List Kept)
    → TakesKept told these ks next → TakesKept told those next left
    → TakesKept told (these ++ those) ks left
takes_both told [] those ks next left one two =
    subst (λ (l : List Kept). TakesKept told those l left) one two
takes_both told (like ∷ likes) those ks next left one two =
    (one.0, one.1, takes_both told likes those one.0 next left one.2 two)

-- Rows are put back, and then others.
pub keeps_on : (a : ℕ) (k m l : MyTree) (left : List Kept) (kept' kept'' : KeptRows)
    → losses k + a ≤ losses m → losses m ≤ losses l
    → KeepsBack a k m left kept' → PutsBack [] 0 m l kept' kept'' → KeepsBack a k l left kept''
keeps_on a k m l left kept' kept'' more more' one two = let first = one.0 in let last = two.2.0 in
    let long = kept'.rows.ok.0 in let same = ap length two.1 in (
      omega arith,
      λ less. two.2.1 (omega arith) ∙ (two.1 ∙ one.1 (omega arith)),
    )

pub back_both : (likes : List ℕ) (a : ℕ) (k m l : MyTree) (kept kept' kept'' : KeptRows)
    → losses k + a ≤ losses m → losses m ≤ losses l
    → PutsBack likes a k m kept kept' → PutsBack [] 0 m l kept' kept''
    → PutsBack likes a k l kept kept''
back_both likes a k m l kept kept' kept'' more more' one two =
    (one.0, one.1, keeps_on a k m l one.0 kept' kept'' more more' one.2 two)

-- Nothing was put back, and so many exchanges were lost by something else.
keeps_none : (else : ℕ) (m m' : MyTree) (kept kept' : KeptRows) → losses m' ≡ losses m + else
    → kept' ≡ kept → KeepsBack else m m' kept.rows.items kept'
keeps_none else m m' kept kept' lost same = let long = kept.rows.ok.0 in
    let as_many = ap (λ (k : KeptRows). vec_len k.rows) same in
    (omega arith, λ _. ap (λ (k : KeptRows). k.rows.items) same)

pub none_back : (else : ℕ) (m m' : MyTree) (kept kept' : KeptRows) → losses m' ≡ losses m + else
    → kept' ≡ kept → PutsBack [] else m m' kept kept'
none_back else m m' kept kept' lost same =
    (kept.rows.items, refl, keeps_none else m m' kept kept' lost same)

-- No row was taken, nor was one kept that may be.
pub none_put : (why : Stop) (m m' : MyTree) (kept kept' : KeptRows)
    → AreYoung m.0.pin.told kept.rows.items → losses m' ≡ losses m + lost_by why → kept' ≡ kept
    → TakesTooFew [] why m m' kept kept'
none_put why m m' kept kept' young lost same =
    (kept.rows.items, refl, young, keeps_none (lost_by why) m m' kept kept' lost same)

-- Another form was asked for first, and no row was old enough.
pub young_put : {T : Type 0} (r : Result T Stop) (like : ℕ) (likes : List ℕ) (m m' : MyTree)
    (kept kept' : KeptRows) → AreYoung m.0.pin.told kept.rows.items
    → HasPutBack likes r m m' kept kept' → HasPutBack (like ∷ likes) r m m' kept kept'
young_put (Ok x) like likes m m' kept kept' young h = (kept.rows.items, inr (young, refl), h)
young_put (Err why) like likes m m' kept kept' young h =
    (h.0, (kept.rows.items, inr (young, refl), h.1), h.2, h.3)

-- Others would have been asked for then, and none is old enough.
pub asked_more : (why : Stop) (these those : List ℕ) (m m' : MyTree)
    (kept kept' : KeptRows) → TakesTooFew these why m m' kept kept'
    → TakesTooFew (these ++ those) why m m' kept kept'
asked_more why these those m m' kept kept' h = (
  h.0,
  takes_both m.0.pin.told these those kept.rows.items h.0 h.0 h.1
      (takes_nothing m.0.pin.told those h.0 h.2),
  h.2,
  h.3,
)

lost_before : (why : Stop) (m m' : MyTree) → HasStoppedBy why m m' → losses m ≤ losses m'
    → losses m + lost_by why ≤ losses m'
lost_before (stop.Lost e) m m' found more = let lost = found.0 in omega arith
lost_before stop.Empty m m' found more = omega arith
lost_before stop.Worn m m' found more = omega arith

-- Rows were taken; then a try to take more came to nothing, and those are put back.
pub back_after : (why : Stop) (these those : List ℕ) (k m0 m l : MyTree)
    (kept kept0 kept' kept'' : KeptRows) → losses m0 ≡ losses k → m0.0.pin ≡ k.0.pin
    → TakesKept k.0.pin.told these kept.rows.items kept0.rows.items → HasStoppedBy why m0 m
    → losses m0 ≤ losses m → TakesTooFew those why m0 m kept0 kept'
    → losses m ≤ losses l → PutsBack [] 0 m l kept' kept''
    → TakesTooFew (these ++ those) why k l kept kept''
back_after why these those k m0 m l kept kept0 kept' kept'' same pin first found more one more'
    two =
    let on = keeps_on (lost_by why) m0 m l one.0 kept' kept'' (lost_before why m0 m found more) more'
    one.3 two in let sum = on.0 in let told = ap (λ (e : Pin). e.told) pin in (
      one.0,
      takes_both k.0.pin.told these those kept.rows.items kept0.rows.items one.0 first
          (subst (λ (t : ℕ). TakesKept t those kept0.rows.items one.0) told one.1),
      subst (λ (t : ℕ). AreYoung t one.0) told one.2,
      (omega arith, λ less. on.1 (omega arith)),
    )

-- One row more is kept.
pub keeps_last : (form : ℕ) (rows : List ℕ) (row : ℕ) (ks ks' ks'' : List Kept)
    → KeepsMore form rows ks ks' → KeepsMore form (row ∷ []) ks' ks''
    → KeepsMore form (rows ++ row ∷ []) ks ks''
keeps_last form [] row ks ks' ks'' one two =
    subst (λ (l : List Kept). KeepsMore form (row ∷ []) l ks'') one two
keeps_last form (x ∷ xs) row ks ks' ks'' one two =
    (one.0, keeps_last form xs row (ks ++ record { row = x; at = one.0; form = form } ∷ []) ks' ks'' one.1 two)

-- Nothing was put back until a base was to be exchanged.
pub cleared_after : (r : Result (Unit {0}) Stop) (likes : List ℕ) (base : ℕ) (gone : List ℕ)
    (k m l : MyTree) (kept kept0 kept1 kept' : KeptRows)
    → losses m ≡ losses k → TakesKept k.0.pin.told likes kept.rows.items kept0.rows.items
    → kept1 ≡ kept0
    → HasCleared [] base gone r m l kept1 kept' → HasCleared likes base gone r k l kept kept'
cleared_after (Ok x) likes base gone k m l kept kept0 kept1 kept' same first list h = (
  h.0,
  h.1,
  subst (λ (left : List Kept). TakesKept k.0.pin.told likes kept.rows.items left)
      (sym (h.2 ∙ ap (λ (x : KeptRows). x.rows.items) list)) first,
  h.3,
  h.4,
)
cleared_after (Err why) likes base gone k m l kept kept0 kept1 kept' same first list h = let sum = h.2.0 in (
  h.0,
  subst (λ (left : List Kept). TakesKept k.0.pin.told likes kept.rows.items left)
      (sym (h.1 ∙ ap (λ (x : KeptRows). x.rows.items) list)) first,
  (omega arith, λ less. h.2.1 (omega arith)),
)

-- The row for a base was taken first, whatever became of the exchange.
pub for_base : (r : Result (Unit {0}) Stop) (row told : ℕ) (ks left : List Kept)
    → TakesOldest (Ok row) told base_form ks left → TakesForBase r row told ks
for_base (Ok x) row told ks left h = (left, h)
for_base (Err why) row told ks left h = tt

-- Taking came to nothing.
pub cleared_none : (why : Stop) (likes : List ℕ) (m m' : MyTree) (kept kept' : KeptRows)
    → TakesTooFew likes why m m' kept kept'
    → PutsBack likes (lost_by why) m m' kept kept'
cleared_none why likes m m' kept kept' h = (h.0, h.1, h.3)

-- Rows were taken, and nothing was lost from then until a base was to be exchanged.
pub counted_after : (a b c : Spent) (k m m' n : MyTree) → IsSpent a b k m → losses m' ≡ losses m
    → IsSpent b c m' n → IsSpent a c k n
counted_after a b c k m m' n x same y =
    spent_both a b c k m n x (spent_both b b c m m' n (none_spent b m m' same) y)

-- A row that was written tells nothing of the pool.
pub written_met : (row : ℕ) (its : List ℕ) (m m' : MyTree) → IsRewritten row its m m' → HasMet 0 0 m m'
written_met row its m m' w = let empty = ap (λ (y : MyTree). y.0.empty) w.only in
    let worn = ap (λ (y : MyTree). y.0.worn) w.only in (omega arith, omega arith)

pub ended_after : (r : Result (Unit {0}) Stop) (k m n : MyTree) → HasMet 0 0 k m
    → losses m ≡ losses k → HasFound r m n → HasFound r k n
ended_after (Ok x) k m n met same h = (met_both 0 0 0 0 k m n met h.0, h.1 ∙ same)
ended_after (Err (stop.Lost x)) k m n met same h = let more = h.0 in
    (omega arith, met_both 0 0 0 0 k m n met h.1)
ended_after (Err stop.Empty) k m n met same h = met_both 0 0 1 0 k m n met h
ended_after (Err stop.Worn) k m n met same h = met_both 0 0 0 1 k m n met h
