-- What an attempt comes to that met a full base, and tried to split it.
use Rattle.std.proofs.Common.{◌≡◌, ℕ, Result, Ok, Err, sym, refl, ap, subst, inl, arith}
use Rattle.ca_base.specs.declared.stop.Stop.{Stop}
use Rattle.ca_base.specs.Counting.{HasFound, IsSpent}
use Rattle.ca_base.specs.Splitting.{HasSplit}
use Rattle.ca_model.specs.declared.outcome.Spent.{Spent}
use Rattle.ca_node.specs.Told.{MyTree}
use Rattle.ca_node.specs.TreeView.{TreeView}
use Rattle.ca_replace.specs.declared.adapting.Adapting.{Adapting}
use Rattle.ca_replace.specs.declared.adapting.Course.{Course}
use Rattle.ca_replace.specs.Adapting.{Waits, noted}
use Rattle.ca_replace.specs.Attempting.{HasStopped, IsPaid, split_to}
use Rattle.ca_replace.specs.Turning.{course_after}
use Rattle.ca_replace.proofs.GoingOn.{noted_waits, paid_split, paid_unsplit}

-- No update was carried out; whether an exchange of a link was lost is noted.
pub room_waits : (many attempt : ℕ) (r : Result (Unit {0}) Stop) (a : Adapting) (c : Course)
    (u v : TreeView) → c.adapting ≡ a → HasSplit many attempt r u v
    → Waits a (course_after r c).adapting u v
room_waits many attempt (Ok x) a c u v same h = (
  ap (λ (x : Adapting). x.last) same,
  ap (λ (y : TreeView). y.renewal) h.2,
  inl (ap (λ (x : Adapting). x.lost) same, ap (λ (y : TreeView). y.lost) h.2),
  ap (λ (y : TreeView). y.tries) h.2,
)
room_waits many attempt (Err why) a c u v same h = subst
    (λ (x : Adapting × TreeView). Waits a (noted why x.0) u x.1) (λ i. (sym same i, sym h i))
    (noted_waits why a u)

-- What it lost is added up, and the split, where it was carried out.
pub room_paid : (many attempt : ℕ) (r : Result (Unit {0}) Stop) (a : Spent) (c : Course) (m m' : MyTree)
    → HasSplit many attempt r m.0.upper m'.0.upper
    → IsSpent a c.spent m m' → IsPaid a (course_after r c).spent m m'
room_paid many attempt (Ok x) a c m m' h spent =
    paid_split many attempt _ (Ok x) a c.spent m m' h spent refl refl
room_paid many attempt (Err why) a c m m' h spent =
    paid_unsplit many attempt (Err why) a c.spent m m' h spent refl

-- It met the pool by what became of it.
pub room_found : (many attempt : ℕ) (r : Result (Unit {0}) Stop) (m m' : MyTree) → HasFound r m m'
    → HasSplit many attempt r m.0.upper m'.0.upper
    → HasStopped {T = Unit {0}} (Err (split_to r)) m m'
room_found many attempt (Ok x) m m' ended h =
    (ended.0, (let cut = ap (λ (y : TreeView). y.turns.passed) h.2 in omega arith))
room_found many attempt (Err why) m m' ended h = ended
