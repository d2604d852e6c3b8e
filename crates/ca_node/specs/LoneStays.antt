-- What holds of a pass that is the only one stays so.
use Rattle.std.proofs.Common.{◌≡◌, ◌≢◌, ◌⊎◌, ℕ, zero, suc, ◌/◌, ◌%◌, List, [], ◌∷◌, refl, sym, ◌∙◌, ap, subst, inl, inr, ⊎_elim, arith}
use mathlib.Core.Option.{some, some-injective, some-ne-none}
use lib.ListN.{get_elem?}
use Rattle.ca_model.specs.StoreMap.{StoreMap}
use Rattle.ca_rows.specs.declared.sizes.Sizes.{Sizes}
use Rattle.ca_node.specs.Attempts.{join_of}
use Rattle.ca_node.specs.Inventory.{IsInventory}
use Rattle.ca_node.specs.Links.{IsIn, IsActive}
use Rattle.ca_node.specs.Lone.{attempt_of, IsAlive, IsOfTree, IsLone}
use Rattle.ca_node.specs.Place.{Place, root_place}
use Rattle.ca_node.specs.Reached.{placed_linked}
use Rattle.ca_node.specs.Row.{route_key}
use Rattle.ca_node.specs.Shape.{Role, Base, Route, place_of, IsShape}
use Rattle.ca_node.specs.TreeView.{Way, Border, Begun, Attempt, Inventory, Ranging, Quiet, Unmarked, Marking, Left, Joining, Secured, first_inventory, left_over}

-- An attempt that is the seat's own was so, and one that was is so still, as far as it was.
abbrev pub KeepsOwn : Ranging → Ranging → Type 0
KeepsOwn own own' = (x : Attempt) → (own ≡ Joining x → own' ≡ Joining x) × (own ≡ Secured x → own' ≡ Secured x) × (own' ≡ Joining x → own ≡ Joining x)

-- There was none.
abbrev pub HasNone : Ranging → Type 0
HasNone own = (x : Attempt) → (own ≢ Joining x) × (own ≢ Secured x)

pub none_kept : (own own' : Ranging) → HasNone own → HasNone own' → KeepsOwn own own'
none_kept own own' none none' x = ((λ e. absurd ((none x).0 e)), (λ e. absurd ((none x).1 e)), (λ e. absurd ((none' x).0 e)))

pub none_by_unmarked : (own : Ranging) (begun : _) → own ≡ Unmarked begun → HasNone own
none_by_unmarked own begun is x = (
  (λ e. let c : Unmarked begun ≡ Joining x = sym is ∙ e in absurd cc),
  (λ e. let c : Unmarked begun ≡ Secured x = sym is ∙ e in absurd cc),
)

pub none_by_marking : (own : Ranging) (begun : _) (border : _) → own ≡ Marking begun border → HasNone own
none_by_marking own begun border is x = (
  (λ e. let c : Marking begun border ≡ Joining x = sym is ∙ e in absurd cc),
  (λ e. let c : Marking begun border ≡ Secured x = sym is ∙ e in absurd cc),
)

pub none_by_quiet : (own : Ranging) → own ≡ Quiet → HasNone own
none_by_quiet own is x = (
  (λ e. let c : Quiet ≡ Joining x = sym is ∙ e in absurd cc),
  (λ e. let c : Quiet ≡ Secured x = sym is ∙ e in absurd cc),
)

pub same_kept : (own : Ranging) → KeepsOwn own own
same_kept own x = ((λ e. e), (λ e. e), (λ e. e))

-- It stays its own one as it is pinned, or unpinned.
pub left_kept : (own : Ranging) → KeepsOwn own (left_over own)
left_kept Quiet x = ((λ e. e), (λ e. e), (λ e. e))
left_kept (Unmarked begun) x = ((λ e. absurd cc), (λ e. absurd cc), (λ e. absurd cc))
left_kept (Marking begun border) x = ((λ e. absurd cc), (λ e. absurd cc), (λ e. absurd cc))
left_kept Left x = ((λ e. e), (λ e. e), (λ e. e))
left_kept (Joining y) x = ((λ e. e), (λ e. e), (λ e. e))
left_kept (Secured y) x = ((λ e. e), (λ e. e), (λ e. e))

-- A range that marked something is one that was active, and is so then if it was; or it is active then.
abbrev pub KeepsActive : List ℕ → List ℕ → ℕ → Ranging → Ranging → Type 0
KeepsActive words others pass own own' = (range : Begun) (border : Border) → own' ≡ Marking range border
    → ((own ≡ Marking range border) × (IsActive words pass range.number → IsActive others pass range.number)) ⊎ IsActive others pass range.number

-- None marked anything then.
pub quiet_active : (words others : List ℕ) (pass : ℕ) (own : Ranging) → KeepsActive words others pass own Quiet
quiet_active words others pass own range border is = absurd cc

pub unmarked_active : (words others : List ℕ) (pass : ℕ) (own : Ranging) (begun : Begun) → KeepsActive words others pass own (Unmarked begun)
unmarked_active words others pass own begun range border is = absurd cc

pub left_active : (words others : List ℕ) (pass : ℕ) (own before : Ranging) → KeepsActive words others pass own (left_over before)
left_active words others pass own Quiet range border is = absurd cc
left_active words others pass own (Unmarked begun) range border is = absurd cc
left_active words others pass own (Marking begun to) range border is = absurd cc
left_active words others pass own Left range border is = absurd cc
left_active words others pass own (Joining x) range border is = absurd cc
left_active words others pass own (Secured x) range border is = absurd cc

-- The same range marked it, and what was active is so then.
pub same_active : (words others : List ℕ) (pass : ℕ) (own : Ranging) → ((number : ℕ) → IsActive words pass number → IsActive others pass number)
    → KeepsActive words others pass own own
same_active words others pass own on range border is = inl (is, on range.number)

-- A range that marked something then is one that did, or is active.
abbrev pub MarksActive : List ℕ → ℕ → Ranging → Ranging → Type 0
MarksActive words pass own own' = (range : Begun) (border : Border) → own' ≡ Marking range border
    → (own ≡ Marking range border) ⊎ IsActive words pass range.number

-- So it is where what was active is so then.
pub marks_active : (words others : List ℕ) (pass : ℕ) (own own' : Ranging) → ((number : ℕ) → IsActive words pass number → IsActive others pass number)
    → MarksActive words pass own own' → KeepsActive words others pass own own'
marks_active words others pass own own' on marks range border is = ⊎_elim (λ (was : own ≡ Marking range border). inl (was, on range.number))
    (λ (now : IsActive words pass range.number). inr (on range.number now)) (marks range border is)

-- By what was known of it.
pub active_then : (words others : List ℕ) (pass : ℕ) (own own' : Ranging) → KeepsActive words others pass own own'
    → ((range : Begun) (border : Border) → own ≡ Marking range border → IsActive words pass range.number)
    → (range : Begun) (border : Border) → own' ≡ Marking range border → IsActive others pass range.number
active_then words others pass own own' keeps was range border is = ⊎_elim
    (λ (t : (own ≡ Marking range border) × (IsActive words pass range.number → IsActive others pass range.number)). t.1 (was range border t.0))
    (λ (now : IsActive others pass range.number). now) (keeps range border is)

-- A table and roles in which each route is idle, or one that was there, with the same join word, where each route that hung hangs.
pub lone_still : (words others : List ℕ) (role role' : ℕ → Role) (pass : ℕ) (own own' : Ranging) (ways ways' : List Way) (begun begun' : List Attempt)
    → ((route : ℕ) (place : Place) (key : List ℕ) → role' route ≡ Route place key → (join_of others route % 4 ≡ 0)
    ⊎ ((p : Place) × (k : List ℕ) × (role route ≡ Route p k) × (join_of others route ≡ join_of words route)))
    → ((route : ℕ) (place : Place) (key : List ℕ) → role route ≡ Route place key → (role' route ≡ Route place key) × (join_of others route ≡ join_of words route))
    → ((way : Way) → IsIn way ways' → IsIn way ways ⊎ IsAlive role' way) → KeepsOwn own own' → KeepsActive words others pass own own'
    → begun' ≡ begun → IsLone words role pass own ways begun → IsLone others role' pass own' ways' begun'
lone_still words others role role' pass own own' ways ways' begun begun' back on more keeps keeps_active same l = record {
  prepared = λ route place key attempt e now. ⊎_elim
      (λ (zero : join_of others route % 4 ≡ 0). absurd (omega (arith, zero, now)))
      (λ (t : (p : Place) × (k : List ℕ) × (role route ≡ Route p k) × (join_of others route ≡ join_of words route)).
      (keeps (attempt_of route attempt)).0 (l.prepared route t.0 t.1 attempt t.2 (sym t.3 ∙ now))) (back route place key e);
  secured = λ route place key attempt e now. ⊎_elim
      (λ (zero : join_of others route % 4 ≡ 0). absurd (omega (arith, zero, now)))
      (λ (t : (p : Place) × (k : List ℕ) × (role route ≡ Route p k) × (join_of others route ≡ join_of words route)).
      (keeps (attempt_of route attempt)).1 (l.secured route t.0 t.1 attempt t.2 (sym t.3 ∙ now))) (back route place key e);
  still = λ x e. let s = l.still x ((keeps x).2 e) in let o = on x.route s.0.0 s.0.1 s.0.2 in ((s.0.0, s.0.1, o.0), o.1 ∙ s.1);
  alive = λ way i. ⊎_elim (λ (o : IsIn way ways). (on way.row way.place (route_key way.its) (l.alive way o)).0) (λ (e : IsAlive role' way). e) (more way i);
  latest = λ x i. let t = l.latest x (subst (λ (ys : List Attempt). IsIn x ys) same i) in let o = on x.route t.0.0 t.0.1 t.0.2 in (
    (t.0.0, t.0.1, o.0),
    subst (λ (y : ℕ × List Attempt). IsIn (attempt_of x.route (y.0 / 4)) y.1) (λ k. (sym o.1 k, sym same k)) t.1,
  );
  active = active_then words others pass own own' keeps_active l.active;
}

-- The same table and roles, where the seat knows the same attempts, or none.
pub lone_same : (words : List ℕ) (role : ℕ → Role) (pass : ℕ) (own own' : Ranging) (ways ways' : List Way) (begun begun' : List Attempt)
    → ((way : Way) → IsIn way ways' → IsIn way ways ⊎ IsAlive role way)
    → KeepsOwn own own' → KeepsActive words words pass own own' → (begun' ≡ begun) ⊎ (begun' ≡ []) → IsLone words role pass own ways begun
    → IsLone words role pass own' ways' begun'
lone_same words role pass own own' ways ways' begun begun' more keeps keeps_active same l = record {
  prepared = λ route place key attempt e now. (keeps (attempt_of route attempt)).0 (l.prepared route place key attempt e now);
  secured = λ route place key attempt e now. (keeps (attempt_of route attempt)).1 (l.secured route place key attempt e now);
  still = λ x e. l.still x ((keeps x).2 e);
  alive = λ way i. ⊎_elim (λ (o : IsIn way ways). l.alive way o) (λ (e : IsAlive role way). e) (more way i);
  latest = λ x i. ⊎_elim
      (λ (e : begun' ≡ begun). subst (λ (ys : List Attempt). IsOfTree role x.route × IsIn (attempt_of x.route (join_of words x.route / 4)) ys) (sym e)
      (l.latest x (subst (λ (ys : List Attempt). IsIn x ys) e i)))
      (λ (e : begun' ≡ []). absurd (some-ne-none x (sym (subst (λ (ys : List Attempt). IsIn x ys) e i).1))) same;
  active = active_then words words pass own own' keeps_active l.active;
}

-- A tree that has what each one has at first has no route.
pub no_route_first : (z : Sizes) (words : List ℕ) (role : ℕ → Role) (map : StoreMap) (i : Inventory) → IsShape z words role map → IsInventory words role i
    → i ≡ first_inventory → (route : ℕ) (place : Place) (key : List ℕ) → role route ≢ Route place key
no_route_first z words role map i shape listed is route place key e =
    let here = listed.linked route (placed_linked z words role map shape route place (ap place_of e)) in
    let one : 1 ≡ route = only (subst (λ (y : Inventory). IsIn route y.rows) is here) in
    let base : role 1 ≡ Base root_place = listed.bases 1 root_place (subst (λ (y : Inventory). IsIn (1, root_place) y.bases) (sym is) (0, refl)) in
    let c : Base root_place ≡ Route place key = sym base ∙ (ap role one ∙ e) in absurd cc
  where
    only : IsIn route first_inventory.rows → 1 ≡ route
    only t = by t.0 t.1
      where
        by : (k : ℕ) → get_elem? (1 ∷ []) k ≡ some route → 1 ≡ route
        by zero at = some-injective 1 route at
        by (suc k) at = absurd (some-ne-none route (sym at))
