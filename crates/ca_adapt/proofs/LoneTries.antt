-- What a pass that is alone does to the tree as it joins two bases: no exchange of a link is lost,
-- and the tree doesn't grow but by the joined base.
use Rattle.std.proofs.Common.{◌≡◌, ◌≢◌, ℕ, suc, ◌+◌, ◌<◌, max, Bool, true, false, [], ◌∷◌, length, Result, Err, sym, refl, ap, ◌∙◌, subst, arith}
use Rattle.ca_base.specs.Putting.{stopped}
use Rattle.ca_base.specs.declared.stop.Exchange.TheVariants as exchange
use Rattle.ca_base.specs.declared.stop.Stop.{Stop}
use Rattle.ca_base.specs.declared.stop.Stop.TheVariants as stop
use Rattle.ca_node.specs.declared.link.Link.{Link}
use Rattle.ca_node.specs.JoinSteps.{HasLeftJoin}
use Rattle.ca_node.specs.Inventory.{IsListed, but, row_itself, row_of_base}
use Rattle.ca_node.specs.Links.{IsIn}
use Rattle.ca_node.specs.Place.{Place}
use Rattle.ca_node.specs.States.{IsAlone}
use Rattle.ca_node.specs.Told.{MyTree, IsMissed}
use Rattle.ca_node.specs.TreeView.{Attempt as Joins, Inventory, Note, TreeView}
use Rattle.ca_node.specs.Unlinks.{Unlinking, gone_by, unlinked}
use Rattle.ca_node.proofs.Listing.{but_all_length, but_shorter, in_but}
use Rattle.ca_rows.specs.declared.sizes.Sizes.{Sizes}
use Rattle.ca_adapt.specs.Finishing.{HasPutJoined}
use Rattle.ca_adapt.specs.Joins.{IsMarkedCopy}
use Rattle.ca_adapt.specs.Pairs.{IsLoneMark, IsPair, IsThere}
use Rattle.ca_adapt.specs.Trying.{HasLooked, IsLoneBy, OnlyLooks}
use Rattle.ca_adapt.specs.declared.joining.Attempt.{Attempt}
use Rattle.ca_adapt.specs.declared.marking.Pair.{Pair}

-- A base that is listed isn't missed.
pub never_missed : (z : Sizes) (m : MyTree) (note : Note) → m.0.sizes ≡ z → 0 < z.rows
    → IsMissed note m → IsAlone z m.0.upper
    → ¬ IsThere m.0.upper.inventory note
never_missed z m note own some_rows missed alone there = let here =
    subst (λ (y : Sizes). (0 < y.rows) × IsAlone y m.0.upper) (sym own) (some_rows, alone) in
    missed here.0 here.1 there.1

-- Nothing of that changed.
pub lone_none : (more : ℕ) (u v : TreeView) → v.lost ≡ u.lost → v.inventory ≡ u.inventory
    → IsLoneBy more u v
lone_none more u v lost same = let rows = ap (λ (i : Inventory). length i.rows) same in let bases =
    ap (λ (i : Inventory). length i.bases) same in
    let most = ap (λ (i : Inventory). i.most) same in record {
      won = lost;
      rows_are = omega arith;
      bases_are = omega arith;
      most_are = omega arith;
    }

-- One behind the other.
pub lone_both : (a b : ℕ) (u v w : TreeView) → IsLoneBy a u v → IsLoneBy b v w
    → IsLoneBy (a + b) u w
lone_both a b u v w x y = let rows = x.rows_are in let rows' = y.rows_are in let bases =
    x.bases_are in let bases' = y.bases_are in
    let most = x.most_are in let most' = y.most_are in record {
      won = y.won ∙ x.won;
      rows_are = omega arith;
      bases_are = omega arith;
      most_are = omega arith;
    }

-- what the tree has behind a mark
abbrev marked_inventory : ℕ → Note → Inventory → Inventory
marked_inventory row note i = record {
  rows = row ∷ but row_itself note.row i.rows;
  bases = (row, note.place) ∷ but row_of_base note.row i.bases;
  most = max i.most (length (row ∷ but row_itself note.row i.rows));
}

-- A base took the place of another one that was listed.
pub lone_marked : (z : Sizes) (note : Note) (x : Attempt) (row : ℕ) (u v : TreeView)
    → IsThere u.inventory note → IsMarkedCopy z note x row u v
    → IsLoneMark note u v
lone_marked z note x row u v there c = record {
  by = record {
    won = ap (λ (w : TreeView). w.lost) c.now;
    rows_are = let n = ap (λ (i : Inventory). length i.rows) now in let l =
        but_shorter row_itself note.row u.inventory.rows note.row there.0 refl in
        omega arith;
    bases_are = let n = ap (λ (i : Inventory). length i.bases) now in
        let l = but_shorter row_of_base note.row u.inventory.bases (note.row, note.place) there.1
        refl in omega arith;
    most_are = let n = ap (λ (i : Inventory). i.most) now in let l =
        but_shorter row_itself note.row u.inventory.rows note.row there.0 refl in omega arith;
  };
  rows = λ other ne i. subst (λ (y : Inventory). IsIn other y.rows) (sym now)
      (let k = in_but row_itself note.row u.inventory.rows other i ne in (suc k.0, k.1));
  bases = λ other place ne i. subst (λ (y : Inventory). IsIn (other, place) y.bases) (sym now)
      (let k = in_but row_of_base note.row u.inventory.bases (other, place) i ne in (suc k.0, k.1));
}
  where
    now : v.inventory ≡ marked_inventory row note u.inventory
    now = ap (λ (w : TreeView). w.inventory) c.now
        ∙ ap (λ (n : Note). marked_inventory row n u.inventory) c.old_is

-- Nothing changed at all.
lone_still : (note : Note) (u v : TreeView) → v ≡ u → IsLoneMark note u v
lone_still note u v e = record {
  by = lone_none 0 u v (ap (λ (w : TreeView). w.lost) e) (ap (λ (w : TreeView). w.inventory) e);
  rows = λ row ne i. subst (λ (w : TreeView). IsIn row w.inventory.rows) (sym e) i;
  bases = λ row place ne i. subst (λ (w : TreeView). IsIn (row, place) w.inventory.bases) (sym e) i;
}

-- what a try to mark came to that failed so
abbrev failed : Stop → Result ℕ Stop
failed why = Err why

-- Why a try to mark failed is why its exchange wasn't won: that wasn't lost.
pub not_lost : (r : Result (Unit {0}) Stop) (why : Stop) → r ≡ Err why
    → r ≢ Err (stop.Lost exchange.Link) → failed why ≢ Err (stop.Lost exchange.Link)
not_lost r (stop.Lost exchange.Link) is won e = won is
not_lost r (stop.Lost exchange.Head) is won e = absurd cc
not_lost r stop.Empty is won e = absurd cc
not_lost r stop.Worn is won e = absurd cc

-- None did, and no exchange of a link was lost.
pub lone_unmarked : (note : Note) (why : Stop) (u v : TreeView)
    → failed why ≢ Err (stop.Lost exchange.Link) → v ≡ stopped why u → IsLoneMark note u v
lone_unmarked note (stop.Lost exchange.Link) u v won e = absurd (won refl)
lone_unmarked note (stop.Lost exchange.Head) u v won e = lone_still note u v e
lone_unmarked note stop.Empty u v won e = lone_still note u v e
lone_unmarked note stop.Worn u v won e = lone_still note u v e

-- The sibling of a base is listed still behind the base's mark: it hangs on another link, so that
-- it is another row.
pub sibling_there : (z : Sizes) (u v : TreeView) (pair : Pair) (note sibling : Note)
    → IsPair z u pair note sibling → IsListed u.inventory note
    → IsThere u.inventory sibling → IsLoneMark note u v → IsThere v.inventory sibling
sibling_there z u v pair note sibling p listed there mark = (
  mark.rows sibling.row other there.0,
  mark.bases sibling.row sibling.place other there.1,
)
  where
    other : sibling.row ≢ note.row
    other e = p.apart (sym p.one.at.link ∙ (ap (λ (k : Place). k.link)
        (sym (listed.one sibling.place
        (subst (λ (row : ℕ). IsIn (row, sibling.place) u.inventory.bases) e there.1)))
        ∙ p.other.at.link))

lone_unlinked : (new : ℕ) (x : Unlinking) (u : TreeView) → IsLoneBy 1 u (unlinked new x u)
lone_unlinked new x u = let rows = but_all_length row_itself (gone_by x) u.inventory.rows in
    let bases = but_all_length row_of_base (x.left.row ∷ x.right.row ∷ []) u.inventory.bases in
    record {
      won = refl;
      rows_are = omega arith;
      bases_are = omega arith;
      most_are = omega arith;
    }

-- The route was unlinked; or that exchange was lost, which isn't so where the pass is alone.
pub lone_put : (z : Sizes) (new : ℕ) (x : Unlinking) (u : TreeView) (r : Bool) (m m' : MyTree)
    → (r ≡ false → ¬ IsAlone z m.0.upper) → m.0.upper ≡ u
    → HasPutJoined r new x m m' → IsAlone z u → IsLoneBy 1 u m'.0.upper
lone_put z new x u true m m' won same done alone =
    subst (λ (y : TreeView). IsLoneBy 1 y m'.0.upper) same
    (subst (λ (y : TreeView). IsLoneBy 1 m.0.upper y) (sym done.0) (lone_unlinked new x m.0.upper))
lone_put z new x u false m m' won same done alone =
    absurd (won refl (subst (λ (y : TreeView). IsAlone z y) (sym same) alone))

-- What a look around does, and what an attempt does that is left: nothing of that.
pub lone_looks : (more : ℕ) (m m' : MyTree) → OnlyLooks m m' → IsLoneBy more m.0.upper m'.0.upper
lone_looks more m m' l = lone_none more m.0.upper m'.0.upper l.lost l.inventory

pub lone_left : (b : Bool) (x : Joins) (m m' : MyTree) → HasLeftJoin b x m m'
    → IsLoneBy 1 m.0.upper m'.0.upper
lone_left true x m m' e = lone_none 1 m.0.upper m'.0.upper (ap (λ (y : MyTree). y.0.upper.lost) e)
    (ap (λ (y : MyTree). y.0.upper.inventory) e)
lone_left false x m m' e = lone_none 1 m.0.upper m'.0.upper (ap (λ (y : MyTree). y.0.upper.lost) e)
    (ap (λ (y : MyTree). y.0.upper.inventory) e)

-- The sibling that a pass found which is alone is listed.
pub lone_sibling : (z : Sizes) (link : Link) (note : Note) (m m' : MyTree)
    (l : HasLooked z link note m m') → m.0.sizes ≡ z → 0 < z.rows → IsAlone z m.0.upper
    → IsThere m.0.upper.inventory l.sibling
lone_sibling z link note m m' l own some_rows alone = let here =
    subst (λ (y : Sizes). (0 < y.rows) × IsAlone y m.0.upper) (sym own) (some_rows, alone) in
    let listed = l.found.led.listed here.0 here.1 in
    subst (λ (n : Note). IsThere m.0.upper.inventory n) l.found.sibling_is (listed.row, listed.base)
