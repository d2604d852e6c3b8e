-- What a pass that is alone finds as it looks for the sibling of a base, and as it begins an
-- attempt: nothing is in its way, and it comes first.
use Rattle.std.proofs.Common.{◌≡◌, ◌≢◌, ℕ, ◌%◌, ◌<◌, ◌≤◌, true, false, Some, Result, Ok, Err, IsOk, sym, refl, ap, ◌∙◌, subst, inl, inr, arith}
use Rattle.ca_base.specs.Counting.{losses, HasStoppedBy}
use Rattle.ca_base.specs.declared.stop.Stop.{Stop}
use Rattle.ca_base.specs.declared.stop.Stop.TheVariants as stop
use Rattle.ca_node.specs.JoinSteps.{HasLoadedJoin}
use Rattle.ca_node.specs.LoneStays.{none_by_quiet}
use Rattle.ca_node.specs.Notes.{IsBaseNote}
use Rattle.ca_node.specs.Row.{mark_owner}
use Rattle.ca_node.specs.States.{IsAlone}
use Rattle.ca_node.specs.Told.{MyTree, IsKnown, link_word}
use Rattle.ca_node.specs.TreeView.{Note, Quiet}
use Rattle.ca_node.specs.declared.link.Link.{Link}
use Rattle.ca_node.proofs.LoneLoads.{idle_by_load}
use Rattle.ca_rows.specs.declared.sizes.Sizes.{Sizes}
use Rattle.ca_adapt.specs.Carrying.{outcome_of, why_not}
use Rattle.ca_adapt.specs.Joins.{HasBegunAt}
use Rattle.ca_adapt.specs.Trying.{HasFoundSibling, HasLooked, IsFoundRanged, IsLoneBy, IsLoneTry, IsWhyNotJoined, OnlyLooks, other_link}
use Rattle.ca_adapt.specs.declared.adapted.Adapted.TheVariants as adapted
use Rattle.ca_adapt.specs.declared.adapted.Why.{Why}
use Rattle.ca_adapt.specs.declared.adapted.Why.TheVariants as why
use Rattle.ca_adapt.proofs.LoneTries.{lone_both, lone_looks, lone_none}
use Rattle.ca_adapt.proofs.Looks.{looks_both, looks_found, looks_lost, looks_seen}
use Rattle.ca_adapt.proofs.Outcomes.{begun_counts}
use Rattle.ca_adapt.proofs.Ranged.{owner_in}
use Rattle.ca_adapt.proofs.Unbegun.{unbegun, unbegun_inventory}

-- A pass of a space for one pass, whose last operation that others may meet is over.
pub record IsFree (z : Sizes) (m : MyTree) : Type 0 where
  pub sized : m.0.sizes ≡ z
  pub some_rows : 0 < z.rows
  pub alone : IsAlone z m.0.upper
  pub quiet : m.0.upper.ranges.own ≡ Quiet

pub free_looks : (z : Sizes) (m m' : MyTree) → IsFree z m → OnlyLooks m m' → IsFree z m'
free_looks z m m' f l = record {
  sized = ap (λ (x : MyTree). x.0.sizes) l.raised ∙ f.sized;
  some_rows = f.some_rows;
  alone = (f.alone.0, subst (λ (n : ℕ). 0 < n) (sym l.number) f.alone.1);
  quiet = l.own ∙ f.quiet;
}

-- No attempt is under way.
never_taken : (z : Sizes) (route word : ℕ) (m m' : MyTree) → IsFree z m
    → HasLoadedJoin route m word m' → word % 4 ≡ 0
never_taken z route word m m' f h = let one = f.alone.0 in
    idle_by_load route word m m' h
    (subst (λ (y : Sizes). y.passes ≤ 1) (sym f.sized) (omega (arith, one))) f.alone.1
    (none_by_quiet m.0.upper.ranges.own f.quiet)

-- No range has the sibling.
never_ranged : (z : Sizes) (link : Link) (note sibling : Note) (m then m' : MyTree) → IsFree z m
    → IsKnown z m.0.upper
    → HasFoundSibling z link note m sibling then → ¬ IsFoundRanged sibling then m'
never_ranged z link note sibling m then m' f k found r = (r.1.own r.2 mine) (now.quiet)
  where
    now : IsFree z then
    now = free_looks z m then f
        (looks_seen (link_word (other_link link)) (Some found.row) m then found.led)

    base : IsBaseNote m.0.sizes sibling
    base = subst (λ (n : Note). IsBaseNote m.0.sizes n) found.sibling_is
        (found.led.known (subst (λ (y : Sizes). 0 < y.rows) (sym f.sized) f.some_rows)).0

    mine : mark_owner sibling.its ≡ then.0.upper.number
    mine = let least = (owner_in sibling.place sibling.its base.marked r.3.0).0 in
        let most : mark_owner sibling.its ≤ z.passes =
        subst (λ (y : Sizes). mark_owner sibling.its ≤ y.passes) now.sized (r.1.made r.2) in
        let one = f.alone.0 in let some = now.alone.1 in let few = k.enrolled in
        let same = (looks_seen (link_word (other_link link)) (Some found.row) m then
        found.led).number in omega (arith, least, most, one, some, few, same)

looked_looks : (z : Sizes) (link : Link) (note : Note) (m m' : MyTree) → HasLooked z link note m m'
    → OnlyLooks m m'
looked_looks z link note m m' h = looks_both m h.between m'
    (looks_seen (link_word (other_link link)) (Some h.found.row) m h.between h.found.led)
    (looks_found false h.sibling h.between m' h.unranged)

-- The sibling was looked for, and nothing was tried.
module _ (z : Sizes) (link : Link) (note : Note) (m m' : MyTree) (f : IsFree z m)
    (k : IsKnown z m.0.upper) (l : OnlyLooks m m') where
  not_taken : ¬ IsWhyNotJoined z link note why.Taken m m'
  not_taken (some, inl x) = never_ranged z link note x.0 m x.1 m' f k x.2 x.3
  not_taken (some, inr x) =
      x.2.3.0 (never_taken z _ x.2.0 x.0 x.2.1
      (free_looks z m x.0 f (looked_looks z link note m x.0 x.1)) x.2.2)

  not_lost : ¬ IsWhyNotJoined z link note why.Lost m m'
  not_lost (some, (then, looked, met, inl b)) = let before =
      (looked_looks z link note m then looked).lost in let now = l.lost in
      let word = ap (λ (x : MyTree). x.0.upper.lost) b.2.now in let more =
      ap (λ (x : MyTree). x.0.upper.lost) b.3.2 in
      omega (arith, before, now, word, more)
  not_lost (some, (then, looked, met, inr (x, n, b, inl left))) = let before =
      looks_lost m then (looked_looks z link note m then looked) in
      let now = looks_lost m m' l in let same = (begun_counts _ then n x b).lost in let more =
      left.1 in omega (arith, before, now, same, more)
  not_lost (some, (then, looked, met, inr (x, n, b, inr (inl gone)))) = let before =
      (looked_looks z link note m then looked).passed in let now = l.passed in
      let same = (begun_counts _ then n x b).passed in let more = gone.0.passed in
      omega (arith, before, now, same, more)
  not_lost (some, (then, looked, met, inr (x, n, b, inr (inr late)))) = let before =
      (looked_looks z link note m then looked).passed in let now = l.passed in
      let same = (begun_counts _ then n x b).passed in let more = late.0.passed in
      omega (arith, before, now, same, more)

  pub lone_looked : (w : Why) → IsWhyNotJoined z link note w m m'
      → IsLoneTry (adapted.NotJoined w) m m'
  lone_looked why.Taken h = absurd (not_taken h)
  lone_looked why.Lost h = absurd (not_lost h)
  lone_looked why.Root h =
      record { by = lone_looks 1 m m' l; free = λ e. absurd cc; pools = λ e. absurd cc }
  lone_looked why.OneObject h = absurd h
  lone_looked why.AtLevel h = absurd h
  lone_looked why.SiblingRoute h =
      record { by = lone_looks 1 m m' l; free = λ e. absurd cc; pools = λ e. absurd cc }
  lone_looked why.TooMany h =
      record { by = lone_looks 1 m m' l; free = λ e. absurd cc; pools = λ e. absurd cc }
  lone_looked why.NoRow h =
      record { by = lone_looks 1 m m' l; free = λ e. absurd cc; pools = λ e. absurd cc }
  lone_looked why.Worn h =
      record { by = lone_looks 1 m m' l; free = λ e. absurd cc; pools = λ e. absurd cc }

-- Nothing was looked for.
pub lone_root : (m : MyTree) → IsLoneTry (adapted.NotJoined why.Root) m m
lone_root m = record {
  by = lone_none 1 m.0.upper m.0.upper refl refl;
  free =
      λ e. absurd cc;
  pools = λ e. absurd cc;
}

-- Behind a look no attempt was begun: since none of the route can be.
pub lone_unbegun : (z : Sizes) (route : ℕ) (w : Why) (k m m' : MyTree) → IsFree z m
    → IsLoneBy 0 k.0.upper m.0.upper → w ≢ why.Lost
    → HasBegunAt route (Err w) m m' → IsLoneTry (adapted.NotJoined w) k m'
lone_unbegun z route why.Root k m m' f before won b = absurd b.3
lone_unbegun z route why.OneObject k m m' f before won b = absurd b.3
lone_unbegun z route why.AtLevel k m m' f before won b = absurd b.3
lone_unbegun z route why.SiblingRoute k m m' f before won b = absurd b.3
lone_unbegun z route why.TooMany k m m' f before won b = absurd b.3
lone_unbegun z route why.Taken k m m' f before won b =
    absurd (b.3.0 (never_taken z route b.0 m b.1 f b.2))
lone_unbegun z route why.Lost k m m' f before won b = absurd (won refl)
lone_unbegun z route why.NoRow k m m' f before won b = absurd b.3
lone_unbegun z route why.Worn k m m' f before won b = record {
  by = lone_both 0 1 k.0.upper m.0.upper m'.0.upper before (lone_none 1 m.0.upper m'.0.upper
      (ap (λ (x : MyTree). x.0.upper.lost) b.3.2 ∙ ap (λ (x : MyTree). x.0.upper.lost) b.2.now)
      (unbegun_inventory m m' (unbegun route why.Worn m m' b)));
  free = λ e. absurd cc;
  pools = λ e. absurd cc;
}

-- An attempt that was secured was carried out; one that was left was so for want of a row, or since
-- an exchange of the pool's head was lost.
pub lone_done : (r : Result (Unit {0}) Why) (m m' : MyTree) → IsOk r
    → IsLoneBy 1 m.0.upper m'.0.upper → IsLoneTry (outcome_of r) m m'
lone_done (Ok x) m m' ok by = record { by = by; free = λ e. absurd cc; pools = λ e. absurd cc }
lone_done (Err w) m m' ok by = let no : false ≡ true = ok in cc

pub lone_given_up : (why : Stop) (m n l : MyTree) → HasStoppedBy why m n → losses l ≡ losses n
    → IsLoneBy 1 m.0.upper l.0.upper
    → IsLoneTry (adapted.NotJoined (why_not why)) m l
lone_given_up (stop.Lost exchange) m n l s same by = let more = s.0 in let won = by.won in
    record { by = by; free = λ e. absurd cc; pools = λ e. omega arith }
lone_given_up stop.Empty m n l s same by =
    record { by = by; free = λ e. absurd cc; pools = λ e. absurd cc }
lone_given_up stop.Worn m n l s same by =
    record { by = by; free = λ e. absurd cc; pools = λ e. absurd cc }

-- The same behind steps by which no exchange of the head was lost, and none of a link.
pub lone_behind : {T : Type 0} (r : Result T Why) (k m m' : MyTree) → IsLoneBy 0 k.0.upper m.0.upper
    → m.0.lost ≡ k.0.lost → IsLoneTry (outcome_of r) m m'
    → IsLoneTry (outcome_of r) k m'
lone_behind r k m m' before same t = record {
  by = lone_both 0 1 k.0.upper m.0.upper m'.0.upper before t.by;
  free = t.free;
  pools = λ e. subst (λ (n : ℕ). n < m'.0.lost) same (t.pools e);
}
