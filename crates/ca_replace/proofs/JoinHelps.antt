-- A try to join the new base of an update helps no operation less: what it found of others' operations counts, and nothing else.
use Rattle.std.proofs.Common.{◌≡◌, ◌≤◌, ℕ, ◌+◌, Bool, true, false, cond, eqb, [], Err, Ok, refl, ap, ◌∙◌, sym, subst, inl, inr, arith}
use Rattle.ca_adapt.specs.declared.adapted.Adapted.{Adapted}
use Rattle.ca_adapt.specs.declared.adapted.Adapted.TheVariants as adapted
use Rattle.ca_adapt.specs.declared.adapted.Why.{Why}
use Rattle.ca_adapt.specs.declared.adapted.Why.TheVariants as why
use Rattle.ca_adapt.specs.declared.joining.Attempt.{Attempt}
use Rattle.ca_adapt.specs.Joins.{HasBegunAt}
use Rattle.ca_adapt.specs.Trying.{HasFoundSibling, HasLooked, IsFoundUnranged, IsJoinOutcome, IsLostTo, IsWhyNotJoined, route_of}
use Rattle.ca_node.specs.Told.{MyTree, HasWatched, finished_by, turned_by}
use Rattle.ca_node.specs.TreeView.{Note, Turns, TreeView}
use Rattle.ca_node.specs.declared.link.Link.{Link}
use Rattle.ca_replace.specs.Attempting.{helps}
use Rattle.ca_rows.specs.declared.sizes.Sizes.{Sizes}

-- No fewer operations were helped, and none where no range of another pass was found unfinished before.
abbrev pub HelpsOn : MyTree → MyTree → Type 0
HelpsOn m m' = (helps m ≤ helps m') × (m.0.upper.ranges.unfinished ≡ [] → helps m' ≡ helps m)

helps_behind : (k m n : MyTree) → helps m ≡ helps k → m.0.upper.ranges.unfinished ≡ k.0.upper.ranges.unfinished → HelpsOn m n → HelpsOn k n
helps_behind k m n same met b = let more = b.0 in (omega arith, λ none. b.1 (met ∙ none) ∙ same)

helps_then : (k m n : MyTree) → HelpsOn k m → helps n ≡ helps m → HelpsOn k n
helps_then k m n a same = let more = a.0 in (omega arith, λ none. same ∙ a.1 none)

none_more : (m m' : MyTree) → helps m' ≡ helps m → HelpsOn m m'
none_more m m' same = (omega arith, λ _. same)

turned_so : (b : Bool) (t : Turns) (more : ℕ) → t.helped ≤ (cond b t (record t { helped = t.helped + more })).helped
turned_so true t more = omega arith
turned_so false t more = omega arith

turned_helped : (owner word : ℕ) (u : TreeView) → u.turns.helped ≤ (turned_by owner word u).helped
turned_helped owner word u = turned_so (eqb owner u.number) u.turns _

turned_none : (b : Bool) (t : Turns) (more : ℕ) → more ≡ 0 → (cond b t (record t { helped = t.helped + more })).helped ≡ t.helped
turned_none true t more none = refl
turned_none false t more none = omega arith

watched_on : (pass word : ℕ) (m m' : MyTree) → HasWatched pass m word m' → HelpsOn m m'
watched_on pass word m m' h = let u = m.0.upper in (
  subst (λ (x : MyTree). helps m ≤ helps x) (sym h.now) (turned_helped pass word u),
  λ none. ap helps h.now
      ∙ turned_none (eqb pass u.number) u.turns (finished_by pass word u.ranges.unfinished) (ap (finished_by pass word) none),
)

unranged_on : (note : Note) (m m' : MyTree) → IsFoundUnranged note m m' → HelpsOn m m'
unranged_on note m m' (inl (none, e)) = none_more m m' (ap helps e)
unranged_on note m m' (inr (one, (word, watched, not))) = watched_on _ word m m' watched

found_on : (z : Sizes) (l : Link) (note : Note) (m : MyTree) (sibling : Note) (m' n : MyTree) → HasFoundSibling z l note m sibling m' → HelpsOn m' n
    → HelpsOn m n
found_on z l note m sibling m' n h on = let led = h.led in
    helps_behind m m' n (ap helps led.now) (ap (λ (x : MyTree). x.0.upper.ranges.unfinished) led.now) on

looked_on : (z : Sizes) (l : Link) (note : Note) (m m' : MyTree) → HasLooked z l note m m' → HelpsOn m m'
looked_on z l note m m' h = found_on z l note m h.sibling h.between m' h.found (unranged_on h.sibling h.between m' h.unranged)

-- An attempt was begun, or none.
begun_same : (route : ℕ) (x : Attempt) (m m' : MyTree) → HasBegunAt route (Ok x) m m' → helps m' ≡ helps m
begun_same route x m m' b = ap helps b.2.5 ∙ ap helps b.2.2.now

unbegun_same : (route : ℕ) (w : Why) (m m' : MyTree) → HasBegunAt route (Err w) m m' → helps m' ≡ helps m
unbegun_same route why.Root m m' b = absurd b.3
unbegun_same route why.OneObject m m' b = absurd b.3
unbegun_same route why.AtLevel m m' b = absurd b.3
unbegun_same route why.SiblingRoute m m' b = absurd b.3
unbegun_same route why.TooMany m m' b = absurd b.3
unbegun_same route why.Taken m m' b = ap helps b.3.1 ∙ ap helps b.2.now
unbegun_same route why.Lost m m' b = ap helps b.3.2 ∙ ap helps b.2.now
unbegun_same route why.NoRow m m' b = absurd b.3
unbegun_same route why.Worn m m' b = ap helps b.3.2 ∙ ap helps b.2.now

-- What became of one that was begun.
lost_same : (x : Attempt) (m m' : MyTree) → IsLostTo x m m' → helps m' ≡ helps m
lost_same x m m' (inl left) = left.0.counts.helped
lost_same x m m' (inr (inl before)) = before.0.helped
lost_same x m m' (inr (inr over)) = over.0.helped

unjoined_on : (z : Sizes) (l : Link) (note : Note) (w : Why) (m m' : MyTree) → IsWhyNotJoined z l note w m m' → HelpsOn m m'
unjoined_on z l note why.Root m m' h = none_more m m' (ap helps h.1)
unjoined_on z l note why.OneObject m m' h = absurd h
unjoined_on z l note why.AtLevel m m' h = absurd h
unjoined_on z l note why.SiblingRoute m m' h = let led = h.1.1 in none_more m m' (ap helps led.now)
unjoined_on z l note why.TooMany m m' h = let led = h.1.1 in none_more m m' (ap helps led.now)
unjoined_on z l note why.Taken m m' (some, inl x) = found_on z l note m x.0 x.1 m' x.2 (watched_on _ x.3.0 x.1 m' x.3.1)
unjoined_on z l note why.Taken m m' (some, inr x) =
    helps_then m x.0 m' (looked_on z l note m x.0 x.1) (unbegun_same (route_of l) why.Taken x.0 m' x.2)
unjoined_on z l note why.Lost m m' (some, (then, looked, none, inl b)) =
    helps_then m then m' (looked_on z l note m then looked) (unbegun_same (route_of l) why.Lost then m' b)
unjoined_on z l note why.Lost m m' (some, (then, looked, none, inr t)) = helps_then m then m' (looked_on z l note m then looked)
    (lost_same t.0 t.1 m' t.3 ∙ begun_same (route_of l) t.0 then t.1 t.2)
unjoined_on z l note why.NoRow m m' (some, (then, looked, one, t)) = helps_then m then m' (looked_on z l note m then looked)
    (t.3.counts.helped ∙ begun_same (route_of l) t.0 then t.1 t.2)
unjoined_on z l note why.Worn m m' (some, (then, looked, inl b)) =
    helps_then m then m' (looked_on z l note m then looked) (unbegun_same (route_of l) why.Worn then m' b)
unjoined_on z l note why.Worn m m' (some, (then, looked, inr (one, t))) = helps_then m then m' (looked_on z l note m then looked)
    (t.3.counts.helped ∙ begun_same (route_of l) t.0 then t.1 t.2)

pub joined_on : (z : Sizes) (l : Link) (note : Note) (a : Adapted) (m m' : MyTree) → IsJoinOutcome z l note a m m' → HelpsOn m m'
joined_on z l note adapted.Stay m m' h = absurd h
joined_on z l note adapted.Split m m' h = absurd h
joined_on z l note adapted.Joined m m' (some, (then, looked, none, same, over, t)) = helps_then m then m' (looked_on z l note m then looked)
    (t.3.helped ∙ begun_same (route_of l) t.0 then t.1 t.2)
joined_on z l note (adapted.NotSplit w) m m' h = absurd h
joined_on z l note (adapted.NotJoined w) m m' h = unjoined_on z l note w m m' h
