-- Fronts: what a pass has seen is handed to another one.
use Rattle.std.proofs.Common.{◌≡◌, ℕ, ◌<◌, ◌≤◌, Bool, true, false, nat_lt, cond, List, [], ◌∷◌, ◌++◌, length, map, set, sym, refl, ap, ◌∙◌, subst, inl, ⊎_elim, arith, append-nil}
use Rattle.std.proofs.lemmas.Bool.Decides.{nat_tests}
use mathlib.Core.Option.{some}
use lib.ListN.{get_elem?}
use Rattle.atomic_table.specs.Table.{Splits, Joins}
use Rattle.atomic_table.proofs.Lists.{at_map, set_else}
use Rattle.ca_model.specs.History.{History, edits_of_pass}
use Rattle.ca_rows.specs.declared.sizes.Sizes.{Sizes}
use Rattle.ca_rows.specs.declared.view.View.{View}
use Rattle.ca_rows.specs.Closed.{joined}
use Rattle.ca_rows.specs.Laws.{Closing}
use Rattle.ca_rows.specs.Rule.{fresh, no_sizes, upper_of}
use Rattle.ca_rows.proofs.Closing.{joins}
use Rattle.ca_rows.proofs.Forking.{forks}
use Rattle.ca_rows.proofs.Making.{at_place}
use Rattle.ca_node.specs.JoinsStay.{nothing_joining}
use Rattle.ca_node.specs.Laws.{noted_alike, no_blank_notes, no_ranging, numbered, relisted, seat_changed, knows_nothing, none_made, in_nothing}
use Rattle.ca_node.specs.Links.{IsLinked, IsLent, IsNoted}
use Rattle.ca_node.specs.Ranging.{IsRanging}
use Rattle.ca_node.specs.Told.{front_of, longer, learnt}
use Rattle.ca_node.specs.Tree.{StartsWith, Knows, IsTree}
use Rattle.ca_node.specs.TreeView.{TreeView, blank}
use Rattle.ca_node.proofs.Looking.{R, further, longer_past}

-- Of two beginnings of one list the shorter one is the beginning of the longer one.
two_first : (a b x y : History) → a ++ x ≡ b ++ y → length a ≤ length b → StartsWith b a
two_first [] b x y e l = (b, refl)
two_first (p ∷ a) [] x y e l = absurd (omega arith)
two_first (p ∷ a) (q ∷ b) x y e l = let head : q ≡ p = cc in let tail : a ++ x ≡ b ++ y = cc in
    let rest = two_first a b x y tail (omega arith) in
    (rest.0, ap (λ h. q ∷ h) rest.1 ∙ ap (λ c. c ∷ (a ++ rest.0)) head)

by_bool : {A : Type 0} (b : Bool) → (b ≡ true → A) → (b ≡ false → A) → A
by_bool true yes_is no_is = yes_is refl
by_bool false yes_is no_is = no_is refl

less_is : (a b : ℕ) → nat_lt a b ≡ true → a < b
less_is a b e = grind (arith, nat_tests)

not_less : (a b : ℕ) → nat_lt a b ≡ false → b ≤ a
not_less a b e = grind (arith, nat_tests)

-- The longer one is as long as each of the two.
pub longer_first : (a b : History) → length a ≤ length (longer a b)
longer_first a b = by_bool (nat_lt (length a) (length b))
    (λ t. subst (λ (c : Bool). length a ≤ length (cond c b a)) (sym t) (let l =
    less_is (length a) (length b) t in omega arith))
    (λ t. subst (λ (c : Bool). length a ≤ length (cond c b a)) (sym t) (omega arith))

-- Where both are beginnings of a history, so is it, and the first is its beginning.
longer_is : (h a b : History) → StartsWith h a → StartsWith h b → StartsWith h (longer a b)
    × StartsWith (longer a b) a
longer_is h a b s t = by_bool (nat_lt (length a) (length b))
    (λ e. subst (λ (c : Bool). StartsWith h (cond c b a) × StartsWith (cond c b a) a) (sym e) (
      t,
      two_first a b s.0 t.0 (sym s.1 ∙ t.1) (let l = less_is (length a) (length b) e in
          omega arith),
    ))
    (λ e. subst (λ (c : Bool). StartsWith h (cond c b a)
    × StartsWith (cond c b a) a) (sym e) (s, ([], sym (append-nil a))))

-- Taking a front in keeps the rule of the tree.
pub tree_learning : Closing IsLinked IsLent IsNoted IsTree learnt (blank 0)
tree_learning = record {
  keeps_closing = λ z made uppers words i j v w f at ne there. let u' : TreeView = learnt v w in
      let us : List TreeView = set uppers i u' in
      let k = relisted z made words f.role uppers us f.history i v (numbered uppers i v u' at
      (λ _. refl)) (f.each_seat i v at) in
      let long =
      longer_is f.history v.seen w.seen k.seen_first (f.each_seat j w there).seen_first in
      let g = seat_changed z made words uppers i v u' f at (λ _. refl) (λ _. refl) (λ _ _ l. l) record {
        made_before = k.made_before;
        alone = k.alone;
        seen_first = long.0;
        since_first = further (longer v.seen w.seen) v.seen v.since long.1 k.since_first;
        lawful = k.lawful;
        past = longer_past (length v.seen) (length (longer v.seen w.seen)) v.log
            (longer_first v.seen w.seen) k.past;
        notes = k.notes;
        links = k.links;
        ways = k.ways;
        way_links = k.way_links;
        one_place = k.one_place;
        joining = k.joining;
        ended = k.ended;
      }
      (f.ranged.each i v at) in
      seat_changed z made words us j w (blank 0) g (set_else uppers i j u' ne ∙ there)
      (λ lo. absurd (omega arith))
      (λ lo. absurd (omega arith))
      (λ _ lo. absurd (omega arith))
      (knows_nothing z made words g.role (set us j (blank 0)) g.history j 0 (omega arith)
      (λ lo. absurd (omega arith))
      (none_made made 0 g.history g.by_passes (inl refl)))
      (no_ranging z words g.role (g.ranged.ends 0) g.history);
  closing_notes = λ words v w r n. inl (noted_alike words v (learnt v w) (λ x i. i) (λ x i. i)
      (λ x i. i) (λ x i. i) (λ x i. i) r n);
  spent_notes = λ words r. no_blank_notes words 0 r;
}

-- A front more.
front_more : (z : Sizes) (made : ℕ) (words : List ℕ) (uppers : List TreeView) (id : ℕ)
    (u : TreeView) → IsTree z made words uppers
    → get_elem? uppers id ≡ some u → IsTree z made words (uppers ++ front_of u ∷ [])
front_more z made words uppers id u f at = let next : List TreeView = uppers ++ front_of u ∷ [] in
    record {
      usable = f.usable;
      history = f.history;
      edits = f.edits;
      by_passes = f.by_passes;
      keypos = f.keypos;
      leaf = f.leaf;
      levels = f.levels;
      role = f.role;
      shape = f.shape;
      ranged = record {
        ends = f.ranged.ends;
        runs = f.ranged.runs;
        made_before = f.ranged.made_before;
        each = λ j v here. ⊎_elim
            (λ (was : get_elem? uppers j ≡ some v). f.ranged.each j v was)
            (λ (t : (j ≡ length uppers) × (front_of u ≡ v)).
            subst (λ (y : TreeView). IsRanging z words f.role (f.ranged.ends y.number) y.since
            f.history y.number y.ranges) t.1
            (no_ranging z words f.role (f.ranged.ends 0) f.history))
            (at_place uppers (front_of u) v j here);
      };
      joined = f.joined;
      lone = λ j v here few lo. ⊎_elim
          (λ (was : get_elem? uppers j ≡ some v). f.lone j v was few lo)
          (λ (t : (j ≡ length uppers) × (front_of u ≡ v)).
          let n : 0 ≡ v.number = ap (λ (x : TreeView). x.number) t.1 in absurd (omega arith))
          (at_place uppers (front_of u) v j here);
      each_seat = λ j v here. ⊎_elim
          (λ (was : get_elem? uppers j ≡ some v). let k = f.each_seat j v was in record {
            made_before = k.made_before;
            alone = λ lo i y there same. ⊎_elim
                (λ (old : get_elem? uppers i ≡ some y). k.alone lo i y old same)
                (λ (t : (i ≡ length uppers) × (front_of u ≡ y)).
                let n : 0 ≡ y.number = ap (λ (x : TreeView). x.number) t.1 in absurd (omega arith))
                (at_place uppers (front_of u) y i there);
            seen_first = k.seen_first;
            since_first = k.since_first;
            lawful = k.lawful;
            past = k.past;
            notes = k.notes;
            links = k.links;
            ways = k.ways;
            way_links = k.way_links;
            one_place = k.one_place;
            joining = k.joining;
            ended = λ x i. let e = k.ended x i in let lo = e.some_number in record {
              some_number = lo;
              made_before = e.made_before;
              lawful = e.lawful;
              gone = λ s y there same. ⊎_elim
                  (λ (old : get_elem? uppers s ≡ some y). e.gone s y old same)
                  (λ (t : (s ≡ length uppers) × (front_of u ≡ y)).
                  let n : 0 ≡ y.number = ap (λ (x : TreeView). x.number) t.1 in
                  absurd (omega arith))
                  (at_place uppers (front_of u) y s there);
            };
          })
          (λ (t : (j ≡ length uppers) × (front_of u ≡ v)).
          subst (Knows z made words f.role next f.history j) t.1
          (front_knows next f.history (f.each_seat id u at).seen_first
          (none_made made 0 f.history f.by_passes (inl refl)) j))
          (at_place uppers (front_of u) v j here);
      inventory = f.inventory;
      listed = f.listed;
      at_first = f.at_first;
      only_one = λ j v here few lo. ⊎_elim
          (λ (was : get_elem? uppers j ≡ some v). f.only_one j v was few lo)
          (λ (t : (j ≡ length uppers) × (front_of u ≡ v)).
          let n : 0 ≡ v.number = ap (λ (x : TreeView). x.number) t.1 in absurd (omega arith))
          (at_place uppers (front_of u) v j here);
    }
  where
    front_knows : (next : List TreeView) (h : History) → StartsWith h u.seen
        → edits_of_pass 0 h ≡ [] → (j : ℕ) → Knows z made words f.role next h j (front_of u)
    front_knows next h first unmade j = record {
      made_before = omega arith;
      alone = λ lo. absurd (omega arith);
      seen_first = first;
      since_first = (u.seen, refl);
      lawful = record { entries = tt; places = tt; edits = unmade };
      past = tt;
      notes = λ note i. absurd (in_nothing note [] refl i);
      links = λ note i. absurd (in_nothing note [] refl i);
      ways = λ way i. absurd (in_nothing way [] refl i);
      way_links = λ way i. absurd (in_nothing way [] refl i);
      one_place = λ a b i. absurd (in_nothing a [] refl i);
      joining = nothing_joining words;
      ended = λ x i. absurd (in_nothing x [] refl i);
    }

module _ (z : Sizes) where
  -- A pass is cut in two: what it has seen goes into a front.
  pub fronts : (id : ℕ) (v : View TreeView)
      → Splits (R z) id v v (fresh no_sizes 0 (front_of v.upper))
  fronts id v s r at = forks IsLinked IsLent IsNoted IsTree z s r id v at (front_of v.upper)
      (λ q n. no_blank_notes s.words 0 q (noted_alike s.words (blank 0) (front_of v.upper)
      (λ x i. i) (λ x i. i) (λ x i. i) (λ x i. i) (λ x i. i) q n))
      (front_more z r.made s.words (map upper_of s.views) id v.upper r.above
      (at_map upper_of s.views id v at))

  -- A pass takes a front in.
  pub learns : (id : ℕ) (v : View TreeView) (seat : ℕ) (w : View TreeView) → v.pin.pinned ≡ false
      → w.pin.pinned ≡ false → w.made ≡ 0
      → Joins (R z) id v seat w (joined learnt v w) (fresh no_sizes 0 (blank 0))
  learns id v seat w out out' none_made_is =
      joins IsLinked IsLent IsNoted IsTree learnt (blank 0) tree_learning z id v w seat out out'
      (λ _ _. none_made_is)
