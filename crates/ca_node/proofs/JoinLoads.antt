-- A load of the join word of a route that the seat remembers.
use Rattle.std.proofs.Common.{◌≡◌, ◌≢◌, ℕ, suc, ◌+◌, ◌*◌, ◌/◌, ◌%◌, ◌<◌, ◌≤◌, cond, eqb, ◌⊎◌, List, [], ◌∷◌, get_or, sym, refl, ap, ◌∙◌, subst, inl, inr, ⊎_elim, arith, eq-eqb, ne_eqb}
use Rattle.std.proofs.lemmas.Bool.{cases_lt}
use mathlib.Core.Logic.{dite}
use mathlib.Core.Option.{some, none}
use native.Mathlib.Decide.{ℕ_discrete}
use Rattle.atomic_table.specs.Table.{step, keeps, Allows}
use Rattle.atomic_table.proofs.Lists.{at_map}
use Rattle.ca_rows.specs.Calls.{Raises}
use Rattle.ca_rows.specs.Rule.{upper_of}
use Rattle.ca_rows.specs.declared.sizes.Sizes.{Sizes}
use Rattle.ca_model.specs.History.{History}
use Rattle.ca_node.specs.Lone.{IsOfTree, IsLone}
use Rattle.ca_node.specs.Attempts.{join_of, IsJoinWord, HasAttempt, IsSecured}
use Rattle.ca_node.specs.Joining.{AreJoining, IsRemembered, AreFinished, IsJoining}
use Rattle.ca_node.specs.JoinSteps.{join_place, attempt_of, finished_by, secured_by, with_joins, joins_loaded, HasLoadedJoin, LoadsJoin}
use Rattle.ca_node.specs.Laws.{in_nothing, in_one, noted_alike}
use Rattle.ca_node.specs.Links.{IsIn}
use Rattle.ca_node.specs.May.{MayLoad}
use Rattle.ca_node.specs.Row.{route_key}
use Rattle.ca_node.specs.Shape.{Role, Route}
use Rattle.ca_node.specs.Told.{MyTree, with_upper}
use Rattle.ca_node.specs.Tree.{IsAlive, IsDead, IsTrueWay}
use Rattle.ca_node.specs.TreeView.{Note, Way, Attempt, Finished, KnownJoins, Joining, Secured, TreeView}
use Rattle.ca_node.proofs.Listing.{in_either}
use Rattle.ca_node.proofs.Looking.{R, knows_upper, knows_ranges, in_more}

-- By the word, these attempts are finished,
finished_now : (words : List ℕ) (route n : ℕ) → join_of words route ≡ n → AreFinished words (finished_by route n)
finished_now words route n same number less = dite (ℕ_discrete (n % 4) 0)
    (λ (zero : n % 4 ≡ 0). let below : cond (eqb (n % 4) 0) (n / 4 + 1) (n / 4) ≡ n / 4 + 1 = ap (λ b. cond b (n / 4 + 1) (n / 4)) (eq-eqb (n % 4) 0 zero) in
    dite (ℕ_discrete number (n / 4)) (λ (e : number ≡ n / 4). inl (omega arith)) (λ (ne : number ≢ n / 4). inr (omega arith)))
    (λ (busy : n % 4 ≢ 0). let below : cond (eqb (n % 4) 0) (n / 4 + 1) (n / 4) ≡ n / 4 = ap (λ b. cond b (n / 4 + 1) (n / 4)) (ne_eqb (n % 4) 0 busy) in
    inr (omega arith))

-- and this one is secured.
secured_now : (words : List ℕ) (route n : ℕ) → join_of words route ≡ n → (x : Attempt) → IsIn x (secured_by route n)
    → (route ≡ x.route) × IsSecured words x.route x.number
secured_now words route n same x i = dite (ℕ_discrete (n % 4) 2)
    (λ (two : n % 4 ≡ 2). let e : attempt_of route (n / 4) ≡ x = in_one (attempt_of route (n / 4)) x
    (subst (λ b. IsIn x (cond b (attempt_of route (n / 4) ∷ []) [])) (eq-eqb (n % 4) 2 two) i) in
    let here : IsSecured words route (n / 4) = omega arith in
    (ap (λ (y : Attempt). y.route) e, subst (λ (y : Attempt). IsSecured words y.route y.number) e here))
    (λ (ne : n % 4 ≢ 2). absurd (in_nothing x [] refl (subst (λ b. IsIn x (cond b (attempt_of route (n / 4) ∷ []) [])) (ne_eqb (n % 4) 2 ne) i)))

-- A seat that remembers the route knows so much of its join then.
joins_now : (words : List ℕ) (notes : List Note) (ways : List Way) (joins : KnownJoins) (route n : ℕ) → join_of words route ≡ n → IsRemembered ways route
    → IsJoining words notes ways joins → IsJoining words notes ways (joins_loaded route n joins)
joins_now words notes ways joins route n same known k = record {
  hung = k.hung;
  begun = λ x i. ⊎_elim
      (λ (e : attempt_of route (n / 4) ≡ x). let b : HasAttempt words route (n / 4) = omega arith in
      subst (λ (y : Attempt). IsRemembered ways y.route × HasAttempt words y.route y.number) e (known, b))
      (λ (o : IsIn x joins.begun). k.begun x o) (in_more (attempt_of route (n / 4)) x joins.begun i);
  finished = λ x i. ⊎_elim
      (λ (e : finished_by route n ≡ x). subst (λ (y : Finished). IsRemembered ways y.route × AreFinished words y) e (known, finished_now words route n same))
      (λ (o : IsIn x joins.finished). k.finished x o) (in_more (finished_by route n) x joins.finished i);
  secured = λ x i. ⊎_elim
      (λ (o : IsIn x (secured_by route n)). let t = secured_now words route n same x o in (subst (IsRemembered ways) t.0 known, t.1))
      (λ (o : IsIn x joins.secured). k.secured x o) (in_either (secured_by route n) joins.secured x i);
  decided = k.decided;
}

-- The join word of a route that a seat remembers has one of its states: one that was unlinked stays secured.
state_now : (z : Sizes) (words : List ℕ) (role : ℕ → Role) (since history : History) (way : Way) → IsTrueWay z words role since history way
    → AreJoining z words role → IsJoinWord words way.row
state_now z words role since history way t joined = ⊎_elim
    (λ (e : IsAlive role way). joined.states way.row way.place (route_key way.its) e)
    (λ (d : (at : ℕ) × IsDead z words role since history way at). let now = d.1.secured in omega (arith, now)) t.stands

module _ (z : Sizes) where
  pub loads_join : (slots id : ℕ) (me : MyTree) (route word_at : ℕ) → me.0.sizes ≡ z → IsRemembered me.0.upper.ways route → word_at ≡ join_place route
      → Allows (R z) slots id me word_at (λ x. x) (Raises MayLoad LoadsJoin (step slots word_at 0 0 none) me)
  loads_join slots id me route word_at sized known here s r _ at _ = let f = r.above in let d = me.0 in
      let first = at_map upper_of s.views id d at in
      let n : ℕ = get_or s.words word_at 0 in
      let same : join_of s.words route ≡ n = ap (λ (i : ℕ). get_or s.words i 0) (sym here) in
      let k = knows_upper z s r id d at in
      let way = known.0 in let true_way = k.ways way known.1 in
      let here_word : join_of s.words way.row ≡ n = ap (join_of s.words) known.2 ∙ same in
      let state = state_now z s.words f.role d.upper.since f.history way true_way f.joined in
      let ranging = f.ranged.each id d.upper first in
      let lone : d.sizes.passes ≤ 1 → 0 < d.upper.number
      → IsLone s.words f.role d.upper.number d.upper.ranges.own d.upper.ways d.upper.ranges.joins.begun = λ few pass.
      let one : z.passes ≤ 1 = subst (λ (y : Sizes). y.passes ≤ 1) sized few in let within = r.within in f.lone id d.upper first (omega (arith, one, within)) pass in
      let u' : TreeView = with_joins d.upper (joins_loaded route n d.upper.ranges.joins) in
      let told : LoadsJoin (step slots word_at 0 0 none) me n (with_upper me u') = (
        route,
        here,
        record {
          now = refl;
          state = subst (λ w. w % 4 < 3) here_word state;
          own_prepared = λ few pass number e. let l = lone few pass in
              subst (λ t. d.upper.ranges.own ≡ Joining (attempt_of t number)) known.2
              (l.prepared way.row way.place (route_key way.its) number (l.alive way known.1) (here_word ∙ e));
          own_secured = λ few pass number e. let l = lone few pass in
              subst (λ t. d.upper.ranges.own ≡ Secured (attempt_of t number)) known.2
              (l.secured way.row way.place (route_key way.its) number (l.alive way known.1) (here_word ∙ e));
          marked = λ note i attempt m. let b = (k.joining.hung note i route attempt m).begun in omega (arith, same, b);
          begun = λ x i e. let b : HasAttempt s.words route x.number = subst (λ t. HasAttempt s.words t x.number) e (k.joining.begun x i).1 in
              omega (arith, same, b);
          finished = λ x i e busy. ⊎_elim
              (λ (less : n / 4 < x.below). ⊎_elim (λ w. absurd (busy (omega (arith, same, w)))) (λ w. absurd (omega (arith, same, w)))
              (subst (λ t. (join_of s.words t ≡ 4 * (n / 4)) ⊎ (4 * (n / 4) + 4 ≤ join_of s.words t)) e ((k.joining.finished x i).1 (n / 4) less)))
              (λ l. l) (cases_lt (n / 4) x.below);
          decided = λ x i e w. (k.joining.decided x i).2 (subst (λ t. join_of s.words t ≡ 4 * x.number + 1) (sym e) (same ∙ w));
          secured = λ x i e. sym same ∙ subst (λ t. join_of s.words t ≡ 4 * x.number + 2) e (k.joining.secured x i).1;
        },
      ) in (
        record d { upper = u' },
        keeps,
        tt,
        knows_ranges z s r word_at id d at u'.ranges d.upper.turns d.upper.tries
            (joins_now s.words d.upper.notes d.upper.ways d.upper.ranges.joins route n same known k.joining)
            (λ row m. inl (noted_alike s.words d.upper u' (λ x i. i) (λ x i. i) (λ x i. i) (λ x i. i) (λ x i. i) row m))
            (λ few pass l. record {
              prepared = l.prepared;
              secured = l.secured;
              still = l.still;
              alive = l.alive;
              latest = λ x i. ⊎_elim
                  (λ (e : attempt_of route (n / 4) ≡ x). subst (λ (y : Attempt). IsOfTree f.role y.route
                  × IsIn (attempt_of y.route (join_of s.words y.route / 4)) u'.ranges.joins.begun) e (
                    (way.place, route_key way.its, subst (λ t. f.role t ≡ Route way.place (route_key way.its)) known.2 (l.alive way known.1)),
                    (0, ap (λ w. some (attempt_of route (w / 4))) (sym same)),
                  ))
                  (λ (o : IsIn x d.upper.ranges.joins.begun). let t = l.latest x o in (t.0, (suc t.1.0, t.1.1)))
                  (in_more (attempt_of route (n / 4)) x d.upper.ranges.joins.begun i);
              active = l.active;
            }) record {
              over = ranging.over;
              borders = ranging.borders;
              own = ranging.own;
              sequence = ranging.sequence;
              run = ranging.run;
            },
        (refl, inr (inr (inr (inr (inr (inr (inr told)))))), told),
      )

-- The word is that of this route.
pub loaded_route : (m : MyTree) (route word n slots : ℕ) (m' : MyTree) → word ≡ join_place route → LoadsJoin (step slots word 0 0 none) m n m'
    → HasLoadedJoin route m n m'
loaded_route m route word n slots m' here t = let there : word ≡ join_place t.0 = t.1 in
    let same : t.0 ≡ route = omega arith in subst (λ (c : ℕ). HasLoadedJoin c m n m') same t.2
