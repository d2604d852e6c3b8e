-- An update: an exchange of a base that carries out one edit, the last one of the history then.
use Rattle.std.proofs.Common.{◌≡◌, ◌≢◌, ◌⊎◌, ℕ, ◌+◌, ◌≤◌, Bool, true, false, eqb, List, [], ◌∷◌, ◌++◌, length, map, get_or, set, sym, refl, ap, ◌∙◌, subst, inl, inr, ⊎_elim, arith, length-append, eq-eqb, ne_eqb}
use Rattle.std.proofs.lemmas.List.{append_assoc}
use mathlib.Core.Logic.{dite}
use mathlib.Core.Option.{some, none, some-ne-none}
use native.Mathlib.Decide.{ℕ_discrete}
use lib.ListN.{get_elem?}
use prog.Atomic.{either}
use Rattle.atomic_table.specs.Table.{State, step, keeps, stepped, Allows}
use Rattle.atomic_table.proofs.Lists.{at_map}
use Rattle.ca_model.specs.Event.{IsAnswer}
use Rattle.ca_model.specs.History.{History, Edit, after, state, after_edit, IsEdit, AreEdits, AreByPasses}
use Rattle.ca_model.specs.Lawful.{IsLawful}
use Rattle.ca_model.specs.StoreMap.{StoreMap, IsStoreMap}
use Rattle.ca_runs.specs.Runs.{AreRuns}
use Rattle.ca_runs.proofs.Keeping.{runs_still, replaced_stays}
use Rattle.ca_rows.specs.Calls.{Relinks}
use Rattle.ca_rows.specs.declared.sizes.Sizes.{Sizes}
use Rattle.ca_rows.specs.declared.view.Claim.TheVariants.{Holds}
use Rattle.ca_rows.specs.declared.view.View.{View}
use Rattle.ca_rows.specs.Claims.{claim_of}
use Rattle.ca_rows.specs.Rule.{upper_of}
use Rattle.ca_node.specs.LoneStays.{same_kept}
use Rattle.ca_node.specs.Attempts.{IsUnderWay}
use Rattle.ca_node.specs.Joining.{IsJoining}
use Rattle.ca_node.specs.Laws.{numbered, relisted, starts_whole}
use Rattle.ca_node.specs.Links.{IsIn, IsActive, IsBoundOf, IsLent}
use Rattle.ca_node.specs.Inventory.{AreOnce, row_itself}
use Rattle.ca_node.specs.Marks.{IsMarkIn, IsBorder}
use Rattle.ca_node.specs.Place.{part, Place, edit_key, has_key}
use Rattle.ca_node.specs.Ranging.{IsRanging}
use Rattle.ca_node.specs.Row.{row_at, mark as mark_kind, mark_owner, IsMarkedBy, IsMarkedFor, pair}
use Rattle.ca_node.specs.Scenes.{scene_of}
use Rattle.ca_node.specs.Shape.{Role, Base}
use Rattle.ca_rows.specs.Told.{met_of, relinked}
use Rattle.ca_node.specs.May.{MaySwap}
use Rattle.ca_node.specs.Told.{MyTree, IsKnown, Update, IsUpdate, given, taken_out, updated, one_more_lost, IsUpdated, IsMissed, Updates, HasUpdated}
use Rattle.ca_node.specs.Tree.{StartsWith, IsLinkOfView, IsTrue, IsTrueWay, Knows, IsTree}
use Rattle.ca_node.specs.TreeView.{Note, Way, TreeView}
use Rattle.ca_node.proofs.Joined.{unjoined_over}
use Rattle.ca_node.proofs.Exchanging.{IsExchange, settled_over, is_old, new_row, old_map, is_last, ins_once, new_its, out_linked, out_unlent, replaced, ranging_keeps, own_notes, old_apart, note_keeps, way_keeps, new_true, exchange_step, joining_keep, joining_more}
use Rattle.ca_node.proofs.Holding.{unclaimed_row}
use Rattle.ca_node.proofs.Logs.{after_more, state_stays, others_lawful, own_lawful, past_more, ended_more}
use Rattle.ca_node.proofs.Looking.{R, loses, hangs_still, of_map, knows_upper, fewer_passes, further, longer_past, starts_shorter, in_more}
use Rattle.ca_node.proofs.Members.{in_notes}
use Rattle.ca_node.proofs.Parts.{part_edited, part_left, answer_whole, about_edit}
use Rattle.ca_node.proofs.Rebased.{with_base}

-- The old base of an update is among the seat's notes.
pub was_shown : (z : Sizes) (m : MyTree) (new : ℕ) (x : Update) → IsUpdate z m new x
    → IsIn x.old m.0.upper.notes
was_shown z m new x u = in_notes x.old m.0.upper.notes u.shown

edits_more : (keypos : ℕ) (h : History) (n : ℕ) (e : Edit) → AreEdits keypos h → IsEdit keypos e
    → AreEdits keypos (h ++ (n, e) ∷ [])
edits_more keypos [] n e a is = (is, tt)
edits_more keypos (x ∷ xs) n e a is = (a.0, edits_more keypos xs n e a.1 is)

passes_more : (made : ℕ) (h : History) (n : ℕ) (e : Edit) → AreByPasses made h → 1 ≤ n → n ≤ made
    → AreByPasses made (h ++ (n, e) ∷ [])
passes_more made [] n e a lo hi = (lo, hi, tt)
passes_more made (x ∷ xs) n e a lo hi = (a.0, a.1, passes_more made xs n e a.2 lo hi)

-- An update is an exchange.
pub exchange_of : (z : Sizes) (m : MyTree) (new : ℕ) (x : Update) → IsUpdate z m new x
    → IsExchange z m new x
exchange_of z m new x u = record {
  is_pinned = u.is_pinned;
  is_pass = u.is_pass;
  shown = u.shown;
  old_base = u.old_base;
  held = u.held;
  is_base = u.is_base;
  level_is = u.level_is;
  few = u.few;
  as_many = u.as_many;
  headed = u.headed;
  are_objects = u.are_objects;
  come = u.come;
  come_once = u.come_once;
  go = u.go;
  stay = u.stay;
}

module _ (z : Sizes) (s : State (Unit {0}) (View TreeView)) (r : R z s) (id : ℕ) (me : MyTree)
    (at : get_elem? s.views id ≡ some me.0) (new : ℕ) (x : Update)
    (u : IsUpdate z me new x) (hit : get_or s.words x.old.place.link 0 ≡ x.old.row) where
  abbrev ex : IsExchange z me new x
  ex = exchange_of z me new x u

  -- The range that marked the old base is over.
  over : (pass number : ℕ) → IsMarkedBy x.old.its pass number → ¬ IsActive s.words pass number
  over = settled_over z s r id me.0 at x.old.its u.settled.0

  free : (route attempt : ℕ) → IsMarkedFor x.old.its route attempt → ¬ IsUnderWay s.words route attempt
  free = unjoined_over z s r id me.0 at x.old.its u.settled.1

  abbrev d : View TreeView
  d = me.0

  abbrev f : IsTree z r.made s.words (map upper_of s.views)
  f = r.above

  abbrev role : ℕ → Role
  role = r.above.role

  abbrev last : StoreMap
  last = after r.above.history []

  abbrev place : Place
  place = x.old.place

  abbrev words' : List ℕ
  words' = set s.words x.old.place.link new

  abbrev knows : Knows z r.made s.words r.above.role (map upper_of s.views) r.above.history id
      d.upper
  knows = knows_upper z s r id d at

  -- The last state after the edit, and what of it is led to each base.
  abbrev own : ℕ × Edit
  own = (d.upper.number, x.edit)

  abbrev last' : StoreMap
  last' = after (r.above.history ++ own ∷ []) []

  one_more : after (r.above.history ++ own ∷ []) [] ≡ after_edit x.edit (after r.above.history [])
  one_more = after_more f.history (own ∷ []) []

  was_map : IsStoreMap z.keypos last
  was_map = is_last z s r id me at new x ex hit over free

  has_now : map pair x.objects ≡ part x.old.place.span (after (r.above.history ++ own ∷ []) [])
  has_now = u.map_is ∙ (ap (after_edit x.edit) (old_map z s r id me at new x ex hit over free)
      ∙ (sym (part_edited z.keypos place.span x.edit last was_map u.about)
      ∙ ap (part place.span) (sym one_more)))

  by_bool : (b : Bool) → (b ≡ true) ⊎ (b ≡ false)
  by_bool true = inl refl
  by_bool false = inr refl

  others_have : (c : ℕ) (p : Place) → r.above.role c ≡ Base p → c ≢ x.old.row
      → part p.span (after (r.above.history ++ own ∷ []) [])
      ≡ part p.span (after r.above.history [])
  others_have c p is ne = ap (part p.span) one_more ∙ ⊎_elim
      (λ (h : has_key p.span (edit_key x.edit)
      ≡ true). absurd
      (ne (f.shape.apart c x.old.row p place (edit_key x.edit) is
      (is_old z s r id me at new x ex hit over free) h u.about)))
      (λ h. part_left z.keypos p.span x.edit last was_map h)
      (by_bool (has_key p.span (edit_key x.edit)))

  mark : IsMarkIn s.words x.old.place x.its
  mark = inl u.unmarked

  -- No range marked the new base.
  new_unmarked : (border : ℕ) → ¬ IsBoundOf s.words new border
  new_unmarked border b = let none = u.unmarked in
      let one : mark_kind x.its ≡ 1 = sym (ap mark_kind (new_row z s r id me at new x ex hit over free).2) ∙ b.0 in
      omega arith

  bounded : (border : ℕ) → IsBoundOf s.words new border
      → IsBorder z.rows s.words (mark_owner (row_at s.words new)) border
  bounded border b = absurd (new_unmarked border b)

  -- Nothing is lent by an update.
  serve : (row : ℕ) → IsIn row []
      → ((its : List ℕ) × (claim_of me.0.claims row ≡ some (Holds its))) × IsBoundOf s.words new row
  serve row i = absurd (some-ne-none row (sym i.1))

  once : AreOnce row_itself (new ∷ x.comes)
  once = ins_once z s r id me at new x ex hit over free

  new_end : (border : ℕ) → IsBoundOf s.words new border → IsLent s.words border ⊎ IsIn border []
  new_end border b = absurd (new_unmarked border b)

  unmarked : (pass number : ℕ) → ¬ IsMarkedBy x.its pass number
  unmarked pass number m = let one = m.0 in let none = u.unmarked in omega arith

  -- The states that the history had it goes on to have.
  longer : (i : ℕ) → i ≤ length r.above.history → (i ≤ length (r.above.history ++ own ∷ []))
      × (state (r.above.history ++ own ∷ []) i ≡ state r.above.history i)
  longer i l = let sum = length-append r.above.history (own ∷ []) in
      (omega arith, state_stays r.above.history (own ∷ []) i l)

  abbrev u' : TreeView
  u' = updated (met_of me) d.upper knows.seen_first.0 new x

  abbrev d' : View TreeView
  d' = (relinked me (taken_out (x.old.row ∷ x.goes) (given (new ∷ x.comes) d.claims)) u').0

  abbrev role' : ℕ → Role
  role' = with_base r.above.role x.old.place x.old.row new

  abbrev new_note : Note
  new_note = record { row = new; its = x.its; objects = x.objects; place = x.old.place }

  whole : r.above.history ≡ d.upper.seen ++ knows.seen_first.0
  whole = knows.seen_first.1

  first : get_elem? (map upper_of s.views) id ≡ some d.upper
  first = at_map upper_of s.views id d at

  long : length d.upper.seen ≤ length r.above.history
  long = starts_shorter f.history d.upper.seen knows.seen_first

  answered : IsAnswer x.event (after r.above.history [])
  answered =
      answer_whole place.span last (edit_key x.edit) x.event u.about
      (about_edit x.event x.edit u.does)
      (subst (IsAnswer x.event) (old_map z s r id me at new x ex hit over free) u.answer)

  own_knows : Knows z r.made words' role' (set (map upper_of s.views) id u')
      (r.above.history ++ own ∷ []) id u'
  own_knows = let k' = relisted z r.made s.words role (map upper_of s.views)
      (set (map upper_of s.views) id u') f.history id d.upper
      (numbered (map upper_of s.views) id d.upper u' first (λ _. refl)) knows in record {
        made_before = k'.made_before;
        alone = k'.alone;
        seen_first = subst
            (λ (h : History). StartsWith (h ++ own ∷ []) u'.seen) (sym whole)
            (starts_whole u'.seen);
        since_first = further u'.seen d.upper.seen d.upper.since (
          knows.seen_first.0 ++ own ∷ [],
          append_assoc d.upper.seen knows.seen_first.0 (own ∷ []),
        ) knows.since_first;
        lawful = subst
            (λ (h : History).
            IsLawful d.upper.number (f.history ++ own ∷ []) (d.upper.log ++ (
              x.event,
              length h + 1,
            ) ∷ [])) whole
            (own_lawful d.upper.number x.edit x.event f.history d.upper.log u.does answered
            (longer_past (length d.upper.seen) (length f.history) d.upper.log long knows.past)
            knows.lawful);
        past = let l = length-append (d.upper.seen ++ knows.seen_first.0) (own ∷ []) in
            let m = length-append d.upper.seen knows.seen_first.0 in
            past_more (length u'.seen) d.upper.log (
              x.event,
              length (d.upper.seen ++ knows.seen_first.0) + 1,
            )
            (longer_past (length d.upper.seen) (length u'.seen) d.upper.log (omega arith)
            knows.past) (omega arith);
        notes = λ note i. ⊎_elim
            (λ (e : new_note ≡ note).
            subst (IsTrue z.rows words' role') e
            (new_true z s r id me at new x ex hit over free (r.above.history ++ own ∷ []) mark bounded has_now
            others_have [] serve once new_end))
            (λ (o : IsIn note d.upper.notes). note_keeps z s r id me at new x ex hit over free
            (r.above.history ++ own ∷ []) mark bounded has_now others_have [] serve once new_end id d at note o)
            (in_more new_note note d.upper.notes i);
        links = λ note i. ⊎_elim
            (λ (e : new_note ≡ note). subst (λ (y : Note). IsLinkOfView d.upper y.place.link) e
            (knows.links x.old (was_shown z me new x u)))
            (λ (o : IsIn note d.upper.notes). knows.links note o)
            (in_more new_note note d.upper.notes i);
        ways = way_keeps z s r id me at new x ex hit over free (r.above.history ++ own ∷ []) mark bounded has_now
            others_have [] serve once new_end id d at longer;
        way_links = k'.way_links;
        one_place = k'.one_place;
        joining = joining_more z s r id me at new x ex hit over free (r.above.history ++ own ∷ []) mark bounded has_now
            others_have [] serve once new_end;
        ended = λ y i.
            ended_more r.made (set (map upper_of s.views) id u') d.upper.number x.edit f.history y
            ((knows.ended y i).gone id d.upper first) (k'.ended y i);
      }

  others_know : (j : ℕ) (v : TreeView) → j ≢ id → get_elem? (map upper_of s.views) j ≡ some v
      → Knows z r.made words' role' (set (map upper_of s.views) id u')
      (r.above.history ++ own ∷ []) j v
  others_know j v ne here = let y = of_map upper_of s.views j v here in
      let k = relisted z r.made s.words role (map upper_of s.views)
      (set (map upper_of s.views) id u') f.history j v
      (numbered (map upper_of s.views) id d.upper u' first
      (λ _. refl)) (f.each_seat j v here) in record {
        made_before = k.made_before;
        alone = k.alone;
        seen_first = further (f.history ++ own ∷ []) f.history v.seen (own ∷ [], refl) k.seen_first;
        since_first = k.since_first;
        lawful = others_lawful v.number d.upper.number x.edit f.history v.log
            (λ same. ne (knows.alone u.is_pass j v here (sym same))) k.lawful;
        past = k.past;
        notes = λ note i.
            note_keeps z s r id me at new x ex hit over free (r.above.history ++ own ∷ []) mark bounded has_now
            others_have [] serve once new_end j y.0 y.1 note (subst (λ (w : TreeView). IsIn note w.notes) (sym y.2) i);
        links = k.links;
        ways = subst (λ (w : TreeView). (way : Way) → IsIn way w.ways → IsTrueWay z words' role' w.since (r.above.history ++ own ∷ []) way) y.2
            (way_keeps z s r id me at new x ex hit over free (r.above.history ++ own ∷ []) mark bounded has_now
            others_have [] serve once new_end j y.0 y.1 longer);
        way_links = k.way_links;
        one_place = k.one_place;
        joining = subst (λ (w : TreeView). IsJoining words' w.notes w.ways w.ranges.joins) y.2
            (joining_keep z s r id me at new x ex hit over free (r.above.history ++ own ∷ []) mark bounded has_now
            others_have [] serve once new_end j y.0 y.1);
        ended = λ e i.
            ended_more r.made (set (map upper_of s.views) id u') d.upper.number x.edit f.history e
            (((f.each_seat j v here).ended e i).gone id d.upper first) (k.ended e i);
      }

  edits_now : AreEdits z.keypos (r.above.history ++ own ∷ [])
  edits_now = edits_more z.keypos f.history d.upper.number x.edit f.edits u.is_edit

  passes_now : AreByPasses r.made (r.above.history ++ own ∷ [])
  passes_now = let lo = u.is_pass in
      passes_more r.made f.history d.upper.number x.edit f.by_passes (omega arith) knows.made_before

  -- Runs stay as they are: no range had the base that went, and none has the one that came.
  runs_now : AreRuns (scene_of words' role') r.above.ranged.ends
  runs_now = let t = replaced z s r id me at new x ex hit over free (r.above.history ++ own ∷ []) mark bounded has_now
      others_have [] serve once new_end in
      runs_still (scene_of s.words role) (scene_of words' role') f.ranged.ends f.ranged.runs
      (replaced_stays (scene_of s.words role) (scene_of words' role') f.ranged.ends x.old.row new
      f.ranged.runs t
      (λ pass number m. absurd (unmarked pass number
      (subst (λ its. IsMarkedBy its pass number) (new_its z s r id me at new x ex hit over free
      (r.above.history ++ own ∷ []) mark bounded has_now others_have [] serve once new_end) m))))

  ranging_now : (j : ℕ) (y : View TreeView) → get_elem? s.views j ≡ some y
      → IsRanging z words' role' (r.above.ranged.ends y.upper.number) y.upper.since
      (r.above.history ++ own ∷ []) y.upper.number y.upper.ranges
  ranging_now j y here = ranging_keeps z s r id me at new x ex hit over free (r.above.history ++ own ∷ [])
      mark bounded has_now others_have [] serve once new_end j y here longer
      (λ number _ _ m. unmarked y.upper.number number m)

  -- Where the link names the old base, the exchange carries out the update.
  pub update_step : R z record { words = words'; homes = s.homes; views = set s.views id d' }
  update_step =
      exchange_step z s r id me at new x ex hit over free (r.above.history ++ own ∷ []) mark bounded has_now
      others_have [] serve once new_end u'
      (own_notes z s r id me at new x ex hit over free (r.above.history ++ own ∷ []) mark bounded has_now
      others_have [] serve once new_end u' refl refl (λ border i. inl i) (λ c o. o) refl)
      (d.upper.renewal.count + 1) refl (inl (let one = u.one_comes in omega arith)) (same_kept d.upper.ranges.own)
      (λ _ _ same. inl same) refl refl refl edits_now passes_now runs_now own_knows (ranging_now id d at)
      (λ j v ne here. let y = of_map upper_of s.views j v here in (
        others_know j v ne here,
        subst (λ (w : TreeView). IsRanging z words' role'
            (r.above.ranged.ends w.number) w.since (r.above.history ++ own ∷ []) w.number w.ranges) y.2
            (ranging_now j y.0 y.1),
      ))

  -- What the seat has seen then is the whole history.
  known_now : IsKnown z u'
  known_now = let few : r.made ≤ z.passes = r.within in
      let mine : d.upper.number ≤ r.made = knows.made_before in
      let same : f.history ++ own ∷ [] ≡ u'.seen = ap (λ (h : History). h ++ own ∷ []) whole in
      record {
        lawful = subst (λ (h : History). IsLawful d.upper.number h u'.log) same own_knows.lawful;
        past = own_knows.past;
        edits = subst (AreEdits z.keypos) same edits_now;
        enrolled = omega arith;
        by_passes =
            subst (AreByPasses z.passes) same
            (fewer_passes r.made z.passes (f.history ++ own ∷ []) few passes_now);
      }

  updated_now : IsUpdated new x me (d', me.1)
  updated_now = record {
    more = knows.seen_first.0;
    now = refl;
    unclaimed =
        λ row o. unclaimed_row z s r id d at row
        (out_linked z s r id me at new x ex hit over free (r.above.history ++ own ∷ []) mark bounded has_now
        others_have [] serve once new_end row o)
        (out_unlent z s r id me at new x ex hit over free (r.above.history ++ own ∷ []) mark bounded has_now
        others_have [] serve once new_end row o);
    apart = old_apart z s r id me at new x ex hit over free (r.above.history ++ own ∷ []) mark bounded has_now
        others_have [] serve once new_end;
    known = λ some_rows. let same : d.sizes ≡ z = ⊎_elim
        (λ (e : d.sizes.rows ≡ 0). absurd (omega arith)) (λ (e : d.sizes ≡ z). e)
        (r.seat id d at).sizes_are in subst (λ (y : Sizes). IsKnown y u') (sym same) known_now;
  }

module _ (z : Sizes) where
  -- The exchange of a link that carries out an update.
  pub updates : (slots id : ℕ) (me : MyTree) (new : ℕ) (x : Update) → IsUpdate z me new x
      → Allows (R z) slots id me x.old.place.link
      (λ n. either (eqb n x.old.row) new n)
      (Relinks MaySwap (Updates x) (step slots x.old.place.link x.old.row new none) me)
  updates slots id me new x u s r _ at _ = let n : ℕ = get_or s.words x.old.place.link 0 in
      let d = me.0 in dite (ℕ_discrete n x.old.row)
      (λ (hit : n ≡ x.old.row). let w = (knows_upper z s r id d at).seen_first.0 in
      let d' : View TreeView =
      (relinked me (taken_out (x.old.row ∷ x.goes) (given (new ∷ x.comes) d.claims))
      (updated (met_of me) d.upper w new x)).0 in
      let won : Updates x (step slots x.old.place.link x.old.row new none) me n (d', me.1) =
      ((λ _. updated_now z s r id me at new x u hit), λ miss. absurd (miss hit)) in (
        d',
        keeps,
        tt,
        subst (λ (y : ℕ). R z (stepped s x.old.place.link y id me.1 d' keeps))
            (sym (ap (λ b. either b new n) (eq-eqb n x.old.row hit)))
            (update_step z s r id me at new x u hit),
        ((λ _. refl), (λ miss. absurd (miss hit)), inl (x, (u.shown, refl, refl), won), won),
      ))
      (λ miss. let lost : View TreeView = record d { upper = one_more_lost d.upper } in
      let missed : Updates x (step slots x.old.place.link x.old.row new none) me n (lost, me.1) =
      ((λ hit. absurd (miss hit)), λ _. (refl, hangs_still z s r id me x.old at miss)) in (
        lost,
        keeps,
        tt,
        subst (λ (y : ℕ). R z (stepped s x.old.place.link y id me.1 lost keeps))
            (sym (ap (λ b. either b new n) (ne_eqb n x.old.row miss)))
            (loses z s r x.old.place.link id d at),
        ((λ hit. absurd (miss hit)), (λ _. refl), inl (x, (u.shown, refl, refl), missed), missed),
      ))

  -- The same, where the old row and the link have other names.
  pub updates_from : (slots id : ℕ) (me : MyTree) (link old new : ℕ) (x : Update)
      → IsUpdate z me new x → x.old.row ≡ old → x.old.place.link ≡ link
      → Allows (R z) slots id me link
      (λ n. either (eqb n old) new n)
      (Relinks MaySwap (Updates x) (step slots link old new none) me)
  updates_from slots id me link old new x u same here = subst
      (λ (i : ℕ). Allows (R z) slots id me i (λ n. either (eqb n old) new n)
      (Relinks MaySwap (Updates x) (step slots i old new none) me)) here (subst
      (λ (o : ℕ). Allows (R z) slots id me x.old.place.link (λ n. either (eqb n o) new n)
      (Relinks MaySwap (Updates x) (step slots x.old.place.link o new none) me)) same
      (updates slots id me new x u))

-- The two ways that the exchange goes.
pub has_updated : (n link old new : ℕ) (x : Update) (m m' : MyTree) (slots : ℕ)
    → Updates x (step slots link old new none) m n m'
    → HasUpdated (eqb n old) new x m m'
has_updated n link old new x m m' slots told = dite (ℕ_discrete n old)
    (λ hit. subst (λ (b : Bool). HasUpdated b new x m m') (sym (eq-eqb n old hit)) (told.0 hit))
    (λ miss. subst
    (λ (b : Bool). HasUpdated b new x m m') (sym (ne_eqb n old miss)) (told.1 miss).0)

-- Where it was lost, a pass that is alone doesn't list the base.
pub missed_update : (n link old new : ℕ) (x : Update) (m m' : MyTree) (slots : ℕ) (won : Bool)
    → Updates x (step slots link old new none) m n m'
    → won ≡ eqb n old → won ≡ false → IsMissed x.old m
missed_update n link old new x m m' slots won told is lost = dite (ℕ_discrete n old)
    (λ hit. let y : true ≡ false = sym (eq-eqb n old hit) ∙ (sym is ∙ lost) in absurd cc)
    (λ miss. (told.1 miss).1)
