-- The new base of an update is one that was shown.
use Rattle.std.proofs.Common.{◌≡◌, ℕ, ◌<◌, ◌≤◌, List, [], ◌∷◌, length, map, Vec, get_or, sym, refl, ap, ◌∙◌, subst, inl, ⊎_elim, arith}
use Rattle.std.specs.Global.{Global}
use mathlib.Core.Option.{some, some-injective}
use lib.ListN.{get_elem?}
use Rattle.ca_model.specs.History.{after_edit}
use Rattle.ca_node.specs.Links.{IsIn}
use Rattle.ca_node.specs.Place.{edit_key}
use Rattle.ca_node.specs.Row.{IsObjectRow, items, pair}
use Rattle.ca_rows.specs.Told.{met_of}
use Rattle.ca_node.specs.Notes.{IsBaseNote}
use Rattle.ca_node.specs.Told.{MyTree, Update, IsUpdate, IsUpdated, updated}
use Rattle.ca_node.specs.TreeView.{Note, TreeView}
use Rattle.ca_node.proofs.Members.{in_first, in_rest}
use Rattle.ca_base.specs.Counting.{losses, HasMet}
use Rattle.ca_base.specs.Putting.{IsRenewed, first_note, renewal_of}
use Rattle.ca_base.specs.Taking.{HasHeld}
use Rattle.ca_base.proofs.Inserting.{elem_or, within}
use Rattle.ca_rows.specs.declared.kept.Kept.{Kept}
use Rattle.ca_rows.specs.declared.sizes.Sizes.{Sizes}
use Rattle.ca_rows.specs.declared.view.Claim.{Claim}
use Rattle.ca_rows.specs.declared.view.Claim.TheVariants.{Holds}
use Rattle.ca_rows.specs.Claims.{claim_of}
use Rattle.ca_rows.specs.Layout.{row_words}

-- Words that are held as two lists are one list.
held_once : (c : Claim) (a b : List ℕ) → c ≡ Holds a → c ≡ Holds b → a ≡ b
held_once c a b p q = let same : Holds a ≡ Holds b = sym p ∙ q in cc

module _ (z : Sizes) (kept : Vec Kept Global) (m : MyTree) (new : ℕ) (x : Update)
    (up : IsUpdate z m new x) (old : IsBaseNote z x.old)
    (first_is : first_note m.0.upper.notes ≡ x.old)
    (lent : List ℕ) (h : HasHeld z.rows kept m.0.claims lent (new ∷ x.comes)) where
  -- what the update's new base is noted as
  abbrev pub new_note : Note
  new_note = record { row = new; its = x.its; objects = x.objects; place = x.old.place }

  -- The words of a row that the seat holds are as many as a row has.
  long_held : (row : ℕ) (its : List ℕ) → IsIn row (new ∷ x.comes)
      → claim_of m.0.claims row ≡ some (Holds its) → length its ≡ row_words
  long_held row its i is = let own = (h.each row i).2 in
      subst (λ (ys : List ℕ). length ys ≡ row_words) (held own.0 own.2) own.1
    where
      held : (ys : List ℕ) → claim_of m.0.claims row ≡ some (Holds ys) → ys ≡ its
      held ys e =
          held_once (Holds ys) ys its refl (some-injective (Holds ys) (Holds its) (sym e ∙ is))

  named_new : (r : ℕ) → IsIn r (items x.its) → (0 < r) × (r ≤ z.rows)
  named_new r i = let many = up.as_many in let l = within (items x.its) i.0 r i.1 in ⊎_elim
      (λ (o : (k : ℕ) × (get_elem? (items x.old.its) k ≡ some r)
      × (get_elem? x.old.objects k ≡ some (get_or x.objects i.0 []))).
      old.named r (o.0, o.1))
      (λ (o : IsIn r x.comes × (claim_of m.0.claims r ≡ some (Holds (get_or x.objects i.0 [])))
      × IsObjectRow (get_or x.objects i.0 [])).
      let own = h.each r (in_rest r new x.comes o.0) in (own.0, own.1))
      (up.are_objects i.0 r (get_or x.objects i.0 []) i.1 (elem_or x.objects i.0 [] (omega arith)))

  long_new : (its : List ℕ) → IsIn its x.objects → (length its ≡ row_words) × IsObjectRow its
  long_new its i = let many = up.as_many in let l = within x.objects i.0 its i.1 in ⊎_elim
      (λ (o : (k : ℕ) × (get_elem? (items x.old.its) k ≡ some (get_or (items x.its) i.0 0))
      × (get_elem? x.old.objects k ≡ some its)).
      old.objects_long its (o.0, o.2))
      (λ (o : IsIn (get_or (items x.its) i.0 0) x.comes
      × (claim_of m.0.claims (get_or (items x.its) i.0 0) ≡ some (Holds its))
      × IsObjectRow its). (
        long_held (get_or (items x.its) i.0 0) its
            (in_rest (get_or (items x.its) i.0 0) new x.comes o.0) o.1,
        o.2,
      ))
      (up.are_objects i.0 (get_or (items x.its) i.0 0) its
      (elem_or (items x.its) i.0 0 (omega arith)) i.1)

  is_base_note : IsBaseNote z new_note
  is_base_note = let own = h.each new (in_first new x.comes) in record {
    some_row = own.0;
    in_range = own.1;
    is_base = up.is_base;
    long = long_held new x.its (in_first new x.comes) up.held;
    level_is = up.level_is;
    deep = old.deep;
    most_levels = old.most_levels;
    few = up.few;
    marked = inl up.unmarked;
    named = named_new;
    as_many = up.as_many;
    objects_long = long_new;
    headed = up.headed;
  }

  pub renewed : (m' : MyTree) (v : TreeView) → length x.comes ≤ 1 → IsUpdated new x m m'
      → v ≡ m'.0.upper
      → IsRenewed z (met_of m) (get_or x.its 1 0) x.edit m.0.upper v
  renewed m' v few u same = let w : v ≡ updated (met_of m) m.0.upper u.more new x = same
      ∙ ap (λ (y : MyTree). y.0.upper) u.now in
      subst (IsRenewed z (met_of m) (get_or x.its 1 0) x.edit m.0.upper) (sym w) record {
        notes = refl;
        ways = refl;
        is_base = is_base_note;
        unmarked = up.unmarked;
        place = ap (λ (n : Note). n.place) (sym first_is);
        has = up.map_is ∙ ap (λ (n : Note). after_edit x.edit (map pair n.objects)) (sym first_is);
        statistic_is = refl;
        same_splits = refl;
        same_joins = refl;
        same_turns = refl;
        same_tries = refl;
        same_cuts = refl;
        same_lost = refl;
        same_loads = refl;
        same_unfinished = refl;
        last = refl;
        inventory = (x, sym first_is, few, refl);
        renewal = ap
            (λ (n : Note). renewal_of (met_of m) m.0.upper (edit_key x.edit) n new_note)
            (sym first_is);
      }

  -- It is the row that took the old one's place.
  pub placed : (m' : MyTree) (v : TreeView) → IsUpdated new x m m' → v ≡ m'.0.upper
      → new ≡ (first_note v.notes).row
  placed m' v u same = ap
      (λ (w : TreeView). (first_note w.notes).row) (sym (same
      ∙ ap (λ (y : MyTree). y.0.upper) u.now))

-- What was met of the pool as an update was carried out is met still, once the rows that went were
-- retired.
pub met_still : (m m' l : MyTree) → met_of m' ≡ met_of m → losses l ≡ losses m' → HasMet 0 0 m' l
    → l.0.upper ≡ m'.0.upper → l.0.pin ≡ m'.0.pin
    → met_of m ≡ met_of l
met_still m m' l same lost met upper pin = let links = ap (λ (u : TreeView). u.lost) upper in
    let pool : l.0.lost ≡ m'.0.lost = omega arith in
    let empty : l.0.empty ≡ m'.0.empty = omega (arith, met.0) in
    let worn : l.0.worn ≡ m'.0.worn = omega (arith, met.1) in
    let now : met_of l ≡ met_of m' =
    λ i. record { lost = pool i; empty = empty i; worn = worn i; lags = (pin i).lags } in
    sym (now ∙ same)
