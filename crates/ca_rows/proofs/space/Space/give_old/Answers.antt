use Rattle.std.proofs.Common.{◌≡◌, ℕ, ◌+◌, ◌-◌, ◌<◌, ◌≤◌, ◌++◌, ◌∷◌, [], List, length, length-append, length-drop, take, drop, get_or, sym, refl, ap, ◌∙◌, subst, ⊎_elim, arith}
use Rattle.std.proofs.lemmas.List.{take-append-drop}
use Rattle.ca_rows.specs.declared.kept.Kept.{Kept}
use Rattle.ca_rows.specs.declared.view.Pin.{Pin}
use Rattle.ca_rows.specs.Kept.{AreKeptBut, AreListed, kept_of, nobody}
use Rattle.ca_rows.proofs.GivingBack.{reclaims_refl, reclaims_trans}
use Rattle.ca_rows.proofs.Heads.{is_only}
use Rattle.ca_rows.proofs.Keeping.{was_or_last}
use Rattle.ca_rows.proofs.Listing.{young_behind, none_behind, part_before, part_behind, part_length}
use Rattle.ca_rows.proofs.Scanning.{less_or_not}
use Rattle.ca_rows.proofs.space.Space.give_old.Goals as goal

pub loop-at-init : goal.loop-at-init
loop-at-init g c = let p = c.args.pass.now in let ks = p.kept.rows in let long = ks.ok.0 in
    let n : ℕ = c.old_count-at.result in
    let told = c.old_count-at.ensures in let within = told.within in record {
      table = refl;
      id = refl;
      number = refl;
      tally = refl;
      list = record {
        are = subst (AreListed c.args.self.now.table.shared.key.rows p.seat.me.0.claims)
            (sym (take-append-drop n ks.items)) c.requires.list.are;
        room = c.requires.list.room;
      };
      pin = refl;
      reclaims = reclaims_refl p.seat.me;
      freed = omega arith;
      lost = omega arith;
      few = omega arith;
      old = told.old;
      young = λ r t e. ⊎_elim
          (λ (l : n < length ks.items). young_behind ks.items n c.args.epoch nobody
          c.requires.list.are.rising l (told.young (omega arith)) r t e)
          (λ (l : length ks.items ≤ n). absurd (none_behind ks.items n r t l e))
          (less_or_not n (length ks.items));
      before = omega arith;
      within = told.within;
      only = λ _. refl;
    }

pub loop-at-preserved : goal.loop-at-preserved
loop-at-preserved g c = let inv = c.loop-at.invariant in let told = c.if-give_back.ensures in
    let missed = told.given.rows_kept refl in
    let ks = c.loop-at.pass.kept.rows in let ks' = c.give_back.new.pass.kept.rows in
    let long = ks.ok.0 in let long' = ks'.ok.0 in let within = inv.within in
    let before = inv.before in let some_left = c.loop-at-test.true in let freed = inv.freed in
    let at : ℕ = c.loop-at.at - 1 in
    let ys : List Kept = drop c.loop-at.end ks.items ++ missed.0.0 ∷ [] in
    let list : ks'.items ≡ take at ks.items ++ ys = missed.0.2 in
    let many = ap (λ (xs : List Kept). length xs) list ∙ part_length ks.items ys at (omega arith) in
    let behind = length-drop c.loop-at.end ks.items in
    let more = length-append (drop c.loop-at.end ks.items) (missed.0.0 ∷ []) in record {
      table = told.frame.same.0 ∙ inv.table;
      id = told.frame.same.1 ∙ inv.id;
      number = told.frame.number ∙ inv.number;
      tally = told.frame.tally ∙ inv.tally;
      list = record {
        are = subst (AreListed c.args.self.now.table.shared.key.rows
            c.give_back.new.pass.seat.me.0.claims) (sym (take-append-drop at ks'.items))
            (told.again refl).are;
        room = (told.again refl).room;
      };
      pin = told.given.same_pin ∙ inv.pin;
      reclaims =
          reclaims_trans c.args.pass.now.seat.me c.loop-at.pass.seat.me c.give_back.new.pass.seat.me
          inv.reclaims told.given.reclaims;
      freed = omega arith;
      lost = let lost = inv.lost in let one = missed.1 in omega arith;
      few = let few = inv.few in omega arith;
      old = λ i l. subst (λ (x : Kept). x.at + 2 ≤ c.args.epoch)
          (sym (ap (λ (xs : List Kept). get_or xs i nobody) list
          ∙ part_before ys nobody ks.items at i l (omega arith))) (inv.old i (omega arith));
      young = λ r t e. ⊎_elim (λ was. inv.young r t was)
          (λ (last : missed.0.0.at ≡ t). let later = missed.0.1 in
          let scan = ap (λ (x : Pin). x.scan) inv.pin ∙ c.requires.epoch in omega arith)
          (was_or_last (drop c.loop-at.end ks.items) missed.0.0 r t
          (ap (λ (xs : List Kept). kept_of xs r) (sym (ap (drop at) list
          ∙ part_behind ks.items ys at (omega arith))) ∙ e));
      before = omega arith;
      within = omega arith;
      only = λ only. let won = told.only (is_only c.args.pass.now.seat.me c.loop-at.pass.seat.me inv.reclaims.same_sizes only) in
          absurd cc;
    }

pub give_back-requires-clause-list : goal.give_back-requires-clause-list
give_back-requires-clause-list g c = let some_left = c.loop-at-test.true in
    let next : c.loop-at.at ≡ c.loop-at.at - 1 + 1 = omega arith in
    subst (λ (n : ℕ). AreKeptBut c.args.self.now.table.shared.key.rows n c.loop-at.end
    c.loop-at.pass.seat.me.0.claims c.loop-at.pass.kept.rows) next c.loop-at.invariant.list

pub returns-clause-gives : goal.returns-clause-gives
returns-clause-gives g c = let inv = c.loop-at.invariant in let none_left = c.loop-at-test.false in
    let freed = inv.freed in let few = inv.few in let long = c.cut.ensures.len in record {
      reclaims = inv.reclaims;
      same_pin = inv.pin;
      freed_are = omega arith;
      lost = inv.lost;
      few = omega arith;
      young = λ r t e. inv.young r t
          (ap (λ (xs : List Kept). kept_of xs r) (sym c.cut.ensures.rows) ∙ e);
    }
