use Rattle.std.proofs.Common.{◌≡◌, ℕ, suc, ◌+◌, ◌≤◌, ◌++◌, ◌∷◌, [], List, take, drop, get_or, vec_capacity, sym, ap, ◌∙◌, subst, arith, append_assoc}
use Rattle.ca_rows.specs.declared.kept.Kept.{Kept}
use Rattle.ca_rows.specs.declared.kept.KeptRows.{KeptRows}
use Rattle.ca_rows.specs.declared.view.Claim.TheVariants.{Holds}
use Rattle.ca_rows.specs.declared.view.Claimed.{Claimed}
use Rattle.ca_rows.specs.Claims.{claim_of}
use Rattle.ca_rows.specs.Kept.{AreListed, nobody}
use Rattle.ca_rows.specs.Told.{Mine}
use Rattle.ca_rows.proofs.Claiming.{claimed_here}
use Rattle.ca_rows.proofs.GivingBack.{put_back, kept_again, list_given, list_lost}
use Rattle.ca_rows.proofs.Listing.{last_claimed}
use Rattle.ca_rows.proofs.space.Space.give_back.Goals as goal

-- the list, as lemmas have it
listed : (rows at : ℕ) (claims : List Claimed) (ks ys : List Kept)
    → AreListed rows claims (take (at + 1) ks ++ ys)
    → AreListed rows claims (take (suc at) ks ++ ys)
listed rows at claims ks ys h = let next : at + 1 ≡ suc at = omega arith in
    subst (λ n. AreListed rows claims (take n ks ++ ys)) next h

pub regain_as-requires-clause-old : goal.regain_as-requires-clause-old
regain_as-requires-clause-old g c = let p = c.args.pass.now in
    let rows : ℕ = c.args.self.now.table.shared.key.rows in let ks = p.kept.rows.items in
    let long = p.kept.rows.ok.0 in let inside = c.requires.place.0 in
    let within = c.requires.place.1 in
    let had = last_claimed rows p.seat.me.0.claims ks (drop c.args.end ks) c.args.at nobody
    (omega arith)
    (listed rows c.args.at p.seat.me.0.claims ks (drop c.args.end ks) c.requires.list.are) in (
      (get_or ks c.args.at nobody).at,
      ap (claim_of p.seat.me.0.claims) c.row-row.ensures ∙ had.2,
      c.requires.old,
    )

pub put_row-requires-clause-inside : goal.put_row-requires-clause-inside
put_row-requires-clause-inside g c = let p = c.args.pass.now in
    let rows : ℕ = c.args.self.now.table.shared.key.rows in let ks = p.kept.rows.items in
    let long = p.kept.rows.ok.0 in let inside = c.requires.place.0 in
    let within = c.requires.place.1 in
    let had = last_claimed rows p.seat.me.0.claims ks (drop c.args.end ks) c.args.at nobody
    (omega arith)
    (listed rows c.args.at p.seat.me.0.claims ks (drop c.args.end ks) c.requires.list.are) in
    subst (λ (q : ℕ). q ≤ rows) (sym c.row-row.ensures) had.1

pub returns-then-put_row-clause-list : goal.returns-then-put_row-clause-list
returns-then-put_row-clause-list g c = λ _. let p = c.args.pass.now in
    let rows : ℕ = c.args.self.now.table.shared.key.rows in let ks = p.kept.rows.items in
    let long = p.kept.rows.ok.0 in let inside = c.requires.place.0 in
    let within = c.requires.place.1 in let held = c.regain_as.ensures.held in
    let same = c.if-put_row.ensures.frame.kept ∙ c.regain_as.ensures.frame.kept in
    record {
      are = subst (λ (k : KeptRows).
          AreListed rows c.put_row.new.pass.seat.me.0.claims
          (take c.args.at k.rows.items ++ drop c.args.end k.rows.items)) (sym same)
          (list_given rows p.seat.me c.regain_as.new.pass.seat.me c.put_row.new.pass.seat.me ks
          (drop c.args.end ks) c.args.at nobody (omega arith)
          (listed rows c.args.at p.seat.me.0.claims ks (drop c.args.end ks) c.requires.list.are)
          c.row-row.result c.row-row.ensures held.0 held.2
          c.if-put_row.ensures.given);
      room =
          subst (λ (k : KeptRows). rows ≤ vec_capacity k.rows) (sym same) c.requires.list.room;
    }

pub retire-requires-clause-list : goal.retire-requires-clause-list
retire-requires-clause-list g c = let p = c.args.pass.now in
    let rows : ℕ = c.args.self.now.table.shared.key.rows in let ks = p.kept.rows.items in
    let long = p.kept.rows.ok.0 in let inside = c.requires.place.0 in
    let within = c.requires.place.1 in let held = c.regain_as.ensures.held in
    let lost = c.if-put_row.ensures.given in
    let same = c.if-put_row.ensures.frame.kept ∙ c.regain_as.ensures.frame.kept in
    let cut : c.cut.new.self.rows.items ≡ take c.args.at ks ++ drop c.args.end ks =
    c.cut.ensures.rows
    ∙ ap (λ (k : KeptRows). take c.args.at k.rows.items ++ drop c.args.end k.rows.items) same in
    let wide = c.cut.ensures.room ∙ ap (λ (k : KeptRows). vec_capacity k.rows) same in record {
      are = subst (AreListed rows c.put_row.new.pass.seat.me.0.claims) (sym cut)
          (list_lost rows p.seat.me c.regain_as.new.pass.seat.me c.put_row.new.pass.seat.me ks
          (drop c.args.end ks) c.args.at nobody (omega arith)
          (listed rows c.args.at p.seat.me.0.claims ks (drop c.args.end ks) c.requires.list.are)
          c.row-row.result c.row-row.ensures held.0 held.2
          lost.0 lost.2);
      room = subst (λ (n : ℕ). rows ≤ n) (sym wide) c.requires.list.room;
    }

pub retire-requires-clause-mine : goal.retire-requires-clause-mine
retire-requires-clause-mine g c = let lost = c.if-put_row.ensures.given in
    let q : ℕ = c.row-row.result in (
      Holds lost.0,
      ap (λ (m : Mine g.row.R-Upper.Denot). claim_of m.0.claims q) lost.2
          ∙ claimed_here c.regain_as.new.pass.seat.me.0.claims q (Holds lost.0),
      tt,
    )

pub returns-then-put_row-clause-given : goal.returns-then-put_row-clause-given
returns-then-put_row-clause-given g c = let p = c.args.pass.now in
    let rows : ℕ = c.args.self.now.table.shared.key.rows in let ks = p.kept.rows.items in
    let long = p.kept.rows.ok.0 in let inside = c.requires.place.0 in
    let within = c.requires.place.1 in let held = c.regain_as.ensures.held in
    let had = last_claimed rows p.seat.me.0.claims ks (drop c.args.end ks) c.args.at nobody
    (omega arith)
    (listed rows c.args.at p.seat.me.0.claims ks (drop c.args.end ks) c.requires.list.are) in
    let was = ap (claim_of p.seat.me.0.claims) c.row-row.ensures ∙ had.2 in
    let came = put_back p.seat.me c.put_row.new.pass.seat.me c.row-row.result
    (get_or ks c.args.at nobody).at was c.requires.old c.regain_as.new.pass.seat.me
    c.put_row.new.pass.seat.me held.0 held.2
    c.if-put_row.ensures.given in record {
      reclaims = came.0;
      same_pin = came.1;
      rows_given =
          λ _. (
            ap (λ (k : KeptRows). k.rows.items) (c.if-put_row.ensures.frame.kept
                ∙ c.regain_as.ensures.frame.kept),
            came.2,
          );
      rows_kept = λ e. absurd cc;
    }

pub returns-clause-given : goal.returns-clause-given
returns-clause-given g c = let p = c.args.pass.now in
    let rows : ℕ = c.args.self.now.table.shared.key.rows in let ks = p.kept.rows.items in
    let long = p.kept.rows.ok.0 in let inside = c.requires.place.0 in
    let within = c.requires.place.1 in let held = c.regain_as.ensures.held in
    let had = last_claimed rows p.seat.me.0.claims ks (drop c.args.end ks) c.args.at nobody
    (omega arith)
    (listed rows c.args.at p.seat.me.0.claims ks (drop c.args.end ks) c.requires.list.are) in
    let was = ap (claim_of p.seat.me.0.claims) c.row-row.ensures ∙ had.2 in
    let lost = c.if-put_row.ensures.given in let again = c.retire.ensures.retired in
    let same = c.if-put_row.ensures.frame.kept ∙ c.regain_as.ensures.frame.kept in
    let came = kept_again p.seat.me c.retire.new.pass.seat.me c.row-row.result
    (get_or ks c.args.at nobody).at was c.requires.old c.regain_as.new.pass.seat.me
    c.put_row.new.pass.seat.me held.0 held.2
    lost.0 again.0 lost.2 again.2 again.3 in
    let one : Kept = record { row = c.row-row.result; at = again.0; form = c.form-form.result } in
    let later = again.3 in
    let scan : c.put_row.new.pass.seat.me.0.pin.scan ≡ p.seat.me.0.pin.scan =
    ap (λ (m : Mine g.row.R-Upper.Denot). m.0.pin.scan) lost.2
    ∙ ap (λ (m : Mine g.row.R-Upper.Denot). m.0.pin.scan) held.2 in
    let cut : c.cut.new.self.rows.items ≡ take c.args.at ks ++ drop c.args.end ks =
    c.cut.ensures.rows
    ∙ ap (λ (k : KeptRows). take c.args.at k.rows.items ++ drop c.args.end k.rows.items) same in
    record {
      reclaims = came.0;
      same_pin = came.1;
      rows_given = λ e. absurd cc;
      rows_kept = λ _. (
        (
          one,
          omega arith,
          again.1 ∙ (ap (λ (xs : List Kept). xs ++ one ∷ []) cut
              ∙ append_assoc (take c.args.at ks) (drop c.args.end ks) (one ∷ [])),
        ),
        came.2,
      );
    }
