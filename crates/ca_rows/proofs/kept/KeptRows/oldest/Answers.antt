use Rattle.std.proofs.Common.{◌+◌, ◌≤◌, get_or, inr, refl, ⊎_elim, arith}
use Rattle.ca_rows.specs.Kept.{nobody}
use Rattle.ca_rows.proofs.Listing.{not_before, young_from}
use Rattle.ca_rows.proofs.Scanning.{less_or_not}
use Rattle.ca_rows.proofs.kept.KeptRows.oldest.Goals as goal

pub returns-then-not-is_old : goal.returns-then-not-is_old
returns-then-not-is_old c = let r = c.requires.rising in
    young_from c.args.self.now.rows.items c.args.epoch nobody r.0 r.1 (λ _. ⊎_elim (λ young. young)
    (λ (old : (get_or c.args.self.now.rows.items 0 nobody).at + 2 ≤ c.args.epoch).
    let told = c.if-not-is_old.ensures.1 old in absurd cc)
    (less_or_not c.args.epoch ((get_or c.args.self.now.rows.items 0 nobody).at + 2)))

pub returns-else-is_old : goal.returns-else-is_old
returns-else-is_old c = let ks = c.args.self.now.rows.items in let long = c.args.self.now.rows.ok.0 in
    let r = c.requires.rising in let some = c.requires.some in
    let first = c.if-not-is_old.ensures.0 cc in record {
      inside = omega arith;
      old = first;
      first = inr (
        refl,
        not_before ks c.args.epoch c.args.like c.loop-at.at nobody r.0 r.1 c.loop-at.invariant.others
            (λ _. ⊎_elim (λ young. young)
            (λ (old : (get_or ks c.loop-at.at nobody).at + 2 ≤ c.args.epoch). let told = c.if-is_old.ensures.1 old in absurd cc)
            (less_or_not c.args.epoch ((get_or ks c.loop-at.at nobody).at + 2))),
      );
    }
