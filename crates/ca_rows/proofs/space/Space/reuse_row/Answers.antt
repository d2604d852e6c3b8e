use Rattle.std.proofs.Common.{ℕ, suc, ◌≡◌, ◌+◌, ◌≤◌, ◌++◌, max, drop, take, get_or, vec_capacity, sym, ap, ◌∙◌, subst, arith}
use Rattle.ca_rows.specs.declared.kept.KeptRows.{KeptRows}
use Rattle.ca_rows.specs.declared.view.Claim.TheVariants.{Holds}
use Rattle.ca_rows.specs.Claims.{claim_of, claimed, held_count}
use Rattle.ca_rows.specs.Kept.{AreApart, AreListed, IsOldest, Rises, nobody}
use Rattle.ca_rows.specs.Told.{Mine}
use Rattle.ca_rows.proofs.Listing.{place_claimed, left_out}
use Rattle.ca_rows.proofs.space.Space.reuse_row.Goals as goal

pub oldest-requires-clause-rising : goal.oldest-requires-clause-rising
oldest-requires-clause-rising g c = let list = c.requires.list.are in
    subst (λ (k : KeptRows). AreApart k.rows.items × Rises k.rows.items) (sym c.told-told.ensures.frame.kept)
    (list.apart, list.rising)

pub reuse_as-requires-clause-old : goal.reuse_as-requires-clause-old
reuse_as-requires-clause-old g c = let p = c.args.pass.now in
    let rows : ℕ = c.args.self.now.table.shared.key.rows in let ks = p.kept.rows.items in
    let at : ℕ = c.in-Some.at in
    let frame = c.told-told.ensures.frame in
    let chosen : IsOldest c.told-told.result c.args.like ks at =
    subst (λ (k : KeptRows). IsOldest c.told-told.result c.args.like k.rows.items at) frame.kept c.in-Some.ensures in
    let had = place_claimed rows p.seat.me.0.claims ks c.requires.list.are at nobody chosen.inside in
    let row = c.row-row.ensures ∙ ap (λ (k : KeptRows). (get_or k.rows.items at nobody).row) frame.kept in
    let still = frame.still in (
      (get_or ks at nobody).at,
      ap (λ (m : Mine g.row.R-Upper.Denot). claim_of m.0.claims c.row-row.result) still
          ∙ (ap (claim_of p.seat.me.0.claims) row ∙ had.2),
      subst (λ (n : ℕ). (get_or ks at nobody).at + 2 ≤ n)
          (c.told-told.ensures.told ∙ sym (ap (λ (m : Mine g.row.R-Upper.Denot). m.0.pin.told) still))
          chosen.old,
    )

pub returns-clause-list : goal.returns-clause-list
returns-clause-list g c = let p = c.args.pass.now in
    let rows : ℕ = c.args.self.now.table.shared.key.rows in let ks = p.kept.rows.items in
    let at : ℕ = c.in-Some.at in
    let frame = c.told-told.ensures.frame in
    let chosen : IsOldest c.told-told.result c.args.like ks at =
    subst (λ (k : KeptRows). IsOldest c.told-told.result c.args.like k.rows.items at) frame.kept c.in-Some.ensures in
    let row = c.row-row.ensures ∙ ap (λ (k : KeptRows). (get_or k.rows.items at nobody).row) frame.kept in
    let held = c.reuse_as.ensures.held in let next : at + 1 ≡ suc at = omega arith in
    let kept = c.reuse_as.ensures.frame.kept ∙ frame.kept in record {
      are = subst (AreListed rows c.reuse_as.new.pass.seat.me.0.claims)
          (sym (c.take_out.ensures.rows ∙ (ap (λ (k : KeptRows). take at k.rows.items ++ drop (at + 1) k.rows.items) kept
          ∙ ap (λ (n : ℕ). take at ks ++ drop n ks) next)))
          (subst (λ (m : Mine g.row.R-Upper.Denot). AreListed rows m.0.claims (take at ks ++ drop (suc at) ks))
          (sym (held.2 ∙ ap (λ (m : Mine g.row.R-Upper.Denot). (
            record m.0 {
              claims = claimed c.row-row.result (Holds held.0) m.0.claims;
              most = max m.0.most (held_count (claimed c.row-row.result (Holds held.0) m.0.claims));
            },
            m.1,
          )) frame.still))
          (left_out rows p.seat.me.0.claims ks c.requires.list.are at nobody chosen.inside c.row-row.result
          (Holds held.0) row (λ t e. cc)));
      room = subst (λ (n : ℕ). rows ≤ n)
          (sym (c.take_out.ensures.room ∙ ap (λ (k : KeptRows). vec_capacity k.rows) kept)) c.requires.list.room;
    }

pub returns-clause-reused : goal.returns-clause-reused
returns-clause-reused g c = let p = c.args.pass.now in let at : ℕ = c.in-Some.at in
    let frame = c.told-told.ensures.frame in let held = c.reuse_as.ensures.held in
    let kept = c.reuse_as.ensures.frame.kept ∙ frame.kept in (
      (
        held.0,
        held.1,
        held.2 ∙ ap (λ (m : Mine g.row.R-Upper.Denot). (
          record m.0 {
            claims = claimed c.row-row.result (Holds held.0) m.0.claims;
            most = max m.0.most (held_count (claimed c.row-row.result (Holds held.0) m.0.claims));
          },
          m.1,
        )) frame.still,
      ),
      (
        at,
        subst (λ (x : KeptRows × ℕ). IsOldest x.1 c.args.like x.0.rows.items at)
            (λ i. (frame.kept i, c.told-told.ensures.told i)) c.in-Some.ensures,
        sym (c.row-row.ensures ∙ ap (λ (k : KeptRows). (get_or k.rows.items at nobody).row) frame.kept),
        c.take_out.ensures.rows ∙ ap (λ (k : KeptRows). take at k.rows.items ++ drop (at + 1) k.rows.items) kept,
      ),
    )
