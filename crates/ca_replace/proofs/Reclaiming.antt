-- A pass between two calls rests still once it gave rows back.
use Rattle.std.proofs.Common.{◌≡◌, ℕ, ◌+◌, ◌<◌, ◌≤◌, sym, refl, ap, ◌∙◌, subst, ⊎_elim, Vec, arith}
use Rattle.std.specs.Global.{Global}
use mathlib.Core.Option.{Option, some, none}
use Rattle.atomic_table.specs.Seated.{TableId}
use Rattle.ca_node.specs.Told.{MyTree, IsKnown}
use Rattle.ca_node.specs.TreeView.{TreeView}
use Rattle.ca_base.proofs.Tallies.{tallied_as}
use Rattle.ca_replace.specs.Resting.{IsResting}
use Rattle.ca_replace.proofs.Turns.{MySeat}
use Rattle.ca_rows.specs.declared.kept.Kept.{Kept}
use Rattle.ca_rows.specs.declared.sizes.Sizes.{Sizes}
use Rattle.ca_rows.specs.declared.tally.Tally.{Tally}
use Rattle.ca_rows.specs.declared.view.Claim.{Claim}
use Rattle.ca_rows.specs.declared.view.Met.{Met}
use Rattle.ca_rows.specs.declared.view.Claim.TheVariants.{Keeps}
use Rattle.ca_rows.specs.Claims.{claim_of}
use Rattle.ca_rows.specs.Kept.{AreKept}
use Rattle.ca_rows.specs.Reclaiming.{Reclaims}

-- What is claimed is kept still, where only kept rows were claimed before.
keeps_still : (m m' : MyTree) → Reclaims m m'
    → ((row : ℕ) (c : Claim) → claim_of m.0.claims row ≡ some c → (at : ℕ) × (c ≡ Keeps at))
    → (row : ℕ) (c : Claim)
    → claim_of m'.0.claims row ≡ some c → (at : ℕ) × (c ≡ Keeps at)
keeps_still m m' r only row c now = by (claim_of m.0.claims row) refl
  where
    by : (was : Option Claim) → claim_of m.0.claims row ≡ was → (at : ℕ) × (c ≡ Keeps at)
    by none is = let same = r.others row (λ t e. (let clash = sym is ∙ e in cc)) in
        (let clash = sym is ∙ (sym same ∙ now) in cc)
    by (some d) is = let keeps = only row d is in ⊎_elim
        (λ (back : (claim_of m'.0.claims row ≡ none)
        × (keeps.0 + 2 ≤ m'.0.pin.scan)). (let clash = sym back.0 ∙ now in cc))
        (λ (stays : (t : ℕ) × (keeps.0 ≤ t) × (claim_of m'.0.claims row ≡ some (Keeps t))
        × (m'.0.lost ≡ m.0.lost → t ≡ keeps.0)).
        (stays.0, (let same = sym now ∙ stays.2 in cc)))
        (r.kept row keeps.0 (is ∙ ap some keeps.1))

pub rests_still : (table : TableId) (z : Sizes) (number number' : ℕ) (tally tally' : Tally)
    (kept kept' : Vec Kept Global) (seat last : MySeat)
    → IsResting table z number tally kept seat → number' ≡ number → tally' ≡ tally
    → last.table_id ≡ seat.table_id → Reclaims seat.me last.me
    → AreKept z.rows last.me.0.claims kept' → (z.passes ≡ 1 → last.me.0.lost ≡ seat.me.0.lost)
    → IsResting table z number' tally' kept' last
rests_still table z number number' tally tally' kept kept' seat last r same counted there is list unlost =
    record {
      of = (there ∙ r.of.0, is.same_sizes ∙ r.of.1);
      numbered = (
        is.same_number ∙ (r.numbered.0 ∙ sym same),
        subst (λ n. 0 < n) (sym same) r.numbered.1,
        subst (λ n. n ≤ 64) (sym same) r.numbered.2,
      );
      same_number = ap (λ (u : TreeView). u.number) is.same_upper ∙ (r.same_number ∙ sym same);
      is_unpinned = is.same_pinned ∙ r.is_unpinned;
      only_keeps = keeps_still seat.me last.me is r.only_keeps;
      are_kept = list;
      few = let none = r.few.now in let eight = r.few.ever in let held = is.no_more_held in
          let most = is.least_most in
          record { now = omega arith; ever = omega arith };
      known = subst (IsKnown z) (sym is.same_upper) r.known;
      quiet = ap (λ (u : TreeView). u.ranges.own) is.same_upper ∙ r.quiet;
      left_before = let same = ap (λ (x : Met). x.lost) is.same_left in let before = r.left_before in
          let more = is.more_lost in omega arith;
      unlost = λ one. unlost one ∙ r.unlost one;
      tallied = tallied_as tally tally' seat.me.0.upper last.me.0.upper counted is.same_upper r.tallied;
    }
