-- The machine values of a seat and of a seat at rest: neither has bytes.
use Rattle.std.proofs.Common.{◌≡◌, T, List, [], ◌∷◌, ◌++◌, ap, ◌∙◌}
use seplogic.Ra.Ura.{Ura}
use base.Logic.{via}
use types.Logic.{Logic}
use contract.Lifetimes.{Lfts}
use denote.Exit.{Kept, Last, left}
use denote.Param.Mute.{blank, had}
use denote.Signature.{Slot}
use denote.Triple.Walked.{Goes, stay_dropped}
use Prim.Native.Nat.{ℕ}
use mir.Syntax.{Ty, ty_struct, tcons, tnil}
use mir.Val.{Val, vstruct, vcons, vnil, of_list, has_ty, WT}
use denote.Laws.{Is}
use denote.Param.Send.{IsSend}
use denote.RattleType.{RattleType}
use Rattle.atomic_table.proofs.Fields.{token_val, token_told}
use Rattle.atomic_table.proofs.Sent.{seat_keyless}
use Rattle.atomic_table.specs.contracts.shared.Seat as seat
use Rattle.ca_rows.specs.contracts.rest.Rest as rest

abbrev pub rest_val : Val
rest_val = vstruct (vcons token_val vnil)

abbrev seat_ty : Ty
seat_ty = ty_struct [] (tcons (ty_struct [] tnil) tnil)

pub seat_good : T (has_ty seat_ty token_val) × WT token_val
seat_good = (tt, (tt, tt))

pub rest_good : T (has_ty (ty_struct [] (tcons seat_ty tnil)) rest_val) × WT rest_val
rest_good = (tt, ((tt, tt), tt))

module _ (S V : RattleType) where
  pub seat_told : (d : (seat.the_row S V).Denot) (vs : List Val) → Is (seat.the_row S V) d vs
      → vs ≡ token_val ∷ []
  seat_told d vs so = token_told S V vs so.0

  pub rest_told : (d : (rest.the_row S V).Denot) (vs : List Val) → Is (rest.the_row S V) d vs
      → vs ≡ rest_val ∷ []
  rest_told d vs so = let is = so.0 in
      is.1.0 ∙ ap
      (λ (ws : List Val). vstruct (of_list (ws ++ [])) ∷ []) (seat_told d.seat is.0.0 is.1.1.0)

  -- It may go where the seat may.
  pub rest_send : IsSend S → IsSend (rest.the_row S V)
  rest_send s = record {
    owned = λ d vs. (
      (λ vss. (
        tt,
        (
          (
            (λ uss. (tt, ((λ wss. (tt, tt)), tt))),
            seat_keyless S s V.coded.code d.seat.table_id d.seat.id d.seat.me,
          ),
          tt,
        ),
      )),
      tt,
    );
    leaving = λ k f vs. (tt, tt);
  }

-- An owner that is used up leaves nothing, as the kit's proofs have it.
pub Goes-blank : {M : Type 1} {𝓤 : Ura M} (𝓛 : Logic 𝓤) (n : ℕ) (s : Slot n) (k : Kept)
    → ((κs : Lfts n) (x : (s.row κs).Denot) (f : Last ((s.row κs).exit k) x)
    → T (blank (left ((s.row κs).exit k) x f))) → Goes 𝓛 n s k (stay_dropped s k)
Goes-blank {𝓤 = 𝓤} 𝓛 n s k is κs x f vs ok =
    via 𝓤 _ (had 𝓛 (left ((s.row κs).exit k) x f) (is κs x f)) (𝓛.laws.⇛_intro _)
