-- The seat goes into the struct.
use Rattle.atomic_table.proofs.Names.{◌≡◌, List, [], ◌∷◌, ◌++◌, refl, a_type, Val, vstruct, inst_fn, SProp, emp, fsep, ‵, raw, ◌⊛◌, ◌$◌, ◌∵◌, !, qed, by, move, keep, split, fjoin, fpack, use0, feq_i, of_opd, no_more, and_then, returns, enter, alloc_all, pass_all, free_all, look_at, get, sets, agg, tables, no, RattleType, owns, Valss, types_at, plain, nothing, param, layouts, alive, Stays, stay_dropped, walk_of, Goes-dropped, fact, fact_i, of_list}
use Rattle.atomic_table.proofs.Walks.{proved, leaves}
use Rattle.atomic_table.specs.contracts.shared.Seat as seat
use Rattle.atomic_table.proofs.Fields.{token_val}
use Rattle.ca_rows.specs.contracts.rest.Rest as rest
use Rattle.ca_rows.proofs.Resting.{rest_val, seat_good, rest_good, seat_told}
use Rattle.ca_rows.specs.contracts.rest.Rest.lay.{ended, clauses}
use Rattle.ca_rows.specs.contracts.rest.Rest.lay.Key.{name as #self}
use Rattle.ca_rows.proofs.rest.Rest.lay.Statement.{statement}
use Rattle.ca_rows.proofs.rest.Rest.lay.Code as code

pub lay_spec : {M : Type 1} → statement M
lay_spec 𝓤 𝓛 𝓜 𝓡 wired S V _ _ =
    let H = 𝓛.H in let 𝓣 = tables 𝓤 H 𝓜 𝓡 𝓡.env in let Row : RattleType = param 0 S in
    let View : RattleType = param 1 V in let En = ended S V in
    let c = clauses S V 𝓛 𝓜.mem 𝓡.returns in
    let inst = layouts (a_type ∷ a_type ∷ []) (S, (V, tt)) in let fn = inst_fn inst code.function in
    let Lr : RattleType = seat.the_row Row View in
    let Rr : RattleType = rest.the_row Row View in
    let hs : Stays En.signature.params En.kept = (stay_dropped (plain (λ _. Lr)) no, tt) in
    proved 𝓛 En hs c 𝓜 𝓡 (
      Goes-dropped 𝓛 2 (plain (λ _. Lr)) no (λ κs x f. refl),
      tt,
    ) (#self inst) fn (code.unfolded 𝓤 H 𝓜 𝓡 wired (S, (V, tt)))
    (λ κs. ((λ x. token_val ∷ []), tt)) (λ κs. ((λ x vs so. seat_told Row View x vs so), tt))
    (λ κs qs bounds a gh are.
    let x : Lr.Denot = a.0 in let v : Val = token_val in let u : Val = rest_val in
    let r : Rr.Denot = record { seat = x } in
    let y : (walk_of 𝓛 En hs c).Ghost = ((κs, qs, bounds, a, (v ∷ [], tt)), gh) in
    let Post : Val → SProp 𝓤 = (walk_of 𝓛 En hs c).post y in
    qed 𝓛 ((raw (alive 𝓛 En.signature κs qs) ⊛ ‵ (owns (types_at En.signature.params κs) a y.0.4)) ∷
    raw ((c κs a).requires gh) ∷ []) ∵
    split ! $ keep ! (1 ∷ 0 ∷ []) $ feq_i ! (List Val) (u ∷ []) (u ∷ []) refl $ fjoin ! $
    fpack ! (Valss (Lr ∷ []))
    (λ vss. fsep (base.Fml.feq (List Val) (u ∷ []) (vstruct (of_list (vss.0 ++ [])) ∷ []))
    (owns (Lr ∷ []) (x, tt) vss))
    (v ∷ [], tt) $ nothing ! $ move ! (1 ∷ 0 ∷ []) $ fjoin ! $
    enter ! 𝓣.C 𝓣.Λ fn (v ∷ []) Post $ alloc_all ! (λ l. pass_all ! refl (seat_good, tt) $
    sets ! (of_opd ! (get ! refl)) refl (seat_good) $ sets !
    (agg ! (and_then ! (get ! refl) (no_more !))) refl (rest_good) $
    use0 𝓛 (raw (fact 𝓤 (x ≡ x))) (fact_i 𝓤 (x ≡ x) (emp 𝓤) refl) $ nothing ! $ nothing ! $ fjoin !
    $
    returns ! (look_at ! 0 refl) $ free_all ! refl $ keep ! (3 ∷ 0 ∷ 2 ∷ 1 ∷ []) $ by !
    (leaves 𝓛 En hs c y u r (tt, tt) (tt, tt))))
