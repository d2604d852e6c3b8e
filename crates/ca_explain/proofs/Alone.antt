-- Over a store that nobody else edits a step is the one-thread step on the known map, and no call is overtaken.
use Rattle.std.proofs.Common.{true, false, ◌≡◌, ℕ, List, [], ◌∷◌, ◌++◌, refl, sym, ◌∙◌, ap, subst, inl, inr, append-nil}
use Rattle.ca_model.specs.StoreMap.{StoreMap}
use Rattle.ca_model.specs.History.{Edit, History, after, after_edit, by_pass}
use Rattle.ca_model.specs.Event.{IsAnswer, effect}
use Rattle.ca_model.specs.Known.{around}
use Rattle.ca_explain.specs.Stands.{Stands}
use Rattle.ca_explain.specs.Carries.{with_edits}
use Rattle.ca_explain.specs.Steps.{HasPut, AloneSteps, AloneIsNeverOvertaken, SureIsNeverRefused}

by_pass_done : (i : ℕ) (es : List Edit) (m : StoreMap) → after (by_pass i es) m ≡ with_edits es m
by_pass_done i [] m = refl
by_pass_done i (e ∷ es) m = by_pass_done i es (after_edit e m)

-- A step over a store that nobody else edits is made on the known map.
pub alone : AloneSteps
alone a b k c r l t (inl s) h st =
    let none = s.alone h in
    let own = by_pass a.pass (effect s.event) in
    let here : after s.earlier a.map ≡ a.map = ap (λ (z : History). after z a.map) none.0 in
    let done = s.carries.at a.map t st (subst (λ (m : StoreMap). IsAnswer s.event m) here s.answer) in
    let all : around a.pass s.earlier s.event s.later ≡ own =
    ap (λ (z : History). z ++ own ++ s.later) none.0 ∙ ap (λ (z : History). own ++ z) none.1 ∙ append-nil own in
    let map_is : b.map ≡ with_edits (effect s.event) a.map =
    s.learns.map ∙ ap (λ (z : History). after z a.map) all ∙ by_pass_done a.pass (effect s.event) a.map in
    (done.0, done.1, subst (λ (m : StoreMap). Stands a.keypos m done.0) (sym map_is) done.2)
alone a b k c r l t (inr s) h st = (t, s.free.at t st.ordered st.bounded, subst (λ (m : StoreMap). Stands a.keypos m t) (sym s.stays.map) st)

-- A store that is sure refuses nothing.
pub never_refused : SureIsNeverRefused
never_refused a b counts sure refused = let no : true ≡ false = sym sure ∙ refused.unsure in cc

-- A call that learns of nothing is not overtaken.
pub never_overtaken : AloneIsNeverOvertaken
never_overtaken a b key alone overtaken =
    subst (λ (learnt : History). HasPut key learnt) (overtaken.refrains.alone alone) overtaken.put
