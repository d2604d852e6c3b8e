use Rattle.ca_replace.proofs.Again.{further_since, since_before}
use Rattle.ca_replace.specs.Attempting.{BeginsAt, at_pin}
use Rattle.std.proofs.Common.{◌∙◌}
use Rattle.std.proofs.Common.{ℕ, ◌+◌, List, length, map, Ok, Err, Some, None, false, true, refl, sym, ap, subst, arith}
use Rattle.std.specs.Prelude.{Result}
use Rattle.std.specs.List.{slice_range}
use Rattle.ca_model.specs.declared.outcome.Changed.{Changed}
use Rattle.ca_model.specs.declared.outcome.Changed.TheVariants as changed
use Rattle.ca_model.specs.Event.{Event, Change}
use Rattle.ca_model.specs.StoreMap.{Pair, IsPair}
use Rattle.ca_model.proofs.Alone.{may_leave, IsLeft, pair_of_bytes}
use Rattle.ca_model.specs.Places.{IsPlace}
use Rattle.ca_node.specs.Row.{pair}
use Rattle.ca_node.specs.States.{IsReadSince}
use Rattle.ca_node.specs.Told.{IsEntered}
use Rattle.ca_base.specs.Putting.{first_note, object_at}
use Rattle.ca_replace.specs.Attempting.{IsLooking, HasFetched}
use Rattle.ca_replace.specs.Tells.{Alters}
use Rattle.ca_replace.proofs.Asking.{left_of}
use Rattle.ca_replace.proofs.Showing.{did, read_done}
use Rattle.ca_replace.proofs.Meeting.{further_on}
use Rattle.ca_replace.specs.Adapting.{is_put}
use Rattle.ca_replace.proofs.Entries.{read_by}
use Rattle.ca_replace.proofs.Behind.{crowds_behind, few_behind, frame_behind, frame_entered, ready_behind, turn_edited, turn_entered, turn_halted, idle_behind}
use Rattle.ca_replace.proofs.changing.ChangeCallAttempt.attempt.Goals as goal

pub enter-requires-clause-answer : goal.enter-requires-clause-answer
enter-requires-clause-answer g c = let key : List ℕ = c.args.self.now.key.now in
    let w = c.fetch-place.new.pass.seat.me.0.upper in
    let none = subst
    (λ (p : Result ℕ ℕ).
    HasFetched c.args.tree.now.space.table.shared.key w key p c.fetch-place.new.old.items)
    c.in_default.is c.fetch-place.ensures.fetched in
    read_by w (Change key None None) c.fetch-place.ensures.found.looked.unanswered refl none.0

pub enter-requires-then-not-f-clause-answer : goal.enter-requires-then-not-f-clause-answer
enter-requires-then-not-f-clause-answer g c = let key : List ℕ = c.args.self.now.key.now in
    let w = c.fetch-place.new.pass.seat.me.0.upper in
    let old : List ℕ = c.fetch-place.new.old.items in
    let found = subst
    (λ (p : Result ℕ ℕ). HasFetched c.args.tree.now.space.table.shared.key w key p old) c.in-Ok.is
    c.fetch-place.ensures.fetched in
    subst (λ (o : List ℕ). IsReadSince (Change key (Some o) None) w)
    (sym c.as_slice-then-not-f.ensures.value)
    (read_by w (Change key (Some old) None) c.fetch-place.ensures.found.looked.unanswered refl
    found.0)

pub returns-in_default-clause-tried : goal.returns-in_default-clause-tried
returns-in_default-clause-tried g c = let key : List ℕ = c.args.self.now.key.now in
    let z = c.args.tree.now.space.table.shared.key in
    let w = c.fetch-place.new.pass.seat.me.0.upper in
    let old : List ℕ = c.fetch-place.new.old.items in
    let none = subst
    (λ (p : Result ℕ ℕ). HasFetched z w key p old) c.in_default.is
    c.fetch-place.ensures.fetched in
    read_done (λ (x : Changed)
    (e : Event). Alters g.F.Fn c.args.self.now.f.now key x old e) z
    (at_pin c.args.pass.now.seat.me.0.upper)
    c.fetch-place.new.pass.seat.me c.enter.new.pass.seat.me changed.Absent (Change key None None) (
      refl,
      none.1,
    ) (further_since c.args.pass.now.seat.me.0.upper
    c.fetch-place.new.pass.seat.me.0.upper c.requires.begins.asking
    c.fetch-place.ensures.found.looked.further)
    c.fetch-place.ensures.found.looked.looking.known
    (since_before c.args.pass.now.seat.me.0.upper c.fetch-place.new.pass.seat.me.0.upper
    c.fetch-place.ensures.found.looked.since) c.enter.ensures.entered

pub returns-then-not-f-clause-tried : goal.returns-then-not-f-clause-tried
returns-then-not-f-clause-tried g c = let key : List ℕ = c.args.self.now.key.now in
    let z = c.args.tree.now.space.table.shared.key in
    let w = c.fetch-place.new.pass.seat.me.0.upper in
    let old : List ℕ = c.fetch-place.new.old.items in
    let found = subst
    (λ (p : Result ℕ ℕ). HasFetched z w key p old) c.in-Ok.is c.fetch-place.ensures.fetched in
    read_done (λ (x : Changed)
    (e : Event). Alters g.F.Fn c.args.self.now.f.now key x old e) z
    (at_pin c.args.pass.now.seat.me.0.upper)
    c.fetch-place.new.pass.seat.me c.enter-then-not-f.new.pass.seat.me changed.Kept
    (Change key (Some old) None) (
      (
        _,
        _,
        may_leave g.F.Fn c.args.self.now.f.now old c.f.result false _ _ _ _ _ c.if-not-f.true
            c.as_slice.ensures.value c.clear.ensures c.f.ensures,
      ),
      refl,
    )
    (further_since c.args.pass.now.seat.me.0.upper
    c.fetch-place.new.pass.seat.me.0.upper c.requires.begins.asking
    c.fetch-place.ensures.found.looked.further)
    c.fetch-place.ensures.found.looked.looking.known
    (since_before c.args.pass.now.seat.me.0.upper c.fetch-place.new.pass.seat.me.0.upper
    c.fetch-place.ensures.found.looked.since)
    (subst (λ (o : List ℕ). IsEntered (Change key (Some o) None) c.fetch-place.new.pass.seat.me
    c.enter-then-not-f.new.pass.seat.me) c.as_slice-then-not-f.ensures.value
    c.enter-then-not-f.ensures.entered)

pub overflow_add-end : goal.overflow_add-end
overflow_add-end g c = let key : List ℕ = c.args.self.now.key.now in
    let z = c.args.tree.now.space.table.shared.key in
    let found = subst
    (λ (p : Result ℕ ℕ).
    HasFetched z c.fetch-place.new.pass.seat.me.0.upper key p c.fetch-place.new.old.items)
    c.in-Ok.is
    c.fetch-place.ensures.fetched in
    let l = left_of g.F.Fn c.args.self.now.f.now z.keypos key c.fetch-place.new.old.items c.f.result
    _ _ _ _ _ c.if-not-f.false c.as_slice.ensures.value
    c.clear.ensures c.requires.may found.1 c.f.ensures in
    record { fits = omega (arith, l.inside, l.pair.short) }

-- what the function left, as the pair that is put
left : (g : _) → (c : goal.After-put_there-arg-2-1 g)
    → IsLeft c.args.tree.now.space.table.shared.key.keypos c.args.self.now.key.now
    c.f.new.arg3.items c.f.new.arg4
left g c = let key : List ℕ = c.args.self.now.key.now in
    let z = c.args.tree.now.space.table.shared.key in
    let found = subst
    (λ (p : Result ℕ ℕ).
    HasFetched z c.fetch-place.new.pass.seat.me.0.upper key p c.fetch-place.new.old.items)
    c.in-Ok.is
    c.fetch-place.ensures.fetched in
    left_of g.F.Fn c.args.self.now.f.now z.keypos key c.fetch-place.new.old.items c.f.result _ _ _ _
    _ c.if-not-f.false c.as_slice.ensures.value
    c.clear.ensures c.requires.may found.1 c.f.ensures

pub put_there-requires-clause-keyed : goal.put_there-requires-clause-keyed
put_there-requires-clause-keyed g c = let l = left g c in record {
  within = (
    omega arith,
    omega (
      arith,
      l.inside,
      ap (λ (x : List ℕ). length x) c.as_slice-2.ensures.value,
    ),
  );
  pair_is = subst (λ (q : Pair). IsPair c.args.tree.now.space.table.shared.key.keypos q)
      (sym (pair_of_bytes c.as_slice-2.result.now c.f.new.arg3.items c.args.self.now.key.now
      c.f.new.arg4 c.as_slice-2.ensures.value l.key)) l.pair;
}

pub put_there-requires-clause-place : goal.put_there-requires-clause-place
put_there-requires-clause-place g c = let l = left g c in
    let m = map pair (first_note c.fetch-place.new.pass.seat.me.0.upper.notes).objects in
    subst (λ (q : Pair). IsPlace m q.0 (Ok c.in-Ok.at))
    (sym (pair_of_bytes c.as_slice-2.result.now c.f.new.arg3.items c.args.self.now.key.now
    c.f.new.arg4 c.as_slice-2.ensures.value l.key))
    (subst (λ (p : Result ℕ ℕ).
    IsPlace m c.args.self.now.key.now p) c.in-Ok.is c.fetch-place.ensures.found.looked.place)

pub returns-in-Ok-put_there-clause-tried : goal.returns-in-Ok-put_there-clause-tried
returns-in-Ok-put_there-clause-tried g c = let key : List ℕ = c.args.self.now.key.now in
    let z = c.args.tree.now.space.table.shared.key in
    let w = c.fetch-place.new.pass.seat.me.0.upper in
    let old : List ℕ = c.fetch-place.new.old.items in
    let slice : List ℕ = c.as_slice-2.result.now in let start : ℕ = c.f.new.arg4 in
    let found = subst
    (λ (p : Result ℕ ℕ). HasFetched z w key p old) c.in-Ok.is c.fetch-place.ensures.fetched in
    let may = may_leave g.F.Fn c.args.self.now.f.now old c.f.result true _ _ _ _ _ c.if-not-f.false
    c.as_slice.ensures.value c.clear.ensures c.f.ensures in
    let l = left_of g.F.Fn c.args.self.now.f.now z.keypos key old c.f.result _ _ _ _ _
    c.if-not-f.false c.as_slice.ensures.value
    c.clear.ensures c.requires.may found.1 c.f.ensures in
    let own = pair_of_bytes slice c.f.new.arg3.items key start c.as_slice-2.ensures.value l.key in
    did (λ (x : Changed) (e : Event). Alters g.F.Fn c.args.self.now.f.now key x old e) z
    (Change (slice_range slice start (start + length key))
    (Some (object_at (Ok c.in-Ok.at) (first_note w.notes).objects)) (Some slice)) changed.Put
    (at_pin c.args.pass.now.seat.me.0.upper) w c.put_there.new.pass.seat.me.0.upper (
      c.f.new.arg3.items,
      start,
      may,
      λ i. Change (own i).0 (Some (found.2 i)) (Some (own i).1),
    )
    (further_since c.args.pass.now.seat.me.0.upper
    c.fetch-place.new.pass.seat.me.0.upper c.requires.begins.asking
    c.fetch-place.ensures.found.looked.further)
    c.in-Ok-put_there.ensures.edited.tried

pub returns-in_default-clause-frame : goal.returns-in_default-clause-frame
returns-in_default-clause-frame g c =
    frame_entered c.fetch-place.ensures.found.looked c.requires.begins.ready c.requires.begins.known
    c.enter.new.pass _
    c.enter.ensures.frame c.enter.ensures.entered

pub returns-then-not-f-clause-frame : goal.returns-then-not-f-clause-frame
returns-then-not-f-clause-frame g c =
    frame_entered c.fetch-place.ensures.found.looked c.requires.begins.ready c.requires.begins.known
    c.enter-then-not-f.new.pass _ c.enter-then-not-f.ensures.frame
    c.enter-then-not-f.ensures.entered

pub returns-in-Ok-put_there-clause-frame : goal.returns-in-Ok-put_there-clause-frame
returns-in-Ok-put_there-clause-frame g c =
    frame_behind c.fetch-place.ensures.found.looked c.requires.begins.ready c.requires.begins.known
    c.put_there.new.pass
    c.put_there.ensures.edited.frame

pub returns-in-Err-clause-frame : goal.returns-in-Err-clause-frame
returns-in-Err-clause-frame g c =
    frame_behind c.fetch-place.ensures.found.looked c.requires.begins.ready c.requires.begins.known
    c.put_there.new.pass
    c.put_there.ensures.edited.frame

pub returns-in-Err-clause-tried : goal.returns-in-Err-clause-tried
returns-in-Err-clause-tried g c = (
  further_on c.args.pass.now.seat.me.0.upper c.fetch-place.new.pass.seat.me.0.upper
      c.put_there.new.pass.seat.me.0.upper c.fetch-place.ensures.found.looked.further
      c.in-Err.ensures.edited.tried.0,
  c.in-Err.ensures.edited.tried.1,
)

pub returns-in_default-clause-turn : goal.returns-in_default-clause-turn
returns-in_default-clause-turn g c =
    turn_entered c.fetch-place.ensures.found.looked c.requires.begins.ready c.requires.begins.known
    c.enter.new.pass _
    c.enter.ensures.frame c.enter.ensures.entered
    is_put None c.args.tree.now.tuning c.args.course.now _ changed.Absent refl _
    c.fetch-place.ensures.found.loads

pub returns-then-not-f-clause-turn : goal.returns-then-not-f-clause-turn
returns-then-not-f-clause-turn g c =
    turn_entered c.fetch-place.ensures.found.looked c.requires.begins.ready c.requires.begins.known
    c.enter-then-not-f.new.pass _ c.enter-then-not-f.ensures.frame
    c.enter-then-not-f.ensures.entered
    is_put None c.args.tree.now.tuning c.args.course.now _ changed.Kept refl _
    c.fetch-place.ensures.found.loads

pub returns-in-Ok-put_there-clause-turn : goal.returns-in-Ok-put_there-clause-turn
returns-in-Ok-put_there-clause-turn g c =
    turn_edited c.fetch-place.ensures.found.looked c.requires.begins.ready c.requires.begins.known
    c.put_there.new.pass
    is_put (Some _) None
    c.args.tree.now.tuning c.args.course.now c.put_there.new.course _ changed.Put refl
    c.in-Ok-put_there.ensures.edited.turn _ c.fetch-place.ensures.found.loads

pub returns-in-Err-clause-few_rows : goal.returns-in-Err-clause-few_rows
returns-in-Err-clause-few_rows g c = few_behind c.fetch-place.ensures.found.looked
    c.requires.begins.ready
    c.requires.begins.known {T = Unit {0}} (Err c.in-Err.stop)

pub returns-in-Err-clause-crowds : goal.returns-in-Err-clause-crowds
returns-in-Err-clause-crowds g c = crowds_behind c.fetch-place.ensures.found.looked
    c.requires.begins.ready
    c.requires.begins.known c.in-Err.stop c.put_there.new.pass c.in-Err.ensures.edited.crowds

pub returns-in-Err-clause-turn : goal.returns-in-Err-clause-turn
returns-in-Err-clause-turn g c =
    turn_halted c.fetch-place.ensures.found.looked c.requires.begins.ready c.requires.begins.known
    c.put_there.new.pass
    is_put (Some _) None
    c.args.tree.now.tuning c.args.course.now c.put_there.new.course _ c.in-Err.stop
    (λ e. absurd (c.in-Err.ensures.no_room.no_split (ap Err e))) c.in-Err.ensures.edited.turn _
    c.fetch-place.ensures.found.loads

pub returns-in-Err-clause-stays : goal.returns-in-Err-clause-stays
returns-in-Err-clause-stays g c = let key : List ℕ = c.args.self.now.key.now in
    let z = c.args.tree.now.space.table.shared.key in
    let old : List ℕ = c.fetch-place.new.old.items in
    let found = subst
    (λ (p : Result ℕ ℕ). HasFetched z c.fetch-place.new.pass.seat.me.0.upper key p old) c.in-Ok.is
    c.fetch-place.ensures.fetched in
    let l = left_of g.F.Fn c.args.self.now.f.now z.keypos key old c.f.result _ _ _ _ _
    c.if-not-f.false c.as_slice.ensures.value
    c.clear.ensures c.requires.may found.1 c.f.ensures in (
      c.in-Err.ensures.edited.stays.0 ∙ c.fetch-place.ensures.found.looked.since,
      subst (λ (q : Pair).
          BeginsAt z q.0 c.put_there.new.pass.seat.me.0.upper c.put_there.new.course.again)
          (pair_of_bytes c.as_slice-2.result.now c.f.new.arg3.items key
          c.f.new.arg4 c.as_slice-2.ensures.value l.key) c.in-Err.ensures.edited.stays.1,
      λ e. c.in-Err.ensures.edited.stays.2 e ∙ c.fetch-place.ensures.found.unfinished,
    )

pub put_there-requires-clause-may : goal.put_there-requires-clause-may
put_there-requires-clause-may g c = record {
  ready = ready_behind c.fetch-place.ensures.found.looked c.requires.begins.ready
      c.requires.begins.known;
  looking = let l = left g c in
      subst (λ (q : Pair).
      IsLooking c.args.tree.now.space.table.shared.key c.fetch-place.new.pass.seat.me.0.upper q.0
      c.fetch-place.result.0)
      (sym (pair_of_bytes c.as_slice-2.result.now c.f.new.arg3.items c.args.self.now.key.now
      c.f.new.arg4 c.as_slice-2.ensures.value l.key))
      c.fetch-place.ensures.found.looked.looking;
  unanswered = c.fetch-place.ensures.found.looked.unanswered;
  idle = idle_behind c.fetch-place.ensures.found.looked c.requires.begins.ready
      c.requires.begins.known c.fetch-place.ensures.found.unfinished
      c.requires.begins.idle;
}
