use Rattle.ca_replace.proofs.Again.{further_since, since_before}
use Rattle.ca_replace.specs.Attempting.{at_pin}
use Rattle.std.proofs.Common.{Err, ◌∙◌}
use Rattle.std.proofs.Common.{ℕ, List, map, Ok, Some, None, refl, subst, sym}
use Rattle.std.specs.Prelude.{Result}
use Rattle.ca_model.specs.declared.outcome.Changed.{Changed}
use Rattle.ca_model.specs.declared.outcome.Changed.TheVariants as changed
use Rattle.ca_model.specs.Event.{Event, Get, Remove}
use Rattle.ca_model.specs.Places.{IsPlace}
use Rattle.ca_node.specs.Row.{pair}
use Rattle.ca_node.specs.States.{IsReadSince}
use Rattle.ca_node.specs.Told.{IsEntered}
use Rattle.ca_base.specs.Putting.{first_note, object_at}
use Rattle.ca_replace.specs.Attempting.{HasFetched}
use Rattle.ca_replace.specs.Tells.{RemovesIf}
use Rattle.ca_replace.proofs.Showing.{did, read_done}
use Rattle.ca_replace.proofs.Meeting.{further_on}
use Rattle.ca_replace.specs.Adapting.{is_put}
use Rattle.ca_replace.proofs.Entries.{read_by}
use Rattle.ca_replace.proofs.Behind.{crowds_behind, few_behind, frame_behind, frame_entered, ready_behind, turn_edited, turn_entered, turn_halted, idle_behind}
use Rattle.ca_replace.proofs.removing.RemoveIfCallAttempt.attempt.Goals as goal

pub enter-requires-clause-answer : goal.enter-requires-clause-answer
enter-requires-clause-answer g c = let key : List ℕ = c.args.self.now.key.now in
    let w = c.fetch-place.new.pass.seat.me.0.upper in
    let none = subst
    (λ (p : Result ℕ ℕ).
    HasFetched c.args.tree.now.space.table.shared.key w key p c.fetch-place.new.old.items)
    c.in_default.is c.fetch-place.ensures.fetched in
    read_by w (Get key None) c.fetch-place.ensures.found.looked.unanswered refl none.0

pub enter-requires-then-not-f-clause-answer : goal.enter-requires-then-not-f-clause-answer
enter-requires-then-not-f-clause-answer g c = let key : List ℕ = c.args.self.now.key.now in
    let w = c.fetch-place.new.pass.seat.me.0.upper in
    let old : List ℕ = c.fetch-place.new.old.items in
    let found = subst
    (λ (p : Result ℕ ℕ). HasFetched c.args.tree.now.space.table.shared.key w key p old) c.in-Ok.is
    c.fetch-place.ensures.fetched in
    subst (λ (o : List ℕ). IsReadSince (Get key (Some o)) w)
    (sym c.as_slice-then-not-f.ensures.value)
    (read_by w (Get key (Some old)) c.fetch-place.ensures.found.looked.unanswered refl found.0)

pub returns-in_default-clause-tried : goal.returns-in_default-clause-tried
returns-in_default-clause-tried g c = let key : List ℕ = c.args.self.now.key.now in
    let z = c.args.tree.now.space.table.shared.key in
    let w = c.fetch-place.new.pass.seat.me.0.upper in
    let old : List ℕ = c.fetch-place.new.old.items in
    let none = subst
    (λ (p : Result ℕ ℕ). HasFetched z w key p old) c.in_default.is
    c.fetch-place.ensures.fetched in
    read_done (λ (x : Changed)
    (e : Event). RemovesIf g.F.Fn c.args.self.now.f.now key x old e) z
    (at_pin c.args.pass.now.seat.me.0.upper)
    c.fetch-place.new.pass.seat.me c.enter.new.pass.seat.me changed.Absent (Get key None) (
      refl,
      none.1,
    ) (further_since c.args.pass.now.seat.me.0.upper
    c.fetch-place.new.pass.seat.me.0.upper c.requires.begins.asking
    c.fetch-place.ensures.found.looked.further)
    c.fetch-place.ensures.found.looked.looking.known
    (since_before c.args.pass.now.seat.me.0.upper c.fetch-place.new.pass.seat.me.0.upper
    c.fetch-place.ensures.found.looked.since) c.enter.ensures.entered

pub f-requires : goal.f-requires
f-requires g c = let z = c.args.tree.now.space.table.shared.key in
    let found = subst
    (λ (p : Result ℕ ℕ).
    HasFetched z c.fetch-place.new.pass.seat.me.0.upper c.args.self.now.key.now p
    c.fetch-place.new.old.items) c.in-Ok.is
    c.fetch-place.ensures.fetched in
    c.requires.may c.fetch-place.new.old.items found.1 _ c.as_slice.ensures.value

pub returns-then-not-f-clause-tried : goal.returns-then-not-f-clause-tried
returns-then-not-f-clause-tried g c = let key : List ℕ = c.args.self.now.key.now in
    let z = c.args.tree.now.space.table.shared.key in
    let w = c.fetch-place.new.pass.seat.me.0.upper in
    let old : List ℕ = c.fetch-place.new.old.items in
    let found = subst
    (λ (p : Result ℕ ℕ). HasFetched z w key p old) c.in-Ok.is c.fetch-place.ensures.fetched in
    read_done (λ (x : Changed)
    (e : Event). RemovesIf g.F.Fn c.args.self.now.f.now key x old e) z
    (at_pin c.args.pass.now.seat.me.0.upper)
    c.fetch-place.new.pass.seat.me c.enter-then-not-f.new.pass.seat.me changed.Kept
    (Get key (Some old)) (
      record {
        shown =
            _;
        shows = c.as_slice.ensures.value;
        met = rw c.if-not-f.true at c.f.ensures;
      },
      refl,
    )
    (further_since c.args.pass.now.seat.me.0.upper
    c.fetch-place.new.pass.seat.me.0.upper c.requires.begins.asking
    c.fetch-place.ensures.found.looked.further)
    c.fetch-place.ensures.found.looked.looking.known
    (since_before c.args.pass.now.seat.me.0.upper c.fetch-place.new.pass.seat.me.0.upper
    c.fetch-place.ensures.found.looked.since)
    (subst (λ (o : List ℕ). IsEntered (Get key (Some o)) c.fetch-place.new.pass.seat.me
    c.enter-then-not-f.new.pass.seat.me) c.as_slice-then-not-f.ensures.value
    c.enter-then-not-f.ensures.entered)

pub remove_there-requires-clause-place : goal.remove_there-requires-clause-place
remove_there-requires-clause-place g c =
    let m = map pair (first_note c.fetch-place.new.pass.seat.me.0.upper.notes).objects in
    subst (λ (p : Result ℕ ℕ).
    IsPlace m c.args.self.now.key.now p) c.in-Ok.is c.fetch-place.ensures.found.looked.place

pub returns-in-Ok-remove_there-clause-tried : goal.returns-in-Ok-remove_there-clause-tried
returns-in-Ok-remove_there-clause-tried g c = let key : List ℕ = c.args.self.now.key.now in
    let z = c.args.tree.now.space.table.shared.key in
    let w = c.fetch-place.new.pass.seat.me.0.upper in
    let old : List ℕ = c.fetch-place.new.old.items in
    let found = subst
    (λ (p : Result ℕ ℕ). HasFetched z w key p old) c.in-Ok.is c.fetch-place.ensures.fetched in
    did (λ (x : Changed) (e : Event). RemovesIf g.F.Fn c.args.self.now.f.now key x old e) z
    (Remove key (Some (object_at (Ok c.in-Ok.at) (first_note w.notes).objects))) changed.Put
    (at_pin c.args.pass.now.seat.me.0.upper) w c.remove_there.new.pass.seat.me.0.upper (
      record {
        shown =
            _;
        shows = c.as_slice.ensures.value;
        met = rw c.if-not-f.false at c.f.ensures;
      },
      λ i. Remove key (Some (found.2 i)),
    )
    (further_since c.args.pass.now.seat.me.0.upper
    c.fetch-place.new.pass.seat.me.0.upper c.requires.begins.asking
    c.fetch-place.ensures.found.looked.further)
    c.in-Ok-remove_there.ensures.edited.tried

pub returns-in_default-clause-frame : goal.returns-in_default-clause-frame
returns-in_default-clause-frame g c =
    frame_entered c.fetch-place.ensures.found.looked c.requires.begins.ready c.requires.begins.known
    c.enter.new.pass _
    c.enter.ensures.frame c.enter.ensures.entered

pub returns-then-not-f-clause-frame : goal.returns-then-not-f-clause-frame
returns-then-not-f-clause-frame g c =
    frame_entered c.fetch-place.ensures.found.looked c.requires.begins.ready c.requires.begins.known
    c.enter-then-not-f.new.pass _ c.enter-then-not-f.ensures.frame
    c.enter-then-not-f.ensures.entered

pub returns-in-Ok-remove_there-clause-frame : goal.returns-in-Ok-remove_there-clause-frame
returns-in-Ok-remove_there-clause-frame g c =
    frame_behind c.fetch-place.ensures.found.looked c.requires.begins.ready c.requires.begins.known
    c.remove_there.new.pass c.remove_there.ensures.edited.frame

pub returns-in-Err-clause-frame : goal.returns-in-Err-clause-frame
returns-in-Err-clause-frame g c =
    frame_behind c.fetch-place.ensures.found.looked c.requires.begins.ready c.requires.begins.known
    c.remove_there.new.pass c.remove_there.ensures.edited.frame

pub returns-in-Err-clause-tried : goal.returns-in-Err-clause-tried
returns-in-Err-clause-tried g c = (
  further_on c.args.pass.now.seat.me.0.upper c.fetch-place.new.pass.seat.me.0.upper
      c.remove_there.new.pass.seat.me.0.upper c.fetch-place.ensures.found.looked.further
      c.in-Err.ensures.edited.tried.0,
  c.in-Err.ensures.edited.tried.1,
)

pub returns-in_default-clause-turn : goal.returns-in_default-clause-turn
returns-in_default-clause-turn g c =
    turn_entered c.fetch-place.ensures.found.looked c.requires.begins.ready c.requires.begins.known
    c.enter.new.pass _
    c.enter.ensures.frame c.enter.ensures.entered
    is_put None c.args.tree.now.tuning c.args.course.now _ changed.Absent refl _
    c.fetch-place.ensures.found.loads

pub returns-then-not-f-clause-turn : goal.returns-then-not-f-clause-turn
returns-then-not-f-clause-turn g c =
    turn_entered c.fetch-place.ensures.found.looked c.requires.begins.ready c.requires.begins.known
    c.enter-then-not-f.new.pass _ c.enter-then-not-f.ensures.frame
    c.enter-then-not-f.ensures.entered
    is_put None c.args.tree.now.tuning c.args.course.now _ changed.Kept refl _
    c.fetch-place.ensures.found.loads

pub returns-in-Ok-remove_there-clause-turn : goal.returns-in-Ok-remove_there-clause-turn
returns-in-Ok-remove_there-clause-turn g c =
    turn_edited c.fetch-place.ensures.found.looked c.requires.begins.ready c.requires.begins.known
    c.remove_there.new.pass is_put None None
    c.args.tree.now.tuning c.args.course.now c.remove_there.new.course _ changed.Put refl
    c.in-Ok-remove_there.ensures.edited.turn _ c.fetch-place.ensures.found.loads

pub returns-in-Err-clause-few_rows : goal.returns-in-Err-clause-few_rows
returns-in-Err-clause-few_rows g c = few_behind c.fetch-place.ensures.found.looked
    c.requires.begins.ready
    c.requires.begins.known {T = Unit {0}} (Err c.in-Err.stop)

pub returns-in-Err-clause-crowds : goal.returns-in-Err-clause-crowds
returns-in-Err-clause-crowds g c = crowds_behind c.fetch-place.ensures.found.looked
    c.requires.begins.ready
    c.requires.begins.known c.in-Err.stop c.remove_there.new.pass c.in-Err.ensures.edited.crowds

pub returns-in-Err-clause-turn : goal.returns-in-Err-clause-turn
returns-in-Err-clause-turn g c =
    turn_halted c.fetch-place.ensures.found.looked c.requires.begins.ready c.requires.begins.known
    c.remove_there.new.pass is_put None None
    c.args.tree.now.tuning c.args.course.now c.remove_there.new.course _ c.in-Err.stop (λ _. refl)
    c.in-Err.ensures.edited.turn _ c.fetch-place.ensures.found.loads

pub returns-in-Err-clause-stays : goal.returns-in-Err-clause-stays
returns-in-Err-clause-stays g c = (
  c.in-Err.ensures.edited.stays.0 ∙ c.fetch-place.ensures.found.looked.since,
  c.in-Err.ensures.edited.stays.1,
  λ e. c.in-Err.ensures.edited.stays.2 e ∙ c.fetch-place.ensures.found.unfinished,
)

pub remove_there-requires-clause-may : goal.remove_there-requires-clause-may
remove_there-requires-clause-may g c = record {
  ready = ready_behind c.fetch-place.ensures.found.looked c.requires.begins.ready
      c.requires.begins.known;
  looking = c.fetch-place.ensures.found.looked.looking;
  unanswered = c.fetch-place.ensures.found.looked.unanswered;
  idle = idle_behind c.fetch-place.ensures.found.looked c.requires.begins.ready
      c.requires.begins.known c.fetch-place.ensures.found.unfinished
      c.requires.begins.idle;
}
