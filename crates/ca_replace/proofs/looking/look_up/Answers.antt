use Rattle.std.proofs.Common.{ℕ, List, map, None, Some, refl, sym, subst, ◌∙◌}
use Rattle.std.specs.Prelude.{Result}
use Rattle.ca_model.specs.Event.{Get}
use Rattle.ca_model.specs.Places.{IsPlace}
use Rattle.ca_node.specs.Row.{pair}
use Rattle.ca_node.specs.States.{IsReadSince}
use Rattle.ca_node.specs.Told.{MyTree, IsEntered}
use Rattle.ca_base.specs.Finding.{IsReadable}
use Rattle.ca_base.specs.Putting.{first_note}
use Rattle.ca_base.proofs.Searching.{found_object, place_inside}
use Rattle.ca_replace.proofs.Entries.{read_by}
use Rattle.ca_replace.proofs.Showing.{one_found, none_found}
use Rattle.ca_replace.proofs.looking.look_up.Goals as goal

pub search-requires-clause-readable : goal.search-requires-clause-readable
search-requires-clause-readable c =
    (first_note c.args.pass.now.seat.me.0.upper.notes, c.requires.looking.readable)

pub enter-requires-clause-answer : goal.enter-requires-clause-answer
enter-requires-clause-answer c = let z = c.args.space.now.table.shared.key in
    let me = c.args.pass.now.seat.me in let note = first_note me.0.upper.notes in
    let at = subst
    (λ (p : Result ℕ ℕ). IsPlace (map pair note.objects) c.args.key.now p) c.in_default.is
    (c.search.ensures.place note c.requires.looking.readable) in
    subst (λ (m : MyTree). IsReadSince (Get c.args.key.now None) m.0.upper)
    (sym c.search.ensures.frame.still)
    (read_by me.0.upper (Get c.args.key.now None) c.requires.unanswered refl
    (none_found z me.0.upper c.args.cursor c.args.key.now _ c.requires.looking at))

pub enter-requires-2-clause-answer : goal.enter-requires-2-clause-answer
enter-requires-2-clause-answer c = let z = c.args.space.now.table.shared.key in
    let me = c.args.pass.now.seat.me in let note = first_note me.0.upper.notes in
    let r = c.requires.looking.readable in let object = c.as_slice.result.now in
    let at = subst
    (λ (p : Result ℕ ℕ). IsPlace (map pair note.objects) c.args.key.now p) c.in-Ok.is
    (c.search.ensures.place note r) in
    let copied = c.copy_at.ensures.object note (subst
    (λ (m : MyTree). IsReadable z m.0.upper c.args.cursor.base note)
    (sym c.search.ensures.frame.still) r)
    (place_inside note c.args.key.now c.in-Ok.place at) in
    subst (λ (m : MyTree). IsReadSince (Get c.args.key.now (Some object)) m.0.upper)
    (sym (c.copy_at.ensures.frame.still ∙ c.search.ensures.frame.still))
    (read_by me.0.upper (Get c.args.key.now (Some object)) c.requires.unanswered refl
    (one_found z me.0.upper c.args.cursor c.args.key.now object c.requires.looking
    (found_object note c.args.key.now object c.in-Ok.place at
    (c.as_slice.ensures.value ∙ copied))))

pub copy_at-requires-clause-readable : goal.copy_at-requires-clause-readable
copy_at-requires-clause-readable c = let z = c.args.space.now.table.shared.key in
    let note = first_note c.args.pass.now.seat.me.0.upper.notes in
    let r = c.requires.looking.readable in
    let at = subst
    (λ (p : Result ℕ ℕ). IsPlace (map pair note.objects) c.args.key.now p) c.in-Ok.is
    (c.search.ensures.place note r) in (
      note,
      subst (λ (m : MyTree). IsReadable z m.0.upper c.args.cursor.base note)
          (sym c.search.ensures.frame.still) r,
      place_inside note c.args.key.now
          c.in-Ok.place at,
    )

pub returns-in_default-clause-entered : goal.returns-in_default-clause-entered
returns-in_default-clause-entered c =
    subst (λ (m : MyTree). IsEntered (Get c.args.key.now None) m c.enter.new.pass.seat.me)
    c.search.ensures.frame.still c.enter.ensures.entered

pub returns-clause-entered : goal.returns-clause-entered
returns-clause-entered c =
    subst (λ (object : List ℕ).
    IsEntered (Get c.args.key.now (Some object)) c.args.pass.now.seat.me c.enter-2.new.pass.seat.me)
    c.as_slice.ensures.value
    (subst (λ (m : MyTree).
    IsEntered (Get c.args.key.now (Some c.as_slice.result.now)) m c.enter-2.new.pass.seat.me)
    (c.copy_at.ensures.frame.still ∙ c.search.ensures.frame.still) c.enter-2.ensures.entered)
