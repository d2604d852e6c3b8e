use Rattle.std.proofs.Common.{ℕ, map, Ok, sym, subst, ap, ◌∙◌, arith, rules}
use Rattle.std.specs.Prelude.{Result}
use Rattle.ca_model.specs.Places.{IsPlace}
use Rattle.ca_node.specs.Row.{pair}
use Rattle.ca_node.specs.Told.{MyTree}
use Rattle.ca_base.specs.Putting.{first_note}
use Rattle.ca_base.proofs.Searching.{place_inside}
use Rattle.ca_replace.specs.Attempting.{HasFetched}
use Rattle.ca_replace.specs.Looking.{HasLooked}
use Rattle.ca_replace.proofs.Showing.{fetched, none_found}
use Rattle.ca_base.proofs.Tallies.{tallied_as}
use Rattle.ca_replace.proofs.attempting.fetch.Goals as goal

pub copy_at-requires-clause-readable : goal.copy_at-requires-clause-readable
copy_at-requires-clause-readable c =
    let note = first_note c.find-place.new.pass.seat.me.0.upper.notes in
    let at = subst
    (λ (p : Result ℕ ℕ). IsPlace (map pair note.objects) c.args.key.now p) c.in-Ok.is
    c.find-place.ensures.found.looked.place in (
      note,
      c.find-place.ensures.found.looked.looking.readable,
      place_inside note c.args.key.now c.in-Ok.at at,
    )

pub returns-in-Ok-clause-fetched : goal.returns-in-Ok-clause-fetched
returns-in-Ok-clause-fetched c = let z = c.args.space.now.table.shared.key in
    let w = c.find-place.new.pass.seat.me.0.upper in let note = first_note w.notes in
    let old = c.copy_at.new.into.items in
    let at = subst
    (λ (p : Result ℕ ℕ). IsPlace (map pair note.objects) c.args.key.now p) c.in-Ok.is
    c.find-place.ensures.found.looked.place in
    subst (λ (m : MyTree). HasFetched z m.0.upper c.args.key.now (Ok c.in-Ok.at) old)
    (sym c.copy_at.ensures.frame.still)
    (fetched z w c.find-place.result.0 c.in-Ok.at c.args.key.now old
    c.find-place.ensures.found.looked.looking at
    (c.copy_at.ensures.object note c.find-place.ensures.found.looked.looking.readable
    (place_inside note c.args.key.now c.in-Ok.at at)))

pub returns-in-Err-clause-fetched : goal.returns-in-Err-clause-fetched
returns-in-Err-clause-fetched c = let z = c.args.space.now.table.shared.key in
    let w = c.find-place.new.pass.seat.me.0.upper in let note = first_note w.notes in
    let at = subst
    (λ (p : Result ℕ ℕ). IsPlace (map pair note.objects) c.args.key.now p) c.in-Err.is
    c.find-place.ensures.found.looked.place in (
      none_found z w c.find-place.result.0 c.args.key.now _
          c.find-place.ensures.found.looked.looking at,
      c.clear.ensures,
    )

pub returns-in-Ok-clause-found : goal.returns-in-Ok-clause-found
returns-in-Ok-clause-found c = record {
  looked = record {
    same = search rules;
    number = search rules;
    tally = λ h.
        tallied_as c.find-place.new.pass.tally c.copy_at.new.pass.tally
        c.find-place.new.pass.seat.me.0.upper
        c.copy_at.new.pass.seat.me.0.upper c.copy_at.ensures.frame.tally (ap
        (λ (m : MyTree). m.0.upper) c.copy_at.ensures.frame.still)
        (c.find-place.ensures.found.looked.tally h);
    kept = search rules;
    own_range = search rules;
    still = search rules;
    quiet = search rules;
    looking = search rules;
    place = search rules;
    further = search rules;
    since = search rules;
    unanswered = search rules;
  };
  loads = let still = ap (λ (m : MyTree). m.0.upper.loads) c.copy_at.ensures.frame.still in
      let few = c.find-place.ensures.found.loads in omega arith;
  unfinished = ap (λ (m : MyTree). m.0.upper.ranges.unfinished) c.copy_at.ensures.frame.still
      ∙ c.find-place.ensures.found.unfinished;
}

pub returns-in-Err-clause-found : goal.returns-in-Err-clause-found
returns-in-Err-clause-found c = record {
  looked = subst (λ (p : Result ℕ ℕ).
      HasLooked c.args.space.now c.args.key.now c.find-place.result.0 p c.args.pass.now
      c.find-place.new.pass) c.in-Err.is
      c.find-place.ensures.found.looked;
  loads = c.find-place.ensures.found.loads;
  unfinished = c.find-place.ensures.found.unfinished;
}
