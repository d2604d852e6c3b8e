use Rattle.std.proofs.Common.{sym, subst, ap, ◌∙◌, rules, arith}
use Rattle.ca_node.specs.States.{IsUnanswered}
use Rattle.ca_node.specs.Told.{MyTree}
use Rattle.ca_replace.specs.Attempting.{IsLooking}
use Rattle.ca_base.specs.Progress.{IsFurther}
use Rattle.ca_base.specs.Putting.{first_note}
use Rattle.ca_replace.proofs.Showing.{looking, walked_further, walked_unanswered, place_still}
use Rattle.ca_base.proofs.Tallies.{tallied_as}
use Rattle.ca_replace.proofs.Tallies.{tallied_walk}
use Rattle.ca_replace.proofs.attempting.find.Goals as goal

pub search-place-requires-clause-readable : goal.search-place-requires-clause-readable
search-place-requires-clause-readable c = (
  first_note c.walk_again-cursor.new.pass.seat.me.0.upper.notes,
  (looking c.args.space.now.table.shared.key c.args.key c.args.pass.now.seat.me
      c.walk_again-cursor.new.pass.seat.me c.walk_again-cursor.result
      c.walk_again-cursor.ensures.walked c.requires.leaf).readable,
)

pub returns : goal.returns
returns c = record {
  found = record {
    looked = record {
      same = search rules;
      number = search rules;
      tally = λ h.
          tallied_as c.walk_again-cursor.new.pass.tally c.search-place.new.pass.tally
          c.walk_again-cursor.new.pass.seat.me.0.upper
          c.search-place.new.pass.seat.me.0.upper c.search-place.ensures.frame.tally (ap
          (λ (m : MyTree). m.0.upper) c.search-place.ensures.frame.still)
          (tallied_walk c.args.space.now.table.shared.key _ c.args.pass.now.seat.me
          c.walk_again-cursor.new.pass.seat.me c.walk_again-cursor.result c.args.pass.now.tally
          c.walk_again-cursor.new.pass.tally c.walk_again-cursor.ensures.walked
          c.walk_again-cursor.ensures.frame.tally
          h);
      kept = search rules;
      own_range = ap (λ (m : MyTree). m.0.upper.ranges.own) c.search-place.ensures.frame.still
          ∙ ap (λ (m : MyTree). m.0.upper.ranges.own) c.walk_again-cursor.ensures.walked.now;
      still = search rules;
      quiet = search rules;
      looking = let z = c.args.space.now.table.shared.key in
          subst (λ (m : MyTree). IsLooking z m.0.upper c.args.key.now c.walk_again-cursor.result)
          (sym c.search-place.ensures.frame.still)
          (looking z c.args.key c.args.pass.now.seat.me c.walk_again-cursor.new.pass.seat.me
          c.walk_again-cursor.result c.walk_again-cursor.ensures.walked c.requires.leaf);
      place = let z = c.args.space.now.table.shared.key in
          place_still z c.walk_again-cursor.new.pass.seat.me c.search-place.new.pass.seat.me
          c.walk_again-cursor.result c.args.key.now c.search-place.result
          c.search-place.ensures.frame.still
          (looking z c.args.key c.args.pass.now.seat.me c.walk_again-cursor.new.pass.seat.me
          c.walk_again-cursor.result c.walk_again-cursor.ensures.walked c.requires.leaf)
          c.search-place.ensures.place;
      further = subst
          (λ (m : MyTree). IsFurther c.args.pass.now.seat.me.0.upper m.0.upper)
          (sym c.search-place.ensures.frame.still)
          (walked_further c.args.space.now.table.shared.key _ c.args.pass.now.seat.me
          c.walk_again-cursor.new.pass.seat.me c.walk_again-cursor.result
          c.walk_again-cursor.ensures.walked);
      since = ap (λ (m : MyTree). m.0.upper.since) c.search-place.ensures.frame.still
          ∙ ap (λ (m : MyTree). m.0.upper.since) c.walk_again-cursor.ensures.walked.now;
      unanswered = subst (λ (m : MyTree). IsUnanswered m.0.upper)
          (sym c.search-place.ensures.frame.still)
          (walked_unanswered c.args.space.now.table.shared.key _ c.args.pass.now.seat.me
          c.walk_again-cursor.new.pass.seat.me c.walk_again-cursor.result
          c.walk_again-cursor.ensures.walked
          c.requires.begins.asking.unanswered);
    };
    loads = let still = ap (λ (m : MyTree). m.0.upper.loads) c.search-place.ensures.frame.still in
        let now = ap (λ (m : MyTree). m.0.upper.loads) c.walk_again-cursor.ensures.walked.now in let
        few = c.walk_again-cursor.ensures.walked.few in omega arith;
    unfinished = ap (λ (m : MyTree). m.0.upper.ranges.unfinished) c.search-place.ensures.frame.still
        ∙ ap (λ (m : MyTree). m.0.upper.ranges.unfinished) c.walk_again-cursor.ensures.walked.now;
  };
}

pub walk_again-cursor-requires-clause-begins : goal.walk_again-cursor-requires-clause-begins
walk_again-cursor-requires-clause-begins c = c.requires.begins.begins

pub walk_again-cursor-requires-clause-reading : goal.walk_again-cursor-requires-clause-reading
walk_again-cursor-requires-clause-reading c = let ready = c.requires.begins.ready in record {
  own =
      ready.own;
  pinned = ready.pinned;
}
