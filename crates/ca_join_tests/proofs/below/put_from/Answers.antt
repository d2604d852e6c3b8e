use Rattle.std.proofs.Common.{◌≡◌, length, sym, ◌∙◌, subst}
use Rattle.ca_base.specs.Finding.{IsReadable}
use Rattle.ca_base.specs.Putting.{first_note}
use Rattle.ca_node.specs.Told.{MyTree, IsSettled}
use Rattle.ca_replace.proofs.Ready.{ready_read, reads_both}
use Rattle.ca_replace.proofs.Showing.{shown_last}
use Rattle.ca_replace.specs.Attempting.{IsLooking}
use Rattle.ca_join_tests.proofs.Stale.{ready_tried}
use Rattle.ca_join_tests.specs.Objects.{number_code}
use Rattle.ca_join_tests.proofs.below.put_from.Goals as goal

pub search-requires-clause-readable : goal.search-requires-clause-readable
search-requires-clause-readable c = (first_note c.args.pass.now.seat.me.0.upper.notes, c.requires.below.looking.readable)

pub count-many-requires-clause-readable : goal.count-many-requires-clause-readable
count-many-requires-clause-readable c = let note = first_note c.args.pass.now.seat.me.0.upper.notes in (
  note,
  subst (λ (m : MyTree). IsReadable c.args.space.now.table.shared.key m.0.upper c.args.cursor.base note) (sym c.search.ensures.frame.still)
      c.requires.below.looking.readable,
)

pub put_at-tried-requires-clause-target : goal.put_at-tried-requires-clause-target
put_at-tried-requires-clause-target c = let z = c.args.space.now.table.shared.key in let q = c.count-many.new.pass in
    let same = c.count-many.ensures.frame.still ∙ c.search.ensures.frame.still in let note = first_note c.args.pass.now.seat.me.0.upper.notes in
    let l = subst (λ (m : MyTree). IsLooking z m.0.upper (number_code c.args.key) c.args.cursor) (sym same) c.requires.below.looking in
    let many = c.count-many.ensures.count note
    (subst (λ (m : MyTree). IsReadable z m.0.upper c.args.cursor.base note) (sym c.search.ensures.frame.still) c.requires.below.looking.readable) in record {
      leaf = c.requires.leaf;
      shown = shown_last z q.seat.me.0.upper (number_code c.args.key) c.args.cursor l
          (subst (λ (m : MyTree). IsSettled m.0.upper (first_note m.0.upper.notes).its) (sym same) c.requires.below.settled);
      at = l.at;
      many_are = subst (λ (m : MyTree). c.count-many.result ≡ length (first_note m.0.upper.notes).objects) (sym same) many;
    }

pub returns-clause-ready : goal.returns-clause-ready
returns-clause-ready c = λ x e. ready_tried _ _ c.put_at-tried.result
    (ready_read (reads_both c.search.ensures.frame c.count-many.ensures.frame) c.requires.below.ready) c.put_at-tried.ensures.frame
    c.put_at-tried.ensures.put
