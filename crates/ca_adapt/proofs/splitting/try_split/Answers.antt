use Rattle.std.proofs.Common.{◌≡◌, length, sym, subst, arith}
use Rattle.ca_node.specs.Told.{MyTree}
use Rattle.ca_base.specs.Finding.{IsAtCursor}
use Rattle.ca_base.specs.Putting.{IsShownLast, first_note}
use Rattle.ca_base.proofs.Fronted.{first_noted}
use Rattle.ca_adapt.proofs.Dividing.{one_try_as, put_back_as, split_as, pools_as}
use Rattle.ca_adapt.proofs.splitting.try_split.Goals as goal

pub returns-clause-split : goal.returns-clause-split
returns-clause-split c = let note = first_note c.args.pass.now.seat.me.0.upper.notes in
    let are = c.count-many.ensures.count note c.requires.readable in
    let some = c.if-many-lt2.false in let above = c.if-cursor-tuning.false in
    let at = c.requires.at.level in let levels = c.requires.tuned.levels in
    split_as c.args.space.now.table.shared.key note c.split_at.result c.answer.result
    c.count-many.result c.first_attempt-attempt.result
    c.args.pass.now.seat.me c.count-many.new.pass.seat.me c.split_at.new.pass.seat.me
    c.count-many.ensures.frame.still are
    c.first_attempt-attempt.ensures.value c.answer.ensures (
      omega (arith, some),
      omega (arith, above),
    ) c.split_at.ensures.found c.split_at.ensures.split

pub returns-clause-won : goal.returns-clause-won
returns-clause-won c alone listed =
    pools_as c.args.space.now.table.shared.key c.split_at.result c.answer.result c.count-many.result
    c.first_attempt-attempt.result c.args.pass.now.seat.me c.count-many.new.pass.seat.me
    c.split_at.new.pass.seat.me c.count-many.ensures.frame.still
    c.answer.ensures c.split_at.ensures.won c.split_at.ensures.split alone listed

pub returns-clause-once : goal.returns-clause-once
returns-clause-once c =
    one_try_as c.split_at.result c.answer.result c.args.pass.now.seat.me
    c.count-many.new.pass.seat.me c.split_at.new.pass.seat.me
    c.count-many.ensures.frame.still c.answer.ensures c.split_at.ensures.found

pub returns-clause-back : goal.returns-clause-back
returns-clause-back c =
    put_back_as c.split_at.result c.args.cursor.base c.answer.result c.args.pass.now.seat.me
    c.count-many.new.pass.seat.me c.split_at.new.pass.seat.me
    c.args.pass.now.kept c.count-many.new.pass.kept c.split_at.new.pass.kept
    c.count-many.ensures.frame.still c.count-many.ensures.frame.kept
    c.answer.ensures c.split_at.ensures.back

pub split_at-requires-clause-target : goal.split_at-requires-clause-target
split_at-requires-clause-target c = let z = c.args.space.now.table.shared.key in
    let r = c.requires.readable in
    let same = sym c.count-many.ensures.frame.still in record {
      leaf = let most = c.requires.tuned.allowed.most_leaf in let leaf = c.requires.tuned.leaf in
          omega arith;
      shown = subst (λ (m : MyTree). IsShownLast z m.0.upper c.args.cursor.base) same
          record {
            noted = first_noted z c.args.pass.now.seat.me.0.upper c.args.cursor.base r;
            here = r.here;
            is_base = r.is_base;
            settled = c.requires.settled;
          };
      at = subst
          (λ (m : MyTree). IsAtCursor z (first_note m.0.upper.notes) c.args.cursor) same
          c.requires.at;
      many_are = subst (λ (m : MyTree). c.count-many.result
          ≡ length (first_note m.0.upper.notes).objects) same
          (c.count-many.ensures.count (first_note c.args.pass.now.seat.me.0.upper.notes) r);
    }
