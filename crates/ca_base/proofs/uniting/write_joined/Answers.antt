use Rattle.std.proofs.Common.{◌≡◌, ℕ, List, length, ap, sym, subst, ◌∙◌, arith}
use Rattle.ca_node.specs.Row.{count, prefix}
use Rattle.ca_node.specs.Told.{MyTree}
use Rattle.ca_base.specs.Joined.{AreTrimmed}
use Rattle.ca_base.specs.Writing.{IsHeld, IsRewritten}
use Rattle.ca_base.proofs.JoinedFronts.{both_short, front_long, spells_joined, words_many}
use Rattle.ca_base.proofs.Parts.{joinable_still, shown_seen}
use Rattle.ca_base.proofs.uniting.write_joined.Goals as goal

pub copy_prefix-requires-clause-shown : goal.copy_prefix-requires-clause-shown
copy_prefix-requires-clause-shown c = let s = c.requires.shown in let z = c.args.space.now.table.shared.key in
    let still = c.items_of-more.ensures.frame.still ∙ c.items_of-many.ensures.frame.still in
    let j = joinable_still z c.args.pass.now.seat.me c.items_of-more.new.pass.seat.me c.args.left c.args.right s.0 s.1 still s.2 in
    (s.0, shown_seen z c.items_of-more.new.pass.seat.me.0.upper c.args.left s.0 j.left_shown)

pub copy_prefix-requires-2-clause-shown : goal.copy_prefix-requires-2-clause-shown
copy_prefix-requires-2-clause-shown c = let s = c.requires.shown in let z = c.args.space.now.table.shared.key in
    let still = c.copy_prefix.ensures.frame.still ∙ (c.items_of-more.ensures.frame.still ∙ c.items_of-many.ensures.frame.still) in
    let j = joinable_still z c.args.pass.now.seat.me c.copy_prefix.new.pass.seat.me c.args.left c.args.right s.0 s.1 still s.2 in
    (s.1, shown_seen z c.copy_prefix.new.pass.seat.me.0.upper c.args.right s.1 j.right_shown)

pub write_parts-requires-clause-row : goal.write_parts-requires-clause-row
write_parts-requires-clause-row c = let one = c.items_of-many.ensures.frame in let two = c.items_of-more.ensures.frame in
    let three = c.copy_prefix.ensures.frame in let four = c.copy_prefix-2.ensures.frame in
    let still = four.still ∙ (three.still ∙ (two.still ∙ one.still)) in record {
      reading = record {
        own = (
          four.same.0 ∙ (three.same.0 ∙ (two.same.0 ∙ (one.same.0 ∙ c.requires.row.reading.own.0))),
          ap (λ (m : MyTree). m.0.sizes) still ∙ c.requires.row.reading.own.1,
        );
        pinned = ap (λ (m : MyTree). m.0.pin.pinned) still ∙ c.requires.row.reading.pinned;
      };
      held = (c.requires.row.held.0, subst (λ (m : MyTree). IsHeld m c.args.row) (sym still) c.requires.row.held.1);
    }

pub write_parts-requires-clause-shown : goal.write_parts-requires-clause-shown
write_parts-requires-clause-shown c = let s = c.requires.shown in let z = c.args.space.now.table.shared.key in
    let more = c.items_of-more.ensures.frame.still ∙ c.items_of-many.ensures.frame.still in
    let still = c.copy_prefix-2.ensures.frame.still ∙ (c.copy_prefix.ensures.frame.still ∙ more) in
    let one = joinable_still z c.args.pass.now.seat.me c.items_of-many.new.pass.seat.me c.args.left c.args.right s.0 s.1
    c.items_of-many.ensures.frame.still s.2 in
    let j = joinable_still z c.args.pass.now.seat.me c.copy_prefix-2.new.pass.seat.me c.args.left c.args.right s.0 s.1 still s.2 in
    let few = s.2.few in (
      s.0,
      s.1,
      (j.left_shown, c.items_of-many.ensures.count s.0 s.2.left_shown ∙ sym (words_many z s.0 s.2.left_shown.is_base (omega arith))),
      (j.right_shown, c.items_of-more.ensures.count s.1 one.right_shown ∙ sym (words_many z s.1 s.2.right_shown.is_base (omega arith))),
    )

pub write_parts-requires-clause-few : goal.write_parts-requires-clause-few
write_parts-requires-clause-few c = let s = c.requires.shown in let z = c.args.space.now.table.shared.key in
    let one = joinable_still z c.args.pass.now.seat.me c.items_of-many.new.pass.seat.me c.args.left c.args.right s.0 s.1
    c.items_of-many.ensures.frame.still s.2 in
    let many = c.items_of-many.ensures.count s.0 s.2.left_shown in let more = c.items_of-more.ensures.count s.1 one.right_shown in
    let few = s.2.few in omega arith

pub write_parts-requires-clause-short : goal.write_parts-requires-clause-short
write_parts-requires-clause-short c = let s = c.requires.shown in let z = c.args.space.now.table.shared.key in
    let more = c.items_of-more.ensures.frame.still ∙ c.items_of-many.ensures.frame.still in
    let one = joinable_still z c.args.pass.now.seat.me c.items_of-more.new.pass.seat.me c.args.left c.args.right s.0 s.1 more s.2 in
    let two = joinable_still z c.args.pass.now.seat.me c.copy_prefix.new.pass.seat.me c.args.left c.args.right s.0 s.1
    (c.copy_prefix.ensures.frame.still ∙ more) s.2 in
    let low = c.deref.ensures.0 ∙ c.copy_prefix.ensures.prefix s.0 (shown_seen z c.items_of-more.new.pass.seat.me.0.upper c.args.left s.0 one.left_shown) in
    let high = c.deref-2.ensures.0
    ∙ c.copy_prefix-2.ensures.prefix s.1 (shown_seen z c.copy_prefix.new.pass.seat.me.0.upper c.args.right s.1 two.right_shown) in
    let a = s.2.left_shown.is_base.headed.short in let b = s.2.right_shown.is_base.headed.short in let few = s.2.few in
    let d = front_long z s.0 s.2.left_shown.is_base (omega arith) in let e = front_long z s.1 s.2.right_shown.is_base (omega arith) in
    let f = ap (λ (xs : List ℕ). length xs) low in let g = ap (λ (xs : List ℕ). length xs) high in
    both_short c.deref.result.now c.deref-2.result.now c.items_of-many.result c.items_of-more.result c.trim_both.result.0 c.trim_both.result.1
    c.trim_both.ensures (omega arith) (omega arith)

pub write_parts-requires-clause-shifts : goal.write_parts-requires-clause-shifts
write_parts-requires-clause-shifts c = c.trim_both.ensures.shifts

pub returns-clause-written : goal.returns-clause-written
returns-clause-written c first second s = let z = c.args.space.now.table.shared.key in let m = c.args.pass.now.seat.me in
    let none = c.items_of-many.ensures.frame.still in
    let more = c.items_of-more.ensures.frame.still ∙ none in let three = c.copy_prefix.ensures.frame.still ∙ more in
    let still = c.copy_prefix-2.ensures.frame.still ∙ three in
    let j1 = joinable_still z m c.items_of-many.new.pass.seat.me c.args.left c.args.right first second none s in
    let j2 = joinable_still z m c.items_of-more.new.pass.seat.me c.args.left c.args.right first second more s in
    let j3 = joinable_still z m c.copy_prefix.new.pass.seat.me c.args.left c.args.right first second three s in
    let j4 = joinable_still z m c.copy_prefix-2.new.pass.seat.me c.args.left c.args.right first second still s in
    let one : c.items_of-many.result ≡ count first.its = c.items_of-many.ensures.count first s.left_shown in
    let two : c.items_of-more.result ≡ count second.its = c.items_of-more.ensures.count second j1.right_shown in
    let low : c.deref.result.now ≡ prefix first.its = c.deref.ensures.0
    ∙ c.copy_prefix.ensures.prefix first (shown_seen z c.items_of-more.new.pass.seat.me.0.upper c.args.left first j2.left_shown) in
    let high : c.deref-2.result.now ≡ prefix second.its = c.deref-2.ensures.0
    ∙ c.copy_prefix-2.ensures.prefix second (shown_seen z c.copy_prefix.new.pass.seat.me.0.upper c.args.right second j3.right_shown) in
    let few = s.few in let r = c.trim_both.result in
    let t = subst (λ (x : (List ℕ × ℕ) × (List ℕ × ℕ)). AreTrimmed x.0.0 x.0.1 x.1.0 x.1.1 r.0 r.1) (λ i. ((low i, one i), (high i, two i)))
    c.trim_both.ensures in
    let w = c.write_parts.ensures.written first second
    (j4.left_shown, one ∙ sym (words_many z first s.left_shown.is_base (omega arith)))
    (j4.right_shown, two ∙ sym (words_many z second s.right_shown.is_base (omega arith))) in (
      w.0,
      spells_joined z first second s.left_shown.is_base s.right_shown.is_base s.few r.0 r.1 t c.args.level w.0 w.1,
      subst (λ (x : MyTree). IsRewritten c.args.row w.0 x c.write_parts.new.pass.seat.me) still w.2,
    )
