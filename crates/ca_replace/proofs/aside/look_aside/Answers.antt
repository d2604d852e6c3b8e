use Rattle.std.proofs.Common.{◌∙◌, subst}
use Rattle.ca_node.specs.declared.cursor.Spot.TheVariants as spot
use Rattle.ca_node.specs.Told.{MyTree}
use Rattle.ca_node.specs.Walking.{IsWalked}
use Rattle.ca_replace.proofs.LooksLeft.{aside_of, low_inside, low_shown}
use Rattle.ca_replace.proofs.aside.look_aside.Goals as goal

pub copy_key-requires-clause-inside : goal.copy_key-requires-clause-inside
copy_key-requires-clause-inside c = low_inside c.args.space.now.table.shared.key c.args.pass.now.seat.me.0.upper c.args.route c.requires.from

pub copy_key-requires-clause-shown : goal.copy_key-requires-clause-shown
copy_key-requires-clause-shown c = let end = c.requires.from in
    let shown = low_shown c.args.space.now.table.shared.key c.args.pass.now.seat.me.0.upper c.args.route end.bound end.low in (shown.0, shown.1)

pub pass_on-requires-clause-aside : goal.pass_on-requires-clause-aside
pass_on-requires-clause-aside c = let z = c.args.space.now.table.shared.key in let mid = c.walk-cursor.new.pass.seat.me in
    aside_of z c.args.route c.deref.result c.args.pass.now.seat.me mid c.walk-cursor.result
    (λ its shown. c.deref.ensures.0 ∙ c.copy_key.ensures.key its shown)
    (subst (λ (x : MyTree). IsWalked z (spot.Below c.deref.result) x c.walk-cursor.result mid) c.copy_key.ensures.frame.still c.walk-cursor.ensures.walked)
    c.requires.from

pub returns-clause-looked : goal.returns-clause-looked
returns-clause-looked c = let z = c.args.space.now.table.shared.key in let mid = c.walk-cursor.new.pass.seat.me in record {
  key = c.deref.result;
  key_is = λ its shown. c.deref.ensures.0 ∙ c.copy_key.ensures.key its shown;
  mid = mid;
  walked = subst (λ (x : MyTree). IsWalked z (spot.Below c.deref.result) x c.walk-cursor.result mid) c.copy_key.ensures.frame.still
      c.walk-cursor.ensures.walked;
  counted = c.pass_on.ensures.passed;
}
