use Rattle.std.proofs.Common.{◌≡◌, List, ap, sym, subst}
use Rattle.ca_base.specs.Finding.{IsBaseShown}
use Rattle.ca_node.specs.Joining.{IsRemembered}
use Rattle.ca_node.specs.Told.{MyTree, link_word}
use Rattle.ca_node.specs.TreeView.{Way}
use Rattle.ca_adapt.specs.Joins.{last_on}
use Rattle.ca_adapt.specs.Trying.{FindsSibling, OnlyLooks}
use Rattle.ca_adapt.proofs.Securing.{remembered_by}
use Rattle.ca_adapt.proofs.Tried.{finds_shown, keeps_reads}
use Rattle.ca_join_tests.specs.declared.steps.Begun.{Begun}
use Rattle.ca_join_tests.specs.Stopping.{HasBegun}
use Rattle.ca_join_tests.proofs.Secured.{has_begun, shown_there}
use Rattle.ca_join_tests.proofs.steps.begin.Goals as goal

pub base_level-level-requires-clause-shown : goal.base_level-level-requires-clause-shown
base_level-level-requires-clause-shown c = let p = c.args.pass.now in let o = c.look_aside.new.pass in let z = c.args.space.now.table.shared.key in
    let note = last_on (link_word c.args.cursor.link) p.seat.me.0.upper.notes in
    let f = c.in-Ok.ensures.looked note (shown_there c.args.space.now p c.args.cursor c.requires.looked) in
    (f.look.sibling, finds_shown z c.args.cursor.link note c.in-Ok.base p.seat.me o.seat.me f)

pub begin_attempt-requires-clause-remembered : goal.begin_attempt-requires-clause-remembered
begin_attempt-requires-clause-remembered c = let p = c.args.pass.now in let z = c.args.space.now.table.shared.key in let u = p.seat.me.0.upper in
    let note = last_on (link_word c.args.cursor.link) u.notes in
    let f = subst (λ (x : MyTree). FindsSibling z c.args.cursor.link note c.in-Ok.base p.seat.me x) (sym c.base_level-level.ensures.frame.still)
    (c.in-Ok.ensures.looked note (shown_there c.args.space.now p c.args.cursor c.requires.looked)) in
    subst (λ (ways : List Way). IsRemembered ways c.in-Some.fork.route) (sym (ap (λ (x : MyTree). x.0.upper.ways) f.now))
    (remembered_by z u c.in-Some.fork.route c.in-Some.fork.above (c.in-Some.ensures z u c.requires.looked.hung).3)

pub returns : goal.returns
returns c = record {
  begun = λ x e. let p = c.args.pass.now in let o = c.look_aside.new.pass in let q = c.base_level-level.new.pass in
      let n = c.begin_attempt.new.pass in let z = c.args.space.now.table.shared.key in let u = p.seat.me.0.upper in
      let note = last_on (link_word c.args.cursor.link) u.notes in let shown = shown_there c.args.space.now p c.args.cursor c.requires.looked in
      let k = keeps_reads p o q c.look_aside.ensures.frame c.base_level-level.ensures.frame in
      let l = subst (λ (x : MyTree). OnlyLooks p.seat.me x) (sym c.base_level-level.ensures.frame.still) c.look_aside.ensures.looks in
      let f = subst (λ (x : MyTree). FindsSibling z c.args.cursor.link note c.in-Ok.base p.seat.me x) (sym c.base_level-level.ensures.frame.still)
      (c.in-Ok.ensures.looked note shown) in
      let level = c.base_level-level.ensures.level f.look.sibling (subst (λ (y : MyTree). IsBaseShown z y.0.upper c.in-Ok.base f.look.sibling)
      c.base_level-level.ensures.frame.still (finds_shown z c.args.cursor.link note c.in-Ok.base p.seat.me q.seat.me f)) in
      let begun = has_begun c.args.space.now p q n c.args.cursor c.in-Some.fork c.in-Ok.base c.base_level-level.result c.in-Ok-begin_attempt.attempt
      c.requires.looked (c.in-Some.ensures z u c.requires.looked.hung) k l f level c.begin_attempt.ensures.frame c.in-Ok-begin_attempt.ensures.begun in
      let same : (record {
        pair = record {
          one = c.args.cursor;
          other = record c.args.cursor {
            base = c.in-Ok.base;
            link = c.in-Some.fork.other;
            level = c.base_level-level.result;
          };
          attempt = c.in-Ok-begin_attempt.attempt;
        };
        above = c.in-Some.fork.above;
      }) ≡ x = cc in
      subst (λ (y : Begun). HasBegun c.args.space.now n y.pair y.above) same begun;
}
