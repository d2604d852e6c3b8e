use Rattle.std.proofs.Common.{rules, ◌+◌, ◌/◌, ◌%◌, ap, sym, subst, ◌∙◌, arith}
use Rattle.ca_rows.specs.declared.sizes.Sizes.{Sizes}
use Rattle.ca_node.specs.Told.{MyTree}
use Rattle.ca_node.specs.Walking.{IsAtRoute, IsWalked}
use Rattle.ca_node.proofs.Walks.{begins, first_word, is_at_route, is_at_base, level_told, few_left, one_load_less, ends}
use Rattle.ca_node.specs.Layout.{count_limit}
use Rattle.ca_node.proofs.cursor.walk_from.Goals as goal

pub descend-base-requires-clause-known : goal.descend-base-requires-clause-known
descend-base-requires-clause-known c = (
  c.requires.begins.1.least,
  c.requires.begins.0,
  c.requires.begins.1.is_link,
)

pub descend-base-requires-clause-inside : goal.descend-base-requires-clause-inside
descend-base-requires-clause-inside c = c.requires.begins.1.placed.inside

pub loop-level-init : goal.loop-level-init
loop-level-init c = record {
  own = search rules;
  same = search rules;
  number = search rules;
  tally = search rules;
  kept = search rules;
  pinned = search rules;
  walking = begins c.args.space.now.table.shared.key c.args.spot c.args.pass.now.seat.me
      c.descend-base.new.pass.seat.me c.args.from c.descend-base.result c.requires.begins.0
      c.args.space.now.few.0 c.requires.reading.own.1 c.requires.begins.1 c.requires.begins.2
      c.descend-base.ensures.led;
}

pub load_word-word-requires-clause-shown : goal.load_word-word-requires-clause-shown
load_word-word-requires-clause-shown c =
    first_word c.args.space.now.table.shared.key c.args.spot c.args.pass.now.seat.me
    c.loop-level.cursor c.loop-level.pass.seat.me
    c.loop-level.invariant.walking

pub overflow_cast-level : goal.overflow_cast-level
overflow_cast-level c =
    let at = is_at_base c.args.space.now.table.shared.key c.args.spot c.args.pass.now.seat.me
    c.loop-level.cursor c.loop-level.pass.seat.me
    c.loop-level.invariant.walking c.load_word-word.result c.load_word-word.ensures.word
    c.if-word.true in
    let level =
    level_told c.args.space.now.table.shared.key c.args.spot c.args.pass.now.seat.me
    c.loop-level.cursor c.loop-level.pass.seat.me at
    c.load_word-word.result c.load_word-word.ensures.word in
    let deep = at.is_base.deep in let most = at.is_base.most_levels in
    omega arith

pub returns-then-word-clause-walked : goal.returns-then-word-clause-walked
returns-then-word-clause-walked c =
    let at = is_at_base c.args.space.now.table.shared.key c.args.spot c.args.pass.now.seat.me
    c.loop-level.cursor c.loop-level.pass.seat.me
    c.loop-level.invariant.walking c.load_word-word.result c.load_word-word.ensures.word
    c.if-word.true in
    let level =
    level_told c.args.space.now.table.shared.key c.args.spot c.args.pass.now.seat.me
    c.loop-level.cursor c.loop-level.pass.seat.me at
    c.load_word-word.result c.load_word-word.ensures.word in
    subst (λ (m : MyTree).
    IsWalked c.args.space.now.table.shared.key c.args.spot c.args.pass.now.seat.me
    (record c.loop-level.cursor { level = c.load_word-word.result / count_limit % count_limit }) m)
    (sym c.load_word-word.ensures.frame.still)
    (ends c.args.space.now.table.shared.key c.args.spot c.args.pass.now.seat.me c.loop-level.cursor
    c.loop-level.pass.seat.me
    (c.load_word-word.result / count_limit % count_limit) at level)

pub go_down-cursor-requires-clause-at : goal.go_down-cursor-requires-clause-at
go_down-cursor-requires-clause-at c = (
  c.args.pass.now.seat.me,
  subst (λ (m : MyTree).
      IsAtRoute c.args.space.now.table.shared.key c.args.spot c.args.pass.now.seat.me
      c.loop-level.cursor m)
      (sym c.load_word-word.ensures.frame.still)
      (is_at_route c.args.space.now.table.shared.key c.args.spot c.args.pass.now.seat.me
      c.loop-level.cursor c.loop-level.pass.seat.me
      c.loop-level.invariant.walking c.load_word-word.result c.load_word-word.ensures.word
      c.if-word.false),
)

pub loop-level-smaller : goal.loop-level-smaller
loop-level-smaller c =
    let z : Sizes = c.args.space.now.table.shared.key in
    let at = is_at_route z c.args.spot c.args.pass.now.seat.me c.loop-level.cursor
    c.loop-level.pass.seat.me
    c.loop-level.invariant.walking c.load_word-word.result c.load_word-word.ensures.word
    c.if-word.false in
    one_load_less c.args.pass.now.seat.me.0.upper.loads c.loop-level.pass.seat.me.0.upper.loads
    c.go_down-cursor.new.pass.seat.me.0.upper.loads z.levels
    (few_left z c.args.spot c.args.pass.now.seat.me c.loop-level.cursor c.loop-level.pass.seat.me
    at)
    (c.go_down-cursor.ensures.loads
    ∙ ap (λ (m : MyTree). m.0.upper.loads + 1) c.load_word-word.ensures.frame.still)

pub loop-level-preserved : goal.loop-level-preserved
loop-level-preserved c = record {
  own = search rules;
  same = search rules;
  number = search rules;
  tally = search rules;
  kept = search rules;
  pinned = search rules;
  walking = c.go_down-cursor.ensures.walking c.args.pass.now.seat.me
      (subst (λ (m : MyTree).
      IsAtRoute c.args.space.now.table.shared.key c.args.spot c.args.pass.now.seat.me
      c.loop-level.cursor m)
      (sym c.load_word-word.ensures.frame.still)
      (is_at_route c.args.space.now.table.shared.key c.args.spot c.args.pass.now.seat.me
      c.loop-level.cursor c.loop-level.pass.seat.me
      c.loop-level.invariant.walking c.load_word-word.result c.load_word-word.ensures.word
      c.if-word.false));
}
