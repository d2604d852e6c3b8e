use Rattle.std.proofs.Common.{rules, ◌≡◌, ◌+◌, ◌*◌, ◌/◌, ℕ, ap, arith}
use Rattle.std.specs.Mem.Slots.{slots_items, slots_counts}
use Rattle.ca_rows.specs.Layout.{row_words}
use Rattle.ca_node.specs.Layout.{form_unit}
use Rattle.ca_node.specs.Row.{row_at, form}
use Rattle.ca_close.proofs.Reading.{got, got_of}
use Rattle.ca_close.proofs.Walking.{inside_at}
use Rattle.ca_close.proofs.listing.follow.Goals as goal

pub overflow_mul-row : goal.overflow_mul-row
overflow_mul-row c = let w = c.requires.walkable in let words = slots_items c.args.words.now.closed.words in
    let below = (inside_at w.0 words c.args.link w.1 w.2 c.at-row.result (got words c.args.link c.at-row.result c.at-row.ensures)).below in omega arith

pub at-first-requires : goal.at-first-requires
at-first-requires c = let w = c.requires.walkable in let words = slots_items c.args.words.now.closed.words in
    let long = (slots_counts c.args.words.now.closed.words).0 in
    let whole = (inside_at w.0 words c.args.link w.1 w.2 c.at-row.result (got words c.args.link c.at-row.result c.at-row.ensures)).whole in omega arith

pub returns-clause-row : goal.returns-clause-row
returns-clause-row c = got (slots_items c.args.words.now.closed.words) c.args.link c.at-row.result c.at-row.ensures

pub returns-clause-inside : goal.returns-clause-inside
returns-clause-inside c = let w = c.requires.walkable in let words = slots_items c.args.words.now.closed.words in
    inside_at w.0 words c.args.link w.1 w.2 c.at-row.result (got words c.args.link c.at-row.result c.at-row.ensures)

pub returns-clause-route : goal.returns-clause-route
returns-clause-route c = let words = slots_items c.args.words.now.closed.words in let row : ℕ = c.at-row.result in
    let here : row_words * row ≡ row_words * row + 0 = omega arith in
    let first : c.at-first.result / form_unit ≡ form (row_at words row) =
    ap (λ (n : ℕ). n / form_unit) (got_of words row 0 (row_words * row) c.at-first.result (omega arith) here c.at-first.ensures) in
    search (rules, first)

pub overflow_cast-row : goal.overflow_cast-row
overflow_cast-row c = let w = c.requires.walkable in let words = slots_items c.args.words.now.closed.words in
    let below = (inside_at w.0 words c.args.link w.1 w.2 c.at-row.result (got words c.args.link c.at-row.result c.at-row.ensures)).below in omega arith
