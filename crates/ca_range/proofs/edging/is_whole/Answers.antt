use Rattle.std.proofs.Common.{ℕ, Option, ◌∙◌, sym, ap, subst}
use Rattle.ca_base.specs.Putting.{first_note}
use Rattle.ca_model.specs.Edges.{Excluded, bound_of}
use Rattle.ca_node.specs.Walking.{IsHighRoute}
use Rattle.ca_range.specs.Edged.{reaches_to}
use Rattle.ca_range.proofs.Watched.{high_shown}
use Rattle.ca_range.proofs.edging.is_whole.Goals as goal

pub copy_key-requires-clause-shown : goal.copy_key-requires-clause-shown
copy_key-requires-clause-shown c = let z = c.args.space.now.table.shared.key in let u = c.args.pass.now.seat.me.0.upper in
    let bound = (first_note u.notes).place.span.high in
    let high = high_shown z u c.in-Some.route bound (subst (λ (r : Option ℕ). IsHighRoute z u.ways r bound) c.in-Some.is c.requires.at.high) in
    (high.0, high.1)

pub returns-clause-whole : goal.returns-clause-whole
returns-clause-whole c = let z = c.args.space.now.table.shared.key in let u = c.args.pass.now.seat.me.0.upper in
    let bound = (first_note u.notes).place.span.high in
    let high = high_shown z u c.in-Some.route bound (subst (λ (r : Option ℕ). IsHighRoute z u.ways r bound) c.in-Some.is c.requires.at.high) in
    c.goes_to.ensures ∙ ap (reaches_to (bound_of c.args.hi)) (ap Excluded (c.deref.ensures.0 ∙ c.copy_key.ensures.key high.0 high.1) ∙ sym high.2)

pub returns-clause-key : goal.returns-clause-key
returns-clause-key c not_whole = let z = c.args.space.now.table.shared.key in let u = c.args.pass.now.seat.me.0.upper in
    let bound = (first_note u.notes).place.span.high in
    let high = high_shown z u c.in-Some.route bound (subst (λ (r : Option ℕ). IsHighRoute z u.ways r bound) c.in-Some.is c.requires.at.high) in
    high.2 ∙ ap Excluded (sym (c.copy_key.ensures.key high.0 high.1))
