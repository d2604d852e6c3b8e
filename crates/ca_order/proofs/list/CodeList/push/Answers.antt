use Rattle.std.proofs.Common.{List, ◌++◌, ◌∷◌, [], length, arith, ap, sym, ◌∙◌}
use Rattle.ca_term.specs.Tree.{Tree}
use Rattle.ca_order.specs.CodesView.{tree_of}
use Rattle.ca_order.proofs.CodeLists.{counted_fits, more_codes, more_counted, more_terms, same_codes}
use Rattle.ca_order.proofs.list.CodeList.push.Goals as goal

pub invariant_of-self : goal.invariant_of-self
invariant_of-self c =
    c.self.invariant
    ∙ ap length (sym (same_codes c.self.inside.bytes.items c.extend_from_slice.new.self.items c.self.inside.codes c.self-1.given.0 c.in_default.ensures.items))

pub returns-in_default-clause-err : goal.returns-in_default-clause-err
returns-in_default-clause-err c =
    same_codes c.self.inside.bytes.items c.extend_from_slice.new.self.items c.self.inside.codes c.self-1.given.0 c.in_default.ensures.items ∙ c.self.view_is

pub overflow_add-self : goal.overflow_add-self
overflow_add-self c =
    omega (
      arith,
      counted_fits c.self.inside.bytes.items c.self.inside.codes c.self.inside.count c.self.invariant,
      c.self.inside.bytes.ok.0,
      c.self.inside.bytes.ok.1,
      c.self.inside.bytes.small,
    )

pub invariant_of-self-inside-2 : goal.invariant_of-self-inside-2
invariant_of-self-inside-2 c = (
  more_codes c.self.inside.bytes.items c.args.part.bytes.now c.extend_from_slice.new.self.items c.self.inside.codes c.args.part.code c.in-Ok.ensures.items,
  tt,
)

pub invariant_of-self-2 : goal.invariant_of-self-2
invariant_of-self-2 c =
    more_counted c.self.inside.bytes.items c.args.part.bytes.now c.extend_from_slice.new.self.items c.self.inside.codes c.args.part.code
    c.in-Ok.ensures.items c.self-2-1.given.0 c.self.inside.count c.self.invariant

pub returns-clause-ok : goal.returns-clause-ok
returns-clause-ok c =
    more_terms c.self.inside.bytes.items c.args.part.bytes.now c.extend_from_slice.new.self.items c.self.inside.codes c.args.part.code
    c.in-Ok.ensures.items c.self-2-1.given.0
    ∙ ap (λ (x : List Tree). x ++ tree_of c.args.part ∷ []) c.self.view_is
