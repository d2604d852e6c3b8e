use Rattle.std.proofs.Common.{arith, inl, inr}
use Rattle.ca_order.proofs.Skipped.{no_codes, escaped_there, escaped_codes, nil_codes, cons_codes, size_there, tuple_codes, pos_there, pos_codes, neg_there, neg_codes, no_such_tag}
use Rattle.ca_order.proofs.object.skip_tag.Goals as goal

pub unreachable-requires : goal.unreachable-requires
unreachable-requires c = no_codes c.requires.0 c.args.bytes.now c.requires.1 c.requires.2 c.in_default.ensures.cases

pub skip_escaped-requires : goal.skip_escaped-requires
skip_escaped-requires c =
    escaped_there c.requires.0 c.in-Some.tag.now c.args.bytes.now c.in-Some.inside.now c.requires.1 c.requires.2 c.in-Some.ensures.cases.0 (inl c.in-48.is)

pub skip_escaped-requires-in-128 : goal.skip_escaped-requires-in-128
skip_escaped-requires-in-128 c =
    escaped_there c.requires.0 c.in-Some.tag.now c.args.bytes.now c.in-Some.inside.now c.requires.1 c.requires.2 c.in-Some.ensures.cases.0 (inr c.in-128.is)

pub split_size-requires : goal.split_size-requires
split_size-requires c =
    size_there c.requires.0 c.in-Some.tag.now c.args.bytes.now c.in-Some.inside.now c.requires.1 c.requires.2 c.in-Some.ensures.cases.0 c.in-64.is

pub behind-requires : goal.behind-requires
behind-requires c =
    neg_there c.requires.0 c.in-Some.tag.now c.args.bytes.now c.in-Some.inside.now c.requires.1 c.requires.2 c.in-Some.ensures.cases.0
    (omega arith, omega arith)

pub returns-in-48-clause-codes : goal.returns-in-48-clause-codes
returns-in-48-clause-codes c =
    λ n end h. escaped_codes n c.in-Some.tag.now c.args.bytes.now c.in-Some.inside.now end h c.in-Some.ensures.cases.0 c.skip_escaped.result.now
    (inl c.in-48.is) c.skip_escaped.ensures.rest

pub returns-in-48-clause-shorter : goal.returns-in-48-clause-shorter
returns-in-48-clause-shorter c = omega (arith, c.in-Some.ensures.cases.1, c.skip_escaped.ensures.shorter)

pub returns-in-128-clause-codes : goal.returns-in-128-clause-codes
returns-in-128-clause-codes c =
    λ n end h. escaped_codes n c.in-Some.tag.now c.args.bytes.now c.in-Some.inside.now end h c.in-Some.ensures.cases.0 c.skip_escaped-in-128.result.now
    (inr c.in-128.is) c.skip_escaped-in-128.ensures.rest

pub returns-in-128-clause-shorter : goal.returns-in-128-clause-shorter
returns-in-128-clause-shorter c = omega (arith, c.in-Some.ensures.cases.1, c.skip_escaped-in-128.ensures.shorter)

pub returns-in-64-clause-codes : goal.returns-in-64-clause-codes
returns-in-64-clause-codes c =
    λ n end h. tuple_codes n c.in-Some.tag.now c.args.bytes.now c.in-Some.inside.now end h c.in-Some.ensures.cases.0 c.split_size.result.0
    c.split_size.result.1.now c.in-64.is c.split_size.ensures.size

pub returns-in-64-clause-shorter : goal.returns-in-64-clause-shorter
returns-in-64-clause-shorter c = omega (arith, c.in-Some.ensures.cases.1, c.split_size.ensures.shorter)

pub behind-requires-in-32-to-40 : goal.behind-requires-in-32-to-40
behind-requires-in-32-to-40 c =
    pos_there c.requires.0 c.in-Some.tag.now c.args.bytes.now c.in-Some.inside.now c.requires.1 c.requires.2 c.in-Some.ensures.cases.0
    (omega arith, omega arith)

pub unreachable-requires-in_default-tag : goal.unreachable-requires-in_default-tag
unreachable-requires-in_default-tag c =
    no_such_tag c.requires.0 c.in-Some.tag.now c.args.bytes.now c.in-Some.inside.now c.requires.1 c.requires.2 c.in-Some.ensures.cases.0
    (λ l. record {
      no_int = λ h k. grind arith;
      no_atom = λ e. grind arith;
      no_tuple = λ e. grind arith;
      no_nil = λ e. grind arith;
      no_cons = λ h e. grind arith;
      no_binary = λ e. grind arith;
    })

pub returns-in-96-clause-codes : goal.returns-in-96-clause-codes
returns-in-96-clause-codes c = λ n end h. nil_codes n c.in-Some.tag.now c.args.bytes.now c.in-Some.inside.now end h c.in-Some.ensures.cases.0 c.in-96.is

pub returns-in-112-clause-codes : goal.returns-in-112-clause-codes
returns-in-112-clause-codes c = λ n end h. cons_codes n c.in-Some.tag.now c.args.bytes.now c.in-Some.inside.now end h c.in-Some.ensures.cases.0 c.in-112.is

pub returns-in-23-to-31-clause-codes : goal.returns-in-23-to-31-clause-codes
returns-in-23-to-31-clause-codes c =
    λ n end h. neg_codes n c.in-Some.tag.now c.args.bytes.now c.in-Some.inside.now end h c.in-Some.ensures.cases.0 c.behind.result.now
    (omega arith, omega arith) c.behind.ensures.rest

pub returns-in-32-to-40-clause-codes : goal.returns-in-32-to-40-clause-codes
returns-in-32-to-40-clause-codes c =
    λ n end h. pos_codes n c.in-Some.tag.now c.args.bytes.now c.in-Some.inside.now end h c.in-Some.ensures.cases.0 c.behind-in-32-to-40.result.now
    (omega arith, omega arith) c.behind-in-32-to-40.ensures.rest
