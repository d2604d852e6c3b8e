-- The place of each kind.
use Rattle.std.proofs.Common.{arith}
use Rattle.ca_order.specs.CodesView.{tree_of}
use Rattle.ca_order.proofs.Ranks.{kind_there, not_empty, rank_of_atom, rank_of_binary, rank_of_cell, rank_of_integer, rank_of_nil, rank_of_tuple}
use Rattle.ca_order.proofs.codes.Part.rank.Goals as goal

pub unreachable-requires : goal.unreachable-requires
unreachable-requires c = not_empty c.args.self.bytes.now c.args.self.code c.in_default.ensures.cases

pub returns-in-23-to-40 : goal.returns-in-23-to-40
returns-in-23-to-40 c =
    rank_of_integer (tree_of c.args.self) c.in-Some.tag.now
    (kind_there c.args.self.bytes.now c.in-Some.field-0-1.now c.in-Some.tag.now c.args.self.code c.in-Some.ensures.cases.0)
    (omega arith) (omega arith)

pub returns-in-48 : goal.returns-in-48
returns-in-48 c =
    rank_of_atom (tree_of c.args.self) c.in-Some.tag.now
    (kind_there c.args.self.bytes.now c.in-Some.field-0-1.now c.in-Some.tag.now c.args.self.code c.in-Some.ensures.cases.0)
    c.in-48.is

pub returns-in-64 : goal.returns-in-64
returns-in-64 c =
    rank_of_tuple (tree_of c.args.self) c.in-Some.tag.now
    (kind_there c.args.self.bytes.now c.in-Some.field-0-1.now c.in-Some.tag.now c.args.self.code c.in-Some.ensures.cases.0)
    c.in-64.is

pub returns-in-96 : goal.returns-in-96
returns-in-96 c =
    rank_of_nil (tree_of c.args.self) c.in-Some.tag.now
    (kind_there c.args.self.bytes.now c.in-Some.field-0-1.now c.in-Some.tag.now c.args.self.code c.in-Some.ensures.cases.0)
    c.in-96.is

pub returns-in-112 : goal.returns-in-112
returns-in-112 c =
    rank_of_cell (tree_of c.args.self) c.in-Some.tag.now
    (kind_there c.args.self.bytes.now c.in-Some.field-0-1.now c.in-Some.tag.now c.args.self.code c.in-Some.ensures.cases.0)
    c.in-112.is

pub returns-in_default-tag : goal.returns-in_default-tag
returns-in_default-tag c =
    rank_of_binary (tree_of c.args.self) c.in-Some.tag.now
    (kind_there c.args.self.bytes.now c.in-Some.field-0-1.now c.in-Some.tag.now c.args.self.code c.in-Some.ensures.cases.0)
    (λ h k. grind arith) (λ e. grind arith) (λ e. grind arith) (λ e. grind arith) (λ e. grind arith)

pub returns-in_default-tag-2 : goal.returns-in_default-tag-2
returns-in_default-tag-2 c =
    rank_of_binary (tree_of c.args.self) c.in-Some.tag.now
    (kind_there c.args.self.bytes.now c.in-Some.field-0-1.now c.in-Some.tag.now c.args.self.code c.in-Some.ensures.cases.0)
    (λ h k. grind arith) (λ e. grind arith) (λ e. grind arith) (λ e. grind arith) (λ e. grind arith)
