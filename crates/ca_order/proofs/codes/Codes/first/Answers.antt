use Rattle.ca_order.proofs.CodeLists.{no_more, some_codes}
use Rattle.ca_order.proofs.codes.Codes.first.Goals as goal

pub returns-then-is_empty : goal.returns-then-is_empty
returns-then-is_empty c = no_more c.args.self.bytes.now c.args.self.terms c.is_empty.result c.is_empty.ensures c.if-is_empty.true

pub split-requires : goal.split-requires
split-requires c = some_codes c.args.self.bytes.now c.args.self.terms c.is_empty.result c.is_empty.ensures c.if-is_empty.false
