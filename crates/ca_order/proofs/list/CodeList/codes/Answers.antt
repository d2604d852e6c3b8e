use Rattle.std.proofs.Common.{◌∙◌}
use Rattle.ca_order.proofs.CodeLists.{same_codes}
use Rattle.ca_order.proofs.list.CodeList.codes.Goals as goal

pub returns : goal.returns
returns c =
    same_codes c.self.inside.bytes.items c.as_slice.result.now c.self.inside.codes c.result-1.given.0 c.as_slice.ensures.value ∙ c.self.view_is
