use Rattle.std.proofs.Common.{◌-◌, ◌+◌, refl, arith}
use Rattle.ca_tree_tests.proofs.Alike.{is_alone}
use Rattle.ca_tree_tests.proofs.prefixes.object.Goals as goal

pub returns : goal.returns
returns c = is_alone _ refl refl (c.args.share - 1) (c.args.number + 1) (omega arith) (omega arith)
    (omega arith) c.try_extend_from_slice.new.self.items c.try_extend_from_slice-2.new.self.items
    c.try_extend_from_slice-3.new.self.items c.new-code.result.items c.new-code.ensures
    c.in-Ok.ensures.ok c.in-Ok-try_extend_from_slice.ensures.ok
    c.in-Ok-try_extend_from_slice-2.ensures.ok
