use Rattle.std.proofs.Common.{arith}
use Rattle.ca_match.specs.MatcherView.{scene_of}
use Rattle.ca_match.proofs.Matching.{only_form, call_form}
use Rattle.ca_match.proofs.matcher.+value.Goals as goal

pub form_value-returns-in-len1 : goal.form_value-returns-in-len1
form_value-returns-in-len1 t c =
    let form = only_form (scene_of c.args.object.now c.args.table.now) c.args.items.now c.only-item.result (omega arith) (omega arith) c.only-item.is in
    rw form c.tuple_value.ensures

pub form_value-returns-in-len1-up : goal.form_value-returns-in-len1-up
form_value-returns-in-len1-up t c =
    rw (call_form (scene_of c.args.object.now c.args.table.now) c.args.items.now c.name-item.result (omega arith) c.name-item.is) c.call_value.ensures
