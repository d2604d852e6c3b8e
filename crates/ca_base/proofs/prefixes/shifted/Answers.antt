use Rattle.std.proofs.Common.{arith}
use Rattle.ca_base.proofs.Behind.{shift_fits, shift_is}
use Rattle.ca_base.proofs.prefixes.shifted.Goals as goal

pub overflow_mul-result : goal.overflow_mul-result
overflow_mul-result c = let fits = shift_fits c.args.shift.lead c.args.shift.bytes c.args.word c.requires c.ranges.word.fits in
    omega arith

pub overflow_add-result : goal.overflow_add-result
overflow_add-result c = let fits = shift_fits c.args.shift.lead c.args.shift.bytes c.args.word c.requires c.ranges.word.fits in
    omega arith

pub returns : goal.returns
returns c = shift_is c.args.shift.lead c.args.shift.bytes c.args.word
