use Rattle.std.proofs.Common.{◌/◌, ◌%◌, refl, arith}
use Rattle.ca_join_tests.proofs.SampleObjects.{sample}
use Rattle.ca_join_tests.proofs.objects.object.Goals as goal

pub returns : goal.returns
returns c = record {
  pair = rw (c.to_be_bytes.ensures, c.to_be_bytes-2.ensures)
      (sample (c.args.key / 65536 % 256) (c.args.key / 256 % 256) (c.args.key % 256) (c.args.value / 65536 % 256) (c.args.value / 256 % 256)
      (c.args.value % 256) (omega arith) (omega arith) (omega arith) (omega arith) (omega arith) (omega arith));
  key = rw c.to_be_bytes.ensures refl;
}
