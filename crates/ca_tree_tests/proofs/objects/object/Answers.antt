use Rattle.std.proofs.Common.{◌/◌, ◌%◌, [], ◌∷◌, refl, arith}
use Rattle.ca_tree_tests.proofs.SampleObjects.{sample}
use Rattle.ca_tree_tests.proofs.objects.object.Goals as goal

pub returns-clause-pair : goal.returns-clause-pair
returns-clause-pair c =
    rw (c.to_be_bytes.ensures, c.to_be_bytes-2.ensures)
    (sample (c.args.key / 65536 % 256) (c.args.key / 256 % 256) (c.args.key % 256) (c.args.value / 65536 % 256) (c.args.value / 256 % 256) (c.args.value % 256)
    (omega arith) (omega arith) (omega arith) (omega arith) (omega arith) (omega arith))

pub returns-clause-key : goal.returns-clause-key
returns-clause-key c =
    rw (c.to_be_bytes.ensures, c.to_be_bytes-2.ensures) (
      sample (c.args.key / 65536 % 256) (c.args.key / 256 % 256) (c.args.key % 256) (c.args.value / 65536 % 256) (c.args.value / 256 % 256) (c.args.value % 256)
          (omega arith) (omega arith) (omega arith) (omega arith) (omega arith) (omega arith),
      record {
        before = 0x40 ∷ 0 ∷ 0 ∷ 0 ∷ 2 ∷ [];
        behind = 0x24 ∷ 1 ∷ (c.args.value / 65536 % 256) ∷ (c.args.value / 256 % 256) ∷ (c.args.value % 256) ∷ [];
        bytes = refl;
        place = refl;
      },
    )
