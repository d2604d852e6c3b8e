-- One thing is found at the front of some bytes: a term text, or a fault.
use Rattle.std.proofs.Common.{◌≡◌, ℕ, List, Result, Ok, Err, ap}
use Rattle.ca_term.specs.Tree.{Tree}
use Rattle.ca_text.specs.declared.fault.TextFault.{TextFault}
use Rattle.ca_text.proofs.ReadFront.{one_read}
use Rattle.ca_text.proofs.Refusals.{fault_sure, read_or_not}
use Rattle.ca_cmd.specs.Argument.{IsTermOf}

-- One thing stands at the front of some bytes: one term text, or one fault.
pub term_sure : (bytes : List ℕ) (x y : Result (Tree × ℕ) TextFault) → IsTermOf bytes x → IsTermOf bytes y → x ≡ y
term_sure bytes (Ok x) (Ok y) p q = let s = one_read bytes x.0 y.0 x.1 y.1 p q in λ i. Ok (s.0 i, s.1 i)
term_sure bytes (Ok x) (Err e) p q = absurd (read_or_not bytes x.0 x.1 e p q)
term_sure bytes (Err e) (Ok y) p q = absurd (read_or_not bytes y.0 y.1 e q p)
term_sure bytes (Err e) (Err f) p q = ap (λ (z : TextFault). Err z) (fault_sure bytes e f p q)
