-- Where bytes are no code.
use Rattle.std.proofs.Common.{◌≡◌, ℕ, ◌<◌, ◌-◌, List, [], ◌∷◌, ◌++◌, length, arith, refl, ◌∙◌, subst, append-nil}
use Rattle.ca_term.specs.declared.bounds.TheConstants.{MOST_DEPTH}
use Rattle.ca_order.specs.declared.fault.ReadFault.TheVariants.{Stuck}
use Rattle.ca_order.specs.declared.fault.DecodeFault.TheVariants.{NotACode}
use Rattle.ca_term.specs.Tree.{Tree}
use Rattle.ca_term.specs.Code.{code_of}
use Rattle.ca_term.proofs.Codes.{prefix_free}
use Rattle.ca_order.specs.Stuck.{IsStuck, IsLongestStart}
use Rattle.ca_term.specs.Levels.{HasTerm}
use Rattle.ca_order.specs.Languages.{IsTermCode}
use Rattle.ca_order.specs.Reads.{IsReadFault, IsDecodeFault, BeginsWithTerm}
use Rattle.ca_order.proofs.Starts.{longest_start}
use Rattle.ca_order.proofs.FirstBytes.{terms_prefix_free}

code_from : (x : List ℕ) → HasTerm MOST_DEPTH x → IsTermCode x
code_from x h = (h.term, record { shallow = h.shallow; narrow = h.narrow }, h.code_is)

code_to : (x : List ℕ) → IsTermCode x → HasTerm MOST_DEPTH x
code_to x c = record { term = c.0; shallow = c.1.shallow; narrow = c.1.narrow; code_is = c.2 }

no_code : (code behind : List ℕ) → IsStuck (HasTerm MOST_DEPTH) code behind → IsTermCode code → ⊥
no_code code [] s c =
    let e : code ≡ s.done = s.parts ∙ append-nil s.done in
    let n : s.next ∷ s.rest ≡ [] = terms_prefix_free MOST_DEPTH s.done (s.next ∷ s.rest) (subst (HasTerm MOST_DEPTH) e (code_to code c)) s.begins in
    cc
no_code code (b ∷ more) s c = s.no_longer b more more refl (subst (HasTerm MOST_DEPTH) s.parts (code_to code c))

-- Where no term is read, the bytes are refused behind their longest start of a code.
pub decode_stuck : (code : List ℕ) (left : ℕ) → IsReadFault (HasTerm MOST_DEPTH) code (Stuck left) → IsDecodeFault code (NotACode (length code - left))
decode_stuck code left f =
    let s = f.2 in
    let at : IsLongestStart IsTermCode code (length code - length f.0) =
    longest_start IsTermCode code s.done f.0 (s.next ∷ s.rest) s.parts (code_from (s.done ++ s.next ∷ s.rest) s.begins)
    (λ b more rest e w. s.no_longer b more rest e (code_to (s.done ++ b ∷ rest) w)) in
    (no_code code f.0 s, subst (λ (x : ℕ). IsLongestStart IsTermCode code (length code - x)) f.1 at)

-- Where bytes stand behind a term's code, they are refused behind it.
pub decode_rest : (code : List ℕ) (t : Tree) (rest : List ℕ) → BeginsWithTerm MOST_DEPTH code t rest → 0 < length rest
    → IsDecodeFault code (NotACode (length code - length rest))
decode_rest code t rest w h =
    let none : (b : ℕ) (more x : List ℕ) → IsTermCode (code_of t ++ b ∷ x) → ⊥ =
    λ b more x c. (let p = prefix_free t c.0 (b ∷ x) w.bounded.narrow c.1.narrow c.2 in let q : b ∷ x ≡ [] = p.1 in cc) in (
      no rest h w none,
      longest_start IsTermCode code (code_of t) rest [] w.parts (t, w.bounded, append-nil (code_of t)) (λ b more x e c. none b more x c),
    )
  where
    no : (rest : List ℕ) → 0 < length rest → BeginsWithTerm MOST_DEPTH code t rest → ((b : ℕ) (more x : List ℕ) → IsTermCode (code_of t ++ b ∷ x) → ⊥)
        → IsTermCode code → ⊥
    no [] h w n c = absurd (omega arith)
    no (b ∷ more) h w n c = n b more more (subst IsTermCode w.parts c)
