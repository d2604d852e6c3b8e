-- The key of an object, read from the key's part of the object's code.
use Rattle.std.proofs.Common.{◌≡◌, ℕ, ◌≤◌, List, length, sym, ◌∙◌, ap, subst, Some, None}
use Rattle.std.specs.List.{slice_range}
use Rattle.ca_term.specs.Tree.{Tree, Row, Tuple, IsTerm}
use Rattle.ca_term.specs.Code.{code_of}
use Rattle.ca_term.specs.Object.{key_of}
use Rattle.ca_order.specs.KeyParts.{IsKeyParts}
use Rattle.ca_order.specs.Languages.{IsTermCode}
use Rattle.ca_order.specs.Reads.{IsDecodeFault}
use Rattle.ca_order.specs.declared.fault.DecodeFault.{DecodeFault}
use Rattle.ca_order.specs.declared.fault.DecodeFault.TheVariants as decode
use Rattle.ca_explain.proofs.Filters.{same_code}
use Rattle.ca_explain.proofs.Keys.{key_is_term}
use Rattle.ca_table.specs.Renewed.{IsObjectCode}
use Rattle.ca_table.proofs.KeyParts.{KeyStands, key_stands, has_parts}

-- A term's code is not refused.
pub not_refused : (bytes : List ℕ) (fault : DecodeFault) (at : ℕ) → IsTermCode bytes → fault ≡ decode.NotACode at → IsDecodeFault bytes fault → ⊥
not_refused bytes fault at code e h = (subst (λ (x : DecodeFault). IsDecodeFault bytes x) e h).0 code

module _ (p : ℕ) (bytes object : List ℕ) (same : bytes ≡ object) (h : (row : Row) × IsObjectCode p row object) where
  -- The object's code is a term's.
  pub object_is_term : IsTermCode bytes
  object_is_term = (Tuple h.0, h.1.is_code.bounded, same ∙ h.1.is_code.code_is)

  -- An object has parts.
  pub no_parts : ((t : Tree) → IsTerm t → bytes ≡ code_of t → IsKeyParts t p None) → ⊥
  no_parts parts = has_parts (Tuple h.0) p h.1.object (parts (Tuple h.0) h.1.is_code.bounded (same ∙ h.1.is_code.code_is))

  module _ (start end : ℕ) (parts : (t : Tree) → IsTerm t → bytes ≡ code_of t → IsKeyParts t p (Some (start, end))) where
    stands : (row : Row) → IsObjectCode p row object → KeyStands p (Tuple row) start end
    stands row c = key_stands (Tuple row) p start end c.is_code.bounded (parts (Tuple row) c.is_code.bounded (same ∙ c.is_code.code_is))

    -- The key's part is one of the object's code.
    pub key_rising : start ≤ end
    key_rising = (stands h.0 h.1).rising

    pub key_inside : end ≤ length bytes
    key_inside = subst (λ (x : List ℕ). end ≤ length x) (sym (same ∙ h.1.is_code.code_is)) (stands h.0 h.1).inside

    key_part : (row : Row) → IsObjectCode p row object → slice_range bytes start end ≡ code_of (key_of p (Tuple row))
    key_part row c = ap (λ (x : List ℕ). slice_range x start end) (same ∙ c.is_code.code_is) ∙ (stands row c).key

    module _ (inside : List ℕ) (is : inside ≡ slice_range bytes start end) where
      -- It is the code of a term.
      pub key_code : IsTermCode inside
      key_code = (key_of p (Tuple h.0), key_is_term p (Tuple h.0) h.1.is_code.bounded, is ∙ key_part h.0 h.1)

      -- The term of this code is the object's key.
      pub key_read : (key : Tree) → IsTerm key → inside ≡ code_of key → (row : Row) → IsObjectCode p row object → key ≡ key_of p (Tuple row)
      key_read key b e row c =
          same_code key (key_of p (Tuple row)) b (key_is_term p (Tuple row) c.is_code.bounded) (sym e ∙ (is ∙ key_part row c))
