use Rattle.std.proofs.Common.{◌≡◌, ℕ, ◌-◌, List, [], ◌∷◌, ◌++◌, take, drop, refl, ◌∙◌, ap, length}
use Rattle.std.proofs.lemmas.Int.{to_z-of_z}
use Rattle.std.specs.Int.{to_be_bytes, cast_unsigned, w64}
use Rattle.ca_term.proofs.IntCodes.{word}
use Rattle.ca_term.specs.Code.{int_code}
use Rattle.ca_order.specs.IntTag.{int_tag}
use Rattle.ca_order.proofs.Put.{IsPut, put_more, puts_all}
use Rattle.ca_order.proofs.TwosComplement.{int_parts}
use Rattle.ca_order.proofs.writing.put_int.Goals as goal

pub returns : goal.returns
returns c =
    let n = c.args.value in
    let len = c.int_code_length-len.result in
    let same = to_z-of_z w64 n c.ranges.value in
    let cast : c.cast_unsigned.result ≡ cast_unsigned w64 n = c.cast_unsigned.ensures ∙ ap (cast_unsigned w64) same in
    let bytes : c.to_be_bytes.result ≡ to_be_bytes w64 (cast_unsigned w64 n) = c.to_be_bytes.ensures ∙ ap (to_be_bytes w64) cast in
    let parts = int_parts n len (word n c.ranges.value) (c.int_code_length-len.ensures.value ∙ ap (λ z. length (int_code z)) same) in
    let tag : c.int_tag.result ≡ int_tag n (len - 1) = c.int_tag.ensures ∙ ap (λ z. int_tag z (len - 1)) same in
    let rest : List ℕ = take (8 - (8 - (len - 1))) (drop (8 - (len - 1)) c.to_be_bytes.result) in
    let split : int_code n ≡ (c.int_tag.result ∷ []) ++ rest = rw (tag, bytes) parts in
    let whole : IsPut c.args.into.now.items (int_code n) c.args.into.now.items (int_code n) = record { parts = refl } in
    puts_all c.put-2.result c.put.new.into.items rest c.args.into.now.items (int_code n) c.put-2.new.into.items
    (put_more c.args.into.now.items (int_code n) c.args.into.now.items (int_code n)
    (c.int_tag.result ∷ []) rest c.put.new.into.items whole split c.in_ok-put.ensures) c.put-2.ensures
