use Rattle.std.proofs.Common.{◌<◌, ◌-◌, ◌++◌, length, arith, subst}
use Rattle.std.specs.Prelude.{Some}
use Rattle.ca_term.specs.Tree.{Tree, row_of}
use Rattle.ca_term.specs.Code.{code_of, row_code}
use Rattle.ca_order.specs.KeyParts.{IsKeyParts}
use Rattle.ca_order.proofs.KeyPlaces.{no_key, few, same_term, object_length, pd, key_codes, behind_codes, place_is}
use Rattle.ca_order.proofs.object.object_parts.Goals as goal

pub returns-in_err-size : goal.returns-in_err-size
returns-in_err-size c = λ t b e. rw c.from_residual.ensures (no_key c.args.code.now c.args.keypos c.in_err-size.ensures t e)

pub returns-then-size-before : goal.returns-then-size-before
returns-then-size-before c = few c.args.code.now c.in_ok-size.elements.now c.in_ok-size.size c.args.keypos c.in_ok-size.ensures c.requires.keypos (omega arith)

pub skip-key-requires : goal.skip-key-requires
skip-key-requires c =
    let lt : c.args.keypos - 1 < c.in_ok-size.size = omega arith in
    let p = pd c.args.code.now c.in_ok-size.elements.now c.in_ok-size.size c.args.keypos c.in_ok-size.ensures c.requires.keypos lt in (
      code_of p.key ++ row_code (row_of p.after),
      key_codes c.args.code.now c.in_ok-size.elements.now c.in_ok-size.size c.args.keypos c.in_ok-size.ensures
          c.requires.keypos lt,
    )

pub skip-behind-requires : goal.skip-behind-requires
skip-behind-requires c =
    let lt : c.args.keypos - 1 < c.in_ok-size.size = omega arith in
    let p = pd c.args.code.now c.in_ok-size.elements.now c.in_ok-size.size c.args.keypos c.in_ok-size.ensures c.requires.keypos lt in
    let k = c.skip-key.ensures.rest (code_of p.key ++ row_code (row_of p.after)) (key_codes c.args.code.now c.in_ok-size.elements.now c.in_ok-size.size
    c.args.keypos c.in_ok-size.ensures c.requires.keypos lt) in (
      row_code (row_of p.after),
      behind_codes c.args.code.now c.in_ok-size.elements.now c.in_ok-size.size c.args.keypos c.in_ok-size.ensures c.requires.keypos
          lt c.skip-key.result.now k,
    )

pub overflow_sub-result : goal.overflow_sub-result
overflow_sub-result c =
    omega (arith, object_length c.args.code.now c.in_ok-size.elements.now c.in_ok-size.size c.in_ok-size.ensures, c.skip-key.ensures.shorter)

pub overflow_sub-result-2 : goal.overflow_sub-result-2
overflow_sub-result-2 c = omega (
  arith,
  object_length c.args.code.now c.in_ok-size.elements.now c.in_ok-size.size c.in_ok-size.ensures,
  c.skip-key.ensures.shorter,
  c.skip-behind.ensures.shorter,
)

pub returns : goal.returns
returns c = λ t b e.
    let code = c.args.code.now in
    let elements = c.in_ok-size.elements.now in
    let count = c.in_ok-size.size in
    let s = c.in_ok-size.ensures in
    let lt : c.args.keypos - 1 < count = omega arith in
    let p = pd code elements count c.args.keypos s c.requires.keypos lt in
    let k = c.skip-key.ensures.rest (code_of p.key ++ row_code (row_of p.after)) (key_codes code elements count c.args.keypos s c.requires.keypos lt) in
    let m = c.skip-behind.ensures.rest (row_code (row_of p.after))
    (behind_codes code elements count c.args.keypos s c.requires.keypos lt c.skip-key.result.now k) in
    subst (λ (x : Tree). IsKeyParts x c.args.keypos (Some (length code - length c.skip-key.result.now, length code - length c.skip-behind.result.now)))
    (same_term code elements count s t b e)
    (place_is code elements count c.args.keypos s c.requires.keypos lt c.skip-key.result.now c.skip-behind.result.now k m)
