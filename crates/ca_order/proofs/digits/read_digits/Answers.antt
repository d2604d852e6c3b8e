use Rattle.std.proofs.Common.{◌≡◌, ℕ, List, [], ◌∷◌, ◌++◌, length, refl, sym, ◌∙◌, ap, subst, arith}
use Rattle.std.proofs.lemmas.Bool.{false≢true}
use Rattle.ca_term.specs.Tree.{AreBytes}
use Rattle.ca_order.specs.Stuck.{IsStuck}
use Rattle.ca_order.specs.Languages.{HasDigits, CanBegin, turned_byte}
use Rattle.ca_order.specs.Reads.{BeginsWithDigits}
use Rattle.ca_order.proofs.Faults.{fault_at}
use Rattle.ca_order.proofs.Turned.{stuck_first_digit, stuck_short, begins_with_digits, no_digits, bytes_front, same_first}
use Rattle.ca_order.proofs.digits.read_digits.Goals as goal

pub returns-then-len-eq0 : goal.returns-then-len-eq0
returns-then-len-eq0 c =
    let e : c.args.len ≡ 0 = sym c.from-len.ensures ∙ c.if-len-eq0.true in
    subst (λ (x : ℕ). BeginsWithDigits c.args.negative x c.args.bytes.now 0 c.args.bytes.now) (sym e) (no_digits c.args.negative c.args.bytes.now)

pub returns-in_default : goal.returns-in_default
returns-in_default c =
    let bytes = c.args.bytes.now in
    fault_at (HasDigits c.args.negative c.args.len) bytes bytes c.stuck.result c.stuck.ensures
    (stuck_first_digit c.args.negative c.args.len bytes (omega arith) c.requires
    (λ b more e k. absurd (omega (arith, ap length e, c.in_default.ensures.cases))))

pub returns-then-not-can_begin : goal.returns-then-not-can_begin
returns-then-not-can_begin c =
    let bytes = c.args.bytes.now in
    let len : c.from-len.result ≡ c.args.len = c.from-len.ensures in
    fault_at (HasDigits c.args.negative c.args.len) bytes bytes c.stuck-then-not-can_begin.result c.stuck-then-not-can_begin.ensures
    (stuck_first_digit c.args.negative c.args.len bytes (omega arith) c.requires
    (λ b more e k.
    let first : b ≡ c.in-Some.first.now = same_first b c.in-Some.first.now more c.in-Some.field-0-1.now bytes e c.in-Some.ensures.cases.0 in
    let turn : turned_byte c.args.negative b ≡ c.turned.result = ap (turned_byte c.args.negative) first ∙ sym c.turned.ensures in
    let can : CanBegin c.turned.result c.from-len.result =
    subst (λ (x : ℕ). CanBegin c.turned.result x) (sym len) (subst (λ (x : ℕ). CanBegin x c.args.len) turn k) in
    false≢true (c.if-not-can_begin.ensures.1 can)))

pub returns-then-bytes-len : goal.returns-then-bytes-len
returns-then-bytes-len c =
    let bytes = c.args.bytes.now in
    let neg = c.args.negative in
    let first = c.in-Some.first.now in
    let more = c.in-Some.field-0-1.now in
    let len : c.from-len.result ≡ c.args.len = c.from-len.ensures in
    let parts : bytes ≡ first ∷ more = c.in-Some.ensures.cases.0 in
    let can : CanBegin c.turned.result c.from-len.result = c.if-not-can_begin.ensures.0 refl in
    let fits : CanBegin (turned_byte neg first) c.args.len =
    subst (λ (x : ℕ). CanBegin (turned_byte neg first) x) len (subst (λ (x : ℕ). CanBegin x c.from-len.result) c.turned.ensures can) in
    let all : AreBytes bytes = λ k. (c.type_inv.bytes k).fits in
    let s : IsStuck (HasDigits neg c.args.len) (first ∷ more) [] =
    stuck_short neg c.args.len first more (omega (arith, ap length parts)) c.requires (subst AreBytes parts all) fits in
    ([], refl, subst (λ (x : List ℕ). IsStuck (HasDigits neg c.args.len) x []) (sym parts) s)

pub returns : goal.returns
returns c =
    let bytes = c.args.bytes.now in
    let neg = c.args.negative in
    let first = c.in-Some.first.now in
    let more = c.in-Some.field-0-1.now in
    let digits = c.split_at.result.0.now in
    let rest = c.split_at.result.1.now in
    let len : c.from-len.result ≡ c.args.len = c.from-len.ensures in
    let parts : bytes ≡ first ∷ more = c.in-Some.ensures.cases.0 in
    let can : CanBegin c.turned.result c.from-len.result = c.if-not-can_begin.ensures.0 refl in
    let fits : CanBegin (turned_byte neg first) c.args.len =
    subst (λ (x : ℕ). CanBegin (turned_byte neg first) x) len (subst (λ (x : ℕ). CanBegin x c.from-len.result) c.turned.ensures can) in
    let all : AreBytes bytes = λ k. (c.type_inv.bytes k).fits in
    let cut : bytes ≡ digits ++ rest = c.split_at.ensures.by_index.0 in
    begins_with_digits neg c.args.len first digits rest bytes c.number_of.result cut (c.split_at.ensures.front_len ∙ len) (omega arith) c.requires
    (bytes_front digits rest (subst AreBytes cut all))
    (λ b after e. subst (λ (x : ℕ). CanBegin (turned_byte neg x) c.args.len) (sym (same_first b first after more bytes e parts)) fits) c.number_of.ensures
