use Rattle.std.proofs.Common.{◌≡◌, ℕ, ◌∷◌, drop, length-drop, arith, sym, ◌∙◌, ap}
use Rattle.ca_order.specs.Languages.{HasText, HasChar}
use Rattle.ca_order.proofs.Faults.{fault_at, fault_same}
use Rattle.ca_order.proofs.Turned.{same_first}
use Rattle.ca_order.proofs.AtomParts.{stuck_no_text, stuck_no_room, stuck_behind_zero, text_begins, text_goes_on, chars_prefix_free, stuck_char, nul_step, char_step}
use Rattle.ca_order.proofs.Starts.{stuck_first}
use Rattle.ca_order.proofs.atoms.read_step.Goals as goal

pub returns-in_default : goal.returns-in_default
returns-in_default c =
    let bytes = c.args.bytes.now in
    fault_at (HasText c.args.room) bytes bytes c.stuck.result c.stuck.ensures (stuck_no_text c.args.room bytes c.in_default.ensures.cases)

pub returns-then-room-eq0 : goal.returns-then-room-eq0
returns-then-room-eq0 c =
    let bytes = c.args.bytes.now in
    fault_at (HasText c.args.room) bytes bytes c.stuck-then-room-eq0.result c.stuck-then-room-eq0.ensures
    (stuck_no_room bytes c.args.room c.if-room-eq0.true
    (λ b more e z. let first : b ≡ c.in-Some.first.now = same_first b c.in-Some.first.now more c.in-Some.behind.now bytes e c.in-Some.ensures.cases.0 in
    c.if-first-ne0.true (sym first ∙ z)))

pub returns-in-Ok : goal.returns-in-Ok
returns-in-Ok c =
    let char = c.in-Ok.field-0-0 in
    let e = c.in-Ok.ensures.read in
    let h = c.in-Ok.ensures.scalar in (
      omega arith,
      char,
      h,
      char_step c.args.bytes.now c.in-Some.first.now c.in-Some.behind.now c.in-Ok.behind.now char c.in-Some.ensures.cases.0
          c.if-first-ne0.true h e,
    )

pub returns-in-Err : goal.returns-in-Err
returns-in-Err c =
    let bytes = c.args.bytes.now in
    let at = c.in-Err.at in
    let s = stuck_char bytes at c.in-Err.ensures.refused in (
      drop at bytes,
      length-drop at bytes,
      stuck_first HasChar (HasText c.args.room) bytes (drop at bytes) chars_prefix_free (text_begins c.args.room)
          (λ u h. text_goes_on c.args.room u (omega arith) h) s,
    )

pub returns-then-room-eq0-2 : goal.returns-then-room-eq0-2
returns-then-room-eq0-2 c =
    let bytes = c.args.bytes.now in
    let behind = c.in-Some.behind.now in
    let parts : bytes ≡ 0 ∷ behind = c.in-Some.ensures.cases.0 ∙ ap (λ (x : ℕ). x ∷ behind) c.if-first-ne0.false in
    fault_same (HasText c.args.room) bytes (0 ∷ behind) c.stuck-then-room-eq0-2.result parts
    (fault_at (HasText c.args.room) (0 ∷ behind) behind c.stuck-then-room-eq0-2.result c.stuck-then-room-eq0-2.ensures
    (stuck_behind_zero c.args.room behind (λ b more e. (
      (λ z. let f : b ≡ 0xff = same_first b 0xff more c.in-Zero.rest.now behind e c.in-Zero.ensures in absurd
          (omega (arith, f, z))),
      (λ z r. omega (arith, r, c.if-room-eq0-2.true)),
    ))))

pub returns-else-room-eq0-2 : goal.returns-else-room-eq0-2
returns-else-room-eq0-2 c =
    let behind = c.in-Some.behind.now in
    let parts : c.args.bytes.now ≡ 0 ∷ behind = c.in-Some.ensures.cases.0 ∙ ap (λ (x : ℕ). x ∷ behind) c.if-first-ne0.false in
    let w = nul_step c.args.bytes.now behind c.in-Zero.rest.now parts c.in-Zero.ensures in
    (omega arith, w.0, w.1, w.2)

pub returns-in-Neither : goal.returns-in-Neither
returns-in-Neither c =
    let bytes = c.args.bytes.now in
    let behind = c.in-Some.behind.now in
    let parts : bytes ≡ 0 ∷ behind = c.in-Some.ensures.cases.0 ∙ ap (λ (x : ℕ). x ∷ behind) c.if-first-ne0.false in
    fault_same (HasText c.args.room) bytes (0 ∷ behind) c.stuck-in-Neither.result parts
    (fault_at (HasText c.args.room) (0 ∷ behind) behind c.stuck-in-Neither.result c.stuck-in-Neither.ensures
    (stuck_behind_zero c.args.room behind (λ b more e. ((c.in-Neither.ensures b more e).0, (λ z r. (c.in-Neither.ensures b more e).1 z)))))
