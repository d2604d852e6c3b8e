-- The generated lines, one after the other.
use Rattle.std.proofs.Common.{◌≡◌, ℕ, suc, ◌+◌, ◌-◌, ◌<◌, ◌≤◌, List, [], ◌∷◌, ◌++◌, refl, sym, ◌∙◌, ap, arith, append_assoc}
use Rattle.std.proofs.lemmas.List.{append-nil, map-append}
use Rattle.ca_ets.specs.Command.{Command}
use Rattle.ca_cmd.specs.Adding.{may_add}
use Rattle.ca_cmd.specs.File.{Numbered}
use Rattle.ca_cmd.specs.Generator.{command_at, drawn_command, generated, lines_from, next_number, start_of}
use Rattle.ca_cmd.specs.Kept.{IsDrawn, IsAdded, Keeps}
use Rattle.ca_cmd.specs.Lines.{numbered, numbered_line}
use Rattle.ca_cmd.specs.declared.kept.Held.{Held}
use Rattle.ca_cmd.specs.declared.kept.Place.{Place}
use Rattle.ca_cmd.specs.declared.line.Line.{Line}
use Rattle.ca_cmd.proofs.Keeping.{keeps_more, keeps_none, few_more}

drawn_is : (client number x : ℕ) → drawn_command client number x
    ≡ command_at client number (next_number x) (next_number (next_number x)) (next_number (next_number (next_number x)))
unfolding drawn_command
drawn_is client number x = refl

-- With the next line made, what is left to make begins behind it.
one_more : (client x i lines a k v : ℕ) (made : List Line) (command : Command) (all : List Numbered)
    → i < lines → a ≡ next_number x → k ≡ next_number a → v ≡ next_number k → command ≡ command_at client (i + 1) a k v
    → numbered made ++ lines_from client x (i + 1) (lines - i) ≡ all
    → numbered (made ++ record { number = i + 1; cmd = command } ∷ []) ++ lines_from client v (i + 1 + 1) (lines - (i + 1)) ≡ all
one_more client x i lines a k v made command all below ea ek ev ec h =
    let line : Numbered = record { number = i + 1; command = command } in
    let rest = lines_from client v (i + 1 + 1) (lines - (i + 1)) in
    let left : lines - i ≡ suc (lines - (i + 1)) = omega (arith, below) in
    let first : lines_from client x (i + 1) (lines - i) ≡ line ∷ rest = rw (left, ec, ev, ek, ea) refl in
    ap (λ z. z ++ rest) (map-append numbered_line made (record { number = i + 1; cmd = command } ∷ []))
    ∙ append_assoc (numbered made) (line ∷ []) rest ∙ ap (λ z. numbered made ++ z) (sym first) ∙ h

drawn_same : (client : ℕ) {m n x y : ℕ} → m ≡ n → x ≡ y → drawn_command client m x ≡ drawn_command client n y
drawn_same client e f i = drawn_command client (e i) (f i)

-- So many lines of a client were made and are kept, and the draws go on from x.
pub record IsMaking (seed client lines : ℕ) (held : Held) (i x : ℕ) : Type 0 where
  pub made : List Line
  pub keeps : Keeps (IsDrawn client) held made
  pub all : numbered made ++ lines_from client x (i + 1) (lines - i) ≡ generated seed client lines
  pub few : held.adding ≤ i

pub making_none : (seed client lines : ℕ) (held : Held) (x : ℕ) → held.places.items ≡ [] → held.adding ≡ 0 → x ≡ start_of seed client
    → IsMaking seed client lines held 0 x
making_none seed client lines held x p a e = record {
  made = [];
  keeps = keeps_none (IsDrawn client) held p a;
  all = let whole : lines - 0 ≡ lines = omega arith in rw (whole, e) refl;
  few = omega (arith, a);
}

pub making_more : (seed client lines : ℕ) (before after : Held) (i x a k v : ℕ) (place : Place) → IsMaking seed client lines before i x → i < lines
    → place.number ≡ i + 1 → place.start ≡ x → a ≡ next_number x → k ≡ next_number a → v ≡ next_number k
    → IsAdded place (may_add (drawn_command client (i + 1) x)) before after → IsMaking seed client lines after (i + 1) v
making_more seed client lines before after i x a k v place m below number start ea ek ev added =
    let line : Line = record { number = i + 1; cmd = drawn_command client (i + 1) x } in
    let made : drawn_command client (i + 1) x ≡ command_at client (i + 1) a k v = drawn_is client (i + 1) x ∙ sym (rw (ev, ek, ea) refl) in record {
      made = m.made ++ line ∷ [];
      keeps = keeps_more (IsDrawn client) before after place m.made line m.keeps (sym number, drawn_same client (sym number) (sym start)) added;
      all = one_more client x i lines a k v m.made (drawn_command client (i + 1) x) (generated seed client lines) below ea ek ev made m.all;
      few = few_more place (may_add (drawn_command client (i + 1) x)) before after i m.few added;
    }

-- All lines are made.
pub made_all : (seed client lines : ℕ) (held : Held) (i x : ℕ) (m : IsMaking seed client lines held i x) → lines ≤ i
    → numbered m.made ≡ generated seed client lines
made_all seed client lines held i x m h =
    let none : lines - i ≡ 0 = omega (arith, h) in
    sym (append-nil (numbered m.made)) ∙ ap (λ n. numbered m.made ++ lines_from client x (i + 1) n) (sym none) ∙ m.all
