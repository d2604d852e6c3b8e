-- Lines that are kept are determined by where they are kept.
use Rattle.std.proofs.Common.{◌≡◌, ℕ, zero, suc, ◌+◌, ◌-◌, ◌<◌, List, [], ◌∷◌, ◌++◌, length, take, drop, Option, Some, Ok, refl, sym, ◌∙◌, ap, subst, arith}
use Rattle.std.specs.Prelude.{slice_get, option_map}
use Rattle.std.specs.Coded.{Coded, Coded-set, coded_ℕ, coded_option, codes}
use Rattle.std.proofs.lemmas.List.{drop_more, take_more, take_rest}
use Rattle.std.proofs.lemmas.Option.{slice_get_within, get_or_from_slice_get}
use mathlib.Core.Logic.{∥∥₁_elim, ∥∥₁_prop}
use Rattle.ca_term.specs.contracts.term.Term as term
use Rattle.ca_ets.specs.Command.{Command}
use Rattle.ca_cmd.specs.Content.{IsLine}
use Rattle.ca_cmd.specs.Adding.{adding_in}
use Rattle.ca_cmd.specs.File.{lines_of, commands_in}
use Rattle.ca_cmd.specs.Kept.{HoldsAt, IsFrom, AreAt, Keeps}
use Rattle.ca_cmd.specs.Lines.{numbered}
use Rattle.ca_cmd.specs.Sole.{Sole}
use Rattle.ca_cmd.specs.declared.kept.Held.{Held}
use Rattle.ca_cmd.specs.declared.kept.Place.{Place}
use Rattle.ca_cmd.specs.declared.kept.Source.{Source}
use Rattle.ca_cmd.specs.declared.kept.Source.TheVariants.{Text, Draws}
use Rattle.ca_cmd.specs.declared.line.Line.{Line}
use Rattle.ca_cmd.proofs.Same.{line_sure}

pub some_same : {A : Type 0} (x y : A) → Some x ≡ Some y → x ≡ y
some_same x y e = cc

held_same : (line : List ℕ) (a b : Command) → IsLine line (Ok (Some a)) → IsLine line (Ok (Some b)) → a ≡ b
held_same line a b p q = let e = line_sure line (Ok (Some a)) (Ok (Some b)) p q in cc

head_same : {A : Type 0} (x y : A) (xs ys : List A) → x ∷ xs ≡ y ∷ ys → x ≡ y
head_same x y xs ys e = cc

-- One command is held at one place of a file.
pub command_same : (file : List ℕ) (start : ℕ) (a b : Command) → HoldsAt file start a → HoldsAt file start b → a ≡ b
command_same file start a b p q =
    let text : p.0 ≡ q.0 = head_same p.0 q.0 p.1 q.1 (sym p.2 ∙ q.2) in
    held_same p.0 a b p.3 (subst (λ t. IsLine t (Ok (Some b))) (sym text) q.3)

-- What is read where a command is held is that command.
pub read_again : (file : List ℕ) (start : ℕ) (line : List ℕ) (others : List (List ℕ)) (command : Command) (read : Option Command)
    → lines_of (take (length file - start) (drop start file)) ≡ line ∷ others → IsLine line (Ok read) → HoldsAt file start command → read ≡ Some command
read_again file start line others command read cut l h =
    let text : h.0 ≡ line = head_same h.0 line h.1 others (sym h.2 ∙ ap (λ (bs : List ℕ). lines_of bs) (sym (take_rest file start)) ∙ cut) in
    let held = subst (λ t. IsLine t (Ok (Some command))) text h.3 in
    let e = line_sure line (Ok read) (Ok (Some command)) l held in cc

line_same : (a b : Line) → a.number ≡ b.number → a.cmd ≡ b.cmd → a ≡ b
line_same a b n c i = record { number = n i; cmd = c i }

-- One line is kept at one place.
pub from_same : (source : Source) (place : Place) (a b : Line) → IsFrom source place a → IsFrom source place b → a ≡ b
from_same (Text file) place a b p q = line_same a b (p.0 ∙ sym q.0) (command_same file.items place.start a.cmd b.cmd p.2 q.2)
from_same (Draws client) place a b p q = line_same a b (p.0 ∙ sym q.0) (p.1 ∙ sym q.1)

all_same : (source : Source) (places : List Place) (xs ys : List Line) → AreAt (IsFrom source) places xs → AreAt (IsFrom source) places ys → xs ≡ ys
all_same source [] xs ys p q = p ∙ sym q
all_same source (place ∷ places) [] ys p q = absurd p
all_same source (place ∷ places) (x ∷ xs) [] p q = absurd q
all_same source (place ∷ places) (x ∷ xs) (y ∷ ys) p q =
    let first = from_same source place x y p.0 q.0 in
    let others = all_same source places xs ys p.1 q.1 in
    λ i. first i ∷ others i

-- The lines are determined.
pub lines_same : (source : Source) (held : Held) (xs ys : List Line) → Keeps (IsFrom source) held xs → Keeps (IsFrom source) held ys → xs ≡ ys
lines_same source held xs ys p q = all_same source held.places.items xs ys p.at q.at

-- There is one list of lines that are kept so.
pub the_lines : (source : Source) (held : Held) (lines : List Line) → Keeps (IsFrom source) held lines → Sole (List Line) (Keeps (IsFrom source) held)
the_lines source held lines k = (lines, (∣ k ∣₁, λ others q. lines_same source held others lines q k))

many_at : (Is : Place → Line → Type 0) (places : List Place) (lines : List Line) → AreAt Is places lines → length places ≡ length lines
many_at Is [] lines p = sym (ap (λ (ls : List Line). length ls) p)
many_at Is (place ∷ places) [] p = absurd p
many_at Is (place ∷ places) (line ∷ lines) p = ap suc (many_at Is places lines p.1)

-- the line that is kept at a place
record IsLineAt (Is : Place → Line → Type 0) (lines : List Line) (at : ℕ) (place : Place) : Type 0 where
  line : Line
  there : slice_get lines at ≡ Some line
  is : Is place line

line_at : (Is : Place → Line → Type 0) (places : List Place) (lines : List Line) (at : ℕ) (place : Place) → AreAt Is places lines
    → slice_get places at ≡ Some place → IsLineAt Is lines at place
line_at Is [] lines at place p h = let none : at < 0 = slice_get_within [] at place h in absurd (omega (arith, none))
line_at Is (first ∷ places) [] at place p h = absurd p
line_at Is (first ∷ places) (line ∷ lines) zero place p h =
    record { line = line; there = refl; is = subst (λ (z : Place). Is z line) (some_same first place h) p.0 }
line_at Is (first ∷ places) (line ∷ lines) (suc at) place p h =
    let r = line_at Is places lines at place p.1 h in record { line = r.line; there = r.there; is = r.is }

number_of : (source : Source) (place : Place) (line : Line) → IsFrom source place line → line.number ≡ place.number
number_of (Text file) place line p = p.0
number_of (Draws client) place line p = p.0

line_code : Coded Line
line_code = hlevel (codes, term.the_row.coded)

module _ (source : Source) (held : Held) (s : Sole (List Line) (Keeps (IsFrom source) held)) where
  pub many : length held.places.items ≡ length s.0
  many = ∥∥₁_elim s.1.0 (Coded-set coded_ℕ _ _) (λ k. many_at (IsFrom source) held.places.items s.0 k.at)

  pub adding : held.adding ≡ adding_in (commands_in (numbered s.0))
  adding = ∥∥₁_elim s.1.0 (Coded-set coded_ℕ _ _) (λ k. k.counted)

  module _ (at : ℕ) (place : Place) (h : slice_get held.places.items at ≡ Some place) where
    found : Keeps (IsFrom source) held s.0 → IsLineAt (IsFrom source) s.0 at place
    found k = line_at (IsFrom source) held.places.items s.0 at place k.at h

    pub is_kept : ∥ ((line : Line) × IsFrom source place line) ∥₁
    is_kept = ∥∥₁_elim s.1.0 ∥∥₁_prop (λ k. ∣ ((found k).line, (found k).is) ∣₁)

    number_in : IsLineAt (IsFrom source) s.0 at place → option_map (λ (l : Line). l.number) (slice_get s.0 at) ≡ Some place.number
    number_in f = ap (λ (o : Option Line). option_map (λ (l : Line). l.number) o) f.there ∙ ap (λ (n : ℕ). Some n) (number_of source place f.line f.is)

    pub number_at : option_map (λ (l : Line). l.number) (slice_get s.0 at) ≡ Some place.number
    number_at = ∥∥₁_elim s.1.0 (Coded-set (coded_option coded_ℕ) _ _) (λ k. number_in (found k))

    line_in : (command : Command) → ((line : Line) → IsFrom source place line → command ≡ line.cmd) → IsLineAt (IsFrom source) s.0 at place
        → slice_get s.0 at ≡ Some (record { number = place.number; cmd = command })
    line_in command made f =
        f.there ∙ ap (λ (l : Line). Some l) (line_same f.line (record { number = place.number; cmd = command }) (number_of source place f.line f.is)
        (sym (made f.line f.is)))

    pub line_made : (command : Command) → ((line : Line) → IsFrom source place line → command ≡ line.cmd)
        → slice_get s.0 at ≡ Some (record { number = place.number; cmd = command })
    line_made command made = ∥∥₁_elim s.1.0 (Coded-set (coded_option line_code) _ _) (λ k. line_in command made (found k))

-- One line more was made.
pub take_one : (lines : List Line) (at : ℕ) (line : Line) → slice_get lines at ≡ Some line → take (at + 1) lines ≡ take at lines ++ line ∷ []
take_one lines at line h =
    take_more lines at line (slice_get_within lines at line h) ∙ ap (λ (l : Line). take at lines ++ l ∷ []) (get_or_from_slice_get lines at line line h)

-- The line at a place is the first one from there on.
pub drop_one : (lines : List Line) (at : ℕ) (line : Line) → slice_get lines at ≡ Some line → drop at lines ≡ line ∷ drop (at + 1) lines
drop_one lines at line h =
    drop_more lines at line (slice_get_within lines at line h) ∙ ap (λ (l : Line). l ∷ drop (at + 1) lines) (get_or_from_slice_get lines at line line h)
