-- One line after the other is kept.
use Rattle.std.proofs.Common.{◌≡◌, ℕ, ◌+◌, ◌-◌, ◌<◌, ◌≤◌, Bool, true, false, List, [], ◌∷◌, ◌++◌, length, drop, take, Option, None, Some, Ok, refl, sym, ◌∙◌, ap, subst, arith}
use Rattle.std.specs.Prelude.{if◌then◌else◌, cond}
use Rattle.std.proofs.lemmas.List.{append-nil, map-append, take_rest}
use Rattle.std.proofs.lemmas.List.Sums.{sum_by-append, sum_by-cons}
use Rattle.ca_ets.specs.Command.{Command}
use Rattle.ca_cmd.specs.Adding.{may_add, adding_in}
use Rattle.ca_cmd.specs.Content.{IsLine}
use Rattle.ca_cmd.specs.File.{lines_of, commands_in}
use Rattle.ca_cmd.specs.Kept.{IsInText, AreAt, Keeps, IsAdded, IsNoted, IsTaken, IsEndOf}
use Rattle.ca_cmd.specs.Lines.{numbered, numbered_line}
use Rattle.ca_cmd.specs.declared.kept.Held.{Held}
use Rattle.ca_cmd.specs.declared.kept.Place.{Place}
use Rattle.ca_cmd.specs.declared.line.Line.{Line}
use Rattle.ca_cmd.proofs.CutLines.{no_longer, end_of_end, behind_some}
use Rattle.ca_cmd.proofs.Files.{AreReadLines, lines_more}

at_more : (Is : Place → Line → Type 0) (places : List Place) (lines : List Line) (place : Place) (line : Line)
    → AreAt Is places lines → Is place line → AreAt Is (places ++ place ∷ []) (lines ++ line ∷ [])
at_more Is [] lines place line p q = subst (λ (ls : List Line). AreAt Is (place ∷ []) (ls ++ line ∷ [])) (sym p) (q, refl)
at_more Is (x ∷ places) [] place line p q = absurd p
at_more Is (x ∷ places) (l ∷ lines) place line p q = (p.0, at_more Is places lines place line p.1 q)

one : (b : Bool) → cond b 1 0 + 0 ≡ (if b then 1 else 0)
one true = refl
one false = refl

adding_more : (commands : List Command) (command : Command) → adding_in (commands ++ command ∷ []) ≡ adding_in commands + (if may_add command then 1 else 0)
adding_more commands command =
    let f : Command → ℕ = λ c. cond (may_add c) 1 0 in
    sum_by-append f commands (command ∷ []) ∙ ap (λ n. adding_in commands + n) (sum_by-cons f command [] ∙ one (may_add command))

commands_more : (lines : List Line) (line : Line) → commands_in (numbered (lines ++ line ∷ [])) ≡ commands_in (numbered lines) ++ line.cmd ∷ []
commands_more [] line = refl
commands_more (l ∷ lines) line = ap (λ (cs : List Command). l.cmd ∷ cs) (commands_more lines line)

-- One more line is kept behind those so far.
pub keeps_more : (Is : Place → Line → Type 0) (before after : Held) (place : Place) (lines : List Line) (line : Line) → Keeps Is before lines
    → Is place line → IsAdded place (may_add line.cmd) before after → Keeps Is after (lines ++ line ∷ [])
keeps_more Is before after place lines line k p a =
    let more = ap adding_in (commands_more lines line) ∙ adding_more (commands_in (numbered lines)) line.cmd in record {
      at = subst (λ (ps : List Place). AreAt Is ps (lines ++ line ∷ [])) (sym a.places) (at_more Is before.places.items lines place line k.at p);
      counted = a.adding ∙ ap (λ n. n + (if may_add line.cmd then 1 else 0)) k.counted ∙ sym more;
    }

-- Nothing is kept at first.
pub keeps_none : (Is : Place → Line → Type 0) (held : Held) → held.places.items ≡ [] → held.adding ≡ 0 → Keeps Is held []
keeps_none Is held p a = record { at = subst (λ (ps : List Place). AreAt Is ps []) (sym p) refl; counted = a }

-- Not more may add an object than are kept.
pub few_more : (place : Place) (adds : Bool) (before after : Held) (n : ℕ) → before.adding ≤ n → IsAdded place adds before after → after.adding ≤ n + 1
few_more place true before after n h a = omega (arith, h, a.adding)
few_more place false before after n h a = omega (arith, h, a.adding)

few_more_behind : (skipped : ℕ) (place : Place) (adds : Bool) (before after : Held) (n : ℕ) → before.adding + skipped ≤ n
    → IsAdded place adds before after → after.adding + skipped ≤ n + 1
few_more_behind skipped place true before after n h a = omega (arith, h, a.adding)
few_more_behind skipped place false before after n h a = omega (arith, h, a.adding)

-- Lines of a file were read from a byte on, before which so many lines stand; those of them that hold commands are kept, and these bytes are left.
pub record IsReadTo (skipped : ℕ) (origin file : List ℕ) (held : Held) (count : ℕ) (rest : List ℕ) : Type 0 where
  pub lines : List Line
  pub read : AreReadLines skipped origin lines count rest
  pub keeps : Keeps (IsInText file) held lines
  pub behind : IsEndOf rest file

pub read_none : (skipped from : ℕ) (file : List ℕ) (held : Held) → from ≤ length file → held.places.items ≡ [] → held.adding ≡ 0
    → IsReadTo skipped (drop from file) file held skipped (take (length file - from) (drop from file))
read_none skipped from file held within p a = record {
  lines = [];
  read = record {
    before = [];
    good = refl;
    whole = ap (λ (bytes : List ℕ). lines_of bytes) (sym (take_rest file from));
    count_is = omega arith;
  };
  keeps = keeps_none (IsInText file) held p a;
  behind = behind_some file from within;
}

-- the next line of a file, that begins at this place, and what is left behind it
pub record IsNext (file rest line others : List ℕ) (count : ℕ) (place : Place) : Type 0 where
  pub cut : lines_of rest ≡ line ∷ lines_of others
  pub shorter : length others < length rest
  pub behind : IsEndOf others rest
  pub number : place.number ≡ count + 1
  pub start : place.start ≡ length file - length rest

module _ (skipped : ℕ) (origin file rest line others : List ℕ) (before after : Held) (count : ℕ) (place : Place)
    (r : IsReadTo skipped origin file before count rest) (next : IsNext file rest line others count place) where
  end : IsEndOf others file
  end = end_of_end others rest file next.behind r.behind

  here : drop place.start file ≡ rest
  here = ap (λ n. drop n file) next.start ∙ sym r.behind

  within : place.start < length file
  within = omega (arith, next.start, next.shorter, no_longer rest file r.behind)

  noted : (content : Option Command) → IsLine line (Ok content) → IsNoted place content before after → IsReadTo skipped origin file after (count + 1) others
  noted None l n = record {
    lines = r.lines;
    read = lines_more skipped origin rest line others r.lines r.lines count r.read next.cut (None, l, sym (append-nil (numbered r.lines)));
    keeps = subst (λ (h : Held). Keeps (IsInText file) h r.lines) (sym n) r.keeps;
    behind = end;
  }
  noted (Some command) l n =
      let new : Line = record { number = count + 1; cmd = command } in record {
        lines = r.lines ++ new ∷ [];
        read = lines_more skipped origin rest line others r.lines (r.lines ++ new ∷ []) count r.read next.cut
            (Some command, l, map-append numbered_line r.lines (new ∷ []));
        keeps = keeps_more (IsInText file) before after place r.lines new r.keeps
            (sym next.number, within, (line, lines_of others, ap (λ (bs : List ℕ). lines_of bs) here ∙ next.cut, l)) n;
        behind = end;
      }

  -- One more line is read.
  pub read_more : IsTaken place line before after → IsReadTo skipped origin file after (count + 1) others
  read_more t = noted t.0 t.1 t.2

  few : (content : Option Command) → IsNoted place content before after → before.adding + skipped ≤ count → after.adding + skipped ≤ count + 1
  few None n h = omega (arith, h, ap (λ (held : Held). held.adding) n)
  few (Some command) n h = few_more_behind skipped place (may_add command) before after count h n

  pub few_taken : IsTaken place line before after → before.adding + skipped ≤ count → after.adding + skipped ≤ count + 1
  few_taken t h = few t.0 t.2 h

at_join : (Is : Place → Line → Type 0) (places others : List Place) (lines more : List Line) → AreAt Is places lines → AreAt Is others more
    → AreAt Is (places ++ others) (lines ++ more)
at_join Is [] others lines more p q = subst (λ (ls : List Line). AreAt Is others (ls ++ more)) (sym p) q
at_join Is (x ∷ places) others [] more p q = absurd p
at_join Is (x ∷ places) others (l ∷ lines) more p q = (p.0, at_join Is places others lines more p.1 q)

commands_join : (lines more : List Line) → commands_in (numbered (lines ++ more)) ≡ commands_in (numbered lines) ++ commands_in (numbered more)
commands_join [] more = refl
commands_join (l ∷ lines) more = ap (λ (cs : List Command). l.cmd ∷ cs) (commands_join lines more)

-- What is kept of two parts is kept together.
pub keeps_join : (Is : Place → Line → Type 0) (before behind after : Held) (lines more : List Line) → Keeps Is before lines → Keeps Is behind more
    → after.places.items ≡ before.places.items ++ behind.places.items → after.adding ≡ before.adding + behind.adding → Keeps Is after (lines ++ more)
keeps_join Is before behind after lines more h k places adding =
    let f : Command → ℕ = λ c. cond (may_add c) 1 0 in
    let sums : adding_in (commands_in (numbered (lines ++ more))) ≡ adding_in (commands_in (numbered lines)) + adding_in (commands_in (numbered more)) =
    ap adding_in (commands_join lines more) ∙ sum_by-append f (commands_in (numbered lines)) (commands_in (numbered more)) in record {
      at = subst (λ (ps : List Place). AreAt Is ps (lines ++ more)) (sym places) (at_join Is before.places.items behind.places.items lines more h.at k.at);
      counted = adding ∙ (λ i. h.counted i + k.counted i) ∙ sym sums;
    }
