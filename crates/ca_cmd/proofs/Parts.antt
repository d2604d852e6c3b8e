-- Parts of a file, one behind the other, are the file.
use Rattle.std.proofs.Common.{◌≡◌, ℕ, suc, ◌+◌, ◌-◌, ◌≤◌, List, [], ◌∷◌, ◌++◌, length, drop, refl, sym, ◌∙◌, ap, subst, arith, append_assoc, length-append}
use Rattle.std.proofs.lemmas.List.{append-nil, map-append}
use Rattle.ca_cmd.specs.File.{Numbered, cut_lines, lines_of, held_at, AreLines, IsFileOf, IsRefusedAt}
use Rattle.ca_cmd.specs.Kept.{IsInText}
use Rattle.ca_cmd.specs.Lines.{numbered, numbered_line}
use Rattle.ca_cmd.specs.Parts.{IsPart, IsRefusedFrom, IsFaultFrom, IsJoined}
use Rattle.ca_cmd.specs.Refusal.{IsCauseIn}
use Rattle.ca_cmd.specs.declared.fault.FileFault.{FileFault}
use Rattle.ca_cmd.specs.declared.fault.FileFault.TheVariants.{BadLine, NoMemory}
use Rattle.ca_cmd.specs.declared.part.Part.{Part}
use Rattle.ca_cmd.proofs.CutLines.{no_longer}
use Rattle.ca_cmd.proofs.Keeping.{IsReadTo, keeps_join, keeps_none}

lines_join : (first : ℕ) (texts others : List (List ℕ)) (commands more : List Numbered) → AreLines first texts commands
    → AreLines (first + length texts) others more → AreLines first (texts ++ others) (commands ++ more)
lines_join first [] others commands more p q =
    let here : first + 0 ≡ first = omega arith in
    subst (λ (cs : List Numbered). AreLines first others (cs ++ more)) (sym p) (subst (λ (n : ℕ). AreLines n others more) here q)
lines_join first (text ∷ texts) others commands more p q =
    let next : first + suc (length texts) ≡ first + 1 + length texts = omega arith in (
      p.0,
      p.1 ++ more,
      p.2,
      lines_join (first + 1) texts others p.1 more p.3 (subst (λ (n : ℕ). AreLines n others more) next q),
      ap (λ (cs : List Numbered). cs ++ more) p.4 ∙ append_assoc (held_at first p.0) p.1 more,
    )

-- What was read up to some bytes is a part.
pub part_read : (file : List ℕ) (from before : ℕ) (part : Part) (rest : List ℕ) → IsReadTo before (drop from file) file part.held part.lines rest
    → part.end ≡ length file - length rest → part.lines + length rest ≤ length file → part.held.adding + before ≤ part.lines → IsPart file from before part
part_read file from before part rest r end few fewer =
    let left : rest ≡ drop part.end file = r.behind ∙ ap (λ n. drop n file) (sym end) in
    let short = no_longer rest file r.behind in record {
      texts = r.read.before;
      lines = r.lines;
      good = r.read.good;
      whole = r.read.whole ∙ ap (λ (bytes : List ℕ). r.read.before ++ lines_of bytes) left;
      counted = r.read.count_is;
      keeps = r.keeps;
      within = omega (arith, end);
      few = omega (arith, end, few, short);
      fewer = fewer;
    }

-- A part without lines at the front.
pub part_none : (file : List ℕ) (part : Part) → part.held.places.items ≡ [] → part.held.adding ≡ 0 → part.lines ≡ 0 → part.end ≡ 0 → IsPart file 0 0 part
part_none file part places adding lines end = record {
  texts = [];
  lines = [];
  good = refl;
  whole = ap (λ n. lines_of (drop n file)) (sym end);
  counted = lines;
  keeps = keeps_none (IsInText file) part.held places adding;
  within = omega (arith, end);
  few = omega (arith, lines);
  fewer = omega (arith, adding);
}

module _ (file : List ℕ) (before behind after : Part) (p : IsPart file 0 0 before) (q : IsPart file before.end before.lines behind) where
  -- A part that begins where another one from the front ends is one with it.
  pub parts_join : IsJoined before behind after → IsPart file 0 0 after
  parts_join j =
      let next : before.lines + 1 ≡ 1 + length p.texts = omega (arith, p.counted) in
      let more = subst (λ (n : ℕ). AreLines n q.texts (numbered q.lines)) next q.good in
      let all = sym (map-append numbered_line p.lines q.lines) in record {
        texts = p.texts ++ q.texts;
        lines = p.lines ++ q.lines;
        good = subst (λ (cs : List Numbered). AreLines 1 (p.texts ++ q.texts) cs) all
            (lines_join 1 p.texts q.texts (numbered p.lines) (numbered q.lines) p.good more);
        whole = p.whole ∙ ap (λ z. p.texts ++ z) q.whole ∙ sym (append_assoc p.texts q.texts (lines_of (drop behind.end file)))
            ∙ ap (λ n. (p.texts ++ q.texts) ++ lines_of (drop n file)) (sym j.end);
        counted = simp length-append (omega (arith, j.lines, p.counted, q.counted));
        keeps = keeps_join (IsInText file) before.held behind.held after.held p.lines q.lines p.keeps q.keeps j.places j.adding;
        within = omega (arith, j.end, q.within);
        few = omega (arith, j.end, j.lines, q.few);
        fewer = omega (arith, j.adding, j.lines, p.fewer, q.fewer);
      }

  -- Not more of both may add an object than 32 bits count.
  pub parts_fit : length file ≤ 16777216 → before.held.adding + behind.held.adding ≤ 4294967295
  parts_fit size = omega (arith, size, p.fewer, q.fewer, q.few, q.within)

-- The first refused line from where a part ends is the first one of the file.
refused_behind : (file : List ℕ) (before : Part) (number at : ℕ) (why : _) → IsPart file 0 0 before → IsRefusedFrom file before.end before.lines number at why
    → IsRefusedAt file number at why
refused_behind file before number at why p r =
    let next : before.lines + 1 ≡ 1 + length p.texts = omega (arith, p.counted) in record {
      before = p.texts ++ r.texts;
      commands = numbered p.lines ++ r.commands;
      line = r.line;
      after = r.after;
      whole = p.whole ∙ ap (λ z. p.texts ++ z) r.whole ∙ sym (append_assoc p.texts r.texts (r.line ∷ r.after));
      good = lines_join 1 p.texts r.texts (numbered p.lines) r.commands p.good (subst (λ (n : ℕ). AreLines n r.texts r.commands) next r.good);
      bad = r.bad;
      place = simp length-append (omega (arith, r.place, p.counted));
    }

-- What the lines from where a part ends fail for the file fails for.
pub fault_behind : (file : List ℕ) (before : Part) (e : FileFault) → IsPart file 0 0 before → IsFaultFrom file before.end before.lines e → IsCauseIn file e
fault_behind file before (BadLine number at why) p r = refused_behind file before number at why p r
fault_behind file before NoMemory p r = tt

-- What the lines from the front on fail for the file fails for.
pub fault_at_front : (file : List ℕ) (e : FileFault) → IsFaultFrom file 0 0 e → IsCauseIn file e
fault_at_front file (BadLine number at why) r = record {
  before = r.texts;
  commands = r.commands;
  line = r.line;
  after = r.after;
  whole = r.whole;
  good = r.good;
  bad = r.bad;
  place = omega (arith, r.place);
}
fault_at_front file NoMemory r = tt

no_lines : cut_lines [] ≡ []
unfolding cut_lines
no_lines = refl

drop_all : (bytes : List ℕ) → drop (length bytes) bytes ≡ []
drop_all [] = refl
drop_all (b ∷ bytes) = drop_all bytes

-- A part that goes from the front to the end has all lines.
pub whole_read : (file : List ℕ) (part : Part) (p : IsPart file 0 0 part) → length file ≤ part.end → IsFileOf file (numbered p.lines)
whole_read file part p reached =
    let within = p.within in
    let end : part.end ≡ length file = omega (arith, within, reached) in
    let nothing : drop part.end file ≡ [] = ap (λ n. drop n file) end ∙ drop_all file in
    let whole : lines_of file ≡ p.texts ++ lines_of [] = p.whole ∙ ap (λ (bytes : List ℕ). p.texts ++ lines_of bytes) nothing in
    let all : p.texts ≡ lines_of file = sym (append-nil p.texts) ∙ sym (rw (no_lines) at whole) in
    subst (λ (z : List (List ℕ)). AreLines 1 z (numbered p.lines)) all p.good
