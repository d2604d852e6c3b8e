-- The lines of a file: they are determined, a file isn't both read and refused, and one line after the other is taken.
use Rattle.std.proofs.Common.{◌≡◌, ℕ, suc, ◌+◌, List, [], ◌∷◌, ◌++◌, length, drop, Option, Ok, Err, refl, sym, ◌∙◌, ap, subst, arith, append_assoc, length-append}
use Rattle.std.proofs.lemmas.List.{append-nil}
use Rattle.ca_ets.specs.Command.{Command}
use Rattle.ca_cmd.specs.Argument.{Refused}
use Rattle.ca_cmd.specs.Content.{IsLine}
use Rattle.ca_cmd.specs.File.{Numbered, lines_of, held_at, AreLines, IsFileOf, IsRefusedAt}
use Rattle.ca_cmd.specs.Lines.{numbered}
use Rattle.ca_cmd.specs.Parts.{IsRefusedFrom, IsFaultFrom}
use Rattle.ca_cmd.specs.Refusal.{IsCauseIn, IsCauseAt}
use Rattle.ca_cmd.specs.declared.fault.FileFault.{FileFault}
use Rattle.ca_cmd.specs.declared.fault.FileFault.TheVariants.{BadLine, NoMemory}
use Rattle.ca_cmd.specs.declared.line.Line.{Line}
use Rattle.ca_cmd.specs.declared.fault.LineWhy.{LineWhy}
use Rattle.ca_cmd.proofs.Same.{line_sure}

held_same : (line : List ℕ) (a b : Option Command) → IsLine line (Ok a) → IsLine line (Ok b) → a ≡ b
held_same line a b p q = let e = line_sure line (Ok a) (Ok b) p q in cc

refusal_same : (line : List ℕ) (a b : Refused) → IsLine line (Err a) → IsLine line (Err b) → a ≡ b
refusal_same line a b p q = let e = line_sure line (Err a) (Err b) p q in cc

held_or_refused : (line : List ℕ) (a : Option Command) (b : Refused) → IsLine line (Ok a) → IsLine line (Err b) → ⊥
held_or_refused line a b p q = let e = line_sure line (Ok a) (Err b) p q in cc

-- Lines hold one list of commands.
pub lines_same : (n : ℕ) (lines : List (List ℕ)) (cs ds : List Numbered) → AreLines n lines cs → AreLines n lines ds → cs ≡ ds
lines_same n [] cs ds p q = p ∙ sym q
lines_same n (line ∷ lines) cs ds p q =
    let held : p.0 ≡ q.0 = held_same line p.0 q.0 p.2 q.2 in
    let others : p.1 ≡ q.1 = lines_same (n + 1) lines p.1 q.1 p.3 q.3 in
    p.4 ∙ (λ i. held_at n (held i) ++ others i) ∙ sym q.4

-- A refused line stands behind good ones.
pub record IsBehind (lines : List (List ℕ)) (before : List (List ℕ)) (line : List ℕ) (e : Refused) : Type 0 where
  pub after : List (List ℕ)
  pub whole : lines ≡ before ++ line ∷ after
  pub bad : IsLine line (Err e)

heads : {A : Type 0} (x y : A) (xs ys : List A) → x ∷ xs ≡ y ∷ ys → (x ≡ y) × (xs ≡ ys)
heads x y xs ys e = (cc, cc)

-- There is one refusal, and so many lines stand before it.
behind_same : (n : ℕ) (lines before after : List (List ℕ)) (cs ds : List Numbered) (x y : List ℕ) (e f : Refused)
    → AreLines n before cs → AreLines n after ds → IsBehind lines before x e → IsBehind lines after y f → (length before ≡ length after) × (e ≡ f)
behind_same n lines [] [] cs ds x y e f p q a b =
    let h = heads x y a.after b.after (sym a.whole ∙ b.whole) in
    (refl, refusal_same x e f a.bad (subst (λ z. IsLine z (Err f)) (sym h.0) b.bad))
behind_same n lines [] (w ∷ after) cs ds x y e f p q a b =
    let h = heads x w a.after (after ++ y ∷ b.after) (sym a.whole ∙ b.whole) in
    absurd (held_or_refused w q.0 e q.2 (subst (λ z. IsLine z (Err e)) h.0 a.bad))
behind_same n lines (v ∷ before) [] cs ds x y e f p q a b =
    let h = heads v y (before ++ x ∷ a.after) b.after (sym a.whole ∙ b.whole) in
    absurd (held_or_refused v p.0 f p.2 (subst (λ z. IsLine z (Err f)) (sym h.0) b.bad))
behind_same n lines (v ∷ before) (w ∷ after) cs ds x y e f p q a b =
    let h = heads v w (before ++ x ∷ a.after) (after ++ y ∷ b.after) (sym a.whole ∙ b.whole) in
    let r = behind_same (n + 1) (before ++ x ∷ a.after) before after p.1 q.1 x y e f p.3 q.3 (record { after = a.after; whole = refl; bad = a.bad })
    (record { after = b.after; whole = h.1; bad = b.bad }) in
    (ap suc r.0, r.1)

module _ (file : List ℕ) (line other at place : ℕ) (why reason : LineWhy) (a : IsRefusedAt file line at why) (b : IsRefusedAt file other place reason) where
  one_refusal : (length a.before ≡ length b.before) × (◌≡◌ {A = Refused} (record { at = at; why = why }) (record { at = place; why = reason }))
  one_refusal =
      behind_same 1 (lines_of file) a.before b.before a.commands b.commands a.line b.line _ _ a.good b.good
      (record { after = a.after; whole = a.whole; bad = a.bad }) (record { after = b.after; whole = b.whole; bad = b.bad })

  -- The refused line has one number.
  pub one_line : line ≡ other
  one_line = omega (arith, a.place, b.place, one_refusal.0)

  -- It is refused at one byte.
  pub one_place : at ≡ place
  one_place = ap (λ (e : Refused). e.at) one_refusal.1

  -- It is refused for one reason.
  pub one_reason : why ≡ reason
  one_reason = ap (λ (e : Refused). e.why) one_refusal.1

good_or_bad : (n : ℕ) (lines before : List (List ℕ)) (cs ds : List Numbered) (x : List ℕ) (e : Refused) → AreLines n before cs → IsBehind lines before x e
    → AreLines n lines ds → ⊥
good_or_bad n lines [] cs ds x e p a q =
    let r = subst (λ z. AreLines n z ds) a.whole q in
    held_or_refused x r.0 e r.2 a.bad
good_or_bad n lines (v ∷ before) cs ds x e p a q =
    let r = subst (λ z. AreLines n z ds) a.whole q in
    good_or_bad (n + 1) (before ++ x ∷ a.after) before p.1 r.1 x e p.3 (record { after = a.after; whole = refl; bad = a.bad }) r.3

-- A file isn't both read and refused.
pub not_both : (file : List ℕ) (line at : ℕ) (why : LineWhy) (lines : List Numbered) → IsRefusedAt file line at why → IsFileOf file lines → ⊥
not_both file line at why lines a f =
    good_or_bad 1 (lines_of file) a.before a.commands lines a.line _ a.good (record { after = a.after; whole = a.whole; bad = a.bad }) f

-- From these bytes on, before which so many lines stand, lines were read, with these commands; so many stand before what is left.
pub record AreReadLines (skipped : ℕ) (origin : List ℕ) (lines : List Line) (count : ℕ) (rest : List ℕ) : Type 0 where
  pub before : List (List ℕ)
  pub good : AreLines (skipped + 1) before (numbered lines)
  pub whole : lines_of origin ≡ before ++ lines_of rest
  pub count_is : count ≡ skipped + length before

-- One more line that is not refused adds what it holds.
pub lines_push : (n : ℕ) (before : List (List ℕ)) (commands : List Numbered) (line : List ℕ) (held : Option Command)
    → AreLines n before commands → IsLine line (Ok held) → AreLines n (before ++ line ∷ []) (commands ++ held_at (n + length before) held)
lines_push n [] commands line held p l =
    let here : n + 0 ≡ n = omega arith in
    (held, [], l, refl, rw (p, here) (sym (append-nil (held_at n held))))
lines_push n (v ∷ before) commands line held p l =
    let next : n + 1 + length before ≡ n + suc (length before) = omega arith in (
      p.0,
      p.1 ++ held_at (n + suc (length before)) held,
      p.2,
      subst (λ k. AreLines (n + 1) (before ++ line ∷ []) (p.1 ++ held_at k held)) next (lines_push (n + 1) before p.1 line held p.3 l),
      ap (λ z. z ++ held_at (n + suc (length before)) held) p.4 ∙ append_assoc (held_at n p.0) p.1 (held_at (n + suc (length before)) held),
    )

-- The line of this number is no refused one, and its command was added if it holds one.
abbrev pub Adds : ℕ → List ℕ → List Line → List Line → Type 0
Adds number text before after = (content : Option Command) × IsLine text (Ok content) × (numbered after ≡ numbered before ++ held_at number content)

-- One more line is read.
pub lines_more : (skipped : ℕ) (origin rest line others : List ℕ) (lines after : List Line) (count : ℕ) → AreReadLines skipped origin lines count rest
    → lines_of rest ≡ line ∷ lines_of others → Adds (count + 1) line lines after
    → AreReadLines skipped origin after (count + 1) others
lines_more skipped origin rest line others lines after count r e t =
    let here : skipped + 1 + length r.before ≡ count + 1 = omega (arith, r.count_is) in
    let all : numbered lines ++ held_at (skipped + 1 + length r.before) t.0 ≡ numbered after =
    ap (λ k. numbered lines ++ held_at k t.0) here ∙ sym t.2 in
    record {
      before = r.before ++ line ∷ [];
      good = subst (λ z. AreLines (skipped + 1) (r.before ++ line ∷ []) z) all
          (lines_push (skipped + 1) r.before (numbered lines) line t.0 r.good t.1);
      whole = r.whole ∙ ap (λ z. r.before ++ z) e ∙ sym (append_assoc r.before (line ∷ []) (lines_of others));
      count_is = simp length-append (omega (arith, r.count_is));
    }

-- A refused line behind lines that were read is the first one that is refused.
line_refused : (file : List ℕ) (from skipped : ℕ) (rest line others : List ℕ) (lines : List Line) (count at : ℕ) (why : LineWhy)
    → AreReadLines skipped (drop from file) lines count rest → lines_of rest ≡ line ∷ lines_of others
    → IsLine line (Err (record { at = at; why = why })) → IsRefusedFrom file from skipped (count + 1) at why
line_refused file from skipped rest line others lines count at why r e l = record {
  texts = r.before;
  commands = numbered lines;
  line = line;
  after = lines_of others;
  whole = r.whole ∙ ap (λ z. r.before ++ z) e;
  good = r.good;
  bad = l;
  place = omega (arith, r.count_is);
}

-- What a line fails for the lines from there on fail for.
pub line_cause : (file : List ℕ) (from skipped : ℕ) (rest line others : List ℕ) (lines : List Line) (count : ℕ) (e : FileFault)
    → AreReadLines skipped (drop from file) lines count rest → lines_of rest ≡ line ∷ lines_of others → IsCauseAt (count + 1) line e
    → IsFaultFrom file from skipped e
line_cause file from skipped rest line others lines count (BadLine number at why) r e c =
    subst (λ n. IsRefusedFrom file from skipped n at why) (sym c.0) (line_refused file from skipped rest line others lines count at why r e c.1)
line_cause file from skipped rest line others lines count NoMemory r e c = tt

-- A file that is read fails for want of memory alone.
pub only_memory : (file : List ℕ) (commands : List Numbered) (e : FileFault) → IsFileOf file commands → IsCauseIn file e → e ≡ NoMemory
only_memory file commands (BadLine line at why) f c = absurd (not_both file line at why commands c f)
only_memory file commands NoMemory f c = refl
