-- The code point in UTF-8 at the front of some bytes: it is read, or the fault stands behind the longest start of one.
use Rattle.std.proofs.Common.{◌≡◌, ℕ, ◌+◌, ◌<◌, ◌≤◌, ◌/◌, leb, ◌&&◌, List, [], ◌∷◌, ◌++◌, length, take, drop, slice_index, Option, None, Some, Ok, Err, refl, sym, ap, subst, ◌∙◌, append_assoc, append-nil, arith, ◌⊎◌, inl, inr, ⊎_elim, length-append, length-drop, length-take-le, take-append-drop, get_or}
use Rattle.std.proofs.Math.Seq.{drop-append_seam}
use Rattle.std.proofs.lemmas.List.{drop_more, take_more}
use Rattle.std.proofs.lemmas.Bool.{cases_lt, le-leb, leb-true}
use Rattle.std.proofs.lemmas.Bool.Decides.{nat_tests}
use Rattle.std.proofs.str.Laws.{one, two, three, four}
use Rattle.std.specs.Char.{encode_utf8, IsScalar}
use Rattle.bstr.specs.Utf8.{Decoded, decoded}
use Rattle.bstr.proofs.lemmas.EncodeLemmas.{decoded-encode}
use Rattle.bstr.proofs.lemmas.PieceLemmas.{piece-bounds}
use Rattle.bstr.proofs.lemmas.SoundLemmas.{SpellsChar-decoded}
use Rattle.ca_term.specs.Character.{IsNoCharacter}
use Rattle.ca_term.proofs.Characters.{no_lead, no_character}
use Rattle.ca_text.specs.declared.fault.Why.TheVariants.{Syntax}
use Rattle.ca_text.specs.Inner.Reading.{syntax_fault, begun, point_of, point_at}
use Rattle.ca_text.proofs.Yields.{Yields, ok_yields, err_yields}
use Rattle.ca_text.proofs.Tools.{both, either_way, pair_is}
use Rattle.ca_text.proofs.Halts.{HaltsAt, Halts, Reads, ok_halts, fault_halts}
use Rattle.ca_text.proofs.Local.{IsLocal, place}

-- the code point c stands at the front
pub record IsPointOf (bytes : List ℕ) (c : ℕ) (rest : List ℕ) : Type 0 where
  pub whole : bytes ≡ encode_utf8 c ++ rest
  pub scalar : IsScalar c

-- The bytes in front begin a code point, and with the first one behind they begin none.
pub record BeginsPoint (front behind : List ℕ) : Type 0 where
  pub point : ℕ
  pub scalar : IsScalar point
  pub next : ℕ
  pub rest : List ℕ
  pub begins : encode_utf8 point ≡ front ++ next ∷ rest
  pub ends : (d : ℕ) (r : List ℕ) → behind ≡ d ∷ r → (c : ℕ) (more : List ℕ) → IsScalar c → encode_utf8 c ≡ front ++ d ∷ more → ⊥

-- A code point's UTF-8 is read, whatever follows.
pub point_again : (c : ℕ) (rest : List ℕ) → IsScalar c → point_at (encode_utf8 c ++ rest) ≡ Ok (c, rest)
unfolding point_at point_of
point_again c rest is =
    let bytes = encode_utf8 c ++ rest in
    let d = decoded-encode c rest is in
    ap (λ (p : Decoded). point_of p.char bytes) d ∙ ap (λ (p : Decoded). Ok (c, drop p.size bytes)) d
    ∙ ap (λ (x : List ℕ). Ok (c, x)) (drop-append_seam (encode_utf8 c) rest)

-- a code point is read
pub record PointRead (bytes : List ℕ) : Type 0 where
  pub point : ℕ
  pub rest : List ℕ
  pub is : IsPointOf bytes point rest
  pub read : point_at bytes ≡ Ok (point, rest)

-- none is read
pub record PointStuck (bytes : List ℕ) : Type 0 where
  pub front : List ℕ
  pub behind : List ℕ
  pub whole : bytes ≡ front ++ behind
  pub is : BeginsPoint front behind
  pub read : point_at bytes ≡ syntax_fault behind
  -- the first byte is taken where it begins code points of several bytes
  pub lead : 0xc2 ≤ slice_index bytes 0 → slice_index bytes 0 ≤ 0xf4 → 0 < length front

begins_at : (bytes : List ℕ) (at : ℕ) → IsNoCharacter bytes at → BeginsPoint (take at bytes) (drop at bytes)
begins_at bytes at n = record {
  point = n.char;
  scalar = n.is_scalar;
  next = n.next;
  rest = n.rest;
  begins = n.begins;
  ends = λ d r e c more is h.
      let some : at < length bytes = omega (arith, length-drop at bytes, ap (λ (x : List ℕ). length x) e) in
      let last : get_or bytes at 0 ≡ d = let w = drop_more bytes at 0 some in cc in
      let longer : take (at + 1) bytes ++ more ≡ take at bytes ++ d ∷ more =
      ap (λ x. x ++ more) (take_more bytes at 0 some ∙ ap (λ x. take at bytes ++ x ∷ []) last) ∙ append_assoc (take at bytes) (d ∷ []) more in
      n.no_longer some c more is (h ∙ sym longer);
}

begun_is : (bytes : List ℕ) → (decoded bytes).char ≡ None → IsNoCharacter bytes (begun bytes)
unfolding begun
begun_is bytes none = either_way (leb 0xc2 (slice_index bytes 0) && leb (slice_index bytes 0) 0xf4)
    (λ h. let t = both _ _ h in rw h (no_character bytes (decoded bytes).size none refl (leb-true _ _ t.0) (leb-true _ _ t.1)))
    (λ h. rw h (no_lead bytes none (λ p. grind (arith, nat_tests))))

begun_some : (bytes : List ℕ) → 0xc2 ≤ slice_index bytes 0 → slice_index bytes 0 ≤ 0xf4 → 0 < length (take (begun bytes) bytes)
unfolding begun
begun_some [] low high = absurd (omega arith)
begun_some (b ∷ bytes) low high =
    let size = piece-bounds (b ∷ bytes) (omega arith) in
    rw (le-leb 0xc2 b low, le-leb b 0xf4 high) (omega (arith, size.0, length-take-le (decoded (b ∷ bytes)).size (b ∷ bytes) size.2))

point_by : (bytes : List ℕ) (o : Option ℕ) → (decoded bytes).char ≡ o → PointRead bytes ⊎ PointStuck bytes
unfolding point_at point_of
point_by bytes (Some c) e =
    let s = SpellsChar-decoded bytes c e in
    inl (record {
      point = c;
      rest = drop (decoded bytes).size bytes;
      is = record { whole = s.bytes; scalar = s.scalar };
      read = ap (λ o. point_of o bytes) e;
    })
point_by bytes None e =
    inr (record {
      front = take (begun bytes) bytes;
      behind = drop (begun bytes) bytes;
      whole = sym (take-append-drop (begun bytes) bytes);
      is = begins_at bytes (begun bytes) (begun_is bytes e);
      read = ap (λ o. point_of o bytes) e;
      lead = begun_some bytes;
    })

-- The first code point is read, or none is.
pub point_cases : (bytes : List ℕ) → PointRead bytes ⊎ PointStuck bytes
point_cases bytes = point_by bytes (decoded bytes).char refl

-- What is read as a code point in UTF-8 is one.
pub point_yields : (bytes : List ℕ) → Yields (λ (x : ℕ × List ℕ). IsPointOf bytes x.0 x.1) (point_at bytes)
point_yields bytes =
    ⊎_elim (λ (p : PointRead bytes). subst (Yields (λ (x : ℕ × List ℕ). IsPointOf bytes x.0 x.1)) (sym p.read) (ok_yields p.is))
    (λ (k : PointStuck bytes). subst (Yields (λ (x : ℕ × List ℕ). IsPointOf bytes x.0 x.1)) (sym k.read) err_yields) (point_cases bytes)

-- ---- where none is read

-- the bytes of two lists in a row that are the same, where the first of one is longer
record Longer (u v xs ys : List ℕ) : Type 0 where
  more : List ℕ
  left : v ≡ u ++ more
  right : xs ≡ more ++ ys

overlap : (u v xs ys : List ℕ) → u ++ xs ≡ v ++ ys → Longer u v xs ys ⊎ Longer v u ys xs
overlap [] v xs ys e = inl (record { more = v; left = refl; right = e })
overlap (a ∷ u) [] xs ys e = inr (record { more = a ∷ u; left = refl; right = sym e })
overlap (a ∷ u) (b ∷ v) xs ys e =
    let first : a ≡ b = cc in
    let rest : u ++ xs ≡ v ++ ys = cc in
    ⊎_elim
    (λ (l : Longer u v xs ys). inl (record { more = l.more; left = (let k = l.left in cc); right = l.right }))
    (λ (l : Longer v u ys xs). inr (record { more = l.more; left = (let k = l.left in cc); right = l.right }))
    (overlap u v xs ys rest)

-- No code point's UTF-8 is another's and more.
no_more : (c d : ℕ) (more : List ℕ) → 0 < length more → IsScalar c → IsScalar d → encode_utf8 c ≡ encode_utf8 d ++ more → ⊥
no_more c d more some is other e =
    let one : point_at (encode_utf8 c) ≡ Ok (c, []) = ap point_at (sym (append-nil (encode_utf8 c))) ∙ point_again c [] is in
    let q = pair_is c [] d more (sym one ∙ ap point_at e ∙ point_again d more other) in
    omega (arith, some, ap (λ (x : List ℕ). length x) q.1)

-- Of two longest starts of code points none is longer.
no_further : (front behind other rest more : List ℕ) → BeginsPoint front behind → BeginsPoint other rest → other ≡ front ++ more → behind ≡ more ++ rest
    → behind ≡ rest
no_further front behind other rest [] a b l r = r
no_further front behind other rest (d ∷ more) a b l r =
    absurd (a.ends d (more ++ rest) r b.point (more ++ b.next ∷ b.rest) b.scalar
    (b.begins ∙ ap (λ x. x ++ b.next ∷ b.rest) l ∙ append_assoc front (d ∷ more) (b.next ∷ b.rest)))

module _ (front behind : List ℕ) (a : BeginsPoint front behind) where
  -- A longest start and more is no code point.
  not_longer : (c : ℕ) (rest more : List ℕ) → IsScalar c → encode_utf8 c ≡ front ++ more → behind ≡ more ++ rest → ⊥
  not_longer c rest [] is l r =
      no_more a.point c (a.next ∷ a.rest) (omega arith) a.scalar is (a.begins ∙ ap (λ x. x ++ a.next ∷ a.rest) (sym (l ∙ append-nil front)))
  not_longer c rest (d ∷ more) is l r = a.ends d (more ++ rest) r c more is l

  -- No code point begins a longest start.
  not_shorter : (c : ℕ) (more : List ℕ) → IsScalar c → front ≡ encode_utf8 c ++ more → ⊥
  not_shorter c more is l =
      no_more a.point c (more ++ a.next ∷ a.rest) (omega (arith, length-append more (a.next ∷ a.rest))) a.scalar is
      (a.begins ∙ ap (λ x. x ++ a.next ∷ a.rest) l ∙ append_assoc (encode_utf8 c) more (a.next ∷ a.rest))

  -- Where some bytes begin a code point, and none with the next byte, no code point is read, and the fault stands behind them.
  pub no_point : point_at (front ++ behind) ≡ syntax_fault behind
  no_point =
      ⊎_elim
      (λ (p : PointRead (front ++ behind)). absurd (⊎_elim
      (λ (l : Longer front (encode_utf8 p.point) behind p.rest). not_longer p.point p.rest l.more p.is.scalar l.left l.right)
      (λ (l : Longer (encode_utf8 p.point) front p.rest behind). not_shorter p.point l.more p.is.scalar l.left)
      (overlap front (encode_utf8 p.point) behind p.rest p.is.whole)))
      (λ (s : PointStuck (front ++ behind)). s.read ∙ ap (λ (x : List ℕ). Err (place Syntax x)) (⊎_elim
      (λ (l : Longer front s.front behind s.behind). sym (no_further front behind s.front s.behind l.more a s.is l.left l.right))
      (λ (l : Longer s.front front s.behind behind). no_further s.front s.behind front behind l.more s.is a l.left l.right)
      (overlap front s.front behind s.behind s.whole)))
      (point_cases (front ++ behind))

-- Where bytes stop to be a character, the fault stands.
pub point_refused : (bytes : List ℕ) (at : ℕ) → IsNoCharacter bytes at → point_at bytes ≡ syntax_fault (drop at bytes)
point_refused bytes at n = ap point_at (sym (take-append-drop at bytes)) ∙ no_point (take at bytes) (drop at bytes) (begins_at bytes at n)

-- What stands at the front is read.
pub point_read : (bytes : List ℕ) (c : ℕ) (rest : List ℕ) → bytes ≡ encode_utf8 c ++ rest → IsScalar c → point_at bytes ≡ Ok (c, rest)
point_read bytes c rest e is = ap point_at e ∙ point_again c rest is

-- ---- the reader of code points is local, halts at what begins one, and keeps within the bytes

-- No reader of code points looks further than the byte at a fault.
pub point_local : IsLocal point_at
point_local bytes =
    ⊎_elim
    (λ (p : PointRead bytes). (
      Ok p.point,
      record {
        front = encode_utf8 p.point;
        behind = p.rest;
        whole = p.is.whole;
        is = p.read;
        again = λ c r s h. point_again p.point (c ∷ s) p.is.scalar;
      },
    ))
    (λ (k : PointStuck bytes). (
      Err Syntax,
      record {
        front = k.front;
        behind = k.behind;
        whole = k.whole;
        is = k.read;
        again = λ c r s h. no_point k.front (c ∷ s) (record {
          point = k.is.point;
          scalar = k.is.scalar;
          next = k.is.next;
          rest = k.is.rest;
          begins = k.is.begins;
          ends = λ d t e. let first : c ≡ d = cc in rw (← first) (k.is.ends c r h);
        });
      },
    ))
    (point_cases bytes)

-- What is taken where no code point is read begins one.
pub point_halts : Halts point_at (Reads point_at)
point_halts bytes =
    ⊎_elim
    (λ (p : PointRead bytes). subst (HaltsAt (Reads point_at) bytes) (sym p.read) ok_halts)
    (λ (k : PointStuck bytes).
    let again : point_at (k.front ++ k.is.next ∷ k.is.rest) ≡ Ok (k.is.point, []) =
    ap point_at (sym k.is.begins ∙ sym (append-nil (encode_utf8 k.is.point))) ∙ point_again k.is.point [] k.is.scalar in
    subst (HaltsAt (Reads point_at) bytes) (sym k.read) (fault_halts Syntax k.front k.behind k.whole (inr (k.is.next ∷ k.is.rest, k.is.point, again))))
    (point_cases bytes)

-- ---- how a code point begins

-- Its first byte is the code point itself, or a byte from 194 to 244.
pub first_byte : (c : ℕ) → IsScalar c
    → ((c < 128) × (encode_utf8 c ≡ c ∷ [])) ⊎ ((128 ≤ c) × (b : ℕ) × (cs : List ℕ) × (encode_utf8 c ≡ b ∷ cs) × (0xc2 ≤ b) × (b < 0xf5))
first_byte c is =
    let top : c < 1114112 = grind (arith, nat_tests) in
    ⊎_elim (λ h. inl (h, one c h))
    (λ h. inr (⊎_elim
    (λ i. (h, 192 + c / 64, _, two c h i, omega arith, omega arith))
    (λ i. ⊎_elim (λ j. (h, 224 + c / 4096, _, three c i j, omega arith, omega arith)) (λ j. (h, 240 + c / 262144, _, four c j, omega arith, omega arith))
    (cases_lt c 65536))
    (cases_lt c 2048)))
    (cases_lt c 128)

-- No code point's UTF-8 is empty.
pub encode_some : (c : ℕ) → IsScalar c → 0 < length (encode_utf8 c)
encode_some c is = ⊎_elim (λ k. rw k.1 (omega arith)) (λ k. rw k.3 (omega arith)) (first_byte c is)

-- Where none is read, a first byte that begins some code point is taken.
pub stuck_some : (b : ℕ) (bytes : List ℕ) → (128 ≤ b → (0xc2 ≤ b) × (b ≤ 0xf4)) → (k : PointStuck (b ∷ bytes)) → 0 < length k.front
stuck_some b bytes begins k =
    ⊎_elim (λ h. some_front k.front k.behind k.whole k.is h) (λ h. let l = begins h in k.lead l.0 l.1) (cases_lt b 128)
  where
    some_front : (front behind : List ℕ) → b ∷ bytes ≡ front ++ behind → BeginsPoint front behind → b < 128 → 0 < length front
    some_front [] behind whole is h = absurd (is.ends b bytes (sym whole) b [] (grind (arith, nat_tests)) (one b h))
    some_front (c ∷ front) behind whole is h = omega arith
