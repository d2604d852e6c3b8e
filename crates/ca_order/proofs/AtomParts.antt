-- Where escaped texts are stuck.
use Rattle.std.proofs.Common.{◌≡◌, ℕ, zero, suc, ◌≤◌, ◌<◌, ◌+◌, ◌-◌, true, List, [], ◌∷◌, ◌++◌, length, take, drop, take-append-drop, length-drop, drop-cons, get_or, arith, refl, sym, ◌∙◌, ap, subst, append_assoc, append-nil, length-append, ◌⊎◌, inl, inr, ⊎_elim}
use Rattle.std.proofs.Math.Seq.{take-append_seam}
use Rattle.std.proofs.lemmas.List.{take_more}
use Rattle.std.proofs.str.Laws.{Shape, of1, of2, of3, of4, shape, one, both, scalars-append}
use lib.Utf8.{scalar, scalar_cases}
use Rattle.std.proofs.lemmas.Str.{cons_from_encodes, encode_same, chars-encodes, encodes-chars, length-le-encodes}
use Rattle.std.specs.Char.{IsScalar, encode_utf8}
use Rattle.std.specs.Str.{chars, encode_utf8_all, all_scalars, IsUtf8}
use Rattle.ca_term.specs.declared.bounds.TheConstants.{MOST_CODE_POINTS}
use Rattle.ca_term.specs.Tree.{Tree, Atom, IsNarrow}
use Rattle.ca_term.specs.Character.{IsNoCharacter}
use Rattle.ca_term.specs.Code.{escaped}
use Rattle.ca_term.proofs.Escapes.{escaped_zero, escaped_suc, escaped_nil}
use Rattle.ca_order.specs.Zeros.{HasNoZero, opened}
use Rattle.ca_order.specs.Stuck.{IsStuck, IsRest}
use Rattle.ca_order.specs.Languages.{HasText, HasChar}
use Rattle.ca_order.specs.Reads.{BeginsWithBytes, BeginsWithText, BeginsWithTerm}
use Rattle.ca_order.proofs.Opened.{escaped_append, escaped_ends, opened_append, opened_no_zero, opened_zero, opened_nil, same_opened, escaped_after, same_head, same_second}
use Rattle.ca_order.proofs.Starts.{stuck_here, IsPrefixFree, Begins}
use Rattle.ca_order.proofs.Parts.{at_atom, begins_as}

-- ---- characters

encode_zero : encode_utf8 0 ≡ 0 ∷ []
encode_zero = one 0 (omega arith)

no_zero_by : (c : ℕ) → 0 < c → Shape c → HasNoZero (encode_utf8 c)
no_zero_by c p (of1 h e) = subst HasNoZero (sym e) (p, tt)
no_zero_by c p (of2 a b l u f s e) = subst HasNoZero (sym e) (omega arith, (omega (arith, f), tt))
no_zero_by c p (of3 a b d l u f g s e) = subst HasNoZero (sym e) (omega arith, (omega (arith, f), (omega (arith, g), tt)))
no_zero_by c p (of4 a b d k l u f g h s e) = subst HasNoZero (sym e) (omega arith, (omega (arith, f), (omega (arith, g), (omega (arith, h), tt))))

-- a character that isn't 0 has no zero byte
pub char_no_zero : (c : ℕ) → IsScalar c → 0 < c → HasNoZero (encode_utf8 c)
char_no_zero c h p = no_zero_by c p (shape c (scalar_cases c h))

-- A character that is not 0 is escaped as it stands.
pub opened_char : (c : ℕ) → IsScalar c → 0 < c → opened (encode_utf8 c) ≡ encode_utf8 c
opened_char c h p = opened_no_zero (encode_utf8 c) (char_no_zero c h p)

-- The character 0 is escaped as 00 FF.
pub opened_nul : opened (encode_utf8 0) ≡ 0 ∷ 0xff ∷ []
opened_nul = ap opened encode_zero ∙ opened_zero [] ∙ (λ i. 0 ∷ 0xff ∷ opened_nil i)

-- No character's UTF-8 begins another one's.
pub chars_prefix_free : IsPrefixFree HasChar
chars_prefix_free u rest h k =
    let e : encode_utf8 h.char ++ rest ≡ encode_utf8 k.char ++ [] = ap (λ x. x ++ rest) (sym h.code_is) ∙ k.code_is ∙ sym (append-nil (encode_utf8 k.char)) in
    (encode_same h.char k.char rest [] e).1

-- ---- texts

encodes_after : (cs ds zs : List ℕ) → encode_utf8_all cs ++ zs ≡ encode_utf8_all ds → (es : List ℕ) × (ds ≡ cs ++ es) × (zs ≡ encode_utf8_all es)
encodes_after [] ds zs e = (ds, refl, e)
encodes_after (c ∷ cs) ds zs e =
    let f : encode_utf8_all ds ≡ encode_utf8 c ++ (encode_utf8_all cs ++ zs) = sym e ∙ append_assoc (encode_utf8 c) (encode_utf8_all cs) zs in
    let k = cons_from_encodes ds (encode_utf8_all cs ++ zs) c f in
    let r = encodes_after cs k.0 zs (sym k.2) in
    (r.0, k.1 ∙ ap (λ (x : List ℕ). c ∷ x) r.1, r.2)

scalars_back : (cs ds : List ℕ) → all_scalars (cs ++ ds) ≡ true → all_scalars ds ≡ true
scalars_back [] ds h = h
scalars_back (c ∷ cs) ds h = scalars_back cs ds (both (scalar c) (all_scalars (cs ++ ds)) h).1

encodes_append : (cs ds : List ℕ) → encode_utf8_all (cs ++ ds) ≡ encode_utf8_all cs ++ encode_utf8_all ds
encodes_append [] ds = refl
encodes_append (c ∷ cs) ds = ap (λ x. encode_utf8 c ++ x) (encodes_append cs ds) ∙ sym (append_assoc (encode_utf8 c) (encode_utf8_all cs) (encode_utf8_all ds))

-- behind an escaped text stands an escaped rest, with as much less room
text_after : (cs : List ℕ) (room most : ℕ) (x : List ℕ) → length cs + room ≡ most → HasText most (opened (encode_utf8_all cs) ++ x) → HasText room x
text_after cs room most x n h =
    let a = escaped_after (encode_utf8_all cs) (encode_utf8_all h.text) x h.code_is in
    let b = encodes_after cs h.text a.0 (sym a.1) in
    record {
      text = b.0;
      are_scalars = scalars_back cs b.0 (subst (λ (y : List ℕ). all_scalars y ≡ true) b.1 h.are_scalars);
      short = omega (arith, n, h.short, ap length b.1, length-append cs b.0);
      code_is = a.2 ∙ ap escaped b.2;
    }

and_true : (cs ds : List ℕ) → all_scalars cs ≡ true → all_scalars ds ≡ true → all_scalars (cs ++ ds) ≡ true
and_true cs ds h k = scalars-append cs ds h k

-- Behind a part of an escaped text stands an escaped text with as much less room.
pub text_rest : (cs : List ℕ) (room most : ℕ) → length cs + room ≡ most → all_scalars cs ≡ true
    → IsRest (HasText most) (opened (encode_utf8_all cs)) (HasText room)
text_rest cs room most n h = record {
  into = λ x w. text_after cs room most x n w;
  back = λ x w. record {
    text = cs ++ w.text;
    are_scalars = and_true cs w.text h w.are_scalars;
    short = omega (arith, n, w.short, length-append cs w.text);
    code_is = ap (λ y. opened (encode_utf8_all cs) ++ y) w.code_is ∙ sym (escaped_append (encode_utf8_all cs) (encode_utf8_all w.text))
        ∙ ap escaped (sym (encodes_append cs w.text));
  };
}

no_text : (most : ℕ) → HasText most (0 ∷ 0 ∷ [])
no_text most = record { text = []; are_scalars = refl; short = omega arith; code_is = sym escaped_nil }

-- ---- where a text is stuck

-- No bytes are stuck at once: a text has at least its end.
pub stuck_no_text : (room : ℕ) (bytes : List ℕ) → length bytes ≡ 0 → IsStuck (HasText room) bytes bytes
stuck_no_text room bytes e = stuck_here (HasText room) bytes 0 (0 ∷ []) (no_text room) (λ b more rest f w. absurd (omega (arith, ap length f, e)))

first_of_none : (text : List ℕ) (b : ℕ) (rest : List ℕ) → length text ≤ 0 → b ∷ rest ≡ escaped (encode_utf8_all text) → b ≡ 0
first_of_none [] b rest h e = same_head b 0 rest (0 ∷ []) (e ∙ escaped_nil)
first_of_none (c ∷ cs) b rest h e = absurd (omega arith)

-- Without room for a character, a text is stuck in front of a byte above 0.
pub stuck_no_room : (bytes : List ℕ) (room : ℕ) → room ≡ 0 → ((b : ℕ) (more : List ℕ) → bytes ≡ b ∷ more → b ≡ 0 → ⊥) → IsStuck (HasText room) bytes bytes
stuck_no_room bytes room z n =
    stuck_here (HasText room) bytes 0 (0 ∷ []) (no_text room) (λ b more rest f w. n b more f (first_of_none w.text b rest (omega (arith, w.short)) w.code_is))

-- what may stand behind a zero byte
second_by : (zs : List ℕ) (b : ℕ) (rest : List ℕ) → 0 ∷ b ∷ rest ≡ escaped zs → (b ≡ 0) ⊎ ((0 < length zs) × (b ≡ 0xff))
second_by [] b rest e = inl (same_second 0 0 b 0 rest [] (e ∙ escaped_nil))
second_by (zero ∷ zs) b rest e = inr (omega arith, same_second 0 0 b 0xff rest (escaped zs) (e ∙ escaped_zero zs))
second_by (suc c ∷ zs) b rest e = let g : 0 ≡ suc c = same_head 0 (suc c) (b ∷ rest) (escaped zs) (e ∙ escaped_suc c zs) in absurd (omega arith)

nonempty : (cs : List ℕ) → 0 < length (encode_utf8_all cs) → 0 < length cs
nonempty [] h = h
nonempty (c ∷ cs) h = omega arith

-- Behind a zero byte, a text is stuck where neither its end nor an escape with room follows.
pub stuck_behind_zero : (room : ℕ) (behind : List ℕ) → ((b : ℕ) (more : List ℕ) → behind ≡ b ∷ more → (b ≡ 0 → ⊥) × (b ≡ 0xff → 1 ≤ room → ⊥))
    → IsStuck (HasText room) (0 ∷ behind) behind
stuck_behind_zero room behind n = record {
  done = 0 ∷ [];
  parts = refl;
  next = 0;
  rest = [];
  begins = no_text room;
  no_longer = λ b more rest f w. ⊎_elim (λ z. (n b more f).0 z) (λ z. (n b more f).1 z.1 (omega (arith, nonempty w.text z.0, w.short)))
      (second_by (encode_utf8_all w.text) b rest w.code_is);
}

-- every text begins with a character, since its end begins as the character 0 does
text_first : (room : ℕ) (text x : List ℕ) → all_scalars text ≡ true → x ≡ escaped (encode_utf8_all text) → Begins HasChar x
text_first room [] x h e =
    record { word = 0 ∷ []; rest = 0 ∷ []; parts = e ∙ escaped_nil; is_word = record { char = 0; is_scalar = refl; code_is = sym encode_zero } }
text_first room (zero ∷ cs) x h e =
    let f : x ≡ 0 ∷ 0xff ∷ escaped (encode_utf8_all cs) = e ∙ ap (λ y. escaped (y ++ encode_utf8_all cs)) encode_zero ∙ escaped_zero (encode_utf8_all cs) in
    record { word = 0 ∷ []; rest = 0xff ∷ escaped (encode_utf8_all cs); parts = f; is_word = record { char = 0; is_scalar = refl; code_is = sym encode_zero } }
text_first room (suc c ∷ cs) x h e =
    let s = both (scalar (suc c)) (all_scalars cs) h in
    let f : x ≡ encode_utf8 (suc c) ++ escaped (encode_utf8_all cs) =
    e ∙ escaped_append (encode_utf8 (suc c)) (encode_utf8_all cs) ∙ ap (λ y. y ++ escaped (encode_utf8_all cs)) (opened_char (suc c) s.0 (omega arith)) in
    record { word = encode_utf8 (suc c); rest = escaped (encode_utf8_all cs); parts = f; is_word = record { char = suc c; is_scalar = s.0; code_is = refl } }

-- Each escaped text begins with a character.
pub text_begins : (room : ℕ) (x : List ℕ) → HasText room x → Begins HasChar x
text_begins room x h = text_first room h.text x h.are_scalars h.code_is

-- any character goes on as a text
char_text : (c room : ℕ) (u : List ℕ) → IsScalar c → 1 ≤ room → u ≡ encode_utf8 c → (v : List ℕ) × HasText room (u ++ v)
char_text zero room u h r e = (
  0xff ∷ 0 ∷ 0 ∷ [],
  record {
    text = 0 ∷ [];
    are_scalars = refl;
    short = omega arith;
    code_is = ap (λ y. y ++ 0xff ∷ 0 ∷ 0 ∷ []) (e ∙ encode_zero)
        ∙ sym (ap (λ y. escaped (y ++ [])) encode_zero ∙ escaped_zero [] ∙ (λ i. 0 ∷ 0xff ∷ escaped_nil i));
  },
)
char_text (suc c) room u h r e = (
  0 ∷ 0 ∷ [],
  record {
    text = suc c ∷ [];
    are_scalars = rw h refl;
    short = omega arith;
    code_is = ap (λ y. y ++ 0 ∷ 0 ∷ []) (e ∙ sym (opened_char (suc c) h (omega arith)) ∙ ap opened (sym (append-nil (encode_utf8 (suc c)))))
        ∙ sym (escaped_ends (encode_utf8 (suc c) ++ []));
  },
)

-- With room, any character goes on to an escaped text.
pub text_goes_on : (room : ℕ) (u : List ℕ) → 1 ≤ room → HasChar u → (v : List ℕ) × HasText room (u ++ v)
text_goes_on room u r h = char_text h.char room u h.is_scalar r h.code_is

-- Where bytes stop to be a character, they are stuck in one.
pub stuck_char : (bytes : List ℕ) (at : ℕ) → IsNoCharacter bytes at → IsStuck HasChar bytes (drop at bytes)
stuck_char bytes at s = record {
  done = take at bytes;
  parts = sym (take-append-drop at bytes);
  next = s.next;
  rest = s.rest;
  begins = record { char = s.char; is_scalar = s.is_scalar; code_is = sym s.begins };
  no_longer = λ b more rest e w.
      let l : at < length bytes = omega (arith, ap length e, length-drop at bytes) in
      let cut : drop at bytes ≡ get_or bytes at 0 ∷ drop (suc at) bytes = drop-cons bytes at 0 l in
      let first : get_or bytes at 0 ≡ b = same_head (get_or bytes at 0) b (drop (suc at) bytes) more (sym cut ∙ e) in
      let n : take (at + 1) bytes ≡ take at bytes ++ b ∷ [] = take_more bytes at 0 l ∙ ap (λ x. take at bytes ++ x ∷ []) first in
      s.no_longer l w.char rest w.is_scalar (sym w.code_is ∙ sym (append_assoc (take at bytes) (b ∷ []) rest) ∙ ap (λ x. x ++ rest) (sym n));
}

-- ---- a text, step by step

-- how far a text was read, and how many characters more there is room for
pub record IsRead (room : ℕ) (bytes rest : List ℕ) : Type 0 where
  pub text : List ℕ
  pub are_scalars : all_scalars text ≡ true
  pub many : length text + room ≡ MOST_CODE_POINTS
  pub parts : bytes ≡ opened (encode_utf8_all text) ++ rest

-- At first nothing is read, and there is room for all characters.
pub read_none : (bytes : List ℕ) → IsRead MOST_CODE_POINTS bytes bytes
read_none bytes = record { text = []; are_scalars = refl; many = refl; parts = ap (λ x. x ++ bytes) (sym opened_nil) }

-- One more character takes one place of the room.
pub read_more : (room : ℕ) (bytes rest behind : List ℕ) (c : ℕ) → IsRead room bytes rest → 1 ≤ room → IsScalar c → rest ≡ opened (encode_utf8 c) ++ behind
    → IsRead (room - 1) bytes behind
read_more room bytes rest behind c r p h e =
    let last : encode_utf8_all (c ∷ []) ≡ encode_utf8 c = append-nil (encode_utf8 c) in
    let joined : opened (encode_utf8_all (r.text ++ c ∷ [])) ≡ opened (encode_utf8_all r.text) ++ opened (encode_utf8 c) =
    ap opened (encodes_append r.text (c ∷ [])) ∙ opened_append (encode_utf8_all r.text) (encode_utf8_all (c ∷ []))
    ∙ ap (λ x. opened (encode_utf8_all r.text) ++ opened x) last in
    record {
      text = r.text ++ c ∷ [];
      are_scalars = and_true r.text (c ∷ []) r.are_scalars (rw h refl);
      many = omega (arith, r.many, length-append r.text (c ∷ []));
      parts = r.parts ∙ ap (λ x. opened (encode_utf8_all r.text) ++ x) e ∙ sym (append_assoc (opened (encode_utf8_all r.text)) (opened (encode_utf8 c)) behind)
          ∙ ap (λ x. x ++ behind) (sym joined);
    }

-- At the end the text in front of it is read.
pub read_end : (room : ℕ) (bytes rest end : List ℕ) → IsRead room bytes rest → rest ≡ 0 ∷ 0 ∷ end
    → BeginsWithText bytes (take (length bytes - length end - 2) bytes) end
read_end room bytes rest end r e =
    let o : List ℕ = opened (encode_utf8_all r.text) in
    let parts : bytes ≡ opened (encode_utf8_all r.text) ++ 0 ∷ 0 ∷ end = r.parts ∙ ap (λ x. opened (encode_utf8_all r.text) ++ x) e in
    let len : length bytes - length end - 2 ≡ length (opened (encode_utf8_all r.text)) =
    omega (arith, ap length parts, length-append (opened (encode_utf8_all r.text)) (0 ∷ 0 ∷ end)) in
    let body : take (length bytes - length end - 2) bytes ≡ opened (encode_utf8_all r.text) =
    (λ i. take (len i) (parts i)) ∙ take-append_seam (opened (encode_utf8_all r.text)) (0 ∷ 0 ∷ end) in
    let utf8 : IsUtf8 (encode_utf8_all r.text) = (r.text, (r.are_scalars, refl)) in
    record {
      text = encode_utf8_all r.text;
      narrow = (utf8, omega (arith, r.many, ap length (chars-encodes r.text r.are_scalars)));
      body_is = body;
      parts = parts ∙ ap (λ x. x ++ 0 ∷ 0 ∷ end) (sym body);
    }

-- the atom that an escaped text makes
pub begins_atom : (bytes body rest text : List ℕ) (t : Tree) → BeginsWithText bytes body rest → opened text ≡ body → t ≡ Atom text
    → BeginsWithTerm 1 (0x30 ∷ bytes) t rest
begins_atom bytes body rest text t w o e =
    let same : text ≡ w.text = same_opened text w.text (o ∙ w.body_is) in
    let inner : bytes ≡ escaped w.text ++ rest =
    w.parts ∙ ap (λ x. x ++ 0 ∷ 0 ∷ rest) w.body_is ∙ sym (append_assoc (opened w.text) (0 ∷ 0 ∷ []) rest)
    ∙ ap (λ x. x ++ rest) (sym (escaped_ends w.text)) in
    begins_as 1 (0x30 ∷ bytes) rest t (Atom w.text) (e ∙ ap Atom same) (ap (λ (x : List ℕ). 0x30 ∷ x) inner ∙ ap (λ x. x ++ rest)
    (sym (at_atom (Atom w.text) w.text refl)))
    (omega arith) (record { shallow = omega arith; narrow = w.narrow })

-- A run of so few bytes that is a text has no more characters.
pub run_is_text : (bytes run text rest : List ℕ) → HasNoZero run × BeginsWithBytes bytes run rest
    → (text ≡ run) × IsUtf8 run
    → length run ≤ MOST_CODE_POINTS → HasNoZero text × BeginsWithText bytes text rest
run_is_text bytes run text rest b w l =
    let e = w.0 in
    let u : IsUtf8 text = subst IsUtf8 (sym e) w.1 in
    let few : length (chars text) ≤ MOST_CODE_POINTS =
    omega (arith, length-le-encodes (chars text), ap length (encodes-chars text u), ap length e, l) in
    let plain : HasNoZero text = subst HasNoZero (sym e) b.0 in (
      plain,
      record {
        text = text;
        narrow = (u, few);
        body_is = sym (opened_no_zero text plain);
        parts = b.1.parts ∙ ap (λ (x : List ℕ). x ++ 0 ∷ 0 ∷ rest) (sym e);
      },
    )

-- A text that is read makes an atom within the bounds.
pub text_narrow : (bytes body rest text : List ℕ) → BeginsWithText bytes body rest → opened text ≡ body → IsNarrow (Atom text)
text_narrow bytes body rest text w o = subst (λ (x : List ℕ). IsNarrow (Atom x)) (sym (same_opened text w.text (o ∙ w.body_is))) w.narrow

-- ---- one step of a text

-- 00 FF is the character 0.
pub nul_step : (bytes behind rest : List ℕ) → bytes ≡ 0 ∷ behind → behind ≡ 0xff ∷ rest → (c : ℕ) × IsScalar c × (bytes ≡ opened (encode_utf8 c) ++ rest)
nul_step bytes behind rest e f = (0, refl, e ∙ ap (λ (x : List ℕ). 0 ∷ x) f ∙ ap (λ x. x ++ rest) (sym opened_nul))

-- A character that is not 0 stands in a text as it is.
pub char_step : (bytes : List ℕ) (b : ℕ) (more rest : List ℕ) (c : ℕ) → bytes ≡ b ∷ more → (b ≡ 0 → ⊥) → IsScalar c → bytes ≡ encode_utf8 c ++ rest
    → bytes ≡ opened (encode_utf8 c) ++ rest
char_step bytes b more rest zero e n h f =
    let g : b ∷ more ≡ 0 ∷ rest = sym e ∙ f ∙ ap (λ x. x ++ rest) encode_zero in absurd (n (same_head b 0 more rest g))
char_step bytes b more rest (suc c) e n h f = f ∙ ap (λ x. x ++ rest) (sym (opened_char (suc c) h (omega arith)))
