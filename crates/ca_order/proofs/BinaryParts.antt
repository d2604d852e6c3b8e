-- Where escaped bytes are stuck.
use Rattle.std.proofs.Common.{◌≡◌, ℕ, zero, suc, ◌≤◌, ◌-◌, List, [], ◌∷◌, ◌++◌, length, take, arith, refl, sym, ◌∙◌, ap, subst, append_assoc, append-nil, length-append}
use Rattle.ca_order.proofs.Turned.{bytes_append, bytes_front}
use Rattle.std.proofs.Math.Seq.{take-append_seam}
use Rattle.ca_term.specs.Tree.{AreBytes}
use Rattle.ca_term.specs.Code.{escaped}
use Rattle.ca_term.proofs.DigitBytes.{head_byte, tail_bytes, cons_bytes, no_bytes}
use Rattle.ca_term.proofs.Escapes.{escaped_zero, escaped_suc, escaped_nil}
use Rattle.ca_order.specs.Zeros.{HasNoZero, opened}
use Rattle.ca_order.specs.Stuck.{IsStuck, IsRest}
use Rattle.ca_order.specs.Languages.{HasBytes}
use Rattle.ca_order.specs.Reads.{BeginsWithBytes, BeginsWithTerm, IsStuckFault}
use Rattle.ca_term.specs.Tree.{Tree, Binary}
use Rattle.ca_order.proofs.Parts.{at_binary, begins_as}
use Rattle.ca_order.proofs.Opened.{escaped_append, escaped_ends, opened_append, opened_no_zero, opened_zero, opened_nil, same_opened, escaped_after, same_head, same_second}
use Rattle.ca_order.specs.declared.fault.ReadFault.{ReadFault}
use Rattle.ca_term.proofs.Escapes.{same_escaped}
use Rattle.ca_order.proofs.Starts.{stuck_at_end, stuck_behind, IsPrefixFree}
use Rattle.ca_order.proofs.Faults.{no_fault}

-- The back of bytes are bytes.
pub bytes_back : (xs ys : List ℕ) → AreBytes (xs ++ ys) → AreBytes ys
bytes_back [] ys h = h
bytes_back (x ∷ xs) ys h = bytes_back xs ys (tail_bytes x (xs ++ ys) h)

into_by : (xs zs x : List ℕ) → opened xs ++ x ≡ escaped zs → AreBytes zs → HasBytes x
into_by xs zs x e h = let r = escaped_after xs zs x e in record { inside = r.0; are_bytes = bytes_back xs r.0 (subst AreBytes r.1 h); code_is = r.2 }

-- Behind a part of escaped bytes stand escaped bytes.
pub bytes_rest : (xs : List ℕ) → AreBytes xs → IsRest HasBytes (opened xs) HasBytes
bytes_rest xs h = record {
  into = λ x w. into_by xs w.inside x w.code_is w.are_bytes;
  back = λ x w. record {
    inside = xs ++ w.inside;
    are_bytes = bytes_append xs w.inside h w.are_bytes;
    code_is = ap (λ y. opened xs ++ y) w.code_is ∙ sym (escaped_append xs w.inside);
  };
}

-- stuck at the end of a run without zeros
pub stuck_in_run : (run : List ℕ) → HasNoZero run → AreBytes run → IsStuck HasBytes run []
stuck_in_run run h k =
    stuck_at_end HasBytes run 0 (0 ∷ []) (record {
      inside = run;
      are_bytes = k;
      code_is = sym (escaped_ends run ∙ ap (λ y. y ++ 0 ∷ 0 ∷ []) (opened_no_zero run h));
    })

-- stuck behind a zero byte: neither 00 nor FF follows
pub stuck_at_zero : (behind : List ℕ) → ((b : ℕ) (more : List ℕ) → behind ≡ b ∷ more → (b ≡ 0 → ⊥) × (b ≡ 0xff → ⊥)) → IsStuck HasBytes (0 ∷ behind) behind
stuck_at_zero behind h = record {
  done = 0 ∷ [];
  parts = refl;
  next = 0;
  rest = [];
  begins = record { inside = []; are_bytes = no_bytes; code_is = sym escaped_nil };
  no_longer = λ b more rest e w. no_word b rest w.inside (h b more e).0 (h b more e).1 w.code_is;
}
  where
    no_word : (b : ℕ) (rest zs : List ℕ) → (b ≡ 0 → ⊥) → (b ≡ 0xff → ⊥) → 0 ∷ b ∷ rest ≡ escaped zs → ⊥
    no_word b rest [] h k e = let f : 0 ∷ b ∷ rest ≡ 0 ∷ 0 ∷ [] = e ∙ escaped_nil in h (same_second 0 0 b 0 rest [] f)
    no_word b rest (zero ∷ zs) h k e = let f : 0 ∷ b ∷ rest ≡ 0 ∷ 0xff ∷ escaped zs = e ∙ escaped_zero zs in k (same_second 0 0 b 0xff rest (escaped zs) f)
    no_word b rest (suc c ∷ zs) h k e =
        let f : 0 ∷ b ∷ rest ≡ suc c ∷ escaped zs = e ∙ escaped_suc c zs in let g : 0 ≡ suc c = same_head 0 (suc c) (b ∷ rest) (escaped zs) f in
        absurd (omega arith)

-- how far escaped bytes were read
pub record IsOpened (bytes rest : List ℕ) : Type 0 where
  pub inside : List ℕ
  pub are_bytes : AreBytes inside
  pub parts : bytes ≡ opened inside ++ rest

-- At first nothing is read.
pub opened_none : (bytes : List ℕ) → IsOpened bytes bytes
opened_none bytes = record { inside = []; are_bytes = no_bytes; parts = ap (λ x. x ++ bytes) (sym opened_nil) }

-- one run and one zero more
pub opened_more : (bytes rest run behind more : List ℕ) → IsOpened bytes rest → AreBytes bytes → HasNoZero run → rest ≡ run ++ 0 ∷ behind → behind ≡ 0xff ∷ more
    → IsOpened bytes more
opened_more bytes rest run behind more o h n e f =
    let all : AreBytes (opened o.inside ++ rest) = subst AreBytes o.parts h in
    let here : AreBytes (run ++ 0 ∷ behind) = subst AreBytes e (bytes_back (opened o.inside) rest all) in
    let zero_more : opened (run ++ 0 ∷ []) ++ more ≡ run ++ 0 ∷ 0xff ∷ more =
    rw (opened_append run (0 ∷ []), opened_no_zero run n, opened_zero [], opened_nil) (append_assoc run (0 ∷ 0xff ∷ []) more) in
    record {
      inside = o.inside ++ (run ++ 0 ∷ []);
      are_bytes = bytes_append o.inside (run ++ 0 ∷ []) o.are_bytes
          (bytes_append run (0 ∷ []) (bytes_front run (0 ∷ behind) here) (cons_bytes 0 [] (omega arith) no_bytes));
      parts = o.parts ∙ ap (λ x. opened o.inside ++ x) (e ∙ ap (λ x. run ++ 0 ∷ x) f ∙ sym zero_more)
          ∙ sym (append_assoc (opened o.inside) (opened (run ++ 0 ∷ [])) more) ∙ ap (λ x. x ++ more) (sym (opened_append o.inside (run ++ 0 ∷ [])));
    }

module _ (bytes rest run behind : List ℕ) (o : IsOpened bytes rest) (h : AreBytes bytes) (n : HasNoZero run) (e : rest ≡ run ++ 0 ∷ behind) where
  -- one run more
  run_more : opened (o.inside ++ run) ≡ opened o.inside ++ run
  run_more = opened_append o.inside run ∙ ap (λ x. opened o.inside ++ x) (opened_no_zero run n)

  run_parts : bytes ≡ opened (o.inside ++ run) ++ 0 ∷ behind
  run_parts = o.parts ∙ ap (λ x. opened o.inside ++ x) e ∙ sym (append_assoc (opened o.inside) run (0 ∷ behind)) ∙ ap (λ x. x ++ 0 ∷ behind) (sym run_more)

  run_bytes : AreBytes (o.inside ++ run)
  run_bytes =
      let here : AreBytes (run ++ 0 ∷ behind) = subst AreBytes e (bytes_back (opened o.inside) rest (subst AreBytes o.parts h)) in
      bytes_append o.inside run o.are_bytes (bytes_front run (0 ∷ behind) here)

  -- At 00 00 the bytes in front of it are read.
  pub opened_end : (end : List ℕ) → behind ≡ 0 ∷ end → BeginsWithBytes bytes (take (length bytes - length end - 2) bytes) end
  opened_end end f =
      let parts : bytes ≡ opened (o.inside ++ run) ++ 0 ∷ 0 ∷ end = run_parts ∙ ap (λ x. opened (o.inside ++ run) ++ 0 ∷ x) f in
      let len : length bytes - length end - 2 ≡ length (opened (o.inside ++ run)) =
      omega (arith, ap length parts, length-append (opened (o.inside ++ run)) (0 ∷ 0 ∷ end)) in
      let body : take (length bytes - length end - 2) bytes ≡ opened (o.inside ++ run) =
      (λ i. take (len i) (parts i)) ∙ take-append_seam (opened (o.inside ++ run)) (0 ∷ 0 ∷ end) in
      record { inside = o.inside ++ run; are_bytes = run_bytes; body_is = body; parts = parts ∙ ap (λ x. x ++ 0 ∷ 0 ∷ end) (sym body) }

  -- Behind a zero byte, escaped bytes are stuck where neither 00 nor FF follows.
  pub opened_stuck : ((b : ℕ) (more : List ℕ) → behind ≡ b ∷ more → (b ≡ 0 → ⊥) × (b ≡ 0xff → ⊥)) → IsStuck HasBytes bytes behind
  opened_stuck f =
      subst (λ (x : List ℕ). IsStuck HasBytes x behind) (sym run_parts)
      (stuck_behind HasBytes HasBytes (opened (o.inside ++ run)) (0 ∷ behind) behind (bytes_rest (o.inside ++ run) run_bytes) (stuck_at_zero behind f))

-- Bytes without a further zero byte are stuck at their end.
pub opened_short : (bytes rest : List ℕ) → IsOpened bytes rest → AreBytes bytes → HasNoZero rest → IsStuck HasBytes bytes []
opened_short bytes rest o h n =
    let here : AreBytes rest = bytes_back (opened o.inside) rest (subst AreBytes o.parts h) in
    subst (λ (x : List ℕ). IsStuck HasBytes x []) (sym o.parts)
    (stuck_behind HasBytes HasBytes (opened o.inside) rest [] (bytes_rest o.inside o.are_bytes) (stuck_in_run rest n here))

-- A run without zero bytes, and its end.
pub run_begins : (bytes run behind rest : List ℕ) → AreBytes bytes → HasNoZero run
    → bytes ≡ run ++ 0 ∷ behind → behind ≡ 0 ∷ rest → BeginsWithBytes bytes run rest
run_begins bytes run behind rest h n e f = record {
  inside = run;
  are_bytes = bytes_front run (0 ∷ behind) (subst AreBytes e h);
  body_is = sym (opened_no_zero run n);
  parts = e ∙ ap (λ (x : List ℕ). run ++ 0 ∷ x) f;
}

-- the binary that escaped bytes make
pub begins_binary : (bytes body rest inside : List ℕ) (t : Tree) → BeginsWithBytes bytes body rest → opened inside ≡ body → t ≡ Binary inside
    → BeginsWithTerm 1 (0x80 ∷ bytes) t rest
begins_binary bytes body rest inside t w o e =
    let same : inside ≡ w.inside = same_opened inside w.inside (o ∙ w.body_is) in
    let inner : bytes ≡ escaped w.inside ++ rest =
    w.parts ∙ ap (λ x. x ++ 0 ∷ 0 ∷ rest) w.body_is ∙ sym (append_assoc (opened w.inside) (0 ∷ 0 ∷ []) rest)
    ∙ ap (λ x. x ++ rest) (sym (escaped_ends w.inside)) in
    begins_as 1 (0x80 ∷ bytes) rest t (Binary w.inside) (e ∙ ap Binary same) (ap (λ (x : List ℕ). 0x80 ∷ x) inner ∙ ap (λ x. x ++ rest)
    (sym (at_binary (Binary w.inside) w.inside refl)))
    (omega arith) (record { shallow = omega arith; narrow = w.are_bytes })

-- Bytes without an escape make the binary of themselves.
pub begins_plain_binary : (bytes body rest : List ℕ) (t : Tree) → BeginsWithBytes bytes body rest → HasNoZero body → t ≡ Binary body
    → BeginsWithTerm 1 (0x80 ∷ bytes) t rest
begins_plain_binary bytes body rest t w h e = begins_binary bytes body rest body t w (opened_no_zero body h) e

-- What is read are the escapes of some bytes.
pub is_opened : (bytes body rest : List ℕ) → BeginsWithBytes bytes body rest → (inside : List ℕ) × (body ≡ opened inside)
is_opened bytes body rest w = (w.inside, w.body_is)

-- ---- escaped bytes that are known to stand there

bytes_inside : (bs end : List ℕ) → AreBytes (escaped bs ++ end) → AreBytes bs
bytes_inside [] end h = no_bytes
bytes_inside (zero ∷ bs) end h =
    let k : AreBytes (0 ∷ 0xff ∷ escaped bs ++ end) = subst AreBytes (ap (λ x. x ++ end) (escaped_zero bs)) h in
    cons_bytes 0 bs (omega arith) (bytes_inside bs end (tail_bytes 0xff (escaped bs ++ end) (tail_bytes 0 (0xff ∷ escaped bs ++ end) k)))
bytes_inside (suc b ∷ bs) end h =
    let k : AreBytes (suc b ∷ escaped bs ++ end) = subst AreBytes (ap (λ x. x ++ end) (escaped_suc b bs)) h in
    cons_bytes (suc b) bs (head_byte (suc b) (escaped bs ++ end) k) (bytes_inside bs end (tail_bytes (suc b) (escaped bs ++ end) k))

bytes_prefix_free : IsPrefixFree HasBytes
bytes_prefix_free u rest h k =
    let e : escaped h.inside ++ rest ≡ escaped k.inside ++ [] = ap (λ x. x ++ rest) (sym h.code_is) ∙ k.code_is ∙ sym (append-nil (escaped k.inside)) in
    (same_escaped h.inside k.inside rest [] e).1

-- Where escaped bytes stand, no fault is told.
pub no_escaped_fault : (bytes inside end : List ℕ) (e : ReadFault) → AreBytes bytes → bytes ≡ escaped inside ++ end → IsStuckFault HasBytes bytes e → ⊥
no_escaped_fault bytes inside end e h p f =
    no_fault HasBytes bytes (escaped inside) end e bytes_prefix_free
    (record { inside = inside; are_bytes = bytes_inside inside end (subst AreBytes p h); code_is = refl }) p f

-- Of escaped bytes there is one end.
pub same_end : (bytes body rest inside end : List ℕ) → BeginsWithBytes bytes body rest → bytes ≡ escaped inside ++ end → rest ≡ end
same_end bytes body rest inside end w p =
    let inner : bytes ≡ escaped w.inside ++ rest =
    w.parts ∙ ap (λ x. x ++ 0 ∷ 0 ∷ rest) w.body_is ∙ sym (append_assoc (opened w.inside) (0 ∷ 0 ∷ []) rest)
    ∙ ap (λ x. x ++ rest) (sym (escaped_ends w.inside)) in
    (same_escaped w.inside inside rest end (sym inner ∙ p)).1

-- Behind escaped bytes stand no more bytes than from them on.
pub rest_shorter : (bytes body rest : List ℕ) → BeginsWithBytes bytes body rest → length rest ≤ length bytes
rest_shorter bytes body rest w = omega (arith, ap length w.parts, length-append body (0 ∷ 0 ∷ rest))
