use Rattle.std.proofs.Common.{rules, ℕ, List, ◌≡◌, ◌*◌, ◌++◌, length, get_or, take, min, ap, sym, subst, ◌∙◌, arith, length-take}
use Rattle.std.specs.Int.{to_be_bytes, w64}
use Rattle.ca_node.specs.Row.{bytes_in, prefix_words}
use Rattle.ca_node.specs.Told.{MyTree}
use Rattle.ca_base.specs.Finding.{IsRowShown}
use Rattle.ca_base.proofs.Fronted.{shows, words_long, word_is}
use Rattle.ca_base.proofs.Items.{word_shown, as_shown}
use Rattle.ca_base.proofs.ObjectBytes.{one_more}
use Rattle.ca_base.proofs.prefixes.copy_prefix.Goals as goal

pub load_word-requires-clause-shown : goal.load_word-requires-clause-shown
load_word-requires-clause-shown c = let s = c.requires.shown in
    word_shown c.loop-i.pass.seat.me.0.upper _ _ (
      s.0.its,
      subst (λ (m : MyTree). IsRowShown m.0.upper c.args.base s.0.its) (sym c.loop-i.invariant.still)
          (shows _ _ _ s.0 s.1),
    )

pub append-requires : goal.append-requires
append-requires c = let s = c.requires.shown in let few = c.prefix_len-len.ensures.few in
    omega (
      arith,
      ap (λ (xs : List ℕ). length xs) (c.loop-i.invariant.copied s.0 s.1),
      length-take (min c.prefix_len-len.result (8 * c.loop-i.i)) (bytes_in (prefix_words s.0.its)),
      length-take c.min.result c.to_be_bytes-bytes.result,
      c.min.ensures,
    )

pub loop-i-preserved : goal.loop-i-preserved
loop-i-preserved c = let i : ℕ = c.loop-i.i in let len : ℕ = c.prefix_len-len.result in
    let more = c.loop-i-test.true in let inv = c.loop-i.invariant in
    let few = c.prefix_len-len.ensures.few in let d = c.div_ceil-i-end.ensures in
    record {
      own = search rules;
      same = search rules;
      number = search rules;
      tally = search rules;
      kept = search rules;
      still = search rules;
      copied = λ note r. let long = words_long note.its r.is_base.long in
          let s = subst (λ (m : MyTree). IsRowShown m.0.upper c.args.base note.its) (sym inv.still)
          (shows _ _ _ note r) in
          let word : c.load_word.result ≡ get_or (prefix_words note.its) i 0 =
          as_shown c.loop-i.pass.seat.me.0.upper _ _ _ c.load_word.ensures.word note.its s
          ∙ sym (word_is note.its i (omega arith)) in
          let bytes : c.to_be_bytes-bytes.result ≡ to_be_bytes w64 (get_or (prefix_words note.its) i 0) =
          c.to_be_bytes-bytes.ensures ∙ ap (to_be_bytes w64) word in
          c.append.ensures
          ∙ (ap (λ (xs : List ℕ). xs ++ take c.min.result c.to_be_bytes-bytes.result)
          (inv.copied note r)
          ∙ (ap (λ (xs : List ℕ).
          take (min len (8 * i)) (bytes_in (prefix_words note.its)) ++ take c.min.result xs) bytes
          ∙ one_more (prefix_words note.its) len i c.min.result (omega arith) (omega arith)
          c.min.ensures));
    }
