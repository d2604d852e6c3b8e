-- Clients that play one after the other: a further client's commands come behind all turns so far.
use Rattle.std.proofs.Common.{◌≡◌, ℕ, suc, List, [], ◌∷◌, ◌++◌, length, map, arith, refl, sym, ◌∙◌, ap, subst}
use Rattle.std.proofs.lemmas.List.{length-map, map-append}
use Rattle.ca_term.specs.Tree.{Tree}
use Rattle.ca_ets.specs.Command.{Command, Response, Answer, Continuation, Never}
use Rattle.ca_ets.specs.Merge.{items_of, IsMerge, run_of}
use Rattle.ca_ets.specs.InOrder.{RunInOrder, run_in_order}
use Rattle.ca_ets.specs.Explained.{Explained, AreAnswered, all_commands_of_replies, commands_of_replies, replies_of}
use Rattle.ca_ets.proofs.Merges.{turns_of, nothing_there, merge_more}
use Rattle.ca_ets.proofs.Runs.{left_by, run-append, untouched, run_turns}

answered_more : (files : List (List Command)) (answers : List (List Answer)) (cs : List Command) (own : List Answer) → AreAnswered files answers
    → length cs ≡ length own → AreAnswered (files ++ cs ∷ []) (answers ++ own ∷ [])
answered_more [] [] cs own a e = (e, tt)
answered_more [] (first ∷ answers) cs own a e = absurd a
answered_more (f ∷ files) [] cs own a e = absurd a
answered_more (f ∷ files) (first ∷ answers) cs own a e = (a.0, answered_more files answers cs own a.1 e)

replied_more : (files : List (List Command)) (answers : List (List Answer)) (cs : List Command) (own : List Answer) → AreAnswered files answers
    → all_commands_of_replies (files ++ cs ∷ []) (answers ++ own ∷ []) ≡ all_commands_of_replies files answers ++ commands_of_replies cs own ∷ []
replied_more [] [] cs own a = refl
replied_more [] (first ∷ answers) cs own a = absurd a
replied_more (f ∷ files) [] cs own a = absurd a
replied_more (f ∷ files) (first ∷ answers) cs own a = ap (λ x. commands_of_replies f first ∷ x) (replied_more files answers cs own a.1)

length_replied : (files : List (List Command)) (answers : List (List Answer)) → AreAnswered files answers
    → (length (all_commands_of_replies files answers) ≡ length files) × (length answers ≡ length files)
length_replied [] [] a = (refl, refl)
length_replied [] (first ∷ answers) a = absurd a
length_replied (f ∷ files) [] a = absurd a
length_replied (f ∷ files) (first ∷ answers) a = let r = length_replied files answers a.1 in (omega (arith, r.0), omega (arith, r.1))

-- A client whose commands are run in order on the table that all others left is explained with them.
pub explained_more : (p : ℕ) (files : List (List Command)) (answers : List (List Answer)) (t u : List Tree) (cs : List Command) (own : List Answer) →
    Explained p files answers t → length cs ≡ length own →
    (run_in_order p t Never (commands_of_replies cs own)).replies ≡ replies_of own → (run_in_order p t Never (commands_of_replies cs own)).table ≡ u →
    Explained p (files ++ cs ∷ []) (answers ++ own ∷ []) u
explained_more p files answers t u cs own (merge, e) same r s =
    let n = suc (length files) in
    let own_cs = commands_of_replies cs own in
    let lists = all_commands_of_replies files answers in
    let lengths = length_replied files answers e.answered in
    let silent : items_of n merge ≡ [] = e.merges n ∙ (rw (← lengths.0) (nothing_there lists)) in
    let begins : left_by p [] (λ _. Never) merge n ≡ Never = untouched p n [] (λ _. Never) merge silent in
    let split = run-append p [] (λ _. Never) merge (turns_of n own_cs) in
    let play = run_turns p n (run_of p merge).table (left_by p [] (λ _. Never) merge) own_cs in
    let plays : run_in_order p (run_of p merge).table (left_by p [] (λ _. Never) merge n) own_cs ≡ run_in_order p t Never own_cs =
    ap (λ (x : List Tree). run_in_order p x (left_by p [] (λ _. Never) merge n) own_cs) e.table_is
    ∙ ap (λ (k : Continuation). run_in_order p t k own_cs) begins in (
      merge ++ turns_of n own_cs,
      record {
        answered = answered_more files answers cs own e.answered same;
        merges = subst (λ (x : List (List Command)). IsMerge x (merge ++ turns_of n own_cs)) (sym (replied_more files answers cs own e.answered))
            (subst (λ (k : ℕ). IsMerge (lists ++ own_cs ∷ []) (merge ++ turns_of (suc k) own_cs)) lengths.0 (merge_more lists merge own_cs e.merges));
        replies =
            subst (λ (x : List (ℕ × Response)). IsMerge (map replies_of (answers ++ own ∷ [])) x)
            (sym (split.1 ∙ ap (λ x. (run_of p merge).replies ++ x) (play.1 ∙ ap (turns_of n) (ap (λ (x : RunInOrder). x.replies) plays ∙ r))))
            (more_replies (run_of p merge).replies e.replies lengths.1);
        table_is = split.0 ∙ play.0 ∙ ap (λ (x : RunInOrder). x.table) plays ∙ s;
      },
    )
  where
    more_replies : (replies : List (ℕ × Response)) → IsMerge (map replies_of answers) replies → length answers ≡ length files →
        IsMerge (map replies_of (answers ++ own ∷ [])) (replies ++ turns_of (suc (length files)) (replies_of own))
    more_replies replies h l =
        subst (λ (lists : List (List Response)). IsMerge lists (replies ++ turns_of (suc (length files)) (replies_of own)))
        (sym (map-append replies_of answers (own ∷ [])))
        (subst (λ (k : ℕ). IsMerge (map replies_of answers ++ replies_of own ∷ []) (replies ++ turns_of (suc k) (replies_of own)))
        (length-map answers replies_of ∙ l)
        (merge_more (map replies_of answers) replies (replies_of own) h))
