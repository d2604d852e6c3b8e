use Rattle.std.proofs.Common.{ℕ, ◌≡◌, ◌%◌, List, [], get_or, take, drop, sym, ap, ◌∙◌, subst}
use Rattle.std.specs.Cmp.{ranked}
use Rattle.std.specs.Ordering.{nat_cmp}
use Rattle.std.specs.declared.cmp.Ordering.TheVariants.{Equal}
use Rattle.ca_node.specs.Row.{front_of, key, prefix_length}
use Rattle.ca_node.specs.Told.{MyTree}
use Rattle.ca_rows.specs.Layout.{row_limit}
use Rattle.ca_base.specs.Finding.{IsObjectShown}
use Rattle.ca_base.proofs.Behind.{alike_behind, small_behind}
use Rattle.ca_base.proofs.Heads.{fronts_decide, key_small}
use Rattle.ca_base.proofs.Items.{at_place}
use Rattle.ca_base.proofs.place.ObjectsLineTreePass.compare.Goals as goal

pub returns-then-head-self-clause-answer : goal.returns-then-head-self-clause-answer
returns-then-head-self-clause-answer c note r l =
    let its : List ℕ = get_or note.objects c.args.place [] in
    let wanted : List ℕ = c.args.self.now.key.now in let n : ℕ = prefix_length note.its in
    let own : List ℕ = drop n (key its) in let rest : List ℕ = drop n wanted in
    let here = c.item_word-word.ensures.head note r l in
    let there = c.requires.head_is note r in
    let alike : take n (key its) ≡ take n wanted =
    r.is_base.headed.begin c.args.place its (at_place note.objects c.args.place [] l)
    ∙ sym (c.requires.begins note r) in
    c.cmp.ensures ∙ (ap (λ (k : ℕ). nat_cmp k c.args.self.now.head) here
    ∙ (ap (nat_cmp (front_of 5 own)) there
    ∙ (fronts_decide 5 own rest (small_behind 5 n (key its) (λ i. key_small i its))
    (small_behind 5 n wanted c.requires.small)
    (λ e. c.if-head-self.true (here ∙ (ranked (front_of 5 own) (front_of 5 rest) Equal (sym e) ∙ sym there)))
    ∙ sym (alike_behind n (key its) wanted alike))))

pub returns-clause-answer : goal.returns-clause-answer
returns-clause-answer c note r l = let object = (c.item_word-word.ensures.item note r l).1 in
    c.compare_by.ensures.order (get_or note.objects c.args.place [])
    (subst (λ (m : MyTree).
    IsObjectShown m.0.upper (c.item_word-word.result % row_limit) (get_or note.objects c.args.place []))
    (sym c.item_word-word.ensures.frame.still) object)
