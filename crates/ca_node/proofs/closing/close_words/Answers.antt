use Rattle.std.proofs.Common.{◌≡◌, refl, ap, subst, map, List, [], ◌∷◌, Option, Some, None, IsSome, false, true}
use Rattle.std.specs.Option.{ForSome}
use Rattle.std.specs.Mem.Slots.{slots_items}
use Rattle.ca_node.specs.LastTree.{IsLastTree}
use Rattle.ca_node.specs.TreeView.{TreeView}
use Rattle.ca_node.proofs.LastTrees.{last_tree}
use Rattle.ca_rows.specs.declared.rest.Rest.{Rest}
use Rattle.ca_rows.specs.declared.view.View.{View}
use Rattle.ca_rows.specs.Owned.{IsOwnSeat}
use Rattle.ca_rows.specs.Rule.{upper_of}
use Rattle.ca_node.proofs.closing.close_words.Goals as goal

twice : {A B C : Type 0} (g : B → C) (f : A → B) (xs : List A)
    → map g (map f xs) ≡ map (λ x. g (f x)) xs
twice g f [] = refl
twice g f (x ∷ xs) = ap (λ ys. g (f x) ∷ ys) (twice g f xs)

pub returns : goal.returns
returns c = record { last = by c.args.space.own refl c.args.space.has c.args.space.mine }
  where
    by : (own : Option (Rest (Unit {0}) (View TreeView))) → c.args.space.own ≡ own → IsSome own
        → ForSome own
        (λ rest. IsOwnSeat c.args.space.table.shared.table_id c.args.space.sizes
        c.args.space.made rest.seat)
        → IsLastTree c.args.space.table.shared.key c.args.space.made (map
        (λ pass. pass.seat.me.0.upper) c.args.passes.items)
        (slots_items c.close.result.closed.words)
    by None e has mine = let no : false ≡ true = has in cc
    by (Some rest) e has mine = subst
        (λ (us : List TreeView).
        IsLastTree c.args.space.table.shared.key c.args.space.made us
        (slots_items c.close.result.closed.words))
        (twice upper_of (λ pass. pass.seat.me.0) c.args.passes.items)
        (last_tree c.args.space.table.shared.key c.args.space.made rest.seat.me.0 (map
        (λ pass. pass.seat.me.0) c.args.passes.items)
        (slots_items c.close.result.closed.words) (mine rest refl).4 (c.close.ensures.words rest e))
