-- Lists of new passes, of clients and of what they leave, with one more at the end.
use Rattle.std.proofs.Common.{◌≡◌, ℕ, suc, ◌+◌, min, List, [], ◌∷◌, ◌++◌, length, map, subst, arith}
use Rattle.std.specs.Prelude.{sum_by}
use Rattle.std.proofs.lemmas.List.{map-append}
use Rattle.std.proofs.lemmas.List.Sums.{sum_by_push}
use Rattle.atomic_table.specs.Seated.{TableId}
use Rattle.ca_cmd.specs.declared.answers.Answers.{Answers}
use Rattle.ca_cmd.specs.declared.line.Line.{Line}
use Rattle.ca_node.specs.TreePasses.{tree_of}
use Rattle.ca_node.specs.TreeView.{Ended, TreeView}
use Rattle.ca_replace.specs.Past.{left_by}
use Rattle.ca_replace.specs.Resting.{StoreAndRun}
use Rattle.ca_rows.specs.declared.sizes.Sizes.{Sizes}
use Rattle.ca_rows.specs.declared.space.Pass.{Pass}
use Rattle.ca_client.specs.Ran.{splits_of, joins_of}
use Rattle.ca_client.specs.Sharing.{IsNew, AreNew, IsReady, AreReady, IsPart, AreParts}
use Rattle.ca_client.specs.declared.clients.Client.{Client}
use Rattle.ca_client.specs.declared.following.OnTree.{OnTree}

module _ {R : Type 0} (table : TableId) (z : Sizes) where
  pub new_more : (first number : ℕ) (passes : List (Pass R TreeView)) (pass : Pass R TreeView) → number ≡ first + length passes
      → AreNew table z first passes → IsNew table z number pass → AreNew table z first (passes ++ pass ∷ [])
  new_more first number [] pass e all new = (subst (λ (n : ℕ). IsNew table z n pass) (omega (arith, e)) new, tt)
  new_more first number (x ∷ passes) pass e all new = (all.0, new_more (suc first) number passes pass (omega (arith, e)) all.1 new)

module _ (table : TableId) (z : Sizes) where
  pub ready_more : (first number : ℕ) (files : List (List Line)) (clients : List (Client StoreAndRun OnTree)) (file : List Line) (client : Client StoreAndRun OnTree)
      → number ≡ first + length clients → AreReady table z first files clients → IsReady table z number file client
      → AreReady table z first (files ++ file ∷ []) (clients ++ client ∷ [])
  ready_more first number [] [] file client e all ready = (subst (λ (n : ℕ). IsReady table z n file client) (omega (arith, e)) ready, tt)
  ready_more first number [] (c ∷ clients) file client e all ready = absurd all
  ready_more first number (f ∷ files) [] file client e all ready = absurd all
  ready_more first number (f ∷ files) (c ∷ clients) file client e all ready =
      (all.0, ready_more (suc first) number files clients file client (omega (arith, e)) all.1 ready)

module _ {R : Type 0} where
  pub parts_more : (clients : List (Client StoreAndRun OnTree)) (all : List Answers) (passes : List (Pass R TreeView))
      (client : Client StoreAndRun OnTree) (answers : Answers) (pass : Pass R TreeView) → AreParts clients all passes → IsPart client answers pass
      → AreParts (clients ++ client ∷ []) (all ++ answers ∷ []) (passes ++ pass ∷ [])
  parts_more [] [] [] client answers pass parts part = (part, tt)
  parts_more [] [] (p ∷ passes) client answers pass parts part = absurd parts
  parts_more [] (a ∷ all) passes client answers pass parts part = absurd parts
  parts_more (c ∷ clients) [] passes client answers pass parts part = absurd parts
  parts_more (c ∷ clients) (a ∷ all) [] client answers pass parts part = absurd parts
  parts_more (c ∷ clients) (a ∷ all) (p ∷ passes) client answers pass parts part =
      (parts.0, parts_more clients all passes client answers pass parts.1 part)

-- One number more is added to a sum of which both are told up to a last number.
capped_more : {A : Type 0} (f : A → ℕ) (xs : List A) (x : A) (sum one most : ℕ) → sum ≡ min most (sum_by f xs) → one ≡ min most (f x)
    → min (sum + one) most ≡ min most (sum_by f (xs ++ x ∷ []))
capped_more f xs x sum one most e g = let more = sum_by_push f xs x in omega (arith, e, g, more)

module _ {R : Type 0} (passes : List (Pass R TreeView)) (pass : Pass R TreeView) (sum one : ℕ) where
  pub splits_more : sum ≡ splits_of (map left_by passes) → one ≡ min 18446744073709551615 (tree_of pass).splits
      → min (sum + one) 18446744073709551615 ≡ splits_of (map left_by (passes ++ pass ∷ []))
  splits_more e g = rw (map-append left_by passes (pass ∷ []))
      (capped_more (λ (x : Ended). x.splits) (map left_by passes) (left_by pass) sum one 18446744073709551615 e g)

  pub joins_more : sum ≡ joins_of (map left_by passes) → one ≡ min 18446744073709551615 (tree_of pass).joins
      → min (sum + one) 18446744073709551615 ≡ joins_of (map left_by (passes ++ pass ∷ []))
  joins_more e g = rw (map-append left_by passes (pass ∷ []))
      (capped_more (λ (x : Ended). x.joins) (map left_by passes) (left_by pass) sum one 18446744073709551615 e g)
