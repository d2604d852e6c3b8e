-- The objects of a base that a pass was shown, in a line, and a key that is looked for among them.
use Rattle.std.specs.Prelude.{◌≡◌, ℕ, ◌<◌, ◌≤◌, true, List, [], length, take, drop, slice_index, slice_index_or}
use Rattle.std.proofs.Common.{refl, subst, sym, ap, ◌∙◌}
use Rattle.std.specs.declared.cmp.Ordering.{Ordering}
use Rattle.ca_model.specs.StoreMap.{bytes_cmp}
use Rattle.ca_node.specs.Row.{front_of, pair, prefix, prefix_length}
use Rattle.ca_node.specs.Told.{MyTree}
use Rattle.ca_node.specs.TreePasses.{tree_of}
use Rattle.ca_node.specs.TreeView.{Note, TreeView}
use Rattle.ca_base.specs.Finding.{IsReadable, IsObjectShown, HasPlace}
use Rattle.ca_base.specs.Writing.{HasBytes}
use Rattle.ca_rows.specs.declared.sizes.Sizes.{Sizes}
use Rattle.ca_rows.specs.declared.space.Pass.{Pass}
use Rattle.ca_rows.specs.declared.space.Space.{Space}
use Rattle.ca_rows.specs.Passes.{IsReading, OnlyReads, sizes}

-- The key of the object at this place stands like this to the key that is looked for.
abbrev pub IsOrderAt : Sizes → TreeView → ℕ → List ℕ → ℕ → Ordering → Type 0
IsOrderAt z u base key place order = (note : Note) → IsReadable z u base note → place < length note.objects
    → order ≡ bytes_cmp (pair (slice_index_or note.objects place [])).0 key

module _ {R : Type 0} where
  -- The pass is pinned, and was shown the object row.
  pub record IsObjectRead (space : Space R TreeView) (pass : Pass R TreeView) (row : ℕ) : Type 0 where
    pub reading : IsReading space pass
    pub inside : row ≤ (sizes space).rows
    pub shown : (its : List ℕ) × IsObjectShown (tree_of pass) row its

  -- The pass is pinned, and was shown the base, which has an object at this place; the key that is looked for begins with the base's prefix, this is its
  -- head behind it, and this word has its first bytes.
  pub record IsComparable (space : Space R TreeView) (pass : Pass R TreeView) (base : ℕ) (key : List ℕ) (head front place : ℕ) : Type 0 where
    pub reading : IsReading space pass
    pub there : HasPlace (sizes space) (tree_of pass) base place
    pub begins : (note : Note) → IsReadable (sizes space) (tree_of pass) base note → take (prefix_length note.its) key ≡ prefix note.its
    pub head_is : (note : Note) → IsReadable (sizes space) (tree_of pass) base note → head ≡ front_of 5 (drop (prefix_length note.its) key)
    pub front_is : HasBytes key front
    pub small : (i : ℕ) → slice_index key i < 256

  -- Reading nothing is only reading, and so is only reading twice.
  pub reads_none : (a : Pass R TreeView) → OnlyReads a a
  reads_none a = record { same = (refl, refl); number = refl; tally = refl; kept = refl; still = refl }

  pub reads_on : (a b c : Pass R TreeView) → OnlyReads a b → OnlyReads b c → OnlyReads a c
  reads_on a b c one two = record {
    same = (two.same.0 ∙ one.same.0, two.same.1 ∙ one.same.1);
    number = two.number ∙ one.number;
    tally = two.tally ∙ one.tally;
    kept = two.kept ∙ one.kept;
    still = two.still ∙ one.still;
  }

  -- What a pass knows of the objects stays as it only reads.
  pub stood : (z : Sizes) (base : ℕ) (key : List ℕ) (a b : Pass R TreeView) → OnlyReads a b → (place : ℕ) (order : Ordering)
      → IsOrderAt z (tree_of b) base key place order → IsOrderAt z (tree_of a) base key place order
  stood z base key a b on place order = subst (λ (m : MyTree). IsOrderAt z m.0.upper base key place order) on.still

  pub comparable_on : (space : Space R TreeView) (base : ℕ) (key : List ℕ) (head front : ℕ) (a b : Pass R TreeView) → OnlyReads a b → (place : ℕ)
      → IsComparable space a base key head front place → IsComparable space b base key head front place
  comparable_on space base key head front a b on place known = let still = sym on.still in record {
    reading = record {
      own = (on.same.0 ∙ known.reading.own.0, ap (λ (m : MyTree). m.0.sizes) on.still ∙ known.reading.own.1);
      pinned = subst (λ (m : MyTree). m.0.pin.pinned ≡ true) still known.reading.pinned;
    };
    there = subst (λ (m : MyTree). HasPlace (sizes space) m.0.upper base place) still known.there;
    begins = λ note r. known.begins note (subst (λ (m : MyTree). IsReadable (sizes space) m.0.upper base note) on.still r);
    head_is = λ note r. known.head_is note (subst (λ (m : MyTree). IsReadable (sizes space) m.0.upper base note) on.still r);
    front_is = known.front_is;
    small = known.small;
  }
