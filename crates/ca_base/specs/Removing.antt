-- Updates that take an object away: what becomes of a base, and which update an exchange carries out.
use Rattle.std.specs.Prelude.{ℕ, List, [], slice_index_or, Some, Ok}
use Rattle.std.specs.List.{remove}
use Rattle.ca_model.specs.Event.{Remove}
use Rattle.ca_model.specs.History.{Del}
use Rattle.ca_node.specs.Row.{items, key}
use Rattle.ca_node.specs.Told.{MyTree, Update}
use Rattle.ca_node.specs.TreeView.{Note}
use Rattle.ca_base.specs.declared.swapping.Deed.{Deed}
use Rattle.ca_base.specs.declared.swapping.Deed.TheVariants as deed
use Rattle.ca_base.specs.Putting.{gone, object_at, first_note, words_of, put_update_of}
use Rattle.ca_rows.specs.Claims.{claim_of}

-- the key of the object at a place
abbrev pub key_at : ℕ → List (List ℕ) → List ℕ
key_at at objects = key (slice_index_or objects at [])

-- the update of a base by a new base row with these words, which lacks the object at the place
abbrev pub take_update : Note → List ℕ → ℕ → Update
take_update note new at = record {
  old = note;
  its = new;
  objects = remove note.objects at;
  comes = [];
  goes = gone (Ok at) (items note.its);
  event = Remove (key_at at note.objects) (Some (object_at (Ok at) note.objects));
  edit = Del (key_at at note.objects);
}

-- the update by rows that the seat holds, of the base that it was shown last
abbrev pub update_of : MyTree → ℕ → Deed → Update
update_of m new (deed.Put why place row) = put_update_of m row new place why
update_of m new (deed.Remove at) = take_update (first_note m.0.upper.notes) (words_of (claim_of m.0.claims new)) at
