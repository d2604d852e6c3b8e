use Rattle.std.proofs.Common.{◌≡◌, ℕ, ◌<◌, ◌≤◌, List, ◌++◌, length, take, drop, set, get_or, refl, sym, ◌∙◌, ap, Result, Ok, Err}
use Rattle.std.specs.List.{slice_range}
use Rattle.ca_model.specs.StoreMap.{Pair}
use Rattle.ca_model.specs.Slab.{PairList, placed, with_moved}
use Rattle.ca_model.proofs.Slots.{IsSlot, slot_at, IsFree, free_at, slots_set, list_set, slots_inserted, list_inserted, written_over, length_moved}
use Rattle.ca_model.proofs.slab.Slab.put.Goals as goal

slot : (c : goal.After-set-arg-1) → IsSlot c.self.inside.rows c.self.inside.order.items c.self.inside.len c.args.self.now c.in-Ok.at
    c.index.result.now
slot c = slot_at _ _ _ _ c.in-Ok.at c.index.result.now c.self.invariant c.self.view_is (rw c.in-Ok.is at c.requires.range) c.index.ensures

pub set-requires-clause-range : goal.set-requires-clause-range
set-requires-clause-range c = (slot c).row

pub invariant_of-self : goal.invariant_of-self
invariant_of-self c = slots_set c.self.inside.rows c.set.new.self c.self.inside.order.items c.self.inside.len c.index.result.now _
    c.self.invariant c.set.ensures

pub returns-in-Ok-clause-pairs : goal.returns-in-Ok-clause-pairs
returns-in-Ok-clause-pairs c =
    let rows = c.self.inside.rows in
    let own : Pair = (slice_range c.args.object.now c.args.key_at c.args.key_end, c.args.object.now) in
    let s = slot_at rows c.self.inside.order.items c.self.inside.len c.args.self.now c.in-Ok.at c.index.result.now c.self.invariant c.self.view_is
    (rw c.in-Ok.is at c.requires.range) c.index.ensures in
    let set_is = c.set.ensures ∙ ap (λ (m : ℕ). set rows m own) s.is in
    list_set rows c.set.new.self c.self.inside.order.items c.self.inside.len c.in-Ok.at own c.self.invariant s.in_list set_is
    ∙ ap (λ (l : PairList). placed l.pairs (Ok c.in-Ok.at) own) c.self.view_is ∙ ap (λ (r : Result ℕ ℕ). placed c.args.self.now.pairs r own) (sym c.in-Ok.is)

free : (c : goal.After-set-arg-in-Err-1) → IsFree c.self.inside.rows c.self.inside.order.items c.self.inside.len c.args.self.now c.in-Err.at
    c.index-in-Err.result.now
free c = free_at _ _ _ _ c.in-Err.at c.index-in-Err.result.now c.self.invariant c.self.view_is (c.requires.room (rw c.in-Err.is refl))
    (rw c.in-Err.is at c.requires.range) c.index-in-Err.ensures

pub set-requires-in-Err-clause-range : goal.set-requires-in-Err-clause-range
set-requires-in-Err-clause-range c = (free c).row

-- what the two writes leave
record Writes (rows new : List Pair) (order other : List ℕ) (len at : ℕ) (p : Pair) : Type 0 where
  more : len < length order
  place : at ≤ len
  rows_are : new ≡ set rows (get_or order len 0) p
  order_is : other ≡ with_moved order len at

writes : (c : goal.After-self-in-Err-1) → Writes c.self.inside.rows c.set-in-Err.new.self c.self.inside.order.items
    (take c.self.inside.order.len (c.take_free.new.order ++ drop (length c.take_free.new.order) c.self.inside.order.items)) c.self.inside.len c.in-Err.at
    (slice_range c.args.object.now c.args.key_at c.args.key_end, c.args.object.now)
writes c =
    let order = c.self.inside.order.items in
    let len = c.self.inside.len in
    let at = c.in-Err.at in
    let f = free_at c.self.inside.rows order len c.args.self.now at c.index-in-Err.result.now c.self.invariant c.self.view_is
    (c.requires.room (rw c.in-Err.is refl)) (rw c.in-Err.is at c.requires.range) c.index-in-Err.ensures in
    record {
      more = f.more;
      place = f.place;
      rows_are = c.set-in-Err.ensures
          ∙ ap (λ (m : ℕ). set c.self.inside.rows m (slice_range c.args.object.now c.args.key_at c.args.key_end, c.args.object.now)) f.is;
      order_is = written_over order c.take_free.new.order (with_moved order len at) c.self.inside.order.len
          (c.take_free.ensures ∙ ap (λ (o : List ℕ). with_moved o len at) c.as_mut_slice.ensures.value) (length_moved order len at f.place f.more)
          (sym c.as_mut_slice.ensures.len ∙ ap (λ (ms : List ℕ). length ms) c.as_mut_slice.ensures.value);
    }

pub invariant_of-self-in-Err : goal.invariant_of-self-in-Err
invariant_of-self-in-Err c = let w = writes c in slots_inserted c.self.inside.rows _ c.self.inside.order.items _ c.self.inside.len c.in-Err.at _
    c.self.invariant w.more w.place w.rows_are w.order_is

pub returns-in-Err-clause-pairs : goal.returns-in-Err-clause-pairs
returns-in-Err-clause-pairs c =
    let w = writes c in
    let own : Pair = (slice_range c.args.object.now c.args.key_at c.args.key_end, c.args.object.now) in
    list_inserted c.self.inside.rows _ c.self.inside.order.items _ c.self.inside.len c.in-Err.at own c.self.invariant w.more w.place w.rows_are w.order_is
    ∙ ap (λ (l : PairList). placed l.pairs (Err c.in-Err.at) own) c.self.view_is ∙ ap (λ (r : Result ℕ ℕ). placed c.args.self.now.pairs r own) (sym c.in-Err.is)
