use Rattle.std.proofs.Common.{◌≡◌, ◌<◌, ◌≤◌, ℕ, length, take, drop, sym, ap, ◌∙◌, subst}
use Rattle.std.proofs.lemmas.List.{take_rest}
use Rattle.std.specs.declared.cmp.Ordering.TheVariants.{Equal}
use Rattle.ca_model.specs.StoreMap.{bytes_cmp}
use Rattle.ca_node.specs.Row.{front_of, prefix, prefix_length}
use Rattle.ca_node.specs.TreeView.{Note}
use Rattle.ca_node.specs.Told.{MyTree}
use Rattle.ca_base.specs.Finding.{IsReadable, IsBaseSeen}
use Rattle.ca_base.proofs.Fronted.{read_shown}
use Rattle.ca_base.proofs.Searching.{place_is, before_all, behind_all, begins_so}
use Rattle.ca_base.proofs.place.search.Goals as goal

pub prefix_len-skip-requires-clause-shown : goal.prefix_len-skip-requires-clause-shown
prefix_len-skip-requires-clause-shown c = let z = c.args.space.now.table.shared.key in let r = c.requires.readable in (
  r.0,
  subst (λ (m : MyTree). IsBaseSeen z m.0.upper c.args.base r.0) (sym c.count-many.ensures.frame.still)
      (read_shown z c.args.pass.now.seat.me.0.upper c.args.base r.0 r.1),
)

pub compare_prefix-requires-clause-shown : goal.compare_prefix-requires-clause-shown
compare_prefix-requires-clause-shown c = let z = c.args.space.now.table.shared.key in let r = c.requires.readable in (
  r.0,
  subst (λ (m : MyTree). IsBaseSeen z m.0.upper c.args.base r.0) (sym (c.prefix_len-skip.ensures.frame.still ∙ c.count-many.ensures.frame.still))
      (read_shown z c.args.pass.now.seat.me.0.upper c.args.base r.0 r.1),
)

pub returns-clause-place : goal.returns-clause-place
returns-clause-place c note r = let z = c.args.space.now.table.shared.key in
    let still = c.compare_prefix.ensures.frame.still
    ∙ (c.prefix_len-skip.ensures.frame.still ∙ c.count-many.ensures.frame.still) in
    place_is z c.compare_prefix.new.pass.seat.me.0.upper c.args.base c.count-many.result
    c.args.key.now note c.find_among.result
    (subst (λ (m : MyTree). IsReadable z m.0.upper c.args.base note) (sym still) r)
    (c.count-many.ensures.count note r) c.find_among.ensures.place

pub returns-in-Less-clause-place : goal.returns-in-Less-clause-place
returns-in-Less-clause-place c note r = let z = c.args.space.now.table.shared.key in
    let one = subst (λ (m : MyTree). IsBaseSeen z m.0.upper c.args.base note)
    (sym c.count-many.ensures.frame.still) (read_shown z c.args.pass.now.seat.me.0.upper c.args.base note r) in
    let two = subst (λ (m : MyTree). IsBaseSeen z m.0.upper c.args.base note)
    (sym c.prefix_len-skip.ensures.frame.still) one in
    let same = c.prefix_len-skip.ensures.len note one in
    behind_all z c.args.pass.now.seat.me.0.upper c.args.base c.args.key.now note r
    c.prefix_len-skip.result same c.count-many.result (c.count-many.ensures.count note r)
    (sym c.in-Less.is ∙ c.compare_prefix.ensures.order note two same)

pub returns-in-Greater-clause-place : goal.returns-in-Greater-clause-place
returns-in-Greater-clause-place c note r = let z = c.args.space.now.table.shared.key in
    let one = subst (λ (m : MyTree). IsBaseSeen z m.0.upper c.args.base note)
    (sym c.count-many.ensures.frame.still) (read_shown z c.args.pass.now.seat.me.0.upper c.args.base note r) in
    let two = subst (λ (m : MyTree). IsBaseSeen z m.0.upper c.args.base note)
    (sym c.prefix_len-skip.ensures.frame.still) one in
    let same = c.prefix_len-skip.ensures.len note one in
    before_all z c.args.pass.now.seat.me.0.upper c.args.base c.args.key.now note r
    c.prefix_len-skip.result same
    (sym c.in-Greater.is ∙ c.compare_prefix.ensures.order note two same)

-- The key begins with the prefix.
inside : (c : goal.In-Equal) → c.prefix_len-skip.result ≤ length c.args.key.now
inside c = let z = c.args.space.now.table.shared.key in let note = c.requires.readable.0 in
    let r = c.requires.readable.1 in
    let one = subst (λ (m : MyTree). IsBaseSeen z m.0.upper c.args.base note)
    (sym c.count-many.ensures.frame.still) (read_shown z c.args.pass.now.seat.me.0.upper c.args.base note r) in
    let two = subst (λ (m : MyTree). IsBaseSeen z m.0.upper c.args.base note)
    (sym c.prefix_len-skip.ensures.frame.still) one in
    let same = c.prefix_len-skip.ensures.len note one in
    (begins_so z c.args.pass.now.seat.me.0.upper c.args.base c.args.key.now note r
    c.prefix_len-skip.result same
    (sym c.in-Equal.is ∙ c.compare_prefix.ensures.order note two same)).1

pub slice_bounds-head_of-count : goal.slice_bounds-head_of-count
slice_bounds-head_of-count c = inside c

pub slice_bounds-head_of-start : goal.slice_bounds-head_of-start
slice_bounds-head_of-start c = inside c

pub find_among-requires : goal.find_among-requires
find_among-requires c = let z = c.args.space.now.table.shared.key in
    let still = c.compare_prefix.ensures.frame.still
    ∙ (c.prefix_len-skip.ensures.frame.still ∙ c.count-many.ensures.frame.still) in
    let note = c.requires.readable.0 in let r = c.requires.readable.1 in
    let here : (n : Note) → IsReadable z c.compare_prefix.new.pass.seat.me.0.upper c.args.base n
    → IsReadable z c.args.pass.now.seat.me.0.upper c.args.base n =
    λ n q. subst (λ (m : MyTree). IsReadable z m.0.upper c.args.base n) still q in
    let one : (n : Note) → IsReadable z c.args.pass.now.seat.me.0.upper c.args.base n
    → IsBaseSeen z c.count-many.new.pass.seat.me.0.upper c.args.base n =
    λ n q. subst (λ (m : MyTree). IsBaseSeen z m.0.upper c.args.base n)
    (sym c.count-many.ensures.frame.still) (read_shown z c.args.pass.now.seat.me.0.upper c.args.base n q) in
    let same : (n : Note) → IsReadable z c.args.pass.now.seat.me.0.upper c.args.base n
    → c.prefix_len-skip.result ≡ prefix_length n.its =
    λ n q. c.prefix_len-skip.ensures.len n (one n q) in
    let order : (n : Note) → IsReadable z c.args.pass.now.seat.me.0.upper c.args.base n
    → Equal ≡ bytes_cmp (prefix n.its) (take c.prefix_len-skip.result c.args.key.now) =
    λ n q. sym c.in-Equal.is ∙ c.compare_prefix.ensures.order n
    (subst (λ (m : MyTree). IsBaseSeen z m.0.upper c.args.base n)
    (sym c.prefix_len-skip.ensures.frame.still) (one n q)) (same n q) in record {
      known = λ place l. record {
        reading = record {
          own = (
            c.compare_prefix.ensures.frame.same.0
                ∙ (c.prefix_len-skip.ensures.frame.same.0
                ∙ (c.count-many.ensures.frame.same.0 ∙ c.requires.reading.own.0)),
            ap (λ (m : MyTree). m.0.sizes) still ∙ c.requires.reading.own.1,
          );
          pinned = ap (λ (m : MyTree). m.0.pin.pinned) still ∙ c.requires.reading.pinned;
        };
        there = (
          note,
          subst (λ (m : MyTree). IsReadable z m.0.upper c.args.base note) (sym still) r,
          subst (λ (n : ℕ). place < n) (c.count-many.ensures.count note r) l,
        );
        begins = λ n q. (begins_so z c.args.pass.now.seat.me.0.upper c.args.base c.args.key.now n
            (here n q) c.prefix_len-skip.result (same n (here n q)) (order n (here n q))).0;
        head_is = λ n q. c.head_of.ensures.head
            ∙ (ap (front_of 5) (take_rest c.args.key.now c.prefix_len-skip.result)
            ∙ ap (λ (k : ℕ). front_of 5 (drop k c.args.key.now)) (same n (here n q)));
        front_is = c.word_of-front.ensures;
        small = λ i. (c.type_inv.key i).fits;
      };
    }
