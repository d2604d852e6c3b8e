use Rattle.std.proofs.Common.{rules, ◌≡◌, Bool, true, false, ℕ, List, [], Ok, refl, sym, ap, subst, ◌∙◌, arith}
use Rattle.ca_model.specs.Answer.{Got}
use Rattle.ca_base.specs.Progress.{HasDone}
use Rattle.ca_model.specs.Event.{Event, effect}
use Rattle.ca_model.specs.Known.{Meets, Known}
use Rattle.ca_node.specs.Told.{MyTree, IsKnown}
use Rattle.ca_node.proofs.Tallies.{tallied_still}
use Rattle.ca_node.specs.TreeView.{TreeView, left_over}
use Rattle.ca_rows.specs.declared.sizes.Sizes.{Sizes}
use Rattle.ca_replace.specs.Attempting.{HasTriedTo}
use Rattle.ca_replace.specs.Bounded.{WalksOnce}
use Rattle.ca_replace.specs.Causes.{IsSparing}
use Rattle.ca_replace.specs.Reads.{get_event}
use Rattle.ca_replace.proofs.Entries.{held_upper, got_is}
use Rattle.ca_replace.proofs.Meeting.{meets}
use Rattle.ca_node.specs.declared.cursor.Spot.TheVariants as spot
use Rattle.ca_replace.proofs.Showing.{looking, read_tried, walked_unanswered}
use Rattle.ca_replace.proofs.States.{none_since, pinned_first}
use Rattle.ca_replace.proofs.Turns.{known_pinned, none_pinned, rests_as, rests_again, tried_known, tried_pinned}
use Rattle.ca_replace.specs.Resting.{StoreAndRun, known_of}
use Rattle.ca_replace.specs.Seen.{store_of}
use Rattle.ca_replace.specs.TreePromises.{OnlyLooks}
use Rattle.ca_replace.proofs.Alone.{alone_at}
use Rattle.ca_replace.proofs.OneHand.{read_still}
use Rattle.ca_replace.proofs.StoreCalls.{closed_then, of_stores, rests_first, rests_then}
use Rattle.ca_replace.proofs.store.TreeStoreOrderedStore.get.Goals as goal
use Rattle.ca_range.proofs.LoneMarks.{only_one}

pub look_up-found-requires-clause-looking : goal.look_up-found-requires-clause-looking
look_up-found-requires-clause-looking c = let tree = c.self.inside.tree.now in
    let z : Sizes = tree.space.table.shared.key in
    let tuned = tree.tuned.leaf in let most = tree.tuned.allowed.most_leaf in
    let same = ap (λ (y : Sizes). y.leaf) tree.space.same in
    looking z c.args.key c.pin.new.pass.seat.me c.walk-cursor.new.pass.seat.me c.walk-cursor.result
    c.walk-cursor.ensures.walked (omega arith)

pub look_up-found-requires-clause-unanswered : goal.look_up-found-requires-clause-unanswered
look_up-found-requires-clause-unanswered c =
    let rests = rests_first c.self.inside c.self.view_is c.requires.closed c.self.invariant in
    let z : Sizes = c.self.inside.tree.now.space.table.shared.key in
    let u = c.self.inside.pass.seat.me.0.upper in let pinned_me = c.pin.new.pass.seat.me in
    let pin = ap (λ (m : MyTree). m.0.upper) c.pin.ensures.pinned.3 in
    walked_unanswered z (spot.At c.args.key) pinned_me c.walk-cursor.new.pass.seat.me
    c.walk-cursor.result c.walk-cursor.ensures.walked
    (none_since z pinned_me.0.upper
    (subst (IsKnown z) (sym pin) (known_pinned z u rests.known))
    (pinned_first pinned_me.0.upper u pin))

pub keep_few-requires : goal.keep_few-requires
keep_few-requires c = let rests = rests_first c.self.inside c.self.view_is c.requires.closed
    c.self.invariant in
    let tree = c.self.inside.tree.now in
    let z : Sizes = tree.space.table.shared.key in let table = tree.space.table.shared.table_id in
    let pass = c.self.inside.pass in let pin = c.pin.ensures.pinned.3 in
    let walk = c.walk-cursor.ensures.walked.now in
    let look = c.look_up-found.ensures.entered.now in
    let event = get_event c.args.key.now c.look_up-found.result c.look_up-found.new.into.items in
    let told = λ (_ : Bool) (e : Event). e
    ≡ get_event c.args.key.now c.look_up-found.result c.look_up-found.new.into.items in
    let tried =
    read_tried z c.args.key c.pin.new.pass.seat.me c.walk-cursor.new.pass.seat.me
    c.look_up-found.new.pass.seat.me c.walk-cursor.result event
    c.look_up-found.result c.walk-cursor.ensures.walked (pinned_first c.pin.new.pass.seat.me.0.upper
    pass.seat.me.0.upper
    (ap (λ (m : MyTree). m.0.upper) c.pin.ensures.pinned.3))
    c.look_up-found.ensures.entered in record {
      resting = rests_as table z pass.number c.unpin.new.pass.number c.look_up-found.new.pass.kept
          c.unpin.new.pass.kept c.unpin.new.pass.seat
          (c.unpin.ensures.frame.number
          ∙ (c.look_up-found.ensures.frame.number
          ∙ (c.walk-cursor.ensures.frame.number ∙ c.pin.ensures.frame.number)))
          c.unpin.ensures.frame.tally
          c.unpin.ensures.frame.kept
          (rests_again table z pass.number pass.kept.rows c.look_up-found.new.pass.kept.rows
          pass.seat c.pin.new.pass.seat c.look_up-found.new.pass.seat
          c.unpin.new.pass.seat rests (
            ap (λ (m : MyTree). m.0.sizes) pin,
            ap (λ (m : MyTree). m.0.pin.number) pin,
            ap (λ (m : MyTree). m.0.upper.number) pin,
          )
          (c.look_up-found.ensures.frame.same.0
          ∙ (c.walk-cursor.ensures.frame.same.0 ∙ c.pin.ensures.frame.same.0)) (
            ap (λ (m : MyTree). m.0.sizes) look ∙ ap (λ (m : MyTree). m.0.sizes) walk,
            ap (λ (m : MyTree). m.0.pin) look ∙ ap (λ (m : MyTree). m.0.pin) walk,
          )
          (held_upper z.rows c.walk-cursor.new.pass.kept c.look_up-found.new.pass.kept
          c.walk-cursor.new.pass.seat.me c.look_up-found.new.pass.seat.me _ _
          (held_upper z.rows c.pin.new.pass.kept c.walk-cursor.new.pass.kept c.pin.new.pass.seat.me
          c.walk-cursor.new.pass.seat.me _ _
          (none_pinned table z pass.number pass.kept c.pin.new.pass.kept pass.seat
          c.pin.new.pass.seat _ _ rests pin (ap left_over rests.quiet)
          c.pin.ensures.frame.kept) walk refl c.walk-cursor.ensures.frame.kept) look refl
          c.look_up-found.ensures.frame.kept)
          (tried_known told z (Ok c.look_up-found.result) c.pin.new.pass.seat.me.0.upper
          c.look_up-found.new.pass.seat.me.0.upper tried)
          c.unpin.ensures.frame.same.0 c.unpin.ensures.unpinned
          (tallied_still pass.tally c.look_up-found.new.pass.tally pass.seat.me.0.upper
          c.look_up-found.new.pass.seat.me.0.upper
          (c.look_up-found.ensures.frame.tally
          ∙ (c.walk-cursor.ensures.frame.tally ∙ c.pin.ensures.frame.tally))
          (ap (λ (m : MyTree). m.0.upper.splits) look
          ∙ (ap (λ (m : MyTree). m.0.upper.splits) walk
          ∙ ap (λ (m : MyTree). m.0.upper.splits) pin))
          (ap (λ (m : MyTree). m.0.upper.joins) look
          ∙ (ap (λ (m : MyTree). m.0.upper.joins) walk
          ∙ ap (λ (m : MyTree). m.0.upper.joins) pin)))
          (ap (λ (m : MyTree). m.0.upper.ranges.own) look
          ∙ (ap (λ (m : MyTree). m.0.upper.ranges.own) walk
          ∙ (ap (λ (m : MyTree). m.0.upper.ranges.own) pin ∙ ap left_over rests.quiet)))
          (λ one. c.unpin.ensures.only (only_one z c.look_up-found.new.pass.seat.me
          (ap (λ (m : MyTree). m.0.sizes) look ∙ (ap (λ (m : MyTree). m.0.sizes) walk
          ∙ (ap (λ (m : MyTree). m.0.sizes) pin ∙ rests.of.1))) tree.space.few.0 one)));
    }

pub returns-clause-got : goal.returns-clause-got
returns-clause-got c = let rests = rests_first c.self.inside c.self.view_is c.requires.closed
    c.self.invariant in
    let tree = c.self.inside.tree.now in
    let table = tree.space.table.shared.table_id in
    let z : Sizes = tree.space.table.shared.key in let pass = c.self.inside.pass in
    let behind = c.unpin.new.pass.seat.me.0.upper in let found : Bool = c.look_up-found.result in
    let into : List ℕ = c.look_up-found.new.into.items in
    let event = get_event c.args.key.now c.look_up-found.result c.look_up-found.new.into.items in
    let told = λ (_ : Bool) (e : Event). e
    ≡ get_event c.args.key.now c.look_up-found.result c.look_up-found.new.into.items in
    let tried =
    read_tried z c.args.key c.pin.new.pass.seat.me c.walk-cursor.new.pass.seat.me
    c.look_up-found.new.pass.seat.me c.walk-cursor.result event
    found c.walk-cursor.ensures.walked (pinned_first c.pin.new.pass.seat.me.0.upper
    pass.seat.me.0.upper
    (ap (λ (m : MyTree). m.0.upper) c.pin.ensures.pinned.3))
    c.look_up-found.ensures.entered in
    let done =
    tried_pinned told z (Ok found) pass.seat.me.0.upper c.look_up-found.new.pass.seat.me.0.upper
    behind
    (ap (λ (m : MyTree). m.0.upper) c.unpin.ensures.unpinned)
    (subst (λ (m : MyTree).
    HasTriedTo told z (Ok found) m.0.upper c.look_up-found.new.pass.seat.me.0.upper)
    c.pin.ensures.pinned.3 tried) in
    let first = pass.seat.me.0.upper in
    of_stores c.self.inside c.self.view_is c.requires.closed c.keep_few.new.pass c.self.inside.last
    (λ (k l : Known). Got k l c.args.key.now found into)
    (subst (λ (u : TreeView). Got (known_of table z first) (known_of table z u) c.args.key.now found
    into)
    (sym c.keep_few.ensures.gave.upper)
    (got_is (known_of table z first) (known_of table z behind) c.args.key.now into
    found
    (subst (λ (e : Event). Meets (known_of table z first) (known_of table z behind) e) done.0.1
    (meets table z first behind rests.known done.1 done.0.0 done.0.2))
    c.look_up-found.ensures.emptied))

pub pin-requires-clause-own : goal.pin-requires-clause-own
pin-requires-clause-own c = (rests_first c.self.inside c.self.view_is c.requires.closed
    c.self.invariant).of

pub pin-requires-clause-unpinned : goal.pin-requires-clause-unpinned
pin-requires-clause-unpinned c = (rests_first c.self.inside c.self.view_is c.requires.closed
    c.self.invariant).is_unpinned

pub invariant_of-self : goal.invariant_of-self
invariant_of-self c = rests_then c.self.inside c.self.view_is c.requires.closed
    c.keep_few.new.pass c.self.inside.last c.keep_few.ensures.frame.resting

pub returns-clause-closed : goal.returns-clause-closed
returns-clause-closed c = closed_then c.self.inside c.self.view_is c.requires.closed
    c.keep_few.new.pass c.self.inside.last

-- A read of a key edits nothing.
reads_only : (key : List ℕ) (found : Bool) (into : List ℕ) → effect (get_event key found into) ≡ []
reads_only key true into = refl
reads_only key false into = refl

pub returns-clause-promised : goal.returns-clause-promised
returns-clause-promised c = let tree = c.self.inside.tree.now in let pass = c.self.inside.pass in
    let new = c.keep_few.new.pass in let behind = c.unpin.new.pass.seat.me.0.upper in
    let rests = rests_first c.self.inside c.self.view_is c.requires.closed c.self.invariant in
    let table = tree.space.table.shared.table_id in let z : Sizes = tree.space.table.shared.key in
    let found : Bool = c.look_up-found.result in
    let into : List ℕ = c.look_up-found.new.into.items in
    let event = get_event c.args.key.now found into in
    let told = λ (_ : Bool) (e : Event). e ≡ event in
    let tried =
    read_tried z c.args.key c.pin.new.pass.seat.me c.walk-cursor.new.pass.seat.me
    c.look_up-found.new.pass.seat.me c.walk-cursor.result event
    found c.walk-cursor.ensures.walked (pinned_first c.pin.new.pass.seat.me.0.upper
    pass.seat.me.0.upper
    (ap (λ (m : MyTree). m.0.upper) c.pin.ensures.pinned.3))
    c.look_up-found.ensures.entered in
    let done =
    tried_pinned told z (Ok found) pass.seat.me.0.upper c.look_up-found.new.pass.seat.me.0.upper
    behind
    (ap (λ (m : MyTree). m.0.upper) c.unpin.ensures.unpinned)
    (subst (λ (m : MyTree).
    HasTriedTo told z (Ok found) m.0.upper c.look_up-found.new.pass.seat.me.0.upper)
    c.pin.ensures.pinned.3 tried) in
    let still = λ (one : z.passes ≡ 1). read_still z pass.seat.me.0.upper new.seat.me.0.upper
    done.0.0
    (alone_at table z pass.number pass.tally pass.kept.rows pass.seat rests one) rests.known
    c.keep_few.ensures.frame.resting.known
    (subst (λ (u : TreeView). HasDone done.0.0 pass.seat.me.0.upper u)
    (sym c.keep_few.ensures.gave.upper) done.0.2)
    (ap effect done.0.1 ∙ reads_only c.args.key.now found into) in
    subst (λ (s : StoreAndRun). OnlyLooks s.store (store_of tree new c.self.inside.last)
    × IsSparing s.store (store_of tree new c.self.inside.last) × WalksOnce s.store.z s.store.seat.me
    new.seat.me) c.self.view_is (
      record { unchanged = search rules; untouched = search rules; still = still },
      search rules,
      search rules,
    )
