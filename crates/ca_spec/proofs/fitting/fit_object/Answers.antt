use Rattle.std.proofs.Common.{◌≡◌, ◌≤◌, List, length, take, ap, sym, ◌∙◌, subst}
use Rattle.ca_term.specs.Tree.{Tree, Tuple, row_of}
use Rattle.ca_spec.specs.PartBound.{IsAsked}
use Rattle.ca_spec.specs.PatternView.{tree_of_shape}
use Rattle.ca_spec.specs.Places.{places}
use Rattle.ca_spec.specs.Reached.{AreShort}
use Rattle.ca_spec.proofs.CodeBinding.{asked_of, asked_places}
use Rattle.ca_spec.proofs.Reaching.{short_asked}
use Rattle.ca_spec.proofs.fitting.fit_object.Goals as goal

pub first_parts-front-requires : goal.first_parts-front-requires
first_parts-front-requires c =
    let e : Tuple (row_of c.in-Tuple.parts.items) ≡ c.args.head.now = sym (ap tree_of_shape c.in-Tuple.is) ∙ c.head.view_is in
    subst (λ (x : List Tree). (c.args.asked ≤ length x) × IsAsked x (take c.args.asked x)) (sym c.as_slice.ensures.value)
    (asked_of c.args.head.now c.in-Tuple.parts.items c.args.asked e c.requires.front)

pub fit_all-requires-clause-room : goal.fit_all-requires-clause-room
fit_all-requires-clause-room c =
    let e : Tuple (row_of c.in-Tuple.parts.items) ≡ c.args.head.now = sym (ap tree_of_shape c.in-Tuple.is) ∙ c.head.view_is in
    asked_places c.in-Tuple.parts.items c.first_parts-front.result.now (length c.args.table.now)
    (subst (λ (x : List Tree). IsAsked x c.first_parts-front.result.now) c.as_slice.ensures.value c.first_parts-front.ensures)
    (subst (λ (x : Tree). places x ≤ length c.args.table.now) (sym e) c.requires.room)

pub returns-clause-known : goal.returns-clause-known
returns-clause-known c = λ s.
    let items = c.in-Tuple.parts.items in
    let front = c.first_parts-front.result.now in
    let e : Tuple (row_of items) ≡ c.args.head.now = sym (ap tree_of_shape c.in-Tuple.is) ∙ c.head.view_is in
    let a : IsAsked items front = subst (λ (x : List Tree). IsAsked x front) c.as_slice.ensures.value c.first_parts-front.ensures in
    c.fit_all.ensures.known (short_asked items front a (subst AreShort (sym e) s))
