-- The routes on whose links bases hang, by cursors.
use Rattle.std.proofs.Common.{◌≡◌, ◌≢◌, ℕ, ◌+◌, ◌*◌, ◌<◌, Option, Some, None, sym, refl, ap, ◌∙◌, subst, inl, inr, arith}
use Rattle.ca_node.specs.Told.{IsAnyLink, link_word}
use Rattle.ca_node.specs.TreeView.{TreeView}
use Rattle.ca_node.specs.Place.{left_of, right_of}
use Rattle.ca_node.specs.Row.{route_key}
use Rattle.ca_node.specs.declared.link.Link.{Link}
use Rattle.ca_node.specs.declared.link.Link.TheVariants as on
use Rattle.ca_rows.specs.Layout.{row_words}
use Rattle.ca_rows.specs.declared.sizes.Sizes.{Sizes}
use Rattle.ca_adapt.specs.Finishing.{IsHungBy}
use Rattle.ca_adapt.specs.Trying.{IsForkAt, IsHungUnder, other_link, route_of}
use Rattle.ca_adapt.specs.declared.looking.Fork.{Fork}

module _ (z : Sizes) (u : TreeView) (link : Link) (at : Option Link) (above : Link) (r : ℕ)
    (p : ℕ × Link) (some : at ≡ Some above) where
  pub forked_left : link ≡ on.Left r → p ≡ (r, on.Right r) → IsHungUnder z u link at
      → IsForkAt z u link (Some (record { route = p.0; above = above; other = p.1 }))
  forked_left is both hung =
      subst (λ (l : Link). IsForkAt z u l
      (Some (record { route = p.0; above = above; other = p.1 }))) (sym is)
      (subst (λ (q : ℕ × Link). IsForkAt z u (on.Left r)
      (Some (record { route = q.0; above = above; other = q.1 }))) (sym both) (
        (λ e. cc),
        refl,
        refl,
        subst (λ (x : Link × Option Link). IsHungUnder z u x.0 x.1)
            (λ i. (is i, some i)) hung,
      ))

  pub forked_right : link ≡ on.Right r → p ≡ (r, on.Left r) → IsHungUnder z u link at
      → IsForkAt z u link (Some (record { route = p.0; above = above; other = p.1 }))
  forked_right is both hung =
      subst (λ (l : Link). IsForkAt z u l
      (Some (record { route = p.0; above = above; other = p.1 }))) (sym is)
      (subst (λ (q : ℕ × Link). IsForkAt z u (on.Right r)
      (Some (record { route = q.0; above = above; other = q.1 }))) (sym both) (
        (λ e. cc),
        refl,
        refl,
        subst (λ (x : Link × Option Link). IsHungUnder z u x.0 x.1)
            (λ i. (is i, some i)) hung,
      ))

-- No cursor that hangs under a route lacks the link above.
pub never_alone : (z : Sizes) (u : TreeView) (link : Link) → IsHungUnder z u link None
    → IsForkAt z u link None
never_alone z u on.Root hung = refl
never_alone z u (on.Left route) hung = absurd hung
never_alone z u (on.Right route) hung = absurd hung

-- The other link of the route is one that the seat knows, within the table.
module _ (z : Sizes) (u : TreeView) (fork : Fork) where
  pub other_known : (link : Link) → link ≢ on.Root → fork.other ≡ other_link link
      → fork.route ≡ route_of link → IsHungBy z u fork.route fork.above
      → IsAnyLink u (link_word fork.other) × (link_word fork.other < row_words * z.rows + row_words)
  other_known on.Root some other route h = absurd (some refl)
  other_known (on.Left r) some other route h = let row : h.way.row ≡ r = h.row_is ∙ route in
      let inside = h.is_route.in_range in
      subst (λ (l : Link). IsAnyLink u (link_word l)
      × (link_word l < row_words * z.rows + row_words)) (sym other) (
        (
          h.way.place.level + 1,
          right_of (route_key h.way.its) h.way.place.span,
          inr (
            h.way,
            h.remembered,
            refl,
            inr (ap (λ (n : ℕ). row_words * n + 2) (sym row), refl),
          ),
        ),
        omega arith,
      )
  other_known (on.Right r) some other route h = let row : h.way.row ≡ r = h.row_is ∙ route in
      let inside = h.is_route.in_range in
      subst (λ (l : Link). IsAnyLink u (link_word l)
      × (link_word l < row_words * z.rows + row_words)) (sym other) (
        (
          h.way.place.level + 1,
          left_of (route_key h.way.its) h.way.place.span,
          inr (
            h.way,
            h.remembered,
            refl,
            inl (ap (λ (n : ℕ). row_words * n + 1) (sym row), refl),
          ),
        ),
        omega arith,
      )
