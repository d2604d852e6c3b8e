-- A pass that pinned and walked to a base that nothing marked has looked at it.
use Rattle.std.proofs.Common.{◌≡◌, [], None, false, refl, sym, ◌∙◌, subst, inl, arith}
use Rattle.ca_base.specs.Finding.{IsAtCursor, IsBaseShown}
use Rattle.ca_base.specs.Putting.{first_note}
use Rattle.ca_node.specs.Row.{mark}
use Rattle.ca_node.specs.Told.{MyTree, IsSettled}
use Rattle.ca_node.specs.TreeView.{TreeView}
use Rattle.ca_node.specs.Walking.{IsAbove, IsWalked}
use Rattle.ca_node.specs.declared.cursor.Cursor.{Cursor}
use Rattle.ca_node.specs.declared.cursor.Spot.{Spot}
use Rattle.ca_replace.proofs.DueJoins.{hung_under}
use Rattle.ca_replace.specs.Between.{MayBegin}
use Rattle.ca_rows.specs.Passes.{KeepsList, OnlyReads}
use Rattle.ca_rows.specs.declared.space.Pass.{Pass}
use Rattle.ca_rows.specs.declared.space.Space.{Space}
use Rattle.ca_join_tests.specs.Stopping.{HasLooked}
use Rattle.ca_join_tests.proofs.Prepared.{walked_quiet, walked_ready}

module _ {R : Type 0} (space : Space R TreeView) (pass new last : Pass R TreeView) (spot : Spot) (cursor : Cursor) (may : MayBegin space [] None false pass)
    (k : KeepsList pass new) (w : IsWalked space.table.shared.key spot pass.seat.me cursor new.seat.me) (r : OnlyReads new last) where
  pub walked_looked : mark w.note.its ≡ 0 → HasLooked space last cursor
  walked_looked none = record {
    ready = walked_ready space pass new last spot cursor may k w r;
    shown = subst (λ (x : MyTree). IsBaseShown space.table.shared.key x.0.upper cursor.base (first_note x.0.upper.notes)) (sym (r.still ∙ w.now)) record {
      noted = (0, refl);
      here = w.cursor_is.base;
      is_base = w.is_base;
    };
    at = subst (λ (x : MyTree). IsAtCursor space.table.shared.key (first_note x.0.upper.notes) cursor) (sym (r.still ∙ w.now)) record {
      base = w.cursor_is.base;
      link = w.cursor_is.link;
      level = w.cursor_is.level;
      inside = w.inside;
    };
    settled = subst (λ (x : MyTree). IsSettled x.0.upper (first_note x.0.upper.notes).its) (sym (r.still ∙ w.now))
        (inl (λ one. let two : mark w.note.its ≡ 1 = one in omega arith), inl (λ two. let one : mark w.note.its ≡ 2 = two in omega arith));
    hung = hung_under space.table.shared.key last.seat.me.0.upper cursor.link cursor.above
        (subst (λ (x : MyTree). IsAbove space.table.shared.key x.0.upper.ways cursor.link cursor.above) (sym r.still) w.cursor_is.above);
    quiet = walked_quiet space pass new last spot cursor may k w r;
  }
