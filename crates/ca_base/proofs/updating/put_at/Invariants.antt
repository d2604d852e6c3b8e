use Rattle.ca_base.specs.Removing.{update_of}
use Rattle.ca_base.proofs.updating.put_at.Given as goal

abbrev pub ghosts-swap_in : goal.ghosts-swap_in
ghosts-swap_in a = record { update = update_of a.pass.now.seat.me a.rows.now.new a._deed }
