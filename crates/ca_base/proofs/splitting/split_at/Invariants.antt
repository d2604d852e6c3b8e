use Rattle.ca_base.specs.Splitting.{division_of}
use Rattle.ca_base.proofs.splitting.split_at.Given as goal

abbrev pub ghosts-divide_in : goal.ghosts-divide_in
ghosts-divide_in a =
    record { division = division_of a.pass.now.seat.me a.fork.route a.fork.left a.fork.right }
