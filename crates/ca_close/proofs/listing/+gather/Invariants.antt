use Rattle.ca_close.proofs.listing.+gather.Given as goal

abbrev pub decreases-gather : goal.decreases-gather
decreases-gather l = l.deep
