-- What contracts see of the past of a tree, by the tree and the passes that it is of.
use Rattle.ca_replace.specs.Past.{TreePast, past_of}
use Rattle.ca_replace.specs.declared.past.Past.TheInside.{Inside}

abbrev pub view_of : Inside → TreePast
view_of past = past_of past.tree.value past.passes.value.items
