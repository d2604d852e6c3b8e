-- What contracts see of a pass as a store.
use Rattle.ca_replace.specs.declared.store.TreeStore.TheInside.{Inside}
use Rattle.ca_replace.specs.Resting.{IsBetween, StoreAndRun}
use Rattle.ca_replace.specs.Seen.{store_of}

abbrev pub view_of : Inside → StoreAndRun
view_of store = record { store = store_of store.tree.now store.pass store.last; run = store.run }

abbrev pub IsStore : Inside → Type 0
IsStore store = IsBetween (store_of store.tree.now store.pass store.last) store.run
