-- A table kept as a list, and the vector that holds it.
use Rattle.std.specs.Prelude.{◌≤◌}
use Rattle.ca_ets.specs.Table.{Table}
use Rattle.ca_ets.specs.OrderedMap.{IsTable}
use Rattle.ca_ets.specs.declared.table.ListTable.TheInside.{Inside}

abbrev pub table_of : Inside → Table
table_of a = record { keypos = a.keypos; objects = a.objects.items }

pub record IsOrdered (a : Inside) : Type 0 where
  pub keypos : 1 ≤ a.keypos
  pub objects : IsTable a.keypos a.objects.items
