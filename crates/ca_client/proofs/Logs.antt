-- The log of a pass that was new is that of its client's parts.
use Rattle.std.proofs.Common.{◌≡◌, ◌∙◌, List, [], sym, ap, Some, None}
use Rattle.std.specs.Prelude.{Option}
use Rattle.ca_model.specs.Event.{Entry}
use Rattle.ca_model.specs.Known.{Seen, seen_with}
use Rattle.ca_explain.specs.Clients.{log_of}
use Rattle.ca_client.specs.Played.{LogsAreParts}

-- the log that was seen
log_in : Option Seen → List Entry
log_in None = []
log_in (Some seen) = seen.log

pub log_of_parts : LogsAreParts
unfolding log_in
log_of_parts a b commands answers before behind log played first last =
    let entries = log_of played.parts in
    sym (ap log_in last) ∙ ap log_in played.grown.seen ∙ ap (λ (s : Option Seen). log_in (seen_with s played.learnt entries)) first
