use denote.Exit.{yes}
use denote.Param.Send.{param_send, arg_send}
use Rattle.ca_client.proofs.Crossing.{client_send}
use Rattle.ca_client.proofs.clients.play_all.Goals as goal

pub for_each_mut-requires-send-T : goal.for_each_mut-requires-send-T
for_each_mut-requires-send-T g c κs within =
    param_send 1 _ (arg_send _ yes _ (client_send _ _ _ g.S.OrderedStore g.W.Follower c.type_bounds.send-S c.type_bounds.send-W))
