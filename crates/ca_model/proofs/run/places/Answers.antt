use Rattle.ca_model.proofs.Spots.{places_at, places_before}
use Rattle.ca_model.proofs.run.places.Goals as goal

pub returns-in-Ok : goal.returns-in-Ok
returns-in-Ok c = places_at c.requires.0 _ _ c.find_near.result c.in-Ok.at c.requires.1 c.find_near.ensures.bound c.find_near.ensures.position c.in-Ok.is

pub returns-in-Err : goal.returns-in-Err
returns-in-Err c = places_before c.requires.0 _ _ c.find_near.result c.in-Err.at c.requires.1 c.find_near.ensures.bound c.find_near.ensures.position c.in-Err.is
