-- The object and the bindings that expressions are evaluated with.
use Rattle.ca_match.specs.Match.{Scene}
use Rattle.ca_spec.specs.Bound.{scene_of}
use Rattle.ca_spec.specs.PartBound.{scene_in}
use Rattle.ca_spec.specs.declared.fitted.Fitted.{Fitted}
use Rattle.ca_spec.specs.declared.fitted.Fitted.TheVariants as fitted

abbrev pub scene_at : Fitted → Scene
scene_at (fitted.Terms object table) = scene_of object.now table.now
scene_at (fitted.Parts object table) = scene_in object table.now
