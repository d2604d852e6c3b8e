use Rattle.std.proofs.Common.{◌≡◌, drop}
use Rattle.ca_outside.specs.Drawer.{files_of, content_of}
use Rattle.ca_outside.proofs.drawer.find.Given as goal

-- the files before this one have other names
abbrev pub invariant-loop-known : goal.invariant-loop-known
invariant-loop-known l = content_of (files_of l.files) l.name ≡ content_of (files_of (drop l.known-index l.files)) l.name
