-- `export::all::Folder::write_links`: each link is one that a list may be asked for. Assumes nothing.
use Rattle.std.proofs.Common.{◌≡◌}
use Rattle.table.specs.Layout.{link_count}
use Rattle.export.proofs.all.Folder.write_links.Given as goal

abbrev pub invariant-loop-link : goal.invariant-loop-link
invariant-loop-link g l = l.links ≡ link_count l.t
