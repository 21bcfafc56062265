use Rattle.std.proofs.Common.{◌≡◌, ◌≤◌, ◌-◌, length}
use Rattle.std.specs.Prelude.{IsTrue}
use Rattle.std.specs.Io.KnownBytes.{prepend_known}
use Rattle.widl_folder.proofs.whole_file.read_all.Given as goal

abbrev pub invariant-loop-bytes : goal.invariant-loop-bytes
invariant-loop-bytes g l = record {
  started : IsTrue (g.F.Folder.is_started l.folder);
  given : g.F.Folder.given l.folder ≡ length l.bytes.items;
  within : length l.bytes.items ≤ 1048577;
  read : g.F.Folder.left l.initial.folder ≡ prepend_known l.bytes.items (g.F.Folder.left l.folder);
  faults : g.F.Folder.faults l.folder ≡ g.F.Folder.faults l.initial.folder;
  misses : g.F.Folder.misses l.folder ≡ g.F.Folder.misses l.initial.folder;
  starts : g.F.Folder.starts l.folder ≡ g.F.Folder.starts l.initial.folder;
  files : g.F.Folder.files l.folder ≡ g.F.Folder.files l.initial.folder;
}

abbrev pub decreases-loop-bytes : goal.decreases-loop-bytes
decreases-loop-bytes g l = 1048577 - length l.bytes.items
