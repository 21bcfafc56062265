use Rattle.std.proofs.Common.{length, ◌≡◌, ℕ, ◌-◌, ◌≤◌, List, drop}
use Rattle.std.specs.Prelude.{◌⊎◌, Some}
use Rattle.widl_top.specs.Readings.{read_in_order, with_texts, starts_after}
use Rattle.widl_front.specs.Texts.{AreShort}
use Rattle.widl_top.proofs.fetching.fetch_all.Given as goal

abbrev pub invariant-loop-place : goal.invariant-loop-place
invariant-loop-place g l = record {
  count : length l.texts ≡ l.place - l.first;
  short : AreShort l.texts;
  read : (told : List (List ℕ × List ℕ)) → g.F.Folder.files l.initial.folder ≡ Some told → read_in_order told (drop l.first l.words) ≡ with_texts l.texts (read_in_order told (drop l.place l.words));
  given : (l.place ≡ l.first) ⊎ (g.F.Folder.given l.folder ≤ 1048576);
  faults : g.F.Folder.faults l.folder ≡ g.F.Folder.faults l.initial.folder;
  misses : g.F.Folder.misses l.folder ≡ g.F.Folder.misses l.initial.folder;
  starts : g.F.Folder.starts l.folder ≡ starts_after (g.F.Folder.starts l.initial.folder) (l.place - l.first);
  files : g.F.Folder.files l.folder ≡ g.F.Folder.files l.initial.folder;
}
