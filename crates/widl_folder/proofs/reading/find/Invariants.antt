use Rattle.std.proofs.Common.{◌≡◌, drop}
use Rattle.widl_folder.specs.Files.{file_at}
use Rattle.widl_folder.proofs.reading.find.Given as goal

abbrev pub invariant-loop-place : goal.invariant-loop-place
invariant-loop-place l = file_at l.files l.name ≡ file_at (drop l.place l.files) l.name
