-- What the functions behind the checks are given.
--
--   Ready s n b ns   == the sheet s is not too long, its directory has n glyphs, and the buffer b and the list ns have room for them
use Rattle.std.specs.Prelude.{◌≡◌, List, ℕ, ◌*◌, ◌≤◌, length}
use Rattle.directory.specs.Directory.{count, directory_end}
use Rattle.record_writer.specs.Layout.{record_length}

pub record Ready (s : List ℕ) (n : ℕ) (b ns : List ℕ) : Type 0 where
  pub all : n ≡ count s
  pub short : length s ≤ 65535
  pub directory : directory_end s ≤ length s
  pub room : record_length * n ≤ length b
  pub places : n ≤ length ns
